-- What each event of an end keeps, its whole call keeps; and what honest ends reach is lawful.
use Rattle.std.proofs.Common.{◌≡◌, ℕ, false, List, refl, subst, sym, ap, ◌∙◌}
use Rattle.ring_words.specs.declared.page.Role.{Role}
use Rattle.ring_words.specs.declared.page.Role.TheVariants.{Server, Client}
use Rattle.vchan_protocol.specs.declared.call.Call.{Call}
use Rattle.vchan_protocol.specs.Table.Plan.{Plan, does, answers, GoesOn}
use Rattle.vchan_protocol.specs.Table.Apply.{value_taken}
use Rattle.vchan_protocol.specs.Table.Calls.{plan_of}
use Rattle.vchan_protocol.specs.History.Core.{Core, side_of, with_side, standing_of, plan_left, carried_out, answered, begun, event}
use Rattle.vchan_protocol.specs.History.WholeCall.{alone, called}
use Rattle.vchan_protocol.specs.Honest.Lawful.{Lawful}
use Rattle.vchan_protocol.specs.Always.Invariant.{Invariant}
use Rattle.vchan_protocol.specs.Honest.Reached.{IsReached, opens, begins_call, makes_event, MayBegin}
use Rattle.vchan_protocol.proofs.History.EventLaws.{event_by}
use Rattle.vchan_protocol.proofs.History.EventLaws.{event_by_on, event_by_answers}
use Rattle.vchan_protocol.proofs.Signals.SignalLaws.{left_then}
use Rattle.vchan_protocol.proofs.Honest.EndSteps.{goes_on_call}
use Rattle.vchan_protocol.proofs.Hostile.TurnedSteps.{event_grows}
use Rattle.vchan_protocol.proofs.Always.InvariantSteps.{invariant_begun, invariant_event}
use Rattle.vchan_protocol.proofs.Honest.LawfulSteps.{lawful_opened, lawful_begun, lawful_event}

-- what holds of a core state when this much is left of the end's call: of the state with the answer, or of the one before the next event
abbrev Until : (Core → Type 0) → Core → Role → Plan → Type 0
Until P core who (answers answer) = P (with_side core who (answered (side_of core who) answer))
Until P core who (does op next) = P core × (plan_left (side_of core who) ≡ does op next)

until_plan : (P : Core → Type 0) (core : Core) (who : Role) (plan : Plan) → GoesOn plan → P core → plan_left (side_of core who) ≡ plan → Until P core who plan
until_plan P core who (answers answer) more h left = absurd more
until_plan P core who (does op next) more h left = (h, left)

left_begun : (core : Core) (who : Role) (call : Call) (payload : List ℕ) → plan_left (side_of (begun core who call payload) who) ≡ plan_of (standing_of (side_of core who)) call
left_begun core Server call payload = refl
left_begun core Client call payload = refl

event_is : (core : Core) (who : Role) → event core who ≡ event_by core who (plan_left (side_of core who))
unfolding event
event_is core who = refl

module _ (P : Core → Type 0) (who : Role) (keeps : (core : Core) → P core → GoesOn (plan_left (side_of core who)) → P (event core who)) where
  kept_until : (plan : Plan) (core : Core) → Until P core who plan → P (alone core who plan).0
  unfolding alone
  kept_until (answers answer) core h = h
  kept_until (does op next) core h = kept_until (next (value_taken core.orders core.words op)) (carried_out core who op) (go (next (value_taken core.orders core.words op)) refl)
    where
      there : event core who ≡ event_by core who (does op next)
      there = event_is core who ∙ ap (λ (plan : Plan). event_by core who plan) h.1

      now : P (event core who)
      now = keeps core h.0 (subst GoesOn (sym h.1) tt)

      go : (rest : Plan) → next (value_taken core.orders core.words op) ≡ rest → Until P (carried_out core who op) who rest
      go (answers answer) is = subst P (there ∙ event_by_answers core who (does op next) answer is) now
      go (does then_does further) is = (subst P (there ∙ event_by_on core who (does op next) (subst GoesOn (sym is) tt)) now, left_then core who op next h.1 ∙ is)

  -- a whole call keeps it from the begin on
  pub call_keeps_it : (core : Core) (call : Call) (payload : List ℕ) → P (begun core who call payload) → P (called core who call payload)
  call_keeps_it core call payload h =
      kept_until (plan_of (standing_of (side_of core who)) call) (begun core who call payload)
      (until_plan P (begun core who call payload) who (plan_of (standing_of (side_of core who)) call) (goes_on_call (standing_of (side_of core who)) call) h (left_begun core who call payload))

pub lawful_called : (core : Core) (who : Role) (call : Call) (payload : List ℕ) → Lawful core → MayBegin who (side_of core who) call payload → Lawful (called core who call payload)
lawful_called core who call payload h may = call_keeps_it Lawful who (λ now. lawful_event now who) core call payload (lawful_begun core who call payload h may)

pub reached_called : (core : Core) (who : Role) (call : Call) (payload : List ℕ) → IsReached core → MayBegin who (side_of core who) call payload → IsReached (called core who call payload)
reached_called core who call payload h may = call_keeps_it IsReached who (λ now. makes_event now who) core call payload (begins_call core who call payload h may)

turned_begun : (core : Core) (who : Role) (call : Call) (payload : List ℕ) → (side_of core who).turned ≡ false → (side_of (begun core who call payload) who).turned ≡ false
turned_begun core Server call payload honest = honest
turned_begun core Client call payload honest = honest

-- a whole call of an honest end
pub invariant_called : (core : Core) (who : Role) (call : Call) (payload : List ℕ) → Invariant core → (side_of core who).turned ≡ false → MayBegin who (side_of core who) call payload → Invariant (called core who call payload)
invariant_called core who call payload kept honest may =
    (call_keeps_it (λ (now : Core). Invariant now × ((side_of now who).turned ≡ false)) who
    (λ now h more. (invariant_event now who h.0 h.1 more, (event_grows now who).1.turned ∙ h.1)) core call payload
    (invariant_begun core who call payload kept honest may, turned_begun core who call payload honest)).0

pub reached_lawful : (core : Core) → IsReached core → Lawful core
reached_lawful core (opens orders start said state low left right open_or_fresh) = lawful_opened orders start said state low left right open_or_fresh
reached_lawful core (begins_call before who call payload there may) = lawful_begun before who call payload (reached_lawful before there) may
reached_lawful core (makes_event before who there more) = lawful_event before who (reached_lawful before there) more
