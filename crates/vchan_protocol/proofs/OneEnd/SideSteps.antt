-- What each step of one end keeps holds of both ends of a page, whatever happens to it.
use Rattle.std.proofs.Common.{◌≡◌, ℕ, Bool, true, false, cond, None, is_some, List, length, refl, subst, sym, ap, ◌∙◌}
use Rattle.std.proofs.lemmas.Bool.{false≢true}
use Rattle.ring_words.specs.declared.order.Orders.{Orders}
use Rattle.ring_words.specs.declared.page.Role.{Role}
use Rattle.ring_words.specs.declared.page.Role.TheVariants.{Server, Client}
use Rattle.vchan_protocol.specs.declared.op.Op.{Op}
use Rattle.vchan_protocol.specs.declared.call.Call.{Call}
use Rattle.vchan_protocol.specs.declared.call.EndState.{EndState}
use Rattle.vchan_protocol.specs.declared.side.Side.{Side}
use Rattle.vchan_protocol.specs.Table.Plan.{GoesOn, after}
use Rattle.vchan_protocol.specs.History.Core.{Core, begun, begins, event, side_of, plan_left, op_next, taken_next, made, side_after, new_side}
use Rattle.vchan_protocol.specs.Hostile.Turned.{turns, turned_side, strays, strayed}
use Rattle.vchan_protocol.specs.Honest.RingLaw.{CallLawful}
use Rattle.vchan_protocol.specs.Hostile.TurnedLaw.{turned_core}
use Rattle.vchan_protocol.specs.Always.Invariant.{Invariant, MayCome, opens, begins_call, makes_event, is_turned, strays as may_stray}
use Rattle.vchan_protocol.specs.OneEnd.IndexLaw.{TakesAsMade, StoresTakeNothing}
use Rattle.vchan_protocol.specs.OneEnd.EndingLaw.{EndingNoted}
use Rattle.vchan_protocol.proofs.Always.InvariantSteps.{each_has_invariant}
use Rattle.vchan_protocol.proofs.OneEnd.IndexLaws.{takes_as_made, takes_nothing_push}
use Rattle.vchan_protocol.proofs.OneEnd.EndingSteps.{step_keeps_notes}
use Rattle.vchan_protocol.proofs.History.EventLaws.{settled_trail}

-- each step of an end keeps this
pub record IsKeptBySteps (P : Side → Type 0) : Type 0 where
  pub opens : (role : Role) (orders : Orders) (start : ℕ) (state : EndState) → P (new_side role orders start state)
  pub begins : (s : Side) (call : Call) (payload : List ℕ) → P s → P (begins s call payload)
  pub makes : (s : Side) (taken : ℕ) → CallLawful s → GoesOn (plan_left s) → TakesAsMade (op_next s) taken → P s → P (side_after s taken)
  pub turns : (s : Side) (consumed : ℕ) → P s → P (turns s consumed)
  pub strays : (s : Side) (op : Op) (taken : ℕ) → TakesAsMade op taken → P s → P (strays s op taken)

module _ (P : Side → Type 0) (keeps : IsKeptBySteps P) where
  given_up_keeps : (s : Side) (consumed : ℕ) → P s → P (turned_side s consumed)
  given_up_keeps s consumed h = go s.turned
    where
      go : (b : Bool) → P (cond b s (turns s consumed))
      go true = h
      go false = keeps.turns s consumed h

  begun_keeps : (core : Core) (who : Role) (call : Call) (payload : List ℕ) → P core.server × P core.client → P (begun core who call payload).server × P (begun core who call payload).client
  begun_keeps core Server call payload h = (keeps.begins core.server call payload h.0, h.1)
  begun_keeps core Client call payload h = (h.0, keeps.begins core.client call payload h.1)

  event_keeps : (core : Core) (who : Role) → Invariant core → (side_of core who).turned ≡ false → GoesOn (plan_left (side_of core who)) → P core.server × P core.client → P (event core who).server × P (event core who).client
  unfolding event
  event_keeps core Server there honest more h =
      (keeps.makes core.server (taken_next core Server) (there.turned.server honest).call more (takes_as_made core.orders core.words (op_next core.server)) h.0, h.1)
  event_keeps core Client there honest more h =
      (h.0, keeps.makes core.client (taken_next core Client) (there.turned.client honest).call more (takes_as_made core.orders core.words (op_next core.client)) h.1)

  turning_keeps : (core : Core) (who : Role) → P core.server × P core.client → P (turned_core core who).server × P (turned_core core who).client
  turning_keeps core Server h = (given_up_keeps core.server (length core.client.got) h.0, h.1)
  turning_keeps core Client h = (h.0, given_up_keeps core.client (length core.server.got) h.1)

  strayed_keeps : (core : Core) (who : Role) (op : Op) → P core.server × P core.client → P (strayed core who op).server × P (strayed core who op).client
  strayed_keeps core Server op h =
      (keeps.strays (turned_side core.server (length core.client.got)) op _ (takes_as_made core.orders core.words op) (given_up_keeps core.server (length core.client.got) h.0), h.1)
  strayed_keeps core Client op h =
      (h.0, keeps.strays (turned_side core.client (length core.server.got)) op _ (takes_as_made core.orders core.words op) (given_up_keeps core.client (length core.server.got) h.1))

  both_keep : (core : Core) → MayCome core → P core.server × P core.client
  both_keep core (opens orders start said state low left right fresh) = (keeps.opens Server orders start _, keeps.opens Client orders start state)
  both_keep core (begins_call before who call payload there honest may) = begun_keeps before who call payload (both_keep before there)
  both_keep core (makes_event before who there honest more) = event_keeps before who (each_has_invariant before there) honest more (both_keep before there)
  both_keep core (is_turned before who there) = turning_keeps before who (both_keep before there)
  both_keep core (may_stray before who op there) = strayed_keeps before who op (both_keep before there)

  -- whatever happens on a page, it holds of each of its ends
  pub each_side : (core : Core) → MayCome core → (who : Role) → P (side_of core who)
  each_side core there Server = (both_keep core there).0
  each_side core there Client = (both_keep core there).1

-- ---- the notes of an end

notes_idle : (s idle : Side) → idle.call ≡ None → idle.saw ≡ s.saw → idle.ended ≡ s.ended → idle.drained ≡ s.drained → EndingNoted s → EndingNoted idle
notes_idle s idle none saw ended drained h = record {
  noticed = λ b is. cc;
  ended_saw = λ there. saw ∙ h.ended_saw (ap is_some (sym ended) ∙ there);
  ended_drained = λ is. drained ∙ h.ended_drained (sym ended ∙ is);
  drained_saw = λ is. saw ∙ h.drained_saw (sym drained ∙ is);
  drained_ended = λ is. ap is_some ended ∙ h.drained_ended (sym drained ∙ is);
}

pub notes_kept : IsKeptBySteps EndingNoted
notes_kept = record {
  opens = λ role orders start state. record {
    noticed = λ b is. cc;
    ended_saw = λ there. absurd (false≢true there);
    ended_drained = λ is. cc;
    drained_saw = λ is. absurd (false≢true is);
    drained_ended = λ is. absurd (false≢true is);
  };
  begins = λ s call payload h. record {
    noticed = λ b is noticed. absurd (false≢true noticed);
    ended_saw = h.ended_saw;
    ended_drained = h.ended_drained;
    drained_saw = h.drained_saw;
    drained_ended = h.drained_ended;
  };
  makes = λ s taken lawful more takes h. step_keeps_notes s taken lawful more h;
  turns = λ s consumed h. notes_idle s (turns s consumed) refl refl refl refl h;
  strays = λ s op taken takes h. notes_idle s (strays s op taken) refl refl refl refl h;
}

pub each_ending : (core : Core) → MayCome core → (who : Role) → EndingNoted (side_of core who)
each_ending = each_side EndingNoted notes_kept

-- ---- the stores of its trail

abbrev TakesNothing : Side → Type 0
TakesNothing s = StoresTakeNothing s.trail

stores_kept : IsKeptBySteps TakesNothing
stores_kept = record {
  opens = λ role orders start state. tt;
  begins = λ s call payload h. tt;
  makes = λ s taken lawful more takes h. subst StoresTakeNothing (sym (settled_trail (made s (op_next s) taken) (after (plan_left s) taken))) (takes_nothing_push s.trail (op_next s) taken h takes);
  turns = λ s consumed h. tt;
  strays = λ s op taken takes h. takes_nothing_push s.trail op taken h takes;
}

pub each_store : (core : Core) → MayCome core → (who : Role) → StoresTakeNothing (side_of core who).trail
each_store = each_side TakesNothing stores_kept
