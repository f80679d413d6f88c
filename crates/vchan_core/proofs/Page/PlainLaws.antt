-- What holds of a core state for which a page stands still holds after each call on the page.
use Rattle.std.proofs.Common.{◌≡◌, ℕ, ◌<◌, ◌≤◌, false, Option, Some, None, List, length, take, slice_index, refl, subst, sym, ◌∙◌}
use Rattle.std.proofs.lemmas.List.{get_or_default}
use Rattle.std.proofs.lemmas.List.Elements.{All-take}
use Rattle.ring_words.specs.declared.page.Role.{Role}
use Rattle.ring_words.specs.declared.page.Role.TheVariants.{Server, Client}
use Rattle.vchan_protocol.specs.declared.call.Call.{Call}
use Rattle.vchan_protocol.specs.declared.side.Side.{Side}
use Rattle.vchan_protocol.specs.declared.side.Begun.{Begun}
use Rattle.vchan_core.specs.declared.machine.Machine.{Machine}
use Rattle.vchan_core.specs.declared.plain.Plain.{Plain}
use Rattle.vchan_protocol.specs.Table.Plan.{GoesOn}
use Rattle.vchan_protocol.specs.Table.Ends.{Standing}
use Rattle.vchan_protocol.specs.Table.Calls.{payload_of, IsAllowed}
use Rattle.vchan_protocol.specs.History.Core.{Core, side_of, begun, event, plan_left}
use Rattle.vchan_protocol.specs.History.WholeCall.{called}
use Rattle.vchan_core.specs.OneMachine.Phases.{standing, IsIdle, Allows}
use Rattle.vchan_core.specs.Page.StandsFor.{IsInCall, IsMachineOf, StandsFor, machine_of, turned_of}
use Rattle.vchan_protocol.specs.Honest.RingLaw.{AreBytes}
use Rattle.vchan_protocol.specs.Honest.Reached.{MayBegin}
use Rattle.vchan_protocol.specs.Hostile.TurnedLaw.{TurnedLawful}
use Rattle.vchan_protocol.specs.Always.Invariant.{Invariant}
use Rattle.vchan_core.proofs.OneMachine.PhaseLaws.{GoesOn_machine}
use Rattle.vchan_core.proofs.Page.StepLaws.{end_stands, in_call, plan_left_is}
use Rattle.vchan_core.proofs.WholeCall.RunLaws.{machine_stands}
use Rattle.vchan_protocol.proofs.History.WholeCallLaws.{length_payload}
use Rattle.vchan_protocol.proofs.Always.InvariantSteps.{invariant_begun, invariant_event}
use Rattle.vchan_protocol.proofs.History.WholeCallSteps.{invariant_called}
use Rattle.std.proofs.Common.{◌≡◌, ℕ, ◌<◌, ◌≤◌, false, List, length, take, refl, subst, sym, ◌∙◌, arith}
use Rattle.std.proofs.lemmas.List.{length-take}
use Rattle.vchan_protocol.specs.Table.Calls.{payload_of, IsAllowed}
use Rattle.vchan_core.specs.OneMachine.Phases.{standing, Allows}
use Rattle.vchan_core.specs.Page.StandsFor.{IsMachineOf, StandsFor, machine_of}
use Rattle.vchan_protocol.specs.History.Core.{Core, side_of, standing_of, begun}
use Rattle.vchan_protocol.specs.History.WholeCall.{called}
use Rattle.vchan_protocol.specs.Honest.RingLaw.{AreBytes}
use Rattle.vchan_protocol.specs.Honest.Lawful.{Lawful, IsEnd}
use Rattle.vchan_protocol.specs.Lists.ListLaw.{FollowsLists}
use Rattle.vchan_protocol.proofs.Lists.ListWhole.{tells_lists, follows_lists}

-- if the page tells that an end isn't turned, it isn't
turned_stands : (core : Core) (page : Plain) (who : Role) → StandsFor core page → turned_of page who ≡ false → (side_of core who).turned ≡ false
turned_stands core page who h honest = sym (end_stands core page who h).turned ∙ honest

role_stands : (core : Core) (who : Role) → TurnedLawful core → (side_of core who).role ≡ who
role_stands core Server h = h.server_end.role_is
role_stands core Client h = h.client_end.role_is

-- if the machine is idle, the end is between two calls
idle_stands : (s : Side) (m : Machine) → IsMachineOf s m → IsIdle m → s.call ≡ None
idle_stands s m h idle = go s.call refl h.in_call
  where
    go : (call : Option Begun) → s.call ≡ call → IsInCall s call m → s.call ≡ None
    go None is inside = is
    go (Some b) is inside = absurd (inside.0 idle)

-- what the page allows the end may begin
may_begin : (core : Core) (page : Plain) (who : Role) (call : Call) (payload : List ℕ) → StandsFor core page → Invariant core → Allows (machine_of page who) call → length payload ≡ payload_of call → AreBytes payload →
    MayBegin who (side_of core who) call payload
may_begin core page who call payload h kept allows pays bytes =
    let m = machine_stands core page who h in
    let same : standing (machine_of page who) ≡ record { role = (side_of core who).role; orders = (side_of core who).orders; state = (side_of core who).state; prod = (side_of core who).prod; cons = (side_of core who).cons } = m.standing_is in
    record {
      idle = idle_stands (side_of core who) (machine_of page who) m allows.0;
      allowed = subst (λ (r : Role). IsAllowed r (side_of core who).state call) (role_stands core who kept.turned) (subst (λ (e : Standing). IsAllowed e.role e.state call) same allows.1);
      pays = pays;
      bytes = bytes;
    }

pub invariant_begin : (core : Core) (page : Plain) (who : Role) (call : Call) (payload : List ℕ) → StandsFor core page → turned_of page who ≡ false → Allows (machine_of page who) call → length payload ≡ payload_of call → AreBytes payload →
    Invariant core → Invariant (begun core who call payload)
invariant_begin core page who call payload h honest allows pays bytes kept =
    invariant_begun core who call payload kept (turned_stands core page who h honest) (may_begin core page who call payload h kept allows pays bytes)

-- a busy machine has an event left, and so has its end
pub goes_on_stands : (core : Core) (page : Plain) (who : Role) → StandsFor core page → ¬ IsIdle (machine_of page who) → GoesOn (plan_left (side_of core who))
goes_on_stands core page who h busy =
    subst GoesOn (sym (plan_left_is (side_of core who) (machine_of page who) (in_call (side_of core who) (machine_of page who) (machine_stands core page who h) busy))) (GoesOn_machine (machine_of page who) busy)

pub invariant_step : (core : Core) (page : Plain) (who : Role) → StandsFor core page → turned_of page who ≡ false → ¬ IsIdle (machine_of page who) → Invariant core → Invariant (event core who)
invariant_step core page who h honest busy kept = invariant_event core who kept (turned_stands core page who h honest) (goes_on_stands core page who h busy)

-- ---- whole calls

pub invariant_call : (core : Core) (page : Plain) (who : Role) (call : Call) (source : List ℕ) → StandsFor core page → turned_of page who ≡ false → Allows (machine_of page who) call → payload_of call ≤ length source → ((k : ℕ) → slice_index source k < 256) →
    Invariant core → Invariant (called core who call (take (payload_of call) source))
invariant_call core page who call source h honest allows enough bytes kept =
    invariant_called core who call (take (payload_of call) source) kept (turned_stands core page who h honest)
    (may_begin core page who call (take (payload_of call) source) h kept allows (length_payload call source enough) (All-take (λ (byte : ℕ). byte < 256) (payload_of call) source (λ k d below. subst (λ (byte : ℕ). byte < 256) (get_or_default source k 0 d below) (bytes k))))

-- ---- whole calls are calls on lists

-- a call that the machine of a page allows is one that its end may begin
may_call : (core : Core) (page : Plain) (who : Role) (call : Call) (source : List ℕ) → IsMachineOf (side_of core who) (machine_of page who) → IsEnd who core.orders (side_of core who) → Allows (machine_of page who) call →
    payload_of call ≤ length source → AreBytes source → IsAllowed who (side_of core who).state call × (length (take (payload_of call) source) ≡ payload_of call) × AreBytes (take (payload_of call) source)
may_call core page who call source h is allows enough bytes =
    let e : standing (machine_of page who) ≡ standing_of (side_of core who) = h.standing_is in (
      subst (λ (r : Role). IsAllowed r (side_of core who).state call) is.role_is (subst (λ (s : Standing). IsAllowed s.role s.state call) e allows.1),
      omega (arith, length-take (payload_of call) source, enough),
      All-take (λ (byte : ℕ). byte < 256) (payload_of call) source bytes,
    )

pub page_follows_lists : (core : Core) (page : Plain) (who : Role) (call : Call) (source : List ℕ) → Allows (machine_of page who) call → payload_of call ≤ length source → AreBytes source →
    StandsFor core page → Lawful core → FollowsLists core who call (take (payload_of call) source)
page_follows_lists core page Server call source allows enough bytes h lawful =
    follows_lists core Server call (take (payload_of call) source) (tells_lists core lawful) (may_call core page Server call source h.server.machine lawful.server_end allows enough bytes)
page_follows_lists core page Client call source allows enough bytes h lawful =
    follows_lists core Client call (take (payload_of call) source) (tells_lists core lawful) (may_call core page Client call source h.client.machine lawful.client_end allows enough bytes)
