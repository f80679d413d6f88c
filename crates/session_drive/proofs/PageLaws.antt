-- What a whole call leaves of a rested page.
use Rattle.std.proofs.Common.{◌≡◌, ℕ, false, List, Option, Some, None, refl, sym, ap, subst, ◌∙◌}
use Rattle.ring_words.specs.declared.page.Role.{Role}
use Rattle.ring_words.specs.declared.page.Role.TheVariants.{Server, Client}
use Rattle.vchan_protocol.specs.declared.call.Call.{Call}
use Rattle.vchan_protocol.specs.declared.call.EndState.{EndState}
use Rattle.vchan_protocol.specs.declared.call.EndState.TheVariants.{Open}
use Rattle.vchan_protocol.specs.declared.side.Side.{Side}
use Rattle.vchan_protocol.specs.declared.side.Begun.{Begun}
use Rattle.vchan_protocol.specs.Table.Ends.{Standing}
use Rattle.vchan_protocol.specs.Table.Calls.{IsAllowed}
use Rattle.vchan_protocol.specs.History.Core.{Core, begun, event}
use Rattle.vchan_protocol.specs.History.WholeCall.{called}
use Rattle.vchan_protocol.specs.Honest.Lawful.{Honest}
use Rattle.vchan_protocol.proofs.History.WholeCallSteps.{call_keeps_it}
use Rattle.vchan_protocol.proofs.Hostile.TurnedSteps.{event_grows}
use Rattle.vchan_core.specs.declared.machine.Machine.{Machine}
use Rattle.vchan_core.specs.declared.plain.Plain.{Plain}
use Rattle.vchan_core.specs.OneMachine.Phases.{Allows, IsIdle}
use Rattle.vchan_core.specs.Page.StandsFor.{StandsFor, IsInCall, IsMachineOf, machine_of, other_of, turned_of}
use Rattle.vchan_core.proofs.Page.EndLaws.{role_at}
use Rattle.session_drive.specs.Page.{IsBetween, IsRested}

-- ---- what a rested page allows

idle_machine : (s : Side) (m : Machine) → IsMachineOf s m → s.call ≡ None → IsIdle m
idle_machine s m h is = subst (λ (call : Option Begun). IsInCall s call m) is h.in_call

pub rested_turned : (core : Core) (page : Plain) (who : Role) → IsBetween core page → turned_of page who ≡ false
rested_turned core page Server b = b.stands.server.turned ∙ b.honest.0
rested_turned core page Client b = b.stands.client.turned ∙ b.honest.1

pub between_idle : (core : Core) (page : Plain) (who : Role) → IsBetween core page → IsIdle (machine_of page who)
between_idle core page Server b = idle_machine core.server page.ends.server.machine b.stands.server.machine b.idle.0
between_idle core page Client b = idle_machine core.client page.ends.client.machine b.stands.client.machine b.idle.1

pub rested_allows : (core : Core) (page : Plain) (who : Role) (call : Call) → IsRested core page → IsAllowed who Open call → Allows (machine_of page who) call
rested_allows core page who call r may = (between_idle core page who r.between, by who r may)
  where
    by : (who : Role) → IsRested core page → IsAllowed who Open call → IsAllowed (machine_of page who).role (machine_of page who).state call
    by Server r may =
        let state : (machine_of page Server).state ≡ Open = ap (λ (e : Standing). e.state) r.between.stands.server.machine.standing_is ∙ r.opened.0 in
        subst (λ (s : EndState). IsAllowed (machine_of page Server).role s call) (sym state) (subst (λ (w : Role). IsAllowed w Open call) (sym (role_at page Server)) may)
    by Client r may =
        let state : (machine_of page Client).state ≡ Open = ap (λ (e : Standing). e.state) r.between.stands.client.machine.standing_is ∙ r.opened.1 in
        subst (λ (s : EndState). IsAllowed (machine_of page Client).role s call) (sym state) (subst (λ (w : Role). IsAllowed w Open call) (sym (role_at page Client)) may)

-- ---- what a call keeps

idle_side : (s : Side) (m : Machine) → IsMachineOf s m → IsIdle m → s.call ≡ None
idle_side s m h idle = by s.call refl h.in_call
  where
    by : (call : Option Begun) → s.call ≡ call → IsInCall s call m → s.call ≡ None
    by None is inside = is
    by (Some b) is inside = absurd (inside.0 idle)

honest_event : (who : Role) (core : Core) → Honest core → Honest (event core who)
honest_event Server core h = ((event_grows core Server).1.turned ∙ h.0, ap (λ (s : Side). s.turned) (event_grows core Server).0 ∙ h.1)
honest_event Client core h = (ap (λ (s : Side). s.turned) (event_grows core Client).0 ∙ h.0, (event_grows core Client).1.turned ∙ h.1)

honest_begun : (core : Core) (who : Role) (call : Call) (payload : List ℕ) → Honest core → Honest (begun core who call payload)
honest_begun core Server call payload h = h
honest_begun core Client call payload h = h

pub honest_called : (core : Core) (who : Role) (call : Call) (payload : List ℕ) → Honest core → Honest (called core who call payload)
honest_called core who call payload h = call_keeps_it Honest who (λ now kept more. honest_event who now kept) core call payload (honest_begun core who call payload h)

-- both ends are between two calls again
pub both_idle : (core after : Core) (page page' : Plain) (who : Role) → IsBetween core page → StandsFor after page' → IsIdle (machine_of page' who) → other_of page' who ≡ other_of page who → (after.server.call ≡ None) × (after.client.call ≡ None)
both_idle core after page page' Server b stands mine theirs = (
  idle_side after.server page'.ends.server.machine stands.server.machine mine,
  idle_side after.client page'.ends.client.machine stands.client.machine (subst IsIdle (sym theirs) (between_idle core page Client b)),
)
both_idle core after page page' Client b stands mine theirs = (
  idle_side after.server page'.ends.server.machine stands.server.machine (subst IsIdle (sym theirs) (between_idle core page Server b)),
  idle_side after.client page'.ends.client.machine stands.client.machine mine,
)
