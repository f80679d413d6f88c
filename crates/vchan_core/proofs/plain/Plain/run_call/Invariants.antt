use Rattle.std.proofs.Common.{◌≡◌, ℕ, ◌+◌, ◌-◌}
use Rattle.vchan_protocol.specs.Table.Calls.{most_events}
use Rattle.vchan_core.specs.OneMachine.Phases.{standing, IsIdle}
use Rattle.vchan_core.specs.Page.StandsFor.{machine_of}
use Rattle.vchan_core.specs.WholeCall.AtPhase.{page_at}
use Rattle.vchan_core.proofs.WholeCall.LoopLaws.{InLoop}
use Rattle.vchan_core.proofs.plain.Plain.run_call.Given as goal

abbrev pub invariant-events : goal.invariant-events
invariant-events g l =
    (count : ℕ) × InLoop l.fn.self l.who l.fn.call l.payload l.initial.buf (page_at l.self l.who l.phase) l.buf count × IsIdle (machine_of l.self l.who) × (l.steps ≡ l.fn.steps + count)

abbrev pub decreases-events : goal.decreases-events
decreases-events g l = most_events (standing (machine_of l.fn.self l.who)) l.fn.call - (l.steps - l.fn.steps)
