-- A machine inside a call has an event left, so its trail is shorter than the call may be.
use Rattle.std.proofs.Common.{◌-◌, ◌<◌, List, Option, Some, None, IsNone, refl, length}
use Rattle.vchan_core.specs.declared.machine.Machine.{Machine}
use Rattle.vchan_protocol.specs.declared.call.Answer.TheVariants.{PeerClosed}
use Rattle.vchan_core.specs.declared.phase.Phase.{Phase}
use Rattle.vchan_core.specs.declared.phase.Phase.TheVariants.{Put, Take}
use Rattle.vchan_protocol.specs.Table.Plan.{answers, GoesOn}
use Rattle.vchan_protocol.specs.Table.Ends.{Standing}
use Rattle.vchan_protocol.specs.Table.Calls.{write, write_open, read, read_live, send, send_open, recv, recv_live, drain, drain_second, drain_live, drain_further, drain_gone, drain_last, connect, connect_right, plan_of, most_events}
use Rattle.vchan_core.specs.OneMachine.Phases.{rest_at, rest, standing, IsIdle, Stands}
use Rattle.vchan_protocol.specs.declared.op.PastEvent.{PastEvent}
use Rattle.vchan_protocol.specs.declared.call.Call.{Call}
use Rattle.vchan_protocol.proofs.Table.PlanLaws.{GoesOn_put_bytes, GoesOn_take_bytes}
use Rattle.vchan_protocol.proofs.Table.Bounds.{length_Leads_more, ends_call}

pub GoesOn_rest : (e : Standing) (phase : Phase) → GoesOn (rest_at e phase)
unfolding rest_at write write_open read read_live send send_open recv recv_live drain drain_second drain_live drain_further drain_gone drain_last connect connect_right
GoesOn_rest e (Put i k answer) = GoesOn_put_bytes e i (k - i) _ _
GoesOn_rest e (Take i k answer) = GoesOn_take_bytes e i (k - i) _ _
GoesOn_rest e _ = tt

GoesOn_at : (e : Standing) (phase : Option Phase) → ¬ IsNone phase → GoesOn (elim phase [ None ↦ answers PeerClosed | Some p ↦ rest_at e p ])
GoesOn_at e None h = absurd (h refl)
GoesOn_at e (Some p) h = GoesOn_rest e p

-- a machine inside a call has an event left
pub GoesOn_machine : (m : Machine) → ¬ IsIdle m → GoesOn (rest m)
GoesOn_machine m h = GoesOn_at (standing m) m.phase h

pub length_Stands : (begun : Standing) (call : Call) (events : List PastEvent) (m : Machine) → Stands begun call events m → ¬ IsIdle m → length events < most_events begun call
length_Stands begun call events m stood busy = length_Leads_more (plan_of begun call) events (rest m) (most_events begun call) (ends_call begun call) stood (GoesOn_machine m busy)
