-- How the control channel of an agent ends.
-- Source: this project's own.
use Rattle.std.specs.Prelude.{◌≡◌, true, List, Option, Some, None}
use Rattle.qrexec_frame.specs.declared.message.Message.{Message}
use Rattle.vchan_rule.specs.Seated.{view}
use Rattle.end_view.specs.EndView.{EndView}
use Rattle.vchan_protocol.specs.declared.side.EndedBy.TheVariants as by
use Rattle.vchan_lifecycle.specs.declared.DrainAnswer.{DrainAnswer}
use Rattle.vchan_lifecycle.specs.declared.DrainAnswer.TheVariants.{More, NotYet, AllRead, PeerGone}
use Rattle.qrexec_data.specs.declared.outcome.SessionFault.{SessionFault}
use Rattle.task_duties.specs.declared.done.ControlEnd.{ControlEnd}
use Rattle.task_duties.specs.declared.done.ControlEnd.TheVariants.{Drained, Gone, Fault}
use Rattle.task_duties.specs.Hearing.{Heard, hears}
use Rattle.task_duties.specs.Agent.Owes.{ControlOver}
use Rattle.control_port.specs.Port.{PortState, HasHeardAll}
use Rattle.control_port.specs.Talking.{may_hear}
use Rattle.agent_task.specs.declared.agent.Agent.{Agent}
use Rattle.agent_task.specs.Standing.{Stands, KeepsEnds, IsUp}

-- how a drain shows that the channel is over
abbrev pub end_by : DrainAnswer → Option ControlEnd
end_by (More count) = None
end_by (NotYet prod cons) = None
end_by AllRead = Some Drained
end_by (PeerGone prod cons) = Some Gone

-- how it is over: by what is wrong with what was heard, or else by the drain
abbrev pub over_by : Option SessionFault → DrainAnswer → Option ControlEnd
over_by (Some fault) drained = Some (Fault fault)
over_by None drained = end_by drained

-- what an end has noted by then
abbrev pub HasEnded : Option ControlEnd → EndView → Type 0
HasEnded None end = end.ended ≡ None
HasEnded (Some Drained) end = (end.saw ≡ true) × (end.ended ≡ Some by.AllRead)
HasEnded (Some Gone) end = (end.saw ≡ true) × (end.ended ≡ Some by.PeerGone)
HasEnded (Some (Fault fault)) end = ⊥

abbrev pub IsDrained : DrainAnswer → Agent → Type 0
IsDrained drained a = HasEnded (end_by drained) (view a.control.port.end)

-- what a port makes of all bytes that it got
abbrev pub heard_at : PortState → Heard
heard_at p = hears p.own (may_hear p.talker) (view p.end).got

-- the channel is over, and its end is retired
pub record IsOver (how : ControlEnd) (a : Agent) : Type 0 where
  pub heard : List Message
  pub said : List Message
  pub stands : Stands a heard said
  pub keeps : KeepsEnds a heard said
  pub all : HasHeardAll a.control.port heard
  pub how_is : ControlOver (view a.control.port.end) (heard_at a.control.port) how
  pub fault_is : (fault : SessionFault) → (heard_at a.control.port).fault ≡ Some fault → how ≡ Fault fault
  pub over_is : a.over ≡ Some how
  pub idle : (view a.control.port.end).idle ≡ true
  pub retired : (view a.control.port.end).retired ≡ true

-- an agent between two turns
abbrev pub RunsAs : Option ControlEnd → Agent → Type 0
RunsAs None a = IsUp a
RunsAs (Some how) a = IsOver how a

abbrev pub IsRunning : Agent → Type 0
IsRunning a = RunsAs a.over a
