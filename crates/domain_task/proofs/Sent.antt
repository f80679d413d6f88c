-- The tasks of a run may go from thread to thread, because all their parts may.
use denote.Builtin.{u8, bool}
use denote.Param.Send.{IsSend, sendable, view_send}
use denote.Param.SendFields.{FieldsHave, VariantsHave, declared_send, variants_send}
use Rattle.std.proofs.Crossing.{crosses}
use Rattle.std.proofs.MapsCrossing.{BTreeMap-send, HashMap-send}
use Rattle.std.proofs.alloc.Global.TheSendSync as heap
use Rattle.std.specs.contracts.vec.Vec as vec
use Rattle.std.specs.contracts.alloc.Global as global
use Rattle.std.specs.contracts.impls.GlobalAllocator.TheImpl.{ghosts}
use Rattle.std.below.core.proofs.snapshot.Sent.{snapshot_send}
use Rattle.vchan_rule.specs.contracts.end.End as end
use Rattle.vchan_rule.proofs.Sent.{end_send}
use Rattle.qrexec_frame.proofs.bytes.Bytes.TheSendSync as bytes
use Rattle.qrexec_frame.proofs.decoder.Decoder.TheSendSync as decoder
use Rattle.qrexec_data.proofs.outcome.Outcome.TheSendSync as outcome
use Rattle.qrexec_data.proofs.outcome.SessionFault.TheSendSync as fault
use Rattle.service_gate.specs.contracts.builtin.Builtin as service
use Rattle.control_port.proofs.moves.Moves.TheSendSync as moves
use Rattle.control_port.proofs.talk.Talker.TheSendSync as talker
use Rattle.control_port.specs.contracts.port.ControlPort as port
use Rattle.control_port.specs.contracts.port.ControlPort.TheInside as port_inside
use Rattle.scenario_file.proofs.scenario.CallPlan.TheSendSync as plan
use Rattle.scenario_file.specs.contracts.scenario.CallPlan as call_plan
use Rattle.agent_queue.proofs.call.CallAnswer.TheSendSync as answer
use Rattle.agent_queue.specs.contracts.call.QueuedCall as queued
use Rattle.agent_queue.specs.contracts.queue.CallQueue as queue
use Rattle.agent_queue.specs.contracts.queue.CallQueue.TheInside as queue_inside
use Rattle.agent_control.specs.contracts.control.AgentControl as control
use Rattle.channel_session.proofs.Sent.{caller_send, serving_send}
use Rattle.qrexec_data.proofs.serving.Serving.TheSendSync as serving
use Rattle.service_gate.proofs.builtin.Builtin.TheSendSync as builtin
use Rattle.task_duties.proofs.done.CallDone.TheSendSync as call_done
use Rattle.task_duties.proofs.done.CallerDone.TheSendSync as caller_done
use Rattle.task_duties.proofs.done.ServedDone.TheSendSync as served_done
use Rattle.task_duties.proofs.done.ControlEnd.TheSendSync as control_end
use Rattle.task_duties.proofs.done.SessionEnd.TheSendSync as session_end
use Rattle.vchan_rule.proofs.turned.Retired.TheSendSync as retired
use Rattle.page_offer.proofs.Sent.{server_send, client_send, open_server_send, open_client_send, done_server_send, done_client_send}
use Rattle.task_duties.specs.contracts.ends.UnusedEnd as unused
use Rattle.task_duties.specs.contracts.ends.DoneEnd as done
use Rattle.task_duties.specs.contracts.ends.RetiredEnd as retired_end
use Rattle.task_duties.proofs.place.PagePlace.TheSendSync as place
use Rattle.task_duties.specs.contracts.ends.DataEnd as data_end
use Rattle.agent_slots.specs.contracts.note.CallNote as call_note
use Rattle.agent_slots.specs.contracts.note.ServedNote as served_note
use Rattle.agent_slots.specs.contracts.side.PageSide as side
use Rattle.agent_slots.specs.contracts.stage.Stage as stage
use Rattle.agent_slots.specs.contracts.slot.Slot as slot
use Rattle.agent_slots.specs.contracts.ends.Ends as ends
use Rattle.agent_slots.specs.contracts.slots.DataSlots as slots
use Rattle.agent_slots.specs.contracts.slots.DataSlots.TheInside as slots_inside
use Rattle.agent_task.specs.contracts.agent.Given as given
use Rattle.agent_task.specs.contracts.agent.Agent as agent
use Rattle.agent_task.specs.contracts.task.AgentDone as agent_done
use Rattle.agent_task.specs.contracts.task.AgentTask as agent_task
use Rattle.agent_task.specs.contracts.task.AgentTask.TheInside as agent_inside
use Rattle.call_broker.proofs.broker.Broker.TheSendSync as broker
use Rattle.broker_task.proofs.outbox.Outbox.TheSendSync as outbox
use Rattle.broker_task.specs.contracts.daemon.Daemon as daemon
use Rattle.broker_task.specs.contracts.switchboard.Switchboard as switchboard
use Rattle.broker_task.specs.contracts.task.BrokerDone as broker_done
use Rattle.broker_task.specs.contracts.task.BrokerTask as broker_task
use Rattle.broker_task.specs.contracts.task.BrokerTask.TheInside as broker_inside
use Rattle.hostile_seat.proofs.Hostile.TheSendSync as hostile
use Rattle.hostile_task.proofs.domain.HostileDomain.TheSendSync as domain
use Rattle.hostile_task.proofs.progress.Progress.TheSendSync as progress
use Rattle.hostile_task.specs.contracts.page.TurnedPage as page
use Rattle.hostile_task.specs.contracts.pages.Pages as pages
use Rattle.hostile_task.specs.contracts.task.HostileDone as hostile_done
use Rattle.hostile_task.specs.contracts.task.HostileTask as hostile_task
use Rattle.hostile_task.specs.contracts.task.HostileTask.TheInside as hostile_inside
use Rattle.domain_task.specs.contracts.task.Task as task
use Rattle.domain_task.specs.contracts.done.TaskDone as task_done

-- ---- the ends of pages that are laid at their first use

unused_send : (κ : _) → IsSend (unused.the_row κ)
unused_send κ = variants_send (unused.enum κ) ((end_send κ, tt), ((server_send κ, tt), ((client_send, tt), tt)))

pub data_end_send : (κ : _) → IsSend (data_end.the_row κ)
data_end_send κ = declared_send (data_end.the_type κ) (search sendable, (search sendable, (search sendable, (unused_send κ, tt))))

done_send : IsSend done.the_row
done_send = variants_send done.enum ((retired.the_send, tt), ((done_server_send, tt), ((done_client_send, tt), tt)))

pub retired_end_send : IsSend retired_end.the_row
retired_end_send = declared_send retired_end.the_type (place.the_send, (done_send, tt))

-- ---- a control port

port_send : (κ : _) → IsSend (port.the_row κ)
port_send κ =
    let fields : FieldsHave IsSend (port_inside.the_type κ).parts =
    (end_send κ, (talker.the_send, (search sendable, (search sendable, (decoder.the_send, (search sendable depth 20, (search (sendable, crosses, fault.the_send) depth 20, (search (sendable, crosses), (moves.the_send, tt))))))))) in
    view_send (port_inside.the_row κ) _ _ _ _ (declared_send (port_inside.the_type κ) fields)

-- ---- the calls of an agent, and its control channel

queued_send : IsSend queued.the_row
queued_send = declared_send queued.the_type (snapshot_send call_plan.the_row, (plan.the_send, (answer.the_send, (search sendable, (search sendable, tt)))))

queue_send : IsSend queue.the_row
queue_send =
    view_send queue_inside.the_row _ _ _ _ (declared_send queue_inside.the_type (search (sendable, crosses, queued_send) depth 20, (search sendable, (search (sendable, crosses, BTreeMap-send) depth 20, (search (sendable, crosses), tt)))))

control_send : (κ : _) → IsSend (control.the_row κ)
control_send κ = declared_send (control.the_type κ) (port_send κ, (queue_send, (search (sendable, crosses, session_end.the_send), tt)))

-- ---- the sessions of an agent, and its data ends

side_send : IsSend side.the_row
side_send = variants_send side.enum (tt, ((open_server_send, tt), ((open_client_send, tt), tt)))

stage_send : (κ : _) → IsSend (stage.the_row κ)
stage_send κ =
    let fields : VariantsHave IsSend (stage.enum κ).parts = (
      (unused_send κ, tt),
      (
        (search sendable, (snapshot_send (vec.the_row u8 global.the_row ghosts), (side_send, (caller_send κ, tt)))),
        (
          (search sendable, (snapshot_send service.the_row, (search (sendable, serving.the_send, builtin.the_send), (client_send, tt)))),
          (
            (search sendable, (snapshot_send service.the_row, (side_send, (serving_send κ, tt)))),
            (
              (search sendable, (snapshot_send (vec.the_row u8 global.the_row ghosts), (caller_done.the_send, (done_send, tt)))),
              ((search sendable, (snapshot_send service.the_row, (outcome.the_send, (bytes.the_send, (done_send, tt))))), (tt, tt)),
            ),
          ),
        ),
      ),
    ) in
    variants_send (stage.enum κ) fields

slot_send : (κ : _) → IsSend (slot.the_row κ)
slot_send κ = declared_send (slot.the_type κ) (search sendable, (search sendable, (search sendable, (stage_send κ, tt))))

call_note_send : IsSend call_note.the_row
call_note_send = declared_send call_note.the_type (search sendable, (search sendable, (search sendable, (snapshot_send (vec.the_row u8 global.the_row ghosts), tt))))

served_note_send : IsSend served_note.the_row
served_note_send = declared_send served_note.the_type (search sendable, (search sendable, (search sendable, (snapshot_send service.the_row, tt))))

ends_send : (κ : _) → IsSend (ends.the_row κ)
ends_send κ =
    let fields : FieldsHave IsSend (ends.the_type κ).parts = (
      heap.the_send,
      (
        search sendable,
        (
          search sendable,
          (
            search (sendable, crosses, slot_send) depth 20,
            (
              search (sendable, crosses, HashMap-send) depth 20,
              (search (sendable, crosses), (search (sendable, crosses, call_note_send) depth 20, (search (sendable, crosses, served_note_send) depth 20, (search (sendable, crosses), tt)))),
            ),
          ),
        ),
      ),
    ) in
    declared_send (ends.the_type κ) fields

slots_send : (κ : _) → IsSend (slots.the_row κ)
slots_send κ = view_send (slots_inside.the_row κ) _ _ _ _ (declared_send (slots_inside.the_type κ) (ends_send κ, (search (sendable, crosses, retired_end_send) depth 20, (snapshot_send bool, tt))))

-- ---- the task of an agent

given_send : (κ : _) → IsSend (given.the_row κ)
given_send κ =
    declared_send (given.the_type κ) (search sendable, (search sendable, (snapshot_send (vec.the_row call_plan.the_row global.the_row ghosts), (snapshot_send (end.the_row κ), (snapshot_send (vec.the_row (data_end.the_row κ) global.the_row ghosts), tt)))))

agent_send : (κ : _) → IsSend (agent.the_row κ)
agent_send κ = declared_send (agent.the_type κ) (heap.the_send, (given_send κ, (control_send κ, (slots_send κ, (search (sendable, crosses, control_end.the_send) depth 20, tt)))))

agent_task_send : (κ : _) → IsSend (agent_task.the_row κ)
agent_task_send κ =
    view_send (agent_inside.the_row κ) _ _ _ _ (declared_send (agent_inside.the_type κ) (search (sendable, crosses, agent_send) depth 20, (search (sendable, crosses), (search (sendable, crosses, session_end.the_send), (search sendable, tt)))))

-- ---- the task of the broker

daemon_send : (κ : _) → IsSend (daemon.the_row κ)
daemon_send κ = declared_send (daemon.the_type κ) (search sendable, (port_send κ, (outbox.the_send, (search sendable, (search sendable, tt)))))

switchboard_send : (κ : _) → IsSend (switchboard.the_row κ)
switchboard_send κ = declared_send (switchboard.the_type κ) (broker.the_send, (search (sendable, crosses, daemon_send), tt))

broker_task_send : (κ : _) → IsSend (broker_task.the_row κ)
broker_task_send κ =
    view_send (broker_inside.the_row κ) _ _ _ _ (declared_send (broker_inside.the_type κ) (switchboard_send κ, (search (sendable, crosses), (search (sendable, crosses, retired_end_send) depth 20, (search sendable, tt)))))

-- ---- the task of a hostile domain

page_send : (κ : _) → IsSend (page.the_row κ)
page_send κ = declared_send (page.the_type κ) (place.the_send, (snapshot_send (end.the_row κ), (hostile.the_send κ, tt)))

pages_send : (κ : _) → IsSend (pages.the_row κ)
pages_send κ = declared_send (pages.the_type κ) (page_send κ, (search (sendable, crosses, page_send) depth 20, tt))

hostile_task_send : (κ : _) → IsSend (hostile_task.the_row κ)
hostile_task_send κ =
    view_send (hostile_inside.the_row κ) _ _ _ _ (declared_send (hostile_inside.the_type κ) (heap.the_send, (domain.the_send, (pages_send κ, (progress.the_send, (search (sendable, crosses), (search (sendable, crosses, retired_end_send) depth 20, (search sendable, tt))))))))

-- ---- a task

pub task_send : (κ : _) → IsSend (task.the_row κ)
task_send κ = variants_send (task.enum κ) ((agent_task_send κ, tt), ((broker_task_send κ, tt), ((hostile_task_send κ, tt), tt)))

-- ---- what a task gives when it is done

agent_done_send : IsSend agent_done.the_row
agent_done_send =
    declared_send agent_done.the_type (search sendable, (search (sendable, crosses, call_done.the_send) depth 20, (search (sendable, crosses, served_done.the_send) depth 20, (control_end.the_send, (search (sendable, crosses, retired_end_send) depth 20, tt)))))

broker_done_send : IsSend broker_done.the_row
broker_done_send = declared_send broker_done.the_type (broker.the_send, (search (sendable, crosses, retired_end_send) depth 20, tt))

hostile_done_send : IsSend hostile_done.the_row
hostile_done_send = declared_send hostile_done.the_type (search sendable, (search (sendable, crosses, retired_end_send) depth 20, tt))

pub task_done_send : IsSend task_done.the_row
task_done_send = variants_send task_done.enum ((agent_done_send, tt), ((broker_done_send, tt), ((hostile_done_send, tt), ((search (sendable, crosses, retired_end_send) depth 20, tt), tt))))
