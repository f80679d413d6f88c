-- The tasks of an epoch may go from thread to thread: what each task consists of may.
use denote.Param.Send.{IsSend, sendable, view_send}
use denote.Param.SendFields.{declared_send, variants_send}
use Rattle.std.proofs.Crossing.{crosses}
use Rattle.std.below.core.proofs.snapshot.Sent.{snapshot_send}
use Rattle.vchan_rule.proofs.Sent.{end_send}
use Rattle.service_gate.specs.contracts.builtin.Builtin as service
use Rattle.channel_session.proofs.Sent.{caller_send, serving_send}
use Rattle.vchan_persist.specs.contracts.calling.Calling as calling
use Rattle.vchan_persist.specs.contracts.calling.Calling.TheInside as calling_inside
use Rattle.vchan_persist.specs.contracts.answering.Answering as answering
use Rattle.vchan_persist.specs.contracts.answering.Answering.TheInside as answering_inside
use Rattle.vchan_persist.specs.contracts.scribbling.Scribbling as scribbling
use Rattle.vchan_persist.specs.contracts.scribbling.Scribbling.TheInside as scribbling_inside
use Rattle.vchan_persist.specs.contracts.task.EpochTask as task
use Rattle.vchan_persist.proofs.task.SideDone.TheSendSync as done

calling_send : (κ : _) → IsSend (calling.the_row κ)
calling_send κ = view_send (calling_inside.the_row κ) _ _ _ _ (declared_send (calling_inside.the_type κ) (caller_send κ, (search (sendable, crosses), tt)))

answering_send : (κ : _) → IsSend (answering.the_row κ)
answering_send κ = view_send (answering_inside.the_row κ) _ _ _ _ (declared_send (answering_inside.the_type κ) (serving_send κ, (search (sendable, crosses), (snapshot_send service.the_row, tt))))

scribbling_send : (κ : _) → IsSend (scribbling.the_row κ)
scribbling_send κ = view_send (scribbling_inside.the_row κ) _ _ _ _ (declared_send (scribbling_inside.the_type κ) (end_send κ, (search sendable, (search sendable, tt))))

pub task_send : (κ : _) → IsSend (task.the_row κ)
task_send κ = variants_send (task.enum κ) ((calling_send κ, tt), ((scribbling_send κ, tt), ((answering_send κ, tt), ((done.the_send, tt), tt))))
