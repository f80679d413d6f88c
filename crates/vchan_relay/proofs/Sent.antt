-- The tasks of a run may go from thread to thread: what a relay and each task consists of may.
use denote.Param.Send.{IsSend, sendable, view_send}
use denote.Param.SendFields.{declared_send, variants_send}
use Rattle.std.proofs.Crossing.{crosses}
use Rattle.vchan_rule.proofs.Sent.{end_send}
use Rattle.vchan_relay.specs.contracts.relay.Relay as relay
use Rattle.vchan_relay.specs.contracts.relay.Relay.TheInside as relay_inside
use Rattle.vchan_relay.specs.contracts.writer.Writer as writer
use Rattle.vchan_relay.specs.contracts.writer.Writer.TheInside as writer_inside
use Rattle.vchan_relay.specs.contracts.hop.Hop as hop
use Rattle.vchan_relay.specs.contracts.hop.Hop.TheInside as hop_inside
use Rattle.vchan_relay.specs.contracts.reader.Reader as reader
use Rattle.vchan_relay.specs.contracts.reader.Reader.TheInside as reader_inside
use Rattle.vchan_relay.specs.contracts.task.HopTask as task
use Rattle.vchan_relay.specs.contracts.relay.Joint as joint
use Rattle.vchan_relay.specs.contracts.relay.Joint.TheInside as joint_inside
use Rattle.vchan_relay.specs.contracts.task.HopDone as done
use Rattle.qrexec_frame.proofs.bytes.Bytes.TheSendSync as bytes
use Rattle.vchan_rule.proofs.turned.Retired.TheSendSync as retired
use Rattle.vchan_rule.specs.contracts.turned.Retired as retired_end
use Rattle.std.below.core.proofs.snapshot.Sent.{snapshot_send}

relay_send : (κ : _) → IsSend (relay.the_row κ)
relay_send κ =
    view_send (relay_inside.the_row κ) _ _ _ _ (declared_send (relay_inside.the_type κ) (end_send κ, (end_send κ, (search (sendable, crosses), (search sendable, (search sendable, (search sendable, tt)))))))

writer_send : (κ : _) → IsSend (writer.the_row κ)
writer_send κ = view_send (writer_inside.the_row κ) _ _ _ _ (declared_send (writer_inside.the_type κ) (end_send κ, (search (sendable, crosses), (search sendable, (search sendable, tt)))))

hop_send : (κ : _) → IsSend (hop.the_row κ)
hop_send κ = view_send (hop_inside.the_row κ) _ _ _ _ (declared_send (hop_inside.the_type κ) (relay_send κ, (search sendable, tt)))

reader_send : (κ : _) → IsSend (reader.the_row κ)
reader_send κ = view_send (reader_inside.the_row κ) _ _ _ _ (declared_send (reader_inside.the_type κ) (end_send κ, (search (sendable, crosses), (search sendable, (search sendable, tt)))))

joint_send : IsSend joint.the_row
joint_send = view_send joint_inside.the_row _ _ _ _ (declared_send joint_inside.the_type (snapshot_send retired_end.the_row, (snapshot_send retired_end.the_row, tt)))

pub done_send : IsSend done.the_row
done_send = variants_send done.enum ((retired.the_send, tt), ((retired.the_send, (retired.the_send, (search (sendable, crosses, joint_send) depth 20, tt))), ((retired.the_send, (bytes.the_send, tt)), tt)))

pub task_send : (κ : _) → IsSend (task.the_row κ)
task_send κ = variants_send (task.enum κ) ((writer_send κ, tt), ((hop_send κ, tt), ((reader_send κ, tt), ((done_send, tt), tt))))
