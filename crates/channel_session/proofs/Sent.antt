-- The two sides of a call may go from thread to thread.
use denote.Hole.{as_row}
use denote.Struct.Field.{row_field}
use denote.Param.Send.{IsSend, sendable, view_send}
use denote.Param.SendFields.{FieldsHave, declared_send}
use Rattle.qrexec_data.specs.CallerSide.{caller_half}
use Rattle.qrexec_data.specs.contracts.caller.Caller as caller_row
use Rattle.qrexec_data.specs.contracts.serving.Serving as serving_row
use Rattle.qrexec_data.proofs.caller.Caller.TheSendSync as caller
use Rattle.qrexec_data.proofs.serving.Serving.TheSendSync as serving
use Rattle.service_gate.specs.Owing.{builtin_owes}
use Rattle.service_gate.specs.contracts.builtin.Builtin as service
use Rattle.service_gate.proofs.builtin.Builtin.TheSendSync as builtin
use Rattle.vchan_rule.proofs.Sent.{end_send}
use Rattle.channel_session.specs.Session.{builtin_half}
use Rattle.channel_session.proofs.pause.Pause.TheSendSync as pause
use Rattle.channel_session.specs.contracts.session.Session as session
use Rattle.channel_session.specs.contracts.session.Session.TheInside as inside

session_send : (κ : _) (S : _) (half : _) → IsSend (as_row (row_field S)) → IsSend (session.the_row κ S half)
session_send κ S half sent =
    let fields : FieldsHave IsSend (inside.the_type κ S half).parts = (sent, (end_send κ, (search sendable, (pause.the_send, tt)))) in
    view_send (inside.the_row κ S half) _ _ _ _ (declared_send (inside.the_type κ S half) fields)

pub caller_send : (κ : _) → IsSend (session.the_row κ caller_row.the_row (record { half = caller_half }))
caller_send κ = session_send κ caller_row.the_row (record { half = caller_half }) caller.the_send

pub serving_send : (κ : _) → IsSend (session.the_row κ (serving_row.the_row service.the_row (record { owes = builtin_owes })) (record { half = builtin_half }))
serving_send κ = session_send κ (serving_row.the_row service.the_row (record { owes = builtin_owes })) (record { half = builtin_half }) (search (sendable, serving.the_send, builtin.the_send))
