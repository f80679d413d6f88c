use Rattle.std.proofs.Common.{◌+◌, ◌∙◌, ap, length}
use Rattle.std.specs.Prelude.{is_none}
use Rattle.qrexec_frame.specs.Fronts.{made}
use Rattle.qrexec_data.specs.Replies.{after_message, faulted}
use Rattle.qrexec_data.specs.declared.outcome.SessionFault.TheVariants as fault
use Rattle.qrexec_data.proofs.CallerLaws.{one_message, one_fault, none_of}
use Rattle.qrexec_data.proofs.caller.Caller.read_one.Goals as goal

pub returns-in_ok-hear-in-Ok-Some-clause-step : goal.returns-in_ok-hear-in-Ok-Some-clause-step
returns-in_ok-hear-in-Ok-Some-clause-step c =
    let body = rw c.in-Ok-Some.field-0-is at c.in-Ok-Some.ensures in
    let m = made c.in-Ok-Some.body.kind c.in-Ok-Some.body.bytes.now in
    one_message c.args.self.now c.self.inside.inbox c.self.inside.replies c.self.inside.requests m (8 + length c.in-Ok-Some.body.bytes.now)
    c.pass.new.self c.hear.new.self c.is_none.result c.self.view_is body.whole
    (c.pass.ensures ∙ ap (λ n. record c.self.inside.inbox { read = c.self.inside.inbox.read + n }) c.message_len-len.ensures)
    (c.in_ok-hear-in-Ok-Some.ensures.ok ∙ ap (λ at. after_message m at c.self.inside.replies) c.read-at.ensures.at)
    (none_of c.is_none.result c.outcome.result c.is_none.ensures ∙ ap is_none c.outcome.ensures)

pub returns-in-Err-clause-step : goal.returns-in-Err-clause-step
returns-in-Err-clause-step c =
    let shows = c.in-Err.ensures in
    one_fault c.args.self.now c.self.inside.inbox c.self.inside.replies c.self.inside.requests shows.0 c.fail.new.self c.self.view_is shows.1
    (c.fail.ensures ∙ ap (λ f. faulted (fault.Frame f) c.self.inside.replies) shows.2)
