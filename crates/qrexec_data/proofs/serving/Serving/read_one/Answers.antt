use Rattle.std.proofs.Common.{◌+◌, ◌∙◌, ap, length}
use Rattle.std.proofs.Common.{ℕ, subst}
use Rattle.std.specs.Prelude.{is_none}
use Rattle.qrexec_frame.specs.Fronts.{made}
use Rattle.qrexec_data.specs.Answering.{AnswersTo, faulted}
use Rattle.qrexec_data.specs.declared.outcome.SessionFault.TheVariants as fault
use Rattle.qrexec_data.proofs.CallerLaws.{none_of}
use Rattle.qrexec_data.proofs.ServingLaws.{serves_one, serves_bad}
use Rattle.qrexec_data.proofs.serving.Serving.read_one.Goals as goal

pub returns-in_ok-hear-in-Ok-Some-clause-step : goal.returns-in_ok-hear-in-Ok-Some-clause-step
returns-in_ok-hear-in-Ok-Some-clause-step g c =
    let body = rw c.in-Ok-Some.field-0-is at c.in-Ok-Some.ensures in
    let m = made c.in-Ok-Some.body.kind c.in-Ok-Some.body.bytes.now in
    let A : ℕ → Type 0 = λ at. AnswersTo g.S.Service.owes m at c.self.inside.answering c.hear.new.self in
    serves_one g.S.Service.owes c.args.self.now _ m (8 + length c.in-Ok-Some.body.bytes.now) c.pass.new.self c.hear.new.self c.is_none.result c.self.view_is body.whole
    (c.pass.ensures ∙ ap (λ n. record c.self.inside.inbox { read = c.self.inside.inbox.read + n }) c.message_len-len.ensures)
    (subst A c.read-at.ensures.at c.in_ok-hear-in-Ok-Some.ensures.ok)
    (none_of c.is_none.result c.outcome.result c.is_none.ensures ∙ ap is_none c.outcome.ensures)

pub returns-in-Err-clause-step : goal.returns-in-Err-clause-step
returns-in-Err-clause-step g c =
    let shows = c.in-Err.ensures in
    serves_bad g.S.Service.owes c.args.self.now _ shows.0 c.fail.new.self c.self.view_is shows.1
    (c.fail.ensures ∙ ap (λ f. faulted (fault.Frame f) c.self.inside.answering) shows.2)
