use Rattle.std.proofs.Common.{◌<◌, length, refl, sym, ◌∙◌, ap, arith}
use Rattle.std.specs.Prelude.{is_some}
use Rattle.std.proofs.lemmas.Bool.Decides.{nat_tests}
use Rattle.std.proofs.lemmas.Result.{on_ok_weaker}
use Rattle.qrexec_data.specs.Answering.{Late, Fed, faulted}
use Rattle.qrexec_data.specs.declared.outcome.SessionFault.TheVariants as fault
use Rattle.qrexec_data.proofs.AnsweringLaws.{some_if, none_if}
use Rattle.qrexec_data.proofs.answering.Answering.hear_input.Goals as goal

pub returns-then-is_some-clause-ok : goal.returns-then-is_some-clause-ok
returns-then-is_some-clause-ok g c =
    let ended = some_if c.args.self.now.code (ap (λ a. is_some a.code) (sym c.self.view_is) ∙ sym c.is_some.ensures ∙ c.if-is_some.true) in
    Late c.requires c.args.bytes.now refl ended (c.fail.ensures ∙ ap (λ n. faulted (fault.AfterEnd c.args.at n) c.args.self.now) c.number-kind.ensures)

pub returns-else-is_empty-clause-ok : goal.returns-else-is_empty-clause-ok
returns-else-is_empty-clause-ok g c =
    let going = none_if c.args.self.now.code (ap (λ a. is_some a.code) (sym c.self.view_is) ∙ sym c.is_some.ensures ∙ c.if-is_some.false) in
    let some : 0 < length c.args.bytes.now = grind (arith, nat_tests) in
    on_ok_weaker c.feed.result (λ f. Fed c.requires c.args.bytes.now refl some going f) c.feed.ensures.ok
