use Rattle.std.proofs.Common.{◌≡◌, ◌∙◌, ◌++◌, List, ℕ, ap, sym, subst, append_assoc}
use Rattle.std.specs.Prelude.{codes}
use Rattle.qrexec_frame.specs.Texts.{HasNoNul}
use Rattle.task_duties.specs.Words.{exec_line, user}
use Rattle.broker_task.proofs.reply.line_of.Goals.{After-deref}
use Rattle.broker_task.proofs.reply.line_of.Goals as goal

-- what was written is the line
written : (c : After-deref) → c.deref.result.now ≡ exec_line c.args.service.now c.args.from.now
written c =
    let begun : c.extend_from_slice.new.self.items ≡ user = c.in_ok-extend_from_slice.ensures.items ∙ ap (λ (v : List ℕ). v ++ user) c.in_ok-line.ensures.items in
    let service = c.in_ok-extend_from_slice-2.ensures.items ∙ (λ i. begun i ++ c.bytes.ensures.bytes i) in
    let space = c.in_ok-push.ensures.items ∙ ap (λ (v : List ℕ). v ++ codes " ") service in
    c.deref.ensures.value ∙ c.in_ok-extend_from_slice-3.ensures.items ∙ (λ i. space i ++ c.bytes-2.ensures.bytes i) ∙ ap (λ (v : List ℕ). user ++ v) (append_assoc c.args.service.now (codes " ") c.args.from.now)

pub returns-in-Ok-clause-line : goal.returns-in-Ok-clause-line
returns-in-Ok-clause-line c = c.in-Ok.ensures.text ∙ written (goal.at.returns-in-Ok-clause-line c).After-deref

pub returns-in-Ok-clause-no_nul : goal.returns-in-Ok-clause-no_nul
returns-in-Ok-clause-no_nul c = subst HasNoNul (sym c.in-Ok.ensures.text) (record { none = λ has. let bad = c.in-Ok.ensures.nul.1 has in cc })
