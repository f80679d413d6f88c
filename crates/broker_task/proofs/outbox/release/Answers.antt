use Rattle.std.proofs.Common.{◌≡◌, ◌∙◌, ap, sym, length, arith}
use Rattle.broker_task.specs.Letters.{released}
use Rattle.broker_task.proofs.Lists.{mapped, mapped_none, mapped_all}
use Rattle.broker_task.proofs.LetterLaws.{release_next, keep_next}
use Rattle.broker_task.proofs.outbox.release.Goals as goal
use Rattle.broker_task.proofs.outbox.release.Goals.{then-connects, else-connects}

pub loop-letter-init : goal.loop-letter-init
loop-letter-init c = sym (mapped_none (released c.args.target c.args.meant) c.args.letters.now)

pub loop-letter-preserved : goal.loop-letter-preserved
loop-letter-preserved c = elim c.if-connects.branch [
  | then-connects w ↦ release_next c.args.target c.args.meant c.args.letters.now c.loop-letter.letters _ c.loop-letter.letter-index c.letter-item.result (omega arith) c.loop-letter.invariant c.letter-item.is w.if-connects.ensures w.letters-is
  | else-connects w ↦ keep_next c.args.target c.args.meant c.args.letters.now c.loop-letter.letters _ c.loop-letter.letter-index c.letter-item.result (omega arith) c.loop-letter.invariant c.letter-item.is w.if-connects.ensures w.letters-is
]

pub returns : goal.returns
returns c =
    let all = c.args.letters.now in
    let end : c.loop-letter.letter-index ≡ length all = omega arith in
    c.loop-letter.invariant ∙ ap (λ n. mapped (released c.args.target c.args.meant) all n) end ∙ mapped_all (released c.args.target c.args.meant) all
