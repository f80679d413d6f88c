use Rattle.std.proofs.Common.{◌≡◌, max, arith}
use Rattle.std.proofs.lemmas.Bool.Decides.{nat_tests}
use Rattle.script_words.proofs.PairLaws.{reads_step, reads_start, reads_all}
use Rattle.script_words.proofs.byte_string.put_pairs.Goals as goal

pub pairs-init : goal.pairs-init
pairs-init c = reads_start c.args.digits.now c.args.out.now

pub pairs-preserved : goal.pairs-preserved
pairs-preserved c =
    let greatest : c.max-greatest.result ≡ max (max c.pairs.greatest c.digit_value-high.result) c.digit_value-low.result = cc in
    rw greatest
    (reads_step c.args.digits.now c.pairs.out c.pairs.i c.pairs.greatest c.digit_value-high.result c.digit_value-low.result _ (omega arith) (omega arith) c.digit_value-high.ensures c.digit_value-low.ensures
    (λ high low. omega arith) c.pairs.invariant)

pub returns-clause-ok : goal.returns-clause-ok
returns-clause-ok c = λ is. reads_all c.args.digits.now c.pairs.out c.pairs.i c.pairs.greatest (omega arith) (omega arith) (grind (arith, nat_tests)) c.pairs.invariant

pub returns-clause-bad : goal.returns-clause-bad
returns-clause-bad c = λ is. c.pairs.invariant.bad (grind (arith, nat_tests))
