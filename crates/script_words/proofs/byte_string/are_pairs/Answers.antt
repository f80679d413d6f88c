use Rattle.std.proofs.Common.{sym, ◌∙◌, arith}
use Rattle.script_words.proofs.PairLaws.{pairs_end, pairs_fail, pairs_further}
use Rattle.script_words.proofs.byte_string.are_pairs.Goals as goal

pub returns-then-high-eq-NO_DIGIT : goal.returns-then-high-eq-NO_DIGIT
returns-then-high-eq-NO_DIGIT c =
    let high = c.digit_value-high.result in
    let low = c.digit_value-low.result in
    sym (c.pairs.invariant ∙ pairs_fail c.args.digits.now c.pairs.i high low (omega arith) c.digit_value-high.ensures c.digit_value-low.ensures c.then-high-eq-NO_DIGIT.either)

pub pairs-preserved : goal.pairs-preserved
pairs-preserved c =
    c.pairs.invariant
    ∙ pairs_further c.args.digits.now c.pairs.i c.digit_value-high.result c.digit_value-low.result (omega arith) c.digit_value-high.ensures c.digit_value-low.ensures (λ is. omega (arith, c.if-high-eq-NO_DIGIT.false, is)) (λ is. omega (arith, c.if-low-eq-NO_DIGIT.false, is))

pub returns : goal.returns
returns c = sym (c.pairs.invariant ∙ pairs_end c.args.digits.now c.pairs.i (omega arith))
