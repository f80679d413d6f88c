use Rattle.std.proofs.Common.{sym, ◌∙◌, add-one}
use Rattle.script_words.proofs.NumberLaws.{all_ascii_digits_more, all_ascii_digits_not}
use Rattle.script_words.proofs.number.are_digits.Goals as goal

pub returns-then-not-is_ascii_digit : goal.returns-then-not-is_ascii_digit
returns-then-not-is_ascii_digit c =
    sym (all_ascii_digits_not c.args.word.now c.loop-digit.digit-index c.loop-digit-test.true (sym c.is_ascii_digit.ensures.value ∙ c.if-not-is_ascii_digit.true))

pub loop-digit-preserved : goal.loop-digit-preserved
loop-digit-preserved c =
    rw add-one (all_ascii_digits_more c.args.word.now c.loop-digit.digit-index c.loop-digit-test.true c.loop-digit.invariant (sym c.is_ascii_digit.ensures.value ∙ c.if-not-is_ascii_digit.false))
