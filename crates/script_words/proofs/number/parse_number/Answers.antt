use Rattle.std.proofs.Common.{◌+◌, sym, ◌∙◌, arith, add-one}
use Rattle.std.proofs.lemmas.Str.Parse.{digits_value-take-le}
use Rattle.script_words.proofs.NumberLaws.{number_of_not_digit, number_of_above, next_value, all_ascii_digits_more}
use Rattle.script_words.proofs.number.parse_number.Goals as goal

pub returns-then-not-is_ascii_digit : goal.returns-then-not-is_ascii_digit
returns-then-not-is_ascii_digit c =
    number_of_not_digit c.args.most c.args.word.now c.loop-digit.digit-index c.loop-digit-test.true (sym c.is_ascii_digit.ensures.value ∙ c.if-not-is_ascii_digit.true)

pub returns-then-longer-most : goal.returns-then-longer-most
returns-then-longer-most c =
    number_of_above c.args.most c.args.word.now
    (omega (
      arith,
      next_value c.args.word.now c.loop-digit.digit-index c.loop-digit.value c.loop-digit-test.true (sym c.is_ascii_digit.ensures.value ∙ c.if-not-is_ascii_digit.false) c.loop-digit.invariant.value,
      digits_value-take-le 10 c.args.word.now (c.loop-digit.digit-index + 1),
      c.in-Some.ensures,
    ))

pub returns-in_default : goal.returns-in_default
returns-in_default c =
    number_of_above c.args.most c.args.word.now
    (omega (
      arith,
      next_value c.args.word.now c.loop-digit.digit-index c.loop-digit.value c.loop-digit-test.true (sym c.is_ascii_digit.ensures.value ∙ c.if-not-is_ascii_digit.false) c.loop-digit.invariant.value,
      digits_value-take-le 10 c.args.word.now (c.loop-digit.digit-index + 1),
      c.in_default.ensures,
    ))

pub loop-digit-preserved : goal.loop-digit-preserved
loop-digit-preserved c =
    let digit = sym c.is_ascii_digit.ensures.value ∙ c.if-not-is_ascii_digit.false in
    record {
      digits = rw add-one (all_ascii_digits_more c.args.word.now c.loop-digit.digit-index c.loop-digit-test.true c.loop-digit.invariant.digits digit);
      value = c.in-Some.ensures ∙ (next_value c.args.word.now c.loop-digit.digit-index c.loop-digit.value c.loop-digit-test.true digit c.loop-digit.invariant.value);
      within = omega arith;
    }
