use Rattle.std.proofs.Common.{◌∙◌, ap, arith, refl, subst, sym}
use Rattle.script_words.specs.ByteStrings.{at_most, Gains}
use Rattle.script_words.proofs.PairLaws.{byte_missing, made_longer, out_of_memory, repeated_few, repeated_many, repeated_no_byte, repeated_no_number, repeated_zero}
use Rattle.script_words.proofs.byte_string.push_repeated.Goals as goal

pub returns-then-high-eq-NO_DIGIT : goal.returns-then-high-eq-NO_DIGIT
returns-then-high-eq-NO_DIGIT c =
    let a = c.args in
    let none = byte_missing a.high a.low c.digit_value-high.result c.digit_value-low.result c.digit_value-high.ensures c.digit_value-low.ensures c.then-high-eq-NO_DIGIT.either in
    record { ok = tt; bad = ap (at_most a.most) (repeated_no_byte a.high a.low a.count.now none); err = refl }

pub returns-in_default : goal.returns-in_default
returns-in_default c =
    let a = c.args in
    record { ok = tt; bad = ap (at_most a.most) (repeated_no_number a.high a.low a.count.now (sym c.parse_number.ensures ∙ c.in_default.is)); err = refl }

pub returns-then-times-eq0 : goal.returns-then-times-eq0
returns-then-times-eq0 c =
    let a = c.args in
    record { ok = tt; bad = ap (at_most a.most) (repeated_zero a.high a.low c.in-Some.times a.count.now (sym c.parse_number.ensures ∙ c.in-Some.is) c.if-times-eq0.true); err = refl }

pub returns-then-times-most : goal.returns-then-times-most
returns-then-times-most c =
    let a = c.args in
    record {
      ok = tt;
      bad = repeated_many a.most a.high a.low c.digit_value-high.result c.digit_value-low.result c.in-Some.times a.count.now c.digit_value-high.ensures c.digit_value-low.ensures c.if-high-eq-NO_DIGIT.false c.if-low-eq-NO_DIGIT.false (sym c.parse_number.ensures ∙ c.in-Some.is) c.if-times-eq0.false c.if-times-most.true;
      err = refl;
    }

pub returns-in_err-resize : goal.returns-in_err-resize
returns-in_err-resize c =
    let a = c.args in
    let due = repeated_few a.most a.high a.low c.digit_value-high.result c.digit_value-low.result c.in-Some.times a.count.now c.digit_value-high.ensures c.digit_value-low.ensures c.if-high-eq-NO_DIGIT.false c.if-low-eq-NO_DIGIT.false (sym c.parse_number.ensures ∙ c.in-Some.is) c.if-times-eq0.false c.if-times-most.false in
    let failed = out_of_memory c.from_residual.result _ a.out.now.items c.resize.new.self.items _ c.from_residual.ensures due c.in_err-resize.ensures.items in
    record { ok = failed.0; bad = failed.1; err = failed.2 }

pub returns : goal.returns
returns c =
    let a = c.args in
    let due = repeated_few a.most a.high a.low c.digit_value-high.result c.digit_value-low.result c.in-Some.times a.count.now c.digit_value-high.ensures c.digit_value-low.ensures c.if-high-eq-NO_DIGIT.false c.if-low-eq-NO_DIGIT.false (sym c.parse_number.ensures ∙ c.in-Some.is) c.if-times-eq0.false c.if-times-most.false in
    let gained = c.in_ok-resize.ensures.items ∙ made_longer a.out.now.items c.len.result _ c.in-Some.times _ c.len.ensures (omega (arith, a.out.now.ok.0)) in
    record { ok = subst (λ due. Gains due a.out.now.items c.resize.new.self.items) (sym due) gained; bad = tt; err = tt }
