use Rattle.std.proofs.Common.{ℕ, [], ◌∷◌, ◌*◌, ◌+◌, ◌∙◌, ap, arith, refl, subst, sym}
use Rattle.script_words.specs.ByteStrings.{at_most, Gains}
use Rattle.script_words.proofs.PairLaws.{byte_missing, due_few, due_many, out_of_memory, pair_is, pairs_none}
use Rattle.script_words.proofs.byte_string.push_pair.Goals as goal

pub returns-then-high-eq-NO_DIGIT : goal.returns-then-high-eq-NO_DIGIT
returns-then-high-eq-NO_DIGIT c =
    let a = c.args in
    let none = byte_missing a.high a.low c.digit_value-high.result c.digit_value-low.result c.digit_value-high.ensures c.digit_value-low.ensures c.then-high-eq-NO_DIGIT.either in
    record { ok = tt; bad = ap (at_most a.most) (pairs_none a.high a.low [] none); err = refl }

pub returns-then-most-eq0 : goal.returns-then-most-eq0
returns-then-most-eq0 c =
    let a = c.args in
    let byte : ℕ = c.digit_value-high.result * 16 + c.digit_value-low.result in
    let pair = pair_is a.high a.low c.digit_value-high.result c.digit_value-low.result c.digit_value-high.ensures c.digit_value-low.ensures c.if-high-eq-NO_DIGIT.false c.if-low-eq-NO_DIGIT.false in
    record { ok = tt; bad = ap (at_most a.most) pair ∙ due_many a.most (byte ∷ []) (omega arith); err = refl }

pub returns-in_err-extend_from_slice : goal.returns-in_err-extend_from_slice
returns-in_err-extend_from_slice c =
    let a = c.args in
    let byte : ℕ = c.digit_value-high.result * 16 + c.digit_value-low.result in
    let pair = pair_is a.high a.low c.digit_value-high.result c.digit_value-low.result c.digit_value-high.ensures c.digit_value-low.ensures c.if-high-eq-NO_DIGIT.false c.if-low-eq-NO_DIGIT.false in
    let due = ap (at_most a.most) pair ∙ due_few a.most (byte ∷ []) (omega arith) in
    let failed = out_of_memory c.from_residual.result _ a.out.now.items c.extend_from_slice.new.self.items _ c.from_residual.ensures due c.in_err-extend_from_slice.ensures.items in
    record { ok = failed.0; bad = failed.1; err = failed.2 }

pub returns : goal.returns
returns c =
    let a = c.args in
    let byte : ℕ = c.digit_value-high.result * 16 + c.digit_value-low.result in
    let pair = pair_is a.high a.low c.digit_value-high.result c.digit_value-low.result c.digit_value-high.ensures c.digit_value-low.ensures c.if-high-eq-NO_DIGIT.false c.if-low-eq-NO_DIGIT.false in
    let due = ap (at_most a.most) pair ∙ due_few a.most (byte ∷ []) (omega arith) in
    record { ok = subst (λ due. Gains due a.out.now.items c.extend_from_slice.new.self.items) (sym due) c.in_ok-extend_from_slice.ensures.items; bad = tt; err = tt }
