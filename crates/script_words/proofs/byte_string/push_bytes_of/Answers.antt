use Rattle.std.proofs.Common.{◌≡◌, ◌∙◌, [], true, false, ap, append-nil, arith, refl, subst, sym}
use Rattle.std.proofs.lemmas.Bool.Decides.{nat_tests}
use Rattle.script_words.specs.ByteStrings.{at_most, has_star, Gains}
use Rattle.script_words.proofs.PairLaws.{dashed, due_few, emptied, starred, told, two_bytes, unstarred}
use Rattle.script_words.proofs.byte_string.push_bytes_of.Goals.{Joined-else-word-gt2, else-word-gt2-via-then-word-gt2+else-word-eq42, else-word-gt2-via-else-word-gt2}
use Rattle.script_words.proofs.byte_string.push_bytes_of.Goals as goal

starless : (c : goal.Joined-else-word-gt2) → has_star c.args.word.now ≡ false
starless c =
    elim c.else-word-gt2.branch [
      | else-word-gt2-via-then-word-gt2+else-word-eq42 w ↦ grind (arith, nat_tests, w.if-word-eq42)
      | else-word-gt2-via-else-word-gt2 w ↦ grind (arith, nat_tests, w.if-word-gt2)
    ]

pub returns-in-len2 : goal.returns-in-len2
returns-in-len2 c =
    let a = c.args in
    let found = told c.push_pair.result a.most _ _ a.out.now.items c.push_pair.new.out.items (two_bytes a.word.now c.in-len2.len_at_least c.in-len2.len_below) c.push_pair.ensures.ok c.push_pair.ensures.bad in
    record { ok = found.0; within = found.1; bad = found.2; err = c.push_pair.ensures.err }

pub returns-then-eq : goal.returns-then-eq
returns-then-eq c =
    let a = c.args in
    let none = dashed a.word.now c.as_slice.result.now c.as_slice.ensures (sym c.eq.ensures ∙ c.if-eq.true) in
    let due = ap (at_most a.most) none ∙ due_few a.most [] (omega arith) in
    record { ok = subst (λ due. Gains due a.out.now.items a.out.now.items) (sym due) (sym (append-nil a.out.now.items)); within = omega arith; bad = tt; err = tt }

pub returns-then-word-eq42 : goal.returns-then-word-eq42
returns-then-word-eq42 c =
    let a = c.args in
    let star : has_star a.word.now ≡ true = grind (arith, nat_tests, c.if-word-gt2.true, c.if-word-eq42.true) in
    let is = starred a.word.now c.as_slice.result.now c.as_slice.ensures (sym c.eq.ensures ∙ c.if-eq.false) star in
    let found = told c.push_repeated.result a.most _ _ a.out.now.items c.push_repeated.new.out.items is c.push_repeated.ensures.ok c.push_repeated.ensures.bad in
    record { ok = found.0; within = found.1; bad = found.2; err = c.push_repeated.ensures.err }

pub returns-then-is_empty : goal.returns-then-is_empty
returns-then-is_empty c =
    let a = c.args in
    let none = emptied a.word.now c.as_slice.result.now c.as_slice.ensures (sym c.eq.ensures ∙ c.if-eq.false) (starless (goal.at.returns-then-is_empty c).Joined-else-word-gt2) (sym c.is_empty.ensures ∙ c.if-is_empty.true) in
    record { ok = tt; within = tt; bad = ap (at_most a.most) none; err = refl }

pub returns-else-is_empty : goal.returns-else-is_empty
returns-else-is_empty c =
    let a = c.args in
    let pairs = unstarred a.word.now c.as_slice.result.now c.as_slice.ensures (sym c.eq.ensures ∙ c.if-eq.false) (starless (goal.at.returns-else-is_empty c).Joined-else-word-gt2) (sym c.is_empty.ensures ∙ c.if-is_empty.false) in
    let found = told c.push_pairs.result a.most _ _ a.out.now.items c.push_pairs.new.out.items pairs c.push_pairs.ensures.ok c.push_pairs.ensures.bad in
    record { ok = found.0; within = found.1; bad = found.2; err = c.push_pairs.ensures.err }
