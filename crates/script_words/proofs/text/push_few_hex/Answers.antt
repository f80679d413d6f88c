use Rattle.std.proofs.Common.{ℕ, ◌++◌, ◌∷◌, [], ◌/◌, ◌%◌, List, take, get_or, append-nil, sym, ap, ◌∙◌}
use Rattle.std.specs.Prelude.{slice_index}
use Rattle.std.proofs.lemmas.List.{append_assoc}
use Rattle.hex.specs.Hex.{encode_lower, lower_digits}
use Rattle.script_words.proofs.HexLaws.{encode_more, encode_none}
use Rattle.script_words.proofs.text.push_few_hex.Goals as goal

pub loop-byte-init : goal.loop-byte-init
loop-byte-init c = sym (ap (λ (l : List ℕ). c.args.out.now.items ++ l) (encode_none lower_digits []) ∙ append-nil c.args.out.now.items)

pub loop-byte-preserved : goal.loop-byte-preserved
loop-byte-preserved c =
    let old : List ℕ = c.args.out.now.items in
    let byte : ℕ = get_or c.args.bytes.now c.loop-byte.byte-index 0 in
    let pair : List ℕ = slice_index lower_digits (byte / 16) ∷ slice_index lower_digits (byte % 16) ∷ [] in
    c.in_ok-extend_from_slice.ensures.items
    ∙ ap (λ (l : List ℕ). l ++ pair) c.loop-byte.invariant
    ∙ append_assoc old (encode_lower (take c.loop-byte.byte-index c.args.bytes.now)) pair
    ∙ ap (λ (l : List ℕ). old ++ l) (sym (encode_more lower_digits c.args.bytes.now c.loop-byte.byte-index c.loop-byte-test.true))
