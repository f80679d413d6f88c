use Rattle.std.proofs.Common.{◌+◌, ◌-◌, ◌∙◌, ap, arith, get_or, ℕ, List}
use Rattle.std.proofs.lemmas.List.{get_or-take, places}
use Rattle.ring_words.specs.Image.{number_piece}
use Rattle.ring_words.proofs.ByteLaws.{low_byte}
use Rattle.ring_words.proofs.PieceLaws.{puts_part}
use Rattle.ring_words.proofs.image.put_field.Goals as goal

pub returns : goal.returns
returns c =
    puts_part (number_piece c.args.offset c.args.bytes c.args.word) c.args.image.now c.copy_from_slice.new.self (c.args.offset + c.args.bytes - c.args.offset)
    (omega arith)
    (c.copy_from_slice.ensures.len ∙ grind (arith, places))
    (omega arith)
    (λ k h. ap (λ (l : List ℕ). get_or l k 0) c.copy_from_slice.ensures.after ∙ get_or-take c.args.bytes c.to_le_bytes.result k 0 h ∙ ap (λ (l : List ℕ). get_or l k 0) c.to_le_bytes.ensures ∙ low_byte 8 c.args.word k (omega (arith, h)))
