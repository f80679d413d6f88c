-- Words joined by spaces.
use Rattle.std.proofs.Common.{◌≡◌, ℕ, List, [], ◌∷◌, ◌++◌, ap, sym, append-nil}
use Rattle.std.specs.List.{join_with_byte}
use Rattle.script_words.specs.Text.{spaced}

-- words with one space between each two are the first word and the others after a space each
pub join_spaced : (word : List ℕ) (words : List (List ℕ)) → join_with_byte 32 (word ∷ words) ≡ word ++ spaced words
join_spaced word [] = sym (append-nil word)
join_spaced word (next ∷ more) = ap (λ (l : List ℕ). word ++ 32 ∷ l) (join_spaced next more)
