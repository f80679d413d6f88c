-- Bytes in hexadecimal, one after another.
use Rattle.std.proofs.Common.{◌≡◌, ℕ, ◌+◌, ◌<◌, ◌/◌, ◌%◌, List, [], ◌∷◌, ◌++◌, length, take, get_or, refl, ap, ◌∙◌}
use Rattle.std.specs.Prelude.{slice_index}
use Rattle.std.proofs.lemmas.List.{take_more}
use Rattle.hex.specs.Hex.{encode_with}

encode_append : (t xs ys : List ℕ) → encode_with t (xs ++ ys) ≡ encode_with t xs ++ encode_with t ys
unfolding encode_with
encode_append t [] ys = refl
encode_append t (x ∷ xs) ys = ap (λ (l : List ℕ). slice_index t (x / 16) ∷ slice_index t (x % 16) ∷ l) (encode_append t xs ys)

-- no bytes yet
pub encode_none : (t xs : List ℕ) → encode_with t (take 0 xs) ≡ []
unfolding encode_with
encode_none t xs = refl

-- one more byte
pub encode_more : (t xs : List ℕ) (i : ℕ) → i < length xs → encode_with t (take (i + 1) xs) ≡ encode_with t (take i xs) ++ slice_index t (get_or xs i 0 / 16) ∷ slice_index t (get_or xs i 0 % 16) ∷ []
unfolding encode_with
encode_more t xs i within = ap (encode_with t) (take_more xs i 0 within) ∙ encode_append t (take i xs) (get_or xs i 0 ∷ [])
