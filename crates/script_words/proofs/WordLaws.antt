-- A list cut at its first separator.
use Rattle.std.proofs.Common.{◌≡◌, ℕ, ◌+◌, ◌<◌, ◌≤◌, Bool, true, false, not, cond, eqb, ltb, List, [], ◌∷◌, length, take, drop, get_or, Option, Some, None, ◌-◌, refl, ap, sym, subst, ◌∙◌, arith, length-drop}
use Rattle.std.proofs.Math.Seq.{take-length}
use Rattle.std.specs.List.{slice_split, onto_first, position_or_len, position}
use Rattle.std.proofs.lemmas.List.Splits.{slice_split_first, length-slice_split}
use Rattle.std.proofs.lemmas.Bool.Decides.{nat_tests}
use Rattle.std.proofs.lemmas.List.Sums.{position_or_len_is}
use Rattle.std.proofs.lemmas.Bool.{false_from_ne_true}
use Rattle.memchr.specs.Find.{IsFirstByte, is_byte}
use Rattle.script_words.specs.Words.{lines_of, only, without_empty_end}

-- the place that a search finds is that of the first byte that is wanted
pub first_place : (wanted : ℕ) (bytes : List ℕ) (found : Option ℕ) → IsFirstByte (is_byte wanted) bytes found → found ≡ position (λ b. eqb b wanted) bytes
first_place wanted bytes None nowhere =
    let at : position_or_len (λ b. eqb b wanted) bytes ≡ length bytes =
    position_or_len_is (λ b. eqb b wanted) bytes (length bytes) 0 (omega arith) (λ k below. false_from_ne_true (eqb (get_or bytes k 0) wanted) (nowhere k (omega arith) below)) (λ below. absurd (omega (arith, below))) in
    rw at (grind (arith, nat_tests))
first_place wanted bytes (Some i) first =
    let at : position_or_len (λ b. eqb b wanted) bytes ≡ i =
    position_or_len_is (λ b. eqb b wanted) bytes i 0 (omega (arith, first.0.high)) (λ k below. false_from_ne_true (eqb (get_or bytes k 0) wanted) (first.0.before k (omega arith) below)) (λ below. first.1) in
    rw at (grind (arith, nat_tests, first.0.high))

-- a list with no separator is one piece
pub uncut : (p : ℕ → Bool) (xs : List ℕ) → length xs ≤ position_or_len p xs → slice_split p xs ≡ xs ∷ []
uncut p [] none = refl
uncut p (x ∷ xs) none =
    elim (p x) as (λ b. length (x ∷ xs) ≤ cond (not b) (1 + position_or_len p xs) 0 → cond b ([] ∷ slice_split p xs) (onto_first x (slice_split p xs)) ≡ (x ∷ xs) ∷ []) [
      | true ↦ λ h. absurd (omega arith)
      | false ↦ λ h. ap (onto_first x) (uncut p xs (omega arith))
    ] none

found_at : (at count : ℕ) (i : ℕ) → cond (ltb at count) (Some at) None ≡ Some i → (at ≡ i) × (at < count)
found_at at count i is = grind (arith)

missing : (at count : ℕ) → cond (ltb at count) (Some at) None ≡ None → count ≤ at
missing at count is = grind (arith)

pub tail_whole : (k : ℕ) (xs : List ℕ) → take (length xs - k) (drop k xs) ≡ drop k xs
tail_whole k xs = ap (λ n. take n (drop k xs)) (sym (length-drop k xs)) ∙ take-length (drop k xs)

-- if the first separator lies at i, the first piece ends there
pub cut_found : (p : ℕ → Bool) (xs : List ℕ) (i : ℕ) → Some i ≡ position p xs → slice_split p xs ≡ take i xs ∷ slice_split p (take (length xs - (i + 1)) (drop (i + 1) xs))
cut_found p xs i is =
    let found = found_at (position_or_len p xs) (length xs) i (sym is) in
    let at : position_or_len p xs ≡ i = found.0 in
    let front : slice_split p xs ≡ take (position_or_len p xs) xs ∷ slice_split p (drop (position_or_len p xs + 1) xs) = slice_split_first p xs 0 found.1 in
    let family : ℕ → Type 0 = λ k. slice_split p xs ≡ take k xs ∷ slice_split p (drop (k + 1) xs) in
    subst family at front ∙ ap (λ tail. take i xs ∷ slice_split p tail) (sym (tail_whole (i + 1) xs))

pub cut_missing : (p : ℕ → Bool) (xs : List ℕ) → None ≡ position p xs → slice_split p xs ≡ xs ∷ []
cut_missing p xs is = uncut p xs (missing (position_or_len p xs) (length xs) (sym is))

-- a piece with a separator after it is not the only one
not_only : (piece : List ℕ) (more : List (List ℕ)) → 0 < length more → only (piece ∷ more) ≡ None
not_only piece [] some = absurd (omega arith)
not_only piece (next ∷ more) some = refl

pub only_cut : (p : ℕ → Bool) (xs : List ℕ) (i : ℕ) → Some i ≡ position p xs → only (slice_split p xs) ≡ None
only_cut p xs i is =
    let behind : List ℕ = take (length xs - (i + 1)) (drop (i + 1) xs) in
    rw (cut_found p xs i is) (not_only (take i xs) (slice_split p behind) (omega (arith, length-slice_split p behind)))

pub only_uncut : (p : ℕ → Bool) (xs : List ℕ) → None ≡ position p xs → only (slice_split p xs) ≡ Some xs
only_uncut p xs is = rw (cut_missing p xs is) refl

-- what is left after a line feed is not the end of that line
pub line_before : (line : List ℕ) (pieces : List (List ℕ)) → 0 < length pieces → without_empty_end (line ∷ pieces) ≡ line ∷ without_empty_end pieces
line_before line [] some = absurd (omega arith)
line_before line (next ∷ more) some = refl

-- bytes cut at their first line feed are that line and the lines after it
pub lines_of_cut : (bytes line rest : List ℕ) → slice_split (λ b. eqb b 10) bytes ≡ line ∷ slice_split (λ b. eqb b 10) rest → lines_of bytes ≡ line ∷ lines_of rest
lines_of_cut bytes line rest cut =
    ap without_empty_end cut ∙ line_before line (slice_split (λ b. eqb b 10) rest) (omega (arith, length-slice_split (λ b. eqb b 10) rest))

-- bytes with no line feed are one line, if there are any
pub lines_of_uncut : (bytes line : List ℕ) → slice_split (λ b. eqb b 10) bytes ≡ line ∷ [] → line ≡ bytes → 0 < length bytes → lines_of bytes ≡ line ∷ lines_of []
lines_of_uncut bytes line cut whole some =
    let used : eqb (length line) 0 ≡ false = grind (arith, nat_tests, ap (length {A = ℕ}) whole) in ap without_empty_end cut ∙ rw used refl
