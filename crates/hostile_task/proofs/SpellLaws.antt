-- What is spelled out: idents, and numbered triggers.
use Rattle.std.proofs.Common.{◌≡◌, ℕ, ◌+◌, ◌<◌, ◌^◌, suc, zero, List, [], ◌∷◌, ◌++◌, length, sym, subst, ap, ◌∙◌, append_assoc, arith, decimal, true, ⊎_elim, slice_index_or}
use Rattle.std.specs.Prelude.{Contains, codes}
use Rattle.std.specs.Str.{all_ascii_digits}
use Rattle.std.specs.Char.{is_ascii_digit}
use Rattle.std.proofs.lemmas.Fmt.{digits_decimal}
use Rattle.std.proofs.lemmas.Bool.{and_parts, false≢true}
use Rattle.std.proofs.lemmas.List.Elements.{Contains-append_cases}
use Rattle.std.specs.List.{flat_map}
use Rattle.std.proofs.lemmas.Grind.{flat_map-append}
use Rattle.std.proofs.lemmas.List.{append-nil}
use Rattle.list_laws.proofs.Tests.{decimal_numerals}
use Rattle.task_duties.specs.Places.{numbers}
use Rattle.task_duties.proofs.Places.{numbers_more}

-- one text more after the others
pub flat_map_numbers : (f : ℕ → List ℕ) (before : List ℕ) (count : ℕ) → (before ++ flat_map f (numbers 1 1 count)) ++ f (count + 1) ≡ before ++ flat_map f (numbers 1 1 (suc count))
flat_map_numbers f before count =
    append_assoc before (flat_map f (numbers 1 1 count)) (f (count + 1))
    ∙ ap (λ (more : List ℕ). before ++ more)
    (ap (λ (last : List ℕ). flat_map f (numbers 1 1 count) ++ last) (ap f (omega arith) ∙ sym (append-nil (f (1 + count))))
    ∙ sym (flat_map-append f (numbers 1 1 count) ((1 + count) ∷ [])) ∙ ap (λ (ns : List ℕ). flat_map f ns) (sym (numbers_more 1 count)))

-- ---- idents

no_nul_digit : (ds : List ℕ) → all_ascii_digits ds ≡ true → ¬ Contains ds 0
no_nul_digit [] all (k, within, is) = omega arith
no_nul_digit (d ∷ ds) all (k, within, is) = by_place k within is (λ j w e. no_nul_digit ds parts.1 (j, w, e))
  where
    parts : (is_ascii_digit d ≡ true) × (all_ascii_digits ds ≡ true)
    parts = and_parts (is_ascii_digit d) (all_ascii_digits ds) all

    by_place : (j : ℕ) → j < length (d ∷ ds) → slice_index_or (d ∷ ds) j 0 ≡ 0 → ((i : ℕ) → i < length ds → slice_index_or ds i 0 ≡ 0 → ⊥) → ⊥
    by_place zero w e more = let zero_passes = subst (λ (y : ℕ). is_ascii_digit y ≡ true) e parts.0 in false≢true zero_passes
    by_place (suc j) w e more = more j (omega (arith, w)) e

no_nul_letter : ¬ Contains (codes "h-") 0
no_nul_letter (zero, within, is) = cc
no_nul_letter (suc zero, within, is) = cc
no_nul_letter (suc (suc k), within, is) = omega arith

pub no_nul_ident : (number : ℕ) → number < 2 ^ 32 → ¬ Contains (codes "h-" ++ decimal number) 0
no_nul_ident number small has = ⊎_elim no_nul_letter (no_nul_digit (decimal number) (digits_decimal decimal_numerals number (omega (arith, small)))) (Contains-append_cases (codes "h-") (decimal number) 0 has)
