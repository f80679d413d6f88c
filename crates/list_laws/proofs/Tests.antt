-- Tests of numbers and of bytes, and what two tests say together.
use Rattle.std.proofs.Common.{◌≡◌, ℕ, arith, List, refl, suc, [], ◌∷◌, length, ◌+◌, ◌<◌, ◌++◌, ap, sym, ◌∙◌, length-append}
use Rattle.std.specs.Prelude.{true, ◌==◌, bytes_eq, false, Bool, ◌&&◌}
use Rattle.std.proofs.lemmas.Bool.Decides.{nat_tests}
use Rattle.std.proofs.lemmas.Slice.Eq.{bytes_eq-Decides}
use Rattle.std.proofs.lemmas.Bool.{eqb-true}
use Rattle.std.specs.Str.{all_ascii_digits}
use Rattle.std.specs.Str.Parse.{digits_value}
use Rattle.std.proofs.lemmas.Str.Parse.{IsNumeralModel, numerals_by_value, tells_all_ascii_digits}

pub equal_self : (x : ℕ) → (x == x) ≡ true
equal_self x = grind arith

pub same_number : (a b : ℕ) → (a == b) ≡ true → a ≡ b
same_number a b h = grind (arith, nat_tests, h)

pub equal_either_way : (a b : ℕ) → (a == b) ≡ (b == a)
equal_either_way a b = grind (arith, nat_tests)

pub same_bytes : (w : List ℕ) → bytes_eq w w ≡ true
same_bytes w = (bytes_eq-Decides w w).1 refl

pub other_bytes : (xs ys : List ℕ) → (xs ≡ ys → ⊥) → bytes_eq xs ys ≡ false
other_bytes xs ys apart = by_test (bytes_eq xs ys) refl
  where
    by_test : (b : Bool) → bytes_eq xs ys ≡ b → bytes_eq xs ys ≡ false
    by_test true is' = absurd (apart ((bytes_eq-Decides xs ys).0 is'))
    by_test false is' = is'

pub no_length : (xs : List ℕ) → (length xs == 0) ≡ true → xs ≡ []
no_length [] is = refl
no_length (x ∷ xs) is = let zero : suc (length xs) ≡ 0 = eqb-true (suc (length xs)) 0 is in absurd (omega (arith, zero))

pub has_length : (xs : List ℕ) → (length xs == 0) ≡ false → xs ≡ [] → ⊥
has_length [] some is = cc
has_length (x ∷ xs) some is = cc

pub not_empty_lem : (xs ys : List ℕ) → 0 < length ys → xs ++ ys ≡ [] → ⊥
not_empty_lem xs ys some is = let size : length xs + length ys ≡ 0 = sym (length-append xs ys) ∙ ap length is in omega (arith, size, some)

pub and_first : (a b : Bool) → (a && b) ≡ true → a ≡ true
and_first true b h = refl
and_first false b h = cc

pub and_second : (a b : Bool) → (a && b) ≡ true → b ≡ true
and_second true b is = is
and_second false b is = cc

-- the numerals are those of base 10
pub decimal_numerals : IsNumeralModel (λ ds. all_ascii_digits ds ≡ true) (digits_value 10)
decimal_numerals = numerals_by_value _ tells_all_ascii_digits
