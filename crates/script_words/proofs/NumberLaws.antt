-- Digits read from the left.
use Rattle.std.proofs.Common.{◌≡◌, ℕ, ◌<◌, ◌+◌, ◌&&◌, Bool, true, false, List, [], ◌∷◌, length, take, get_or, suc, zero, None, Some, cond, ◌-◌, ◌*◌, leb, refl, arith}
use Rattle.std.specs.Str.{all_ascii_digits}
use Rattle.std.specs.Str.Parse.{digits_value}
use Rattle.std.proofs.lemmas.Str.{digit_value_digit}
use Rattle.std.proofs.lemmas.Int.Digits.{digits_value_more}
use Rattle.std.proofs.lemmas.Bool.Decides.{nat_tests}
use Rattle.script_words.specs.Numbers.{number_of, is_number}
use Rattle.std.specs.Char.{is_ascii_digit, digit_value}
use Rattle.std.proofs.lemmas.Bool.{and_right, and_left, and_from}
use Rattle.list_laws.proofs.Tests.{and_first, and_second}

-- one more digit
pub all_ascii_digits_more : (bs : List ℕ) (i : ℕ) → i < length bs → all_ascii_digits (take i bs) ≡ true → is_ascii_digit (get_or bs i 0) ≡ true → all_ascii_digits (take (suc i) bs) ≡ true
all_ascii_digits_more [] i within all digit = absurd (omega arith)
all_ascii_digits_more (b ∷ bs) zero within all digit = and_from (is_ascii_digit b) true digit refl
all_ascii_digits_more (b ∷ bs) (suc i) within all digit =
    and_from (is_ascii_digit b) (all_ascii_digits (take (suc i) bs)) (and_first (is_ascii_digit b) (all_ascii_digits (take i bs)) all)
    (all_ascii_digits_more bs i (omega arith) (and_second (is_ascii_digit b) (all_ascii_digits (take i bs)) all) digit)

-- one byte that isn't a digit
pub all_ascii_digits_not : (bs : List ℕ) (i : ℕ) → i < length bs → is_ascii_digit (get_or bs i 0) ≡ false → all_ascii_digits bs ≡ false
all_ascii_digits_not [] i within digit = absurd (omega arith)
all_ascii_digits_not (b ∷ bs) zero within digit = and_left (is_ascii_digit b) (all_ascii_digits bs) digit
all_ascii_digits_not (b ∷ bs) (suc i) within digit =
    and_right (is_ascii_digit b) (all_ascii_digits bs) (all_ascii_digits_not bs i (omega arith) digit)

-- a word with a byte that isn't a digit isn't a number
pub number_of_not_digit : (most : ℕ) (word : List ℕ) (i : ℕ) → i < length word → is_ascii_digit (get_or word i 0) ≡ false → None ≡ number_of most word
number_of_not_digit most word i within digit = rw (all_ascii_digits_not word i within digit) refl

refused : (a b : Bool) (value : ℕ) → b ≡ false → None ≡ cond (a && b) (Some value) None
refused true b value above = rw above refl
refused false b value above = refl

-- nor is one above the most that is allowed
pub number_of_above : (most : ℕ) (word : List ℕ) → most < digits_value 10 word → None ≡ number_of most word
number_of_above most word above = refused (is_number word) (leb (digits_value 10 word) most) (digits_value 10 word) (grind (arith, nat_tests))

digit_is : (c : ℕ) → is_ascii_digit c ≡ true → digit_value c ≡ c - 48
digit_is c digit = omega (arith, digit_value_digit c (grind (arith, nat_tests)))

-- the value of the digits up to the next one
pub next_value : (word : List ℕ) (i value : ℕ) → i < length word → is_ascii_digit (get_or word i 0) ≡ true → value ≡ digits_value 10 (take i word) → value * 10 + (get_or word i 0 - 48) ≡ digits_value 10 (take (i + 1) word)
next_value word i value within digit so_far = omega (arith, digits_value_more 10 word i within, digit_is (get_or word i 0) digit)
