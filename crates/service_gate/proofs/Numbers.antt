-- The numbers in the names of services are spelled as they are printed.
use Rattle.std.proofs.Common.{◌≡◌, ◌⊎◌, ℕ, ◌<◌, ◌≤◌, ◌^◌, Bool, true, false, ◌&&◌, nat_le, ◌==◌, if◌then◌else◌, List, ◌++◌, length, take, drop, get_or, decimal, bytes_eq, Option, Some, None, refl, sym, ap, ◌∙◌, arith, lit<, inl, inr, ⊎_elim}
use Rattle.std.specs.Prelude.{◌||◌, not, nat_lt, slice_index, codes, option_and_then}
use Rattle.std.specs.Str.{all_ascii_digits}
use Rattle.std.specs.Str.Parse.{digits_value}
use Rattle.std.proofs.lemmas.Bool.{eqb-true, eqb-false, ltb-true, leb-true, le-leb, lt-ltb, ne_eqb}
use Rattle.std.proofs.lemmas.Fmt.{first_decimal, decimal_digit, digits_decimal, digits_value-decimal, decimal_is_IsNumeral, decimal-digits_value}
use Rattle.std.proofs.lemmas.List.{take-append-drop}
use Rattle.std.proofs.lemmas.Slice.Eq.{bytes_eq-Decides}
use Rattle.list_laws.proofs.Tests.{decimal_numerals}
use Rattle.script_words.specs.Numbers.{number_of}
use Rattle.service_gate.specs.ServiceResult.{service, number_after, most_first, most_exit, IsNumbered, IsName}
use Rattle.service_gate.specs.Triple.{Triple}

-- what the tests of a spelled number say
record IsSpelled (digits some one zero low : Bool) (value n : ℕ) : Type 0 where
  digits_is : digits ≡ true
  some_is : some ≡ true
  first_is : (one ≡ true) ⊎ (zero ≡ false)
  low_is : low ≡ true
  value_is : value ≡ n

by_tests : (digits some one zero low : Bool) (value n : ℕ) → (if ((digits && some) && (one || not zero)) && low then Some value else None) ≡ Some n
    → IsSpelled digits some one zero low value n
by_tests true true true zero true value n is = record { digits_is = refl; some_is = refl; first_is = inl refl; low_is = refl; value_is = cc }
by_tests true true false false true value n is = record { digits_is = refl; some_is = refl; first_is = inr refl; low_is = refl; value_is = cc }
by_tests true true false true low value n is = cc
by_tests true true true zero false value n is = cc
by_tests true true false false false value n is = cc
by_tests true false one zero low value n is = cc
by_tests false some one zero low value n is = cc

-- the number that a text spells is printed as that text
pub spelled : (most : ℕ) (text : List ℕ) (n : ℕ) → most < 2 ^ 64 → number_of most text ≡ Some n → (n ≤ most) × (text ≡ decimal n)
spelled most text n small is =
    let s = by_tests (all_ascii_digits text) (nat_lt 0 (length text)) (length text == 1) (slice_index text 0 == 48) (nat_le (digits_value 10 text) most) (digits_value 10 text) n is in
    let low : digits_value 10 text ≤ most = leb-true (digits_value 10 text) most s.low_is in
    let some : 0 < length text = ltb-true 0 (length text) s.some_is in
    let first : get_or text 0 0 ≡ 48 → length text ≡ 1 = λ zero. ⊎_elim (λ (one : (length text == 1) ≡ true). eqb-true (length text) 1 one) (λ (other : (slice_index text 0 == 48) ≡ false). absurd (eqb-false (get_or text 0 0) 48 other zero)) s.first_is in
    (omega (arith, low, s.value_is), sym (decimal-digits_value decimal_numerals text s.digits_is some first (omega (arith, low))) ∙ ap decimal s.value_is)

-- a name that is no such text has no number
pub unnumbered : (prefix : List ℕ) (most : ℕ) (name : List ℕ) → most < 2 ^ 64 → ¬ IsNumbered prefix most name → number_after prefix most name ≡ None
unnumbered prefix most name small other = by_prefix (bytes_eq (take (length prefix) name) prefix) refl
  where
    rest : List ℕ
    rest = drop (length prefix) name

    by_number : (o : Option ℕ) → number_of most (drop (length prefix) name) ≡ o → name ≡ prefix ++ drop (length prefix) name → o ≡ None
    by_number None is parts = refl
    by_number (Some n) is parts = let s = spelled most (drop (length prefix) name) n small is in absurd (other (n, s.0, parts ∙ ap (λ t. prefix ++ t) s.1))

    by_prefix : (b : Bool) → bytes_eq (take (length prefix) name) prefix ≡ b → option_and_then (number_of most) (if b then Some (drop (length prefix) name) else None) ≡ None
    by_prefix true is =
        let begins : take (length prefix) name ≡ prefix = (bytes_eq-Decides (take (length prefix) name) prefix).0 is in
        by_number (number_of most (drop (length prefix) name)) refl (sym (take-append-drop (length prefix) name) ∙ ap (λ p. p ++ drop (length prefix) name) begins)
    by_prefix false is = refl

-- what is printed of a number spells it
all_tests : (digits some one zero low : Bool) (value : ℕ) → digits ≡ true → some ≡ true → ((one ≡ true) ⊎ (zero ≡ false)) → low ≡ true
    → (if ((digits && some) && (one || not zero)) && low then Some value else None) ≡ Some value
all_tests true true true zero true value d s f l = refl
all_tests true true false false true value d s f l = refl
all_tests true true false true true value d s (inl one) l = cc
all_tests true true false true true value d s (inr first) l = cc
all_tests true true one zero false value d s f l = cc
all_tests true false one zero low value d s f l = cc
all_tests false some one zero low value d s f l = cc

pub number_of_decimal : (most n : ℕ) → most < 2 ^ 64 → n ≤ most → number_of most (decimal n) ≡ Some n
number_of_decimal most n small le =
    let value : digits_value 10 (decimal n) ≡ n = digits_value-decimal decimal_numerals n (omega arith) in
    let some : nat_lt 0 (length (decimal n)) ≡ true = lt-ltb 0 (length (decimal n)) ((decimal_is_IsNumeral n (omega arith)).0.0) in
    let first : ((length (decimal n) == 1) ≡ true) ⊎ ((slice_index (decimal n) 0 == 48) ≡ false) = ⊎_elim
    (λ (zero : n ≡ 0). inl (ap (λ l. length l == 1) (ap decimal zero ∙ decimal_digit 0 (lit< tt))))
    (λ (above : 0 < n). let high = first_decimal n above (omega arith) in inr (ne_eqb (slice_index (decimal n) 0) 48 (λ e. omega (arith, high, e)))) (zero_or_more n) in
    all_tests (all_ascii_digits (decimal n)) _ _ (slice_index (decimal n) 0 == 48) (nat_le (digits_value 10 (decimal n)) most) (digits_value 10 (decimal n))
    (digits_decimal decimal_numerals n (omega arith)) some first (le-leb (digits_value 10 (decimal n)) most (omega (arith, value)))
    ∙ ap Some value
  where
    zero_or_more : (k : ℕ) → (k ≡ 0) ⊎ (0 < k)
    zero_or_more k = grind arith

-- a text that isn't a service's name has no service
no_tests : (echo upper count split : Bool) (a b c d : Triple) (o : Option Triple) → ¬ (echo ≡ true) → ¬ (upper ≡ true) → ¬ (count ≡ true) → ¬ (split ≡ true) → o ≡ None
    → (if echo then Some a else if upper then Some b else if count then Some c else if split then Some d else o) ≡ None
no_tests true upper count split a b c d o e u n s is = absurd (e refl)
no_tests false true count split a b c d o e u n s is = absurd (u refl)
no_tests false false true split a b c d o e u n s is = absurd (n refl)
no_tests false false false true a b c d o e u n s is = absurd (s refl)
no_tests false false false false a b c d o e u n s is = is

is_text : (name text : List ℕ) → bytes_eq name text ≡ true → name ≡ text
is_text name text = (bytes_eq-Decides name text).0

pub unnamed : (name input : List ℕ) → ¬ IsName name → service name input ≡ None
unfolding service
unnamed name input other =
    let first = unnumbered (codes "first+") most_first name (lit< tt) (λ is. other (inr (inr (inr (inr (inl is)))))) in
    let exit = unnumbered (codes "exit+") most_exit name (lit< tt) (λ is. other (inr (inr (inr (inr (inr is)))))) in
    no_tests _ _ _ _ _ _ _ _ _
    (λ is. other (inl (is_text name _ is)))
    (λ is. other (inr (inl (is_text name _ is))))
    (λ is. other (inr (inr (inl (is_text name _ is)))))
    (λ is. other (inr (inr (inr (inl (is_text name _ is))))))
    (rw (first, exit) refl)
