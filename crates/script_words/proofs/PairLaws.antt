-- Pairs of digits, read one after another, and a pair that is repeated; and what an append of their bytes comes to.
use Rattle.std.proofs.Common.{◌≡◌, ◌⊎◌, Bool, true, false, is_some, ℕ, ◌+◌, ◌-◌, ◌*◌, ◌%◌, ◌<◌, ◌≤◌, List, [], ◌∷◌, ◌++◌, length, take, drop, get_or, set, Option, Some, None, Result, Ok, Err, OnOk, OnErr, IfErr, IsOk, length-append, replicate, eqb, cond, ltb, subst, unwrap_or, suc, inl, inr, refl, sym, ap, ◌∙◌, arith, max, codes}
use Rattle.std.specs.Prelude.{bytes_eq, slice_index}
use Rattle.std.specs.Result.{IsErr, IsErrAnd}
use Rattle.std.proofs.lemmas.List.{append_assoc, append-nil, drop_all, drop_more, length-replicate, take_all, take_more_set}
use Rattle.std.specs.Option.{option_and_then}
use Rattle.std.proofs.lemmas.Bool.{cases_lt}
use Rattle.std.proofs.lemmas.Bool.Decides.{nat_tests}
use Rattle.hex.specs.Hex.{hex_digit_value}
use Rattle.script_words.proofs.WordLaws.{tail_whole}
use Rattle.script_words.specs.Numbers.{number_of}
use Rattle.script_words.specs.ByteStrings.{at_most, byte_of, byte_string, bytes_of_pairs, has_star, repeated, Gains, IsPushRefusal, ByteFault, BadHex, TooManyBytes, ◌>>=◌}
use Rattle.script_words.specs.declared.byte_string.PushError.{PushError}
use Rattle.script_words.specs.declared.byte_string.PushError.TheVariants as push

-- the bytes before those of the pairs that are left
abbrev pub behind : List ℕ → Option (List ℕ) → Option (List ℕ)
behind front None = None
behind front (Some rest) = Some (front ++ rest)

-- what the pairs are known to be after some of them: as long as no byte was found that isn't a digit, the bytes so far stand before those of the pairs that are left
pub record Reads (digits out : List ℕ) (i greatest : ℕ) : Type 0 where
  pub good : greatest < 16 → bytes_of_pairs digits ≡ behind (take i out) (bytes_of_pairs (drop (2 * i) digits))
  pub bad : 16 ≤ greatest → bytes_of_pairs digits ≡ None

behind_nil : (o : Option (List ℕ)) → o ≡ behind [] o
behind_nil None = refl
behind_nil (Some rest) = refl

behind_cons : (front : List ℕ) (byte : ℕ) (o : Option (List ℕ)) → behind front (o >>= (λ bytes. Some (byte ∷ bytes))) ≡ behind (front ++ byte ∷ []) o
behind_cons front byte None = refl
behind_cons front byte (Some rest) = ap Some (sym (append_assoc front (byte ∷ []) rest))

-- what is left of the digits, at a whole pair
drop_pair : (digits : List ℕ) (i : ℕ) → 2 * i + 1 < length digits → drop (2 * i) digits ≡ get_or digits (2 * i) 0 ∷ get_or digits (2 * i + 1) 0 ∷ drop (2 * (i + 1)) digits
drop_pair digits i within =
    let a = drop_more digits (2 * i) 0 (omega arith) in
    let b = drop_more digits (2 * i + 1) 0 (omega arith) in
    let two : 2 * i + 1 + 1 ≡ 2 * (i + 1) = omega arith in
    rw (a, b, two) refl

-- a pair that is a byte
pairs_byte : (high low byte : ℕ) (rest : List ℕ) → byte_of high low ≡ Some byte → bytes_of_pairs (high ∷ low ∷ rest) ≡ (bytes_of_pairs rest >>= (λ bytes. Some (byte ∷ bytes)))
unfolding bytes_of_pairs
pairs_byte high low byte rest is = rw is refl

-- a pair that is none
pub pairs_none : (high low : ℕ) (rest : List ℕ) → byte_of high low ≡ None → bytes_of_pairs (high ∷ low ∷ rest) ≡ None
unfolding bytes_of_pairs
pairs_none high low rest is = rw is refl

-- a value below 16 is that of a digit
some_value : (o : Option ℕ) (v : ℕ) → v ≡ unwrap_or o 16 → v < 16 → o ≡ Some v
some_value None v is below = absurd (omega arith)
some_value (Some w) v is below = ap Some (sym is)

-- and a byte whose value is not below 16 is none
no_value : (c : ℕ) → 16 ≤ unwrap_or (hex_digit_value c) 16 → hex_digit_value c ≡ None
no_value c above = grind (arith, nat_tests)

-- two values below 16 are those of a byte
byte_is : (high low h l : ℕ) → h ≡ unwrap_or (hex_digit_value high) 16 → l ≡ unwrap_or (hex_digit_value low) 16 → h < 16 → l < 16 → byte_of high low ≡ Some (h * 16 + l)
byte_is high low h l high_is low_is high_below low_below =
    let a = some_value (hex_digit_value high) h high_is high_below in
    let b = some_value (hex_digit_value low) l low_is low_below in
    rw (a, b) refl

no_byte_high : (high low : ℕ) → 16 ≤ unwrap_or (hex_digit_value high) 16 → byte_of high low ≡ None
no_byte_high high low above = rw (no_value high above) refl

none_behind : (o : Option ℕ) → option_and_then {T = ℕ} {U = ℕ} (λ h. option_and_then {T = ℕ} {U = ℕ} (λ l. Some (h * 16 + l)) None) o ≡ None
none_behind None = refl
none_behind (Some h) = refl

no_byte_low : (high low : ℕ) → 16 ≤ unwrap_or (hex_digit_value low) 16 → byte_of high low ≡ None
no_byte_low high low above = rw (no_value low above) (none_behind (hex_digit_value high))

-- at a pair that isn't a byte there is none of all pairs
reads_none : (digits out : List ℕ) (i : ℕ) → 2 * i + 1 < length digits → byte_of (get_or digits (2 * i) 0) (get_or digits (2 * i + 1) 0) ≡ None → bytes_of_pairs digits ≡ behind (take i out) (bytes_of_pairs (drop (2 * i) digits)) → bytes_of_pairs digits ≡ None
reads_none digits out i within none so_far =
    so_far ∙ ap (behind (take i out)) (ap bytes_of_pairs (drop_pair digits i within) ∙ pairs_none (get_or digits (2 * i) 0) (get_or digits (2 * i + 1) 0) (drop (2 * (i + 1)) digits) none)

-- one byte more
reads_byte : (digits out : List ℕ) (i byte : ℕ) → 2 * i + 1 < length digits → i < length out → byte_of (get_or digits (2 * i) 0) (get_or digits (2 * i + 1) 0) ≡ Some byte → bytes_of_pairs digits ≡ behind (take i out) (bytes_of_pairs (drop (2 * i) digits))
    → bytes_of_pairs digits ≡ behind (take (i + 1) (set out i byte)) (bytes_of_pairs (drop (2 * (i + 1)) digits))
reads_byte digits out i byte within room is so_far =
    let rest : List ℕ = drop (2 * (i + 1)) digits in
    so_far ∙ ap (behind (take i out)) (ap bytes_of_pairs (drop_pair digits i within) ∙ pairs_byte (get_or digits (2 * i) 0) (get_or digits (2 * i + 1) 0) byte rest is)
    ∙ behind_cons (take i out) byte (bytes_of_pairs rest)
    ∙ ap (λ (front : List ℕ). behind front (bytes_of_pairs rest)) (sym (take_more_set out i byte room))

-- one pair more
pub reads_step : (digits out : List ℕ) (i greatest high low byte : ℕ) → 2 * i + 1 < length digits → i < length out → high ≡ unwrap_or (hex_digit_value (get_or digits (2 * i) 0)) 16 → low ≡ unwrap_or (hex_digit_value (get_or digits (2 * i + 1) 0)) 16 → (high < 16 → low < 16 → byte ≡ high * 16 + low) → Reads digits out i greatest
    → Reads digits (set out i byte) (i + 1) (max (max greatest high) low)
reads_step digits out i greatest high low byte within room high_is low_is byte_of_values reads = record {
  good = λ below.
      let h : high < 16 = omega arith in
      let l : low < 16 = omega arith in
      let is = byte_is (get_or digits (2 * i) 0) (get_or digits (2 * i + 1) 0) high low high_is low_is h l in
      reads_byte digits out i byte within room (is ∙ ap Some (sym (byte_of_values h l))) (reads.good (omega arith));
  bad = λ above. bad_pair digits out i greatest high low within high_is low_is reads above;
}
  where
    bad_pair : (digits out : List ℕ) (i greatest high low : ℕ) → 2 * i + 1 < length digits → high ≡ unwrap_or (hex_digit_value (get_or digits (2 * i) 0)) 16 → low ≡ unwrap_or (hex_digit_value (get_or digits (2 * i + 1) 0)) 16 → Reads digits out i greatest → 16 ≤ max (max greatest high) low → bytes_of_pairs digits ≡ None
    bad_pair digits out i greatest high low within high_is low_is reads above =
        elim (cases_lt greatest 16) [
          | inr was ↦ reads.bad was
          | inl still ↦
              elim (cases_lt high 16) [
                | inr above_high ↦ reads_none digits out i within (no_byte_high (get_or digits (2 * i) 0) (get_or digits (2 * i + 1) 0) (omega arith)) (reads.good still)
                | inl below_high ↦ reads_none digits out i within (no_byte_low (get_or digits (2 * i) 0) (get_or digits (2 * i + 1) 0) (omega arith)) (reads.good still)
              ]
        ]

after_none : (byte : Option ℕ) (bytes : Option (List ℕ)) → bytes ≡ None → (byte >>= (λ b. bytes >>= (λ rest. Some (b ∷ rest)))) ≡ None
after_none None bytes none = refl
after_none (Some b) bytes none = rw none refl

-- an odd number of digits is none
pub bytes_of_pairs_odd : (digits : List ℕ) → 0 < length digits % 2 → bytes_of_pairs digits ≡ None
unfolding bytes_of_pairs
bytes_of_pairs_odd [] odd = absurd (omega arith)
bytes_of_pairs_odd (digit ∷ []) odd = refl
bytes_of_pairs_odd (high ∷ low ∷ rest) odd = after_none (byte_of high low) (bytes_of_pairs rest) (bytes_of_pairs_odd rest (omega arith))

-- nothing is read yet
pub reads_start : (digits out : List ℕ) → Reads digits out 0 0
reads_start digits out = record {
  good = λ below. behind_nil (bytes_of_pairs digits);
  bad = λ above. absurd (omega arith);
}

-- all pairs are read
pub reads_all : (digits out : List ℕ) (i greatest : ℕ) → length out ≤ i → length digits ≤ 2 * i → greatest < 16 → Reads digits out i greatest → bytes_of_pairs digits ≡ Some out
unfolding bytes_of_pairs
reads_all digits out i greatest whole none_left below reads =
    reads.good below ∙ ap (behind (take i out)) (ap bytes_of_pairs (drop_all (2 * i) digits none_left)) ∙ ap Some (append-nil (take i out) ∙ take_all i out whole)

-- a value that isn't 16 is that of a digit
digit_known : (o : Option ℕ) (v : ℕ) → v ≡ unwrap_or o 16 → ¬ (v ≡ 16) → o ≡ Some v
digit_known None v is other = absurd (other is)
digit_known (Some w) v is other = ap Some (sym is)

-- two such values are those of a byte
byte_known : (high low h l : ℕ) → h ≡ unwrap_or (hex_digit_value high) 16 → l ≡ unwrap_or (hex_digit_value low) 16 → ¬ (h ≡ 16) → ¬ (l ≡ 16) → byte_of high low ≡ Some (h * 16 + l)
byte_known high low h l high_is low_is good also =
    let a = digit_known (hex_digit_value high) h high_is good in
    let b = digit_known (hex_digit_value low) l low_is also in
    rw (a, b) refl

-- and if one of them is 16, they are none
pub byte_missing : (high low h l : ℕ) → h ≡ unwrap_or (hex_digit_value high) 16 → l ≡ unwrap_or (hex_digit_value low) 16 → (h ≡ 16) ⊎ (¬ (h ≡ 16) × (l ≡ 16)) → byte_of high low ≡ None
byte_missing high low h l high_is low_is (inl is) = no_byte_high high low (omega arith)
byte_missing high low h l high_is low_is (inr is) = no_byte_low high low (omega (arith, is.1))

one_more : (byte : ℕ) (o : Option (List ℕ)) → is_some (o >>= (λ bytes. Some (byte ∷ bytes))) ≡ is_some o
one_more byte None = refl
one_more byte (Some bytes) = refl

-- after a pair that is a byte, all are pairs if the rest are
pub pairs_further : (digits : List ℕ) (i high low : ℕ) → 2 * i + 1 < length digits → high ≡ unwrap_or (hex_digit_value (get_or digits (2 * i) 0)) 16 → low ≡ unwrap_or (hex_digit_value (get_or digits (2 * i + 1) 0)) 16 → ¬ (high ≡ 16) → ¬ (low ≡ 16) →
    is_some (bytes_of_pairs (drop (2 * i) digits)) ≡ is_some (bytes_of_pairs (drop (2 * (i + 1)) digits))
pairs_further digits i high low within high_is low_is good also =
    let rest : List ℕ = drop (2 * (i + 1)) digits in
    let byte = byte_known (get_or digits (2 * i) 0) (get_or digits (2 * i + 1) 0) high low high_is low_is good also in
    ap (λ (l : List ℕ). is_some (bytes_of_pairs l)) (drop_pair digits i within)
    ∙ ap (is_some {T = List ℕ}) (pairs_byte (get_or digits (2 * i) 0) (get_or digits (2 * i + 1) 0) (high * 16 + low) rest byte)
    ∙ one_more (high * 16 + low) (bytes_of_pairs rest)

-- a pair with a byte that isn't a digit isn't a byte
pub pairs_fail : (digits : List ℕ) (i high low : ℕ) → 2 * i + 1 < length digits → high ≡ unwrap_or (hex_digit_value (get_or digits (2 * i) 0)) 16 → low ≡ unwrap_or (hex_digit_value (get_or digits (2 * i + 1) 0)) 16 → (high ≡ 16) ⊎ (¬ (high ≡ 16) × (low ≡ 16)) →
    is_some (bytes_of_pairs (drop (2 * i) digits)) ≡ false
pairs_fail digits i high low within high_is low_is bad =
    let none = byte_missing (get_or digits (2 * i) 0) (get_or digits (2 * i + 1) 0) high low high_is low_is bad in
    ap (λ (l : List ℕ). is_some (bytes_of_pairs l)) (drop_pair digits i within)
    ∙ ap (is_some {T = List ℕ}) (pairs_none (get_or digits (2 * i) 0) (get_or digits (2 * i + 1) 0) (drop (2 * (i + 1)) digits) none)

-- no digit is left
pub pairs_end : (digits : List ℕ) (i : ℕ) → length digits ≤ 2 * i → is_some (bytes_of_pairs (drop (2 * i) digits)) ≡ true
unfolding bytes_of_pairs
pairs_end digits i none = ap (λ (l : List ℕ). is_some (bytes_of_pairs l)) (drop_all (2 * i) digits none)

-- a word of two bytes is a pair
two_other : (high low : ℕ) → bytes_eq (high ∷ low ∷ []) (codes "-") ≡ false
two_other high low = grind (arith, nat_tests)

pub two_bytes : (word : List ℕ) → 2 ≤ length word → length word < 3 → byte_string word ≡ bytes_of_pairs (get_or word 0 0 ∷ get_or word 1 0 ∷ [])
two_bytes [] two none = absurd (omega arith)
two_bytes (high ∷ []) two none = absurd (omega arith)
two_bytes (high ∷ low ∷ []) two none = rw (two_other high low) refl
two_bytes (high ∷ low ∷ more ∷ rest) two none = absurd (omega arith)

-- a dash has no bytes
pub dashed : (word dash : List ℕ) → dash ≡ codes "-" → bytes_eq word dash ≡ true → byte_string word ≡ Some []
dashed word dash is same =
    let yes : bytes_eq word (codes "-") ≡ true = ap (bytes_eq word) (sym is) ∙ same in rw yes refl

-- a word without either is pairs, unless it is empty
pub unstarred : (word dash : List ℕ) → dash ≡ codes "-" → bytes_eq word dash ≡ false → has_star word ≡ false → eqb (length word) 0 ≡ false → byte_string word ≡ bytes_of_pairs word
unstarred word dash is other star some =
    let no : bytes_eq word (codes "-") ≡ false = ap (bytes_eq word) (sym is) ∙ other in rw (no, star, some) refl

pub emptied : (word dash : List ℕ) → dash ≡ codes "-" → bytes_eq word dash ≡ false → has_star word ≡ false → eqb (length word) 0 ≡ true → byte_string word ≡ None
emptied word dash is other star none =
    let no : bytes_eq word (codes "-") ≡ false = ap (bytes_eq word) (sym is) ∙ other in rw (no, star, none) refl

-- a word with a star is a byte that is repeated
pub starred : (word dash : List ℕ) → dash ≡ codes "-" → bytes_eq word dash ≡ false → has_star word ≡ true → byte_string word ≡ repeated (slice_index word 0) (slice_index word 1) (take (length word - 3) (drop 3 word))
starred word dash is other star =
    let no : bytes_eq word (codes "-") ≡ false = ap (bytes_eq word) (sym is) ∙ other in rw (no, star, tail_whole 3 word) refl

-- the bytes of pairs are half as many as the digits
one_pair : (byte : Option ℕ) (more : Option (List ℕ)) (bytes : List ℕ) → (byte >>= (λ b. more >>= (λ rest. Some (b ∷ rest)))) ≡ Some bytes → (rest : List ℕ) × (more ≡ Some rest) × (length bytes ≡ suc (length rest))
one_pair None more bytes is = absurd (cc)
one_pair (Some b) None bytes is = absurd (cc)
one_pair (Some b) (Some rest) bytes is = (rest, refl, ap (λ (o : Option (List ℕ)). length (unwrap_or o [])) (sym is))

pub pairs_len : (digits bytes : List ℕ) → bytes_of_pairs digits ≡ Some bytes → 2 * length bytes ≡ length digits
unfolding bytes_of_pairs
pairs_len [] bytes is = omega (arith, ap (λ (o : Option (List ℕ)). length (unwrap_or o [])) is)
pairs_len (digit ∷ []) bytes is = absurd (cc)
pairs_len (high ∷ low ∷ rest) bytes is =
    let found = one_pair (byte_of high low) (bytes_of_pairs rest) bytes is in omega (arith, found.2, pairs_len rest found.0 found.1)

-- the refusal of digits that are more than may be
pub refused_many : (most : ℕ) (due : Option (List ℕ)) (e : PushError) → ((bytes : List ℕ) → due ≡ Some bytes → most < length bytes) → e ≡ cond (is_some due) push.TooManyBytes push.BadHex → IsPushRefusal e (at_most most due)
refused_many most None e many is = subst (λ (e : PushError). IsPushRefusal e (Err BadHex)) (sym is) refl
refused_many most (Some bytes) e many is =
    let over : ltb most (length bytes) ≡ true = grind (arith, nat_tests, many bytes refl) in
    subst (λ (e : PushError). IsPushRefusal e (at_most most (Some bytes))) (sym is) (rw over refl)

-- and of digits for which there is no memory
pub refused_memory : (most : ℕ) (due : Option (List ℕ)) (e : PushError) → ((bytes : List ℕ) → due ≡ Some bytes → length bytes ≤ most) → e ≡ cond (is_some due) push.Memory push.BadHex → IsPushRefusal e (at_most most due)
refused_memory most None e few is = subst (λ (e : PushError). IsPushRefusal e (Err BadHex)) (sym is) refl
refused_memory most (Some bytes) e few is =
    let under : ltb most (length bytes) ≡ false = grind (arith, nat_tests, few bytes refl) in
    subst (λ (e : PushError). IsPushRefusal e (at_most most (Some bytes))) (sym is) (rw under refl)

-- a list gains no more bytes than may be
gained : (most : ℕ) (due : Option (List ℕ)) (old new : List ℕ) → Gains (at_most most due) old new → length new ≤ length old + most
gained most None old new is = absurd is
gained most (Some bytes) old new is =
    elim (cases_lt most (length bytes)) [
      | inl over ↦ absurd (let many : ltb most (length bytes) ≡ true = grind (arith, nat_tests) in rw many at is)
      | inr few ↦ let some : ltb most (length bytes) ≡ false = grind (arith, nat_tests) in let is : new ≡ old ++ bytes = rw some at is in omega (arith, ap (length {A = ℕ}) is, length-append old bytes)
    ]

gains_within : (r : Result (Unit {0}) PushError) (most : ℕ) (due : Option (List ℕ)) (old new : List ℕ) → OnOk r (Gains (at_most most due) old new) → OnOk r (length new ≤ length old + most)
gains_within (Ok x) most due old new is = gained most due old new is
gains_within (Err e) most due old new is = tt

-- bytes that are more than may be, and those that aren't
pub due_many : (most : ℕ) (bytes : List ℕ) → most < length bytes → at_most most (Some bytes) ≡ Err TooManyBytes
due_many most bytes many = let over : ltb most (length bytes) ≡ true = grind (arith, nat_tests) in rw over refl

pub due_few : (most : ℕ) (bytes : List ℕ) → length bytes ≤ most → at_most most (Some bytes) ≡ Ok bytes
due_few most bytes few = let under : ltb most (length bytes) ≡ false = grind (arith, nat_tests) in rw under refl

-- a single pair
pub pair_is : (high low h l : ℕ) → h ≡ unwrap_or (hex_digit_value high) 16 → l ≡ unwrap_or (hex_digit_value low) 16 → ¬ (h ≡ 16) → ¬ (l ≡ 16) → bytes_of_pairs (high ∷ low ∷ []) ≡ Some ((h * 16 + l) ∷ [])
unfolding bytes_of_pairs
pair_is high low h l high_is low_is good also = pairs_byte high low (h * 16 + l) [] (byte_known high low h l high_is low_is good also)

-- a byte as often as a number says, where either may be missing
abbrev times : Option ℕ → Option ℕ → Option (List ℕ)
times byte n = byte >>= (λ b. n >>= (λ k. cond (eqb k 0) None (Some (replicate k b))))

times_none : (byte : Option ℕ) → times byte None ≡ None
times_none None = refl
times_none (Some b) = refl

times_zero : (byte : Option ℕ) → times byte (Some 0) ≡ None
times_zero None = refl
times_zero (Some b) = refl

-- no byte is none, however often
pub repeated_no_byte : (high low : ℕ) (count : List ℕ) → byte_of high low ≡ None → repeated high low count ≡ None
repeated_no_byte high low count none = ap (λ (byte : Option ℕ). times byte (number_of 2097152 count)) none

-- nor is a byte as often as no number says, or 0 times
pub repeated_no_number : (high low : ℕ) (count : List ℕ) → number_of 2097152 count ≡ None → repeated high low count ≡ None
repeated_no_number high low count none = ap (times (byte_of high low)) none ∙ times_none (byte_of high low)

pub repeated_zero : (high low n : ℕ) (count : List ℕ) → number_of 2097152 count ≡ Some n → n ≡ 0 → repeated high low count ≡ None
repeated_zero high low n count is zero = ap (times (byte_of high low)) (is ∙ ap Some zero) ∙ times_zero (byte_of high low)

-- a digit's byte so many times
repeated_is : (high low h l n : ℕ) (count : List ℕ) → h ≡ unwrap_or (hex_digit_value high) 16 → l ≡ unwrap_or (hex_digit_value low) 16 → ¬ (h ≡ 16) → ¬ (l ≡ 16) → number_of 2097152 count ≡ Some n → ¬ (n ≡ 0) → repeated high low count ≡ Some (replicate n (h * 16 + l))
repeated_is high low h l n count high_is low_is good also number_is some =
    let byte : ℕ = h * 16 + l in
    let no : eqb n 0 ≡ false = grind (arith, nat_tests) in
    ap (λ (o : Option ℕ). times o (number_of 2097152 count)) (byte_known high low h l high_is low_is good also)
    ∙ ap (times (Some byte)) number_is
    ∙ ap (λ (b : Bool). cond b None (Some (replicate n byte))) no

-- is too many bytes if that is more than there may be
pub repeated_many : (most high low h l n : ℕ) (count : List ℕ) → h ≡ unwrap_or (hex_digit_value high) 16 → l ≡ unwrap_or (hex_digit_value low) 16 → ¬ (h ≡ 16) → ¬ (l ≡ 16) → number_of 2097152 count ≡ Some n → ¬ (n ≡ 0) → most < n → at_most most (repeated high low count) ≡ Err TooManyBytes
repeated_many most high low h l n count high_is low_is good also number_is some many =
    ap (at_most most) (repeated_is high low h l n count high_is low_is good also number_is some) ∙ due_many most _ (omega (arith, length-replicate n (h * 16 + l)))

-- and else is those bytes
pub repeated_few : (most high low h l n : ℕ) (count : List ℕ) → h ≡ unwrap_or (hex_digit_value high) 16 → l ≡ unwrap_or (hex_digit_value low) 16 → ¬ (h ≡ 16) → ¬ (l ≡ 16) → number_of 2097152 count ≡ Some n → ¬ (n ≡ 0) → n ≤ most → at_most most (repeated high low count) ≡ Ok (replicate n (h * 16 + l))
repeated_few most high low h l n count high_is low_is good also number_is some few =
    ap (at_most most) (repeated_is high low h l n count high_is low_is good also number_is some) ∙ due_few most _ (omega (arith, length-replicate n (h * 16 + l)))

-- what an append came to for which there was no memory, if the bytes may be appended
pub out_of_memory : (r : Result (Unit {0}) PushError) (due : Result (List ℕ) ByteFault) (old new bytes : List ℕ) → IsErr r × IsErrAnd r (λ e. e ≡ push.Memory) → due ≡ Ok bytes → new ≡ old
    → OnOk r (Gains due old new) × IfErr r (λ e. IsPushRefusal e due) × OnErr r (new ≡ old)
out_of_memory (Ok x) due old new bytes failed is same = absurd failed.1
out_of_memory (Err e) due old new bytes failed is same =
    (tt, subst (λ (e : PushError). IsPushRefusal e due) (sym failed.1) (subst (IsOk {T = List ℕ} {E = ByteFault}) (sym is) refl), same)

-- a list that is made longer
pub made_longer : (old : List ℕ) (len has n byte : ℕ) → len ≡ has → has ≡ length old → take (len + n) old ++ replicate (len + n - has) byte ≡ old ++ replicate n byte
made_longer old len has n byte is whole =
    let more : len + n - has ≡ n = omega arith in rw (take_all (len + n) old (omega arith), more) refl

-- what an append came to, told of other bytes that are the same
pub told : (r : Result (Unit {0}) PushError) (most : ℕ) (due found : Option (List ℕ)) (old new : List ℕ) → due ≡ found → OnOk r (Gains (at_most most found) old new) → IfErr r (λ e. IsPushRefusal e (at_most most found))
    → OnOk r (Gains (at_most most due) old new) × OnOk r (length new ≤ length old + most) × IfErr r (λ e. IsPushRefusal e (at_most most due))
told r most due found old new is ok bad =
    let gains : OnOk r (Gains (at_most most due) old new) = subst (λ (due : Option (List ℕ)). OnOk r (Gains (at_most most due) old new)) (sym is) ok in
    (gains, gains_within r most due old new gains, subst (λ (due : Option (List ℕ)). IfErr r (λ e. IsPushRefusal e (at_most most due))) (sym is) bad)
