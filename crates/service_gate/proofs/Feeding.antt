-- Each built-in service owes, after a piece, what it owed for the piece and more, less what it appended.
use Rattle.std.proofs.Common.{◌≡◌, ℕ, ◌+◌, ◌-◌, ◌%◌, ◌^◌, zero, suc, Bool, true, false, not, nat_eq, List, [], ◌∷◌, ◌++◌, length, take, decimal, refl, sym, ap, ◌∙◌, arith, length-append, append-nil, pos}
use Rattle.std.proofs.Math.Nat.{mod-add-mod}
use Rattle.std.proofs.lemmas.Bool.Decides.{nat_tests}
use mathlib.Core.Bool.{beq}
use Rattle.service_gate.specs.Triple.{Triple, Feeds, writes, after_outputs}
use Rattle.service_gate.specs.ServiceResult.{splits, every_other}
use Rattle.service_gate.specs.Owing.{state_owes}
use Rattle.service_gate.specs.declared.builtin.State.{State}
use Rattle.service_gate.specs.declared.builtin.State.TheVariants.{Count, First, Split}

-- a feed that appends nothing
pub silent_feeds : (before now : List ℕ → Triple) (piece out err : List ℕ) → ((more : List ℕ) → before (piece ++ more) ≡ now more) → Feeds before now piece out out err err
silent_feeds before now piece out err same = record {
  stdout = [];
  stderr = [];
  out_grows = sym (append-nil out);
  err_grows = sym (append-nil err);
  owed = same;
}

pub count_owed : (taken : ℕ) (piece more : List ℕ) → state_owes (Count taken) (piece ++ more) ≡ state_owes (Count ((taken + length piece) % 18446744073709551616)) more
count_owed taken piece more =
    let same : (taken + length (piece ++ more)) % 2 ^ 64 ≡ ((taken + length piece) % 2 ^ 64 + length more) % 2 ^ 64 =
    ap (λ n. n % 2 ^ 64) (omega (arith, length-append piece more)) ∙ sym (mod-add-mod (taken + length piece) (2 ^ 64) (length more)) in
    ap (λ n. writes (decimal n ++ 10 ∷ [])) same

take_over : (left : ℕ) (piece more : List ℕ) → take left (piece ++ more) ≡ take left piece ++ take (left - length piece) more
take_over zero piece more = let none : 0 ≡ 0 - length piece = omega arith in ap (λ k. take k more) none
take_over (suc left) [] more = let all : suc left ≡ suc left - 0 = omega arith in ap (λ k. take k more) all
take_over (suc left) (x ∷ piece) more =
    let less : left - length piece ≡ suc left - suc (length piece) = omega arith in
    ap (λ l. x ∷ l) (take_over left piece more ∙ ap (λ k. take left piece ++ take k more) less)

pub first_feeds : (left : ℕ) (piece out err : List ℕ) → Feeds (state_owes (First left)) (state_owes (First (left - length piece))) piece out (out ++ take left piece) err err
first_feeds left piece out err = record {
  stdout = take left piece;
  stderr = [];
  out_grows = refl;
  err_grows = sym (append-nil err);
  owed = λ more. ap writes (take_over left piece more);
}

-- whose turn it is after the piece: it changes with each byte
abbrev turned : Bool → List ℕ → Bool
turned first [] = first
turned first (x ∷ xs) = turned (not first) xs

every_other_over : (first : Bool) (piece more : List ℕ) → every_other first (piece ++ more) ≡ every_other first piece ++ every_other (turned first piece) more
every_other_over first [] more = refl
every_other_over true (x ∷ piece) more = ap (λ l. x ∷ l) (every_other_over false piece more)
every_other_over false (x ∷ piece) more = every_other_over true piece more

turned_not : (first : Bool) (piece : List ℕ) → turned (not first) piece ≡ not (turned first piece)
turned_not first [] = refl
turned_not first (x ∷ piece) = turned_not (not first) piece

-- one byte more makes an odd number even, and an even one odd
odd_suc : (n : ℕ) → nat_eq (suc n % 2) 1 ≡ not (nat_eq (n % 2) 1)
odd_suc n = grind (arith, nat_tests)

other_true : (odd : Bool) → beq true odd ≡ beq false (not odd)
other_true true = refl
other_true false = refl

other_false : (odd : Bool) → beq false odd ≡ beq true (not odd)
other_false true = refl
other_false false = refl

-- so it is the same turn after an even number of bytes, and the other's after an odd one
turned_is : (first : Bool) (piece : List ℕ) → turned first piece ≡ beq (not first) (nat_eq (length piece % 2) 1)
turned_is true [] = refl
turned_is false [] = refl
turned_is true (x ∷ piece) = turned_is false piece ∙ (other_true _ ∙ ap (beq false) (sym (odd_suc (length piece))))
turned_is false (x ∷ piece) = turned_is true piece ∙ (other_false _ ∙ ap (beq true) (sym (odd_suc (length piece))))

split_owed : (first : Bool) (piece more : List ℕ)
    → splits first (piece ++ more) ≡ after_outputs (every_other first piece) (every_other (not first) piece) (splits (turned first piece) more)
split_owed first piece more =
    let e : every_other (not first) (piece ++ more) ≡ every_other (not first) piece ++ every_other (not (turned first piece)) more =
    every_other_over (not first) piece more ∙ ap (λ b. every_other (not first) piece ++ every_other b more) (turned_not first piece) in
    λ i. record { stdout = every_other_over first piece more i; stderr = e i; code = pos 0 }

same_turn : (to_stderr odd : Bool) → beq (not (not to_stderr)) odd ≡ not (not (beq to_stderr odd))
same_turn true true = refl
same_turn true false = refl
same_turn false true = refl
same_turn false false = refl

pub split_feeds : (self : State) (to_stderr : Bool) (piece out out' err err' : List ℕ) → self ≡ Split to_stderr
    → out' ≡ out ++ every_other (not to_stderr) piece → err' ≡ err ++ every_other (not (not to_stderr)) piece
    → Feeds (state_owes self) (state_owes (Split (not (beq to_stderr (nat_eq (length piece % 2) 1))))) piece out out' err err'
split_feeds self to_stderr piece out out' err err' is to_out to_err = record {
  stdout = every_other (not to_stderr) piece;
  stderr = every_other (not (not to_stderr)) piece;
  out_grows = to_out;
  err_grows = to_err;
  owed = λ more.
      ap (λ s. state_owes s (piece ++ more)) is
      ∙ (split_owed (not to_stderr) piece more
      ∙ ap (λ b. after_outputs (every_other (not to_stderr) piece) (every_other (not (not to_stderr)) piece) (splits b more))
      (turned_is (not to_stderr) piece ∙ same_turn to_stderr (nat_eq (length piece % 2) 1)));
}

-- which output is the first, if the next byte goes to stderr and if it doesn't
pub first_to_stderr : (to_stderr : Bool) (piece : List ℕ) → to_stderr ≡ true
    → (every_other false piece ≡ every_other (not to_stderr) piece) × (every_other true piece ≡ every_other (not (not to_stderr)) piece)
first_to_stderr true piece is = (refl, refl)
first_to_stderr false piece is = cc

pub first_to_stdout : (to_stderr : Bool) (piece : List ℕ) → to_stderr ≡ false
    → (every_other true piece ≡ every_other (not to_stderr) piece) × (every_other false piece ≡ every_other (not (not to_stderr)) piece)
first_to_stdout false piece is = (refl, refl)
first_to_stdout true piece is = cc
