-- The ident of a call: it has no NUL, and it is short.
use Rattle.std.proofs.Common.{◌≡◌, ℕ, ◌+◌, ◌<◌, ◌≤◌, ◌^◌, suc, zero, List, [], ◌∷◌, ◌++◌, length, length-append, refl, sym, arith, decimal, lit<, ⊎_elim, inl, inr}
use Rattle.std.specs.Prelude.{true, false, Bool, ◌&&◌, Contains, codes, nat_lt, if◌then◌else◌}
use Rattle.std.specs.Str.{all_ascii_digits}
use Rattle.std.specs.Char.{is_ascii_digit}
use Rattle.std.proofs.lemmas.Fmt.{digits_decimal, length-decimal-le}
use Rattle.std.proofs.lemmas.Bool.Decides.{nat_tests}
use Rattle.std.proofs.lemmas.List.Elements.{Contains-append_cases}
use Rattle.list_laws.proofs.Tests.{decimal_numerals}
use Rattle.qrexec_frame.specs.Texts.{FitsText, padded, ended}
use Rattle.qrexec_frame.specs.declared.message.Message.TheVariants.{Trigger, Trigger3}
use Rattle.qrexec_frame.specs.Messages.{written}
use Rattle.qrexec_frame.proofs.WrittenLaws.{length_padded}
use Rattle.scenario_file.specs.declared.scenario.CallPlan.{CallPlan}
use Rattle.agent_queue.specs.Queue.{FitsTrigger, trigger_of}
use Rattle.task_duties.specs.Words.{ident_of}
use Rattle.task_duties.proofs.Elements.{Has, has_from}

no_nul_lem : (ds : List ℕ) → all_ascii_digits ds ≡ true → Has ds 0 → ⊥
no_nul_lem [] digits h = h
no_nul_lem (d ∷ ds) digits h = by_test (is_ascii_digit d) refl digits h (λ all k. no_nul_lem ds all k)
  where
    never : (x : ℕ) → is_ascii_digit x ≡ true → x ≡ 0 → ⊥
    never zero is e = cc
    never (suc x) is e = cc

    by_test : (b : Bool) → is_ascii_digit d ≡ b → (b && all_ascii_digits ds) ≡ true → Has (d ∷ ds) 0 → (all_ascii_digits ds ≡ true → Has ds 0 → ⊥) → ⊥
    by_test true is all h' more = ⊎_elim (λ e. never d is e) (λ k. more all k) h'
    by_test false is all h' more = cc

letters : Contains (codes "call-") 0 → ⊥
letters c = in_letters (has_from (codes "call-") 0 c)
  where
    in_letters : Has (codes "call-") 0 → ⊥
    in_letters (inl e) = cc
    in_letters (inr (inl e)) = cc
    in_letters (inr (inr (inl e))) = cc
    in_letters (inr (inr (inr (inl e)))) = cc
    in_letters (inr (inr (inr (inr (inl e))))) = cc
    in_letters (inr (inr (inr (inr (inr h))))) = h

pub ident_no_nul : (number : ℕ) → number < 2 ^ 32 → Contains (ident_of number) 0 → ⊥
ident_no_nul number small c = ⊎_elim letters (λ d. no_nul_lem (decimal number) (digits_decimal decimal_numerals number (omega (arith, small))) (has_from (decimal number) 0 d)) (Contains-append_cases (codes "call-") (decimal number) 0 c)

pub ident_short : (number : ℕ) → number < 2 ^ 32 → length (ident_of number) ≤ 31
ident_short number small = let d = length-decimal-le 10 number (lit< tt) (omega (arith, small)) (omega (arith, small)) in omega (arith, d, length-append (codes "call-") (decimal number))

pub ident_fits : (number : ℕ) → number < 2 ^ 32 → FitsText 31 (ident_of number)
ident_fits number small = record { within = ident_short number small; no_nul = record { none = ident_no_nul number small } }

-- ---- how long a trigger is as it is written

trigger_len : (to ident service : List ℕ) → length to ≤ 31 → length ident ≤ 31 → length service ≤ 63 → length (written (Trigger to ident service)) ≡ 136
trigger_len to ident service few short small =
    let first = length_padded 64 service (omega (arith, small)) in
    let second = length_padded 32 to (omega (arith, few)) in
    let third = length_padded 32 ident (omega (arith, short)) in
    let all = length-append (padded 64 service) (padded 32 to ++ padded 32 ident) in
    let rest = length-append (padded 32 to) (padded 32 ident) in
    omega (arith, first, second, third, all, rest)

trigger3_len : (to ident service : List ℕ) → length to ≤ 31 → length ident ≤ 31 → length (written (Trigger3 to ident service)) ≡ 105 + length service
trigger3_len to ident service few short =
    let first = length_padded 64 to (omega (arith, few)) in
    let second = length_padded 32 ident (omega (arith, short)) in
    let all = length-append (padded 64 to) (padded 32 ident ++ ended service) in
    let rest = length-append (padded 32 ident) (ended service) in
    let size = length-append service (0 ∷ []) in
    omega (arith, first, second, all, rest, size)

-- below version 3
pub old_len : (version : ℕ) (call : CallPlan) → version < 3 → call.number < 2 ^ 32 → FitsTrigger call → 136 ≡ length (written (trigger_of version call))
old_len version call less small fits = by_version (nat_lt version 3) refl
  where
    by_version : (b : Bool) → nat_lt version 3 ≡ b → 136 ≡ length (written (if b then Trigger call.to (ident_of call.number) call.service else Trigger3 call.to (ident_of call.number) call.service))
    by_version true is = sym (trigger_len call.to (ident_of call.number) call.service fits.0 (ident_short call.number small) fits.1)
    by_version false is = absurd (grind (arith, nat_tests, is, less))

-- from version 3 on
pub new_len : (version : ℕ) (call : CallPlan) → 3 ≤ version → call.number < 2 ^ 32 → FitsTrigger call → 105 + length call.service ≡ length (written (trigger_of version call))
new_len version call more small fits = by_version (nat_lt version 3) refl
  where
    by_version : (b : Bool) → nat_lt version 3 ≡ b → 105 + length call.service ≡ length (written (if b then Trigger call.to (ident_of call.number) call.service else Trigger3 call.to (ident_of call.number) call.service))
    by_version true is = absurd (grind (arith, nat_tests, is, more))
    by_version false is = sym (trigger3_len call.to (ident_of call.number) call.service fits.0 (ident_short call.number small))
