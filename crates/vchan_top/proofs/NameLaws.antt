-- Which words are the name of a service.
use Rattle.std.proofs.Common.{◌≡◌, ◌≤◌, ◌<◌, ℕ, List, [], Bool, true, false, length, Option, Some, None, refl, sym, ap, ◌∙◌, arith}
use Rattle.std.specs.Prelude.{is_some, nat_le, option_map, ◌&&◌, if◌then◌else◌}
use Rattle.std.proofs.lemmas.Bool.Decides.{nat_tests}
use Rattle.service_gate.specs.declared.builtin.Builtin.{Builtin}
use Rattle.service_gate.specs.Owing.{builtin_owes}
use Rattle.service_gate.specs.ServiceResult.{service}
use Rattle.vchan_top.specs.Command.{service_name_of}

-- by the two tests of a word
by_tests : (word : List ℕ) (short named : Bool) → nat_le (length word) 63 ≡ short → is_some (service word []) ≡ named → service_name_of word ≡ (if short && named then Some word else None)
by_tests word short named is_short is_named = λ i. if is_short i && is_named i then Some word else None

pub too_long : (word : List ℕ) → 63 < length word → None ≡ service_name_of word
too_long word long =
    let no' : nat_le (length word) 63 ≡ false = grind (arith, nat_tests) in
    sym (by_tests word false (is_some (service word [])) no' refl)

pub named_so : (word : List ℕ) (builtin : Option Builtin) → length word ≤ 63 → ((input : List ℕ) → service word input ≡ option_map (λ b. builtin_owes b input) builtin) → service_name_of word ≡ (if is_some builtin then Some word else None)
named_so word builtin few is =
    let short : nat_le (length word) 63 ≡ true = grind (arith, nat_tests) in
    by_tests word true (is_some builtin) short (ap is_some (is []) ∙ same builtin)
  where
    same : (o : Option Builtin) → is_some (option_map (λ b. builtin_owes b []) o) ≡ is_some o
    same None = refl
    same (Some b) = refl
