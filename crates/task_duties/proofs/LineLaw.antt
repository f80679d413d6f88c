-- The line that the broker writes names its service.
use Rattle.std.proofs.Common.{◌≡◌, ℕ, ◌+◌, suc, List, [], ◌∷◌, ◌++◌, length, take, drop, refl, ap, arith, Some}
use Rattle.std.specs.Prelude.{true, false, is_some}
use Rattle.std.specs.List.{position_or_len, before_first, after_first, AllByRecursion as Each}
use Rattle.service_gate.specs.ServiceResult.{service}
use Rattle.task_duties.specs.Words.{exec_line, is_space, is_word, service_of_line}

-- no byte is a space
abbrev pub HasNoSpace : List ℕ → Type 0
HasNoSpace text = Each (λ b. is_space b ≡ false) text

place_of_space : (text more : List ℕ) → HasNoSpace text → position_or_len is_space (text ++ 32 ∷ more) ≡ length text
place_of_space [] more none = refl
place_of_space (b ∷ text) more none = rw none.0 (let one = place_of_space text more none.1 in omega (arith, one))

take_front : (text more : List ℕ) → take (length text) (text ++ more) ≡ text
take_front [] more = refl
take_front (b ∷ text) more = ap (λ r. b ∷ r) (take_front text more)

drop_front : (text more : List ℕ) (b : ℕ) → drop (length text + 1) (text ++ b ∷ more) ≡ more
drop_front [] more b = refl
drop_front (c ∷ text) more b = let e : suc (length text) + 1 ≡ suc (length text + 1) = omega arith in rw e (drop_front text more b)

pub line_served : (name source : List ℕ) → HasNoSpace name → is_word source ≡ true → is_some (service name []) ≡ true → service_of_line (exec_line name source) ≡ Some name
line_served name source none word known =
    let place : position_or_len is_space (name ++ 32 ∷ source) ≡ length name = place_of_space name source none in
    let first : before_first is_space (name ++ 32 ∷ source) ≡ name = rw place (take_front name (32 ∷ source)) in
    let second : after_first is_space (name ++ 32 ∷ source) ≡ source = rw place (drop_front name source 32) in
    rw (first, second, word, known) refl
