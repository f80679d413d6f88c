-- What a search for the first NUL finds.
use Rattle.std.proofs.Common.{◌≡◌, ℕ, eqb, List, length, get_or, Option, Some, None, refl, arith}
use Rattle.std.specs.Prelude.{IsSome, ◌↔◌, Contains}
use Rattle.std.specs.List.{position_or_len, position}
use Rattle.std.proofs.lemmas.Bool.{eqb-true, eq-eqb, false_from_ne_true}
use Rattle.std.proofs.lemmas.Bool.Decides.{nat_tests}
use Rattle.std.proofs.lemmas.List.Sums.{position_or_len_is}
use Rattle.memchr.specs.Find.{IsFirstByte, is_byte}
use Rattle.qrexec_frame.specs.Texts.{is_nul}

-- the place that the search finds is that of the first NUL
pub first_place : (bytes : List ℕ) (found : Option ℕ) → IsFirstByte (is_byte 0) bytes found → found ≡ position is_nul bytes
first_place bytes None nowhere =
    let at : position_or_len is_nul bytes ≡ length bytes =
    position_or_len_is is_nul bytes (length bytes) 0 (omega arith) (λ k below. false_from_ne_true (eqb (get_or bytes k 0) 0) (nowhere k (omega arith) below)) (λ below. absurd (omega (arith, below))) in
    rw at (grind (arith, nat_tests))
first_place bytes (Some i) first =
    let at : position_or_len is_nul bytes ≡ i =
    position_or_len_is is_nul bytes i 0 (omega (arith, first.0.high)) (λ k below. false_from_ne_true (eqb (get_or bytes k 0) 0) (first.0.before k (omega arith) below)) (λ below. first.1) in
    rw at (grind (arith, nat_tests, first.0.high))

-- it finds one if and only if there is one
pub some_nul : (bytes : List ℕ) (found : Option ℕ) → IsFirstByte (is_byte 0) bytes found → IsSome found ↔ Contains bytes 0
some_nul bytes None nowhere = (λ some. cc, λ nul. absurd (nowhere nul.0 (omega arith) nul.1 (eq-eqb (get_or bytes nul.0 0) 0 nul.2)))
some_nul bytes (Some i) first = (λ some. (i, first.0.high, eqb-true (get_or bytes i 0) 0 first.1), λ nul. refl)
