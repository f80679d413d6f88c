-- Laws of the bytes of numbers, the lowest first.
use Rattle.std.proofs.Common.{◌≡◌, ℕ, zero, suc, ◌+◌, ◌*◌, ◌/◌, ◌%◌, ◌^◌, ◌<◌, List, [], ◌∷◌, get_or, refl, sym, ap, ◌∙◌, arith}
use Rattle.std.specs.Int.{byte_at, bytes_low_first}
use Rattle.std.proofs.Math.Nat.{pow-suc, mul_comm, div-div-eq-div-mul, zero-div}
use Rattle.ring_words.specs.Image.{byte_of, number_from}

-- std's byte of a number
byte_at_is : (place n : ℕ) → byte_at place n ≡ byte_of n place
byte_at_is zero n = omega arith
byte_at_is (suc place) n = refl

-- a byte of some of the bytes of a number
get_or_bytes : (from count n k : ℕ) → k < count → get_or (bytes_low_first from count n) k 0 ≡ byte_of n (from + k)
get_or_bytes from zero n k h = absurd (omega (arith, h))
get_or_bytes from (suc count) n zero h = byte_at_is from n ∙ ap (λ (i : ℕ). byte_of n i) (omega arith)
get_or_bytes from (suc count) n (suc k) h = get_or_bytes (suc from) count n k (omega (arith, h)) ∙ ap (λ (i : ℕ). byte_of n i) (omega arith)

-- a byte of the low bytes of a number
pub low_byte : (count n k : ℕ) → k < count → get_or (bytes_low_first 0 count n) k 0 ≡ byte_of n k
low_byte count n k h = get_or_bytes 0 count n k h ∙ ap (λ (i : ℕ). byte_of n i) (omega arith)

-- the number that bytes make has them for its bytes
pub byte_of_number_from : (bs : List ℕ) (k : ℕ) → ((i : ℕ) → get_or bs i 0 < 256) → byte_of (number_from bs) k ≡ get_or bs k 0
byte_of_number_from [] k fits = ap (λ (n : ℕ). n % 256) (zero-div (256 ^ k))
byte_of_number_from (b ∷ bs) zero fits = omega (arith, fits 0)
byte_of_number_from (b ∷ bs) (suc k) fits =
    let first : (b + 256 * number_from bs) / 256 ≡ number_from bs = omega (arith, fits 0) in
    let power : 256 ^ suc k ≡ 256 * 256 ^ k = pow-suc 256 k ∙ mul_comm (256 ^ k) 256 in
    ap (λ (n : ℕ). (b + 256 * number_from bs) / n % 256) power
    ∙ ap (λ (n : ℕ). n % 256) (sym (div-div-eq-div-mul (b + 256 * number_from bs) 256 (256 ^ k)))
    ∙ ap (λ (n : ℕ). n / 256 ^ k % 256) first
    ∙ byte_of_number_from bs k (λ i. fits (suc i))

-- a number below 256 is its lowest byte
pub byte_of_small : (n : ℕ) → n < 256 → byte_of n 0 ≡ n
byte_of_small n h = omega arith
