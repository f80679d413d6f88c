-- When an order is the least whose ring holds this many bytes.
use Rattle.std.proofs.Common.{ℕ, ◌^◌, ◌<◌, ◌≤◌, ◌⊎◌, inl, inr, arith}
use Rattle.std.proofs.lemmas.Bool.{cases_lt}
use Rattle.ring_words.specs.Choice.{IsLeastOrder}

-- an order that holds the bytes, when none before it does
pub least_order : (bytes number : ℕ) → 12 ≤ number → bytes ≤ 2 ^ number → ((n : ℕ) → n < number → 12 ≤ n → 2 ^ n < bytes) → IsLeastOrder bytes number
least_order bytes number from holds below = record { from_twelve = from; holds = holds; least = λ n h fits. go n h fits (cases_lt n number) }
  where
    go : (n : ℕ) → 12 ≤ n → bytes ≤ 2 ^ n → (n < number) ⊎ (number ≤ n) → number ≤ n
    go n h fits (inl less) = absurd (omega (arith, below n less h))
    go n h fits (inr more) = more
