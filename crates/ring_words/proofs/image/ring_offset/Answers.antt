use Rattle.std.proofs.Common.{◌≤◌, ◌+◌, ◌^◌, ℕ, subst, sym, ◌∙◌, lit≤}
use Rattle.ring_words.specs.Rings.{size}
use Rattle.ring_words.proofs.image.ring_offset.Goals as goal

pub returns-in-10-clause-within : goal.returns-in-10-clause-within
unfolding size
returns-in-10-clause-within c =
    subst (λ (n : ℕ). 1024 + 2 ^ n ≤ 4096) (sym c.in-10.is ∙ c.number.ensures) (lit≤ tt)

pub returns-in-11-clause-within : goal.returns-in-11-clause-within
unfolding size
returns-in-11-clause-within c =
    subst (λ (n : ℕ). 2048 + 2 ^ n ≤ 4096) (sym c.in-11.is ∙ c.number.ensures) (lit≤ tt)
