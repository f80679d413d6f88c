-- The letters of an outbox: which of them is the first that isn't held, and what a release leaves of them, one letter after another.
use Rattle.std.proofs.Common.{◌≡◌, ℕ, ◌+◌, ◌<◌, true, false, List, length, get_or, sym, ap, ◌∙◌, add-one}
use Rattle.std.specs.Prelude.{Option, if◌then◌else◌}
use Rattle.std.proofs.Math.ListN.{set}
use Rattle.broker_task.specs.declared.outbox.Letter.{Letter}
use Rattle.broker_task.specs.Letters.{connects, released}
use Rattle.broker_task.proofs.Lists.{mapped, mapped_next}

released_true : (target : ℕ) (meant : Option ℕ) (l : Letter) → true ≡ connects target meant l.message → released target meant l ≡ record { message = l.message; held = false }
released_true target meant l is = ap (λ b. if b then record { message = l.message; held = false } else l) (sym is)

released_false : (target : ℕ) (meant : Option ℕ) (l : Letter) → false ≡ connects target meant l.message → released target meant l ≡ l
released_false target meant l is = ap (λ b. if b then record { message = l.message; held = false } else l) (sym is)

-- a letter is released if its message is one that may be sent now
pub release_next : (target : ℕ) (meant : Option ℕ) (all now new : List Letter) (at : ℕ) (d : Letter) → at < length all → now ≡ mapped (released target meant) all at → d ≡ get_or now at d
    → true ≡ connects target meant (get_or now at d).message → new ≡ set now at (record { message = (get_or now at d).message; held = false }) → new ≡ mapped (released target meant) all (at + 1)
release_next target meant all now new at d less so_far is connects new_is =
    let here : get_or now at d ≡ get_or (mapped (released target meant) all at) at (get_or now at d) = ap (λ x. get_or now at x) is ∙ ap (λ l. get_or l at (get_or now at d)) so_far in
    new_is ∙ ap (λ l. set now at l) (sym (released_true target meant (get_or now at d) connects)) ∙ ap (λ l. set l at (released target meant (get_or now at d))) so_far
    ∙ mapped_next (released target meant) all at (get_or now at d) less here ∙ ap (λ n. mapped (released target meant) all n) (sym (add-one at))

-- a letter stays as it is if its message isn't one of these
pub keep_next : (target : ℕ) (meant : Option ℕ) (all now new : List Letter) (at : ℕ) (d : Letter) → at < length all → now ≡ mapped (released target meant) all at → d ≡ get_or now at d
    → false ≡ connects target meant (get_or now at d).message → new ≡ set now at (get_or now at d) → new ≡ mapped (released target meant) all (at + 1)
keep_next target meant all now new at d less so_far is connects new_is =
    let here : get_or now at d ≡ get_or (mapped (released target meant) all at) at (get_or now at d) = ap (λ x. get_or now at x) is ∙ ap (λ l. get_or l at (get_or now at d)) so_far in
    new_is ∙ ap (λ l. set now at l) (sym (released_false target meant (get_or now at d) connects)) ∙ ap (λ l. set l at (released target meant (get_or now at d))) so_far
    ∙ mapped_next (released target meant) all at (get_or now at d) less here ∙ ap (λ n. mapped (released target meant) all n) (sym (add-one at))
