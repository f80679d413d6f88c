-- How many calls of a domain are live, target by target.
use Rattle.std.proofs.Common.{◌≡◌, ℕ, ◌+◌, ◌≤◌, ◌<◌, ◌-◌, suc, zero, List, [], ◌∷◌, ◌++◌, length, map, ap, ◌∙◌, subst, arith, add-one}
use Rattle.std.specs.Prelude.{sum}
use Rattle.std.proofs.lemmas.List.{map-append}
use Rattle.std.proofs.lemmas.List.Sums.{sum_by-append, sum_by-cons}
use Rattle.call_broker.specs.declared.decision.Entry.{Entry}
use Rattle.call_broker.specs.Domains.{Domains}
use Rattle.call_broker.specs.Journal.{live}
use Rattle.task_duties.specs.Places.{numbers}
use Rattle.task_duties.specs.Broker.Outbox.{live_calls}
use Rattle.task_duties.proofs.Places.{numbers_more}

sum_more : (xs : List ℕ) (y : ℕ) → sum (xs ++ y ∷ []) ≡ sum xs + y
sum_more xs y = let one : sum (y ∷ []) ≡ y + 0 = sum_by-cons (λ (n : ℕ). n) y [] in omega (arith, sum_by-append (λ (n : ℕ). n) xs (y ∷ []), one)

-- one target more
live_more : (hub : Domains) (journal : List Entry) (d n : ℕ) → live_calls hub journal (numbers 1 1 (n + 1)) d ≡ live_calls hub journal (numbers 1 1 n) d + length (live hub journal d (n + 1))
live_more hub journal d n =
    let f : ℕ → ℕ = λ to. length (live hub journal d to) in
    let one : 1 + n ≡ n + 1 = omega arith in
    ap (λ (k : ℕ). sum (map f (numbers 1 1 k))) (add-one n) ∙ ap (λ (l : List ℕ). sum (map f l)) (numbers_more 1 n) ∙ ap (λ (l : List ℕ). sum l) (map-append f (numbers 1 1 n) ((1 + n) ∷ []))
    ∙ sum_more (map f (numbers 1 1 n)) (f (1 + n)) ∙ ap (λ (k : ℕ). live_calls hub journal (numbers 1 1 n) d + f k) one

pub live_next : (hub : Domains) (journal : List Entry) (d n over live_now before after : ℕ) → before + live_calls hub journal (numbers 1 1 n) d ≡ over → live_now ≡ length (live hub journal d (n + 1)) → live_now ≤ before → after ≡ before - live_now
    → after + live_calls hub journal (numbers 1 1 (n + 1)) d ≡ over
live_next hub journal d n over live_now before after so_far is less now = omega (arith, so_far, is, less, now, live_more hub journal d n)

-- more targets have no fewer
live_grows : (hub : Domains) (journal : List Entry) (d n k : ℕ) → live_calls hub journal (numbers 1 1 n) d ≤ live_calls hub journal (numbers 1 1 (n + k)) d
live_grows hub journal d n zero =
    let same : n ≡ n + 0 = omega arith in
    subst (λ (m : ℕ). live_calls hub journal (numbers 1 1 n) d ≤ live_calls hub journal (numbers 1 1 m) d) same (omega arith)
live_grows hub journal d n (suc k) =
    let next : n + k + 1 ≡ n + suc k = omega arith in
    subst (λ (m : ℕ). live_calls hub journal (numbers 1 1 n) d ≤ live_calls hub journal (numbers 1 1 m) d) next (omega (arith, live_grows hub journal d n k, live_more hub journal d (n + k)))

-- the first targets have more than were answered
pub too_many : (hub : Domains) (journal : List Entry) (d n count over live_now before awaited : ℕ) → before + live_calls hub journal (numbers 1 1 n) d ≡ over → live_now ≡ length (live hub journal d (n + 1)) → before < live_now → n < count
    → awaited + live_calls hub journal (numbers 1 1 count) d ≤ over → ⊥
too_many hub journal d n count over live_now before awaited so_far is more less within =
    let whole : n + 1 + (count - (n + 1)) ≡ count = omega (arith, less) in
    let grows = subst (λ (m : ℕ). live_calls hub journal (numbers 1 1 (n + 1)) d ≤ live_calls hub journal (numbers 1 1 m) d) whole (live_grows hub journal d (n + 1) (count - (n + 1))) in
    omega (arith, so_far, is, more, within, live_more hub journal d n, grows)
