-- Two orders are one if their numbers are.
use Rattle.std.proofs.Common.{◌≤◌, ℕ, ◌≡◌, ap, sym, subst}
use Rattle.std.proofs.Math.Bridge.{le_prop}
use Rattle.ring_words.specs.declared.order.Order.{Order}
use Rattle.ring_words.specs.declared.order.Orders.{Orders}

pub in_range_prop : (number : ℕ) → IsProp ((10 ≤ number) × (number ≤ 20))
in_range_prop number = hlevel (le_prop)

pub distinct_prop : (left right : ℕ) → IsProp (left ≡ right → 12 ≤ left)
distinct_prop left right = hlevel (le_prop)

-- an order is told by its number
pub same_order : (a b : Order) → a.number ≡ b.number → a ≡ b
same_order a b same = moved a.number a.in_range same
  where
    here : (p : (10 ≤ b.number) × (b.number ≤ 20)) → (let whole : Order = record { number = b.number; in_range = p } in whole) ≡ b
    here p = ap (λ (q : (10 ≤ b.number) × (b.number ≤ 20)). let whole : Order = record { number = b.number; in_range = q } in whole) (in_range_prop b.number p b.in_range)

    moved : (number : ℕ) (p : (10 ≤ number) × (number ≤ 20)) → number ≡ b.number → (let whole : Order = record { number = number; in_range = p } in whole) ≡ b
    moved number p is =
        let P : ℕ → Type 0 = λ n. (p : (10 ≤ n) × (n ≤ 20)) → (let whole : Order = record { number = n; in_range = p } in whole) ≡ b in
        subst P (sym is) here p

-- the orders of a page are told by those of its rings
pub same_rings : (a b : Orders) → a.left ≡ b.left → a.right ≡ b.right → a ≡ b
same_rings a b left right = on_left a.left left a.right right a.distinct
  where
    here : (p : b.left.number ≡ b.right.number → 12 ≤ b.left.number) → (let whole : Orders = record { left = b.left; right = b.right; distinct = p } in whole) ≡ b
    here p = ap (λ (q : b.left.number ≡ b.right.number → 12 ≤ b.left.number). let whole : Orders = record { left = b.left; right = b.right; distinct = q } in whole) (distinct_prop b.left.number b.right.number p b.distinct)

    on_right : (r : Order) → r ≡ b.right → (p : b.left.number ≡ r.number → 12 ≤ b.left.number) → (let whole : Orders = record { left = b.left; right = r; distinct = p } in whole) ≡ b
    on_right r is =
        let P : Order → Type 0 = λ r. (p : b.left.number ≡ r.number → 12 ≤ b.left.number) → (let whole : Orders = record { left = b.left; right = r; distinct = p } in whole) ≡ b in
        subst P (sym is) here

    on_left : (l : Order) → l ≡ b.left → (r : Order) → r ≡ b.right → (p : l.number ≡ r.number → 12 ≤ l.number) → (let whole : Orders = record { left = l; right = r; distinct = p } in whole) ≡ b
    on_left l is =
        let P : Order → Type 0 = λ l. (r : Order) → r ≡ b.right → (p : l.number ≡ r.number → 12 ≤ l.number) → (let whole : Orders = record { left = l; right = r; distinct = p } in whole) ≡ b in
        subst P (sym is) on_right
