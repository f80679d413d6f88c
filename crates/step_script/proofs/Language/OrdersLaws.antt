-- The orders of two numbers.
use Rattle.std.proofs.Common.{◌≡◌, ℕ, ◌≤◌, ◌<◌, ◌&&◌, ◌||◌, not, leb, eqb, Bool, true, false, Option, Some, None, refl, ap, inl, inr, arith}
use Rattle.std.specs.Option.{option_and_then}
use Rattle.std.proofs.lemmas.Bool.Decides.{nat_tests}
use Rattle.ring_words.specs.declared.order.Order.{Order}
use Rattle.ring_words.specs.declared.order.Orders.{Orders}
use Rattle.ring_words.specs.Choice.{AreBadOrders}
use Rattle.ring_words.proofs.OrderLaws.{in_range_prop, distinct_prop}
use Rattle.step_script.specs.Language.Opening.{order_where, order_fits, order_of, orders_where, orders_differ, orders_of}

order_passed : (order : Order) (passed : Bool) (fits : passed ≡ true → (10 ≤ order.number) × (order.number ≤ 20)) → passed ≡ true → order_where order.number passed fits ≡ Some order
order_passed order true fits is =
    ap (λ (p : (10 ≤ order.number) × (order.number ≤ 20)). Some (let whole : Order = record { number = order.number; in_range = p } in whole)) (in_range_prop order.number (fits refl) order.in_range)
order_passed order false fits is = absurd (cc)

-- an order is that of its number
pub order_of_number : (order : Order) → order_of order.number ≡ Some order
order_of_number order =
    let low : 10 ≤ order.number = order.in_range.0 in
    let high : order.number ≤ 20 = order.in_range.1 in
    order_passed order (leb 10 order.number && leb order.number 20) (order_fits order.number) (grind (arith, nat_tests))

orders_passed : (orders : Orders) (passed : Bool) (differ : passed ≡ true → orders.left.number ≡ orders.right.number → 12 ≤ orders.left.number) → passed ≡ true → orders_where orders.left orders.right passed differ ≡ Some orders
orders_passed orders true differ is =
    ap (λ (p : orders.left.number ≡ orders.right.number → 12 ≤ orders.left.number). Some (let whole : Orders = record { left = orders.left; right = orders.right; distinct = p } in whole))
    (distinct_prop orders.left.number orders.right.number (differ refl) orders.distinct)
orders_passed orders false differ is = absurd (cc)

-- the orders of a page are those of their numbers
pub orders_of_numbers : (orders : Orders) → orders_of orders.left.number orders.right.number ≡ Some orders
orders_of_numbers orders =
    rw (order_of_number orders.left, order_of_number orders.right)
    (let distinct : orders.left.number ≡ orders.right.number → 12 ≤ orders.left.number = orders.distinct in
    orders_passed orders (not (eqb orders.left.number orders.right.number) || leb 12 orders.left.number) (orders_differ orders.left.number orders.right.number) (grind (arith, nat_tests)))

pub orders_of_checked : (left right : ℕ) (orders : Orders) → orders.left.number ≡ left → orders.right.number ≡ right → orders_of left right ≡ Some orders
orders_of_checked left right orders same_left same_right = rw (← same_left, ← same_right) (orders_of_numbers orders)

orders_failed : (left right : Order) (passed : Bool) (differ : passed ≡ true → left.number ≡ right.number → 12 ≤ left.number) → passed ≡ false → orders_where left right passed differ ≡ None
orders_failed left right true differ is = absurd (cc)
orders_failed left right false differ is = refl

-- the orders of two numbers, by these results of the tests of each
abbrev tested : (left right : ℕ) (a b : Bool) → (a ≡ true → (10 ≤ left) × (left ≤ 20)) → (b ≡ true → (10 ≤ right) × (right ≤ 20)) → Option Orders
tested left right a b fits_left fits_right =
    option_and_then (λ (l : Order). option_and_then (λ (r : Order). orders_where l r (not (eqb l.number r.number) || leb 12 l.number) (orders_differ l.number r.number)) (order_where right b fits_right)) (order_where left a fits_left)

left_failed : (left right : ℕ) (a b : Bool) (f : a ≡ true → (10 ≤ left) × (left ≤ 20)) (g : b ≡ true → (10 ≤ right) × (right ≤ 20)) → a ≡ false → tested left right a b f g ≡ None
left_failed left right true b f g is = absurd (cc)
left_failed left right false b f g is = refl

right_failed : (left right : ℕ) (a b : Bool) (f : a ≡ true → (10 ≤ left) × (left ≤ 20)) (g : b ≡ true → (10 ≤ right) × (right ≤ 20)) → b ≡ false → tested left right a b f g ≡ None
right_failed left right true true f g is = absurd (cc)
right_failed left right true false f g is = refl
right_failed left right false b f g is = refl

same_failed : (left right : ℕ) (a b : Bool) (f : a ≡ true → (10 ≤ left) × (left ≤ 20)) (g : b ≡ true → (10 ≤ right) × (right ≤ 20)) → left ≡ right → left < 12 → tested left right a b f g ≡ None
same_failed left right true true f g same small = orders_failed _ _ _ _ (grind (arith, nat_tests))
same_failed left right true false f g same small = refl
same_failed left right false b f g same small = refl

-- the check of two order fields refuses just what aren't orders of a page
pub orders_of_bad : (left right : ℕ) → AreBadOrders left right → orders_of left right ≡ None
orders_of_bad left right bad = elim bad [
  | inl below ↦ left_failed left right _ _ _ _ (grind (arith, nat_tests))
  | inr (inl above) ↦ left_failed left right _ _ _ _ (grind (arith, nat_tests))
  | inr (inr (inl below)) ↦ right_failed left right _ _ _ _ (grind (arith, nat_tests))
  | inr (inr (inr (inl above))) ↦ right_failed left right _ _ _ _ (grind (arith, nat_tests))
  | inr (inr (inr (inr same))) ↦ same_failed left right _ _ _ _ same.0 same.1
]
