-- The first line of a script.
use Rattle.std.specs.Prelude.{◌≡◌, ℕ, ◌≤◌, ◌==◌, ◌&&◌, ◌||◌, not, nat_le, Bool, true, false, Option, None, Some, option_and_then, refl}
use Rattle.std.proofs.Common.{arith}
use Rattle.std.proofs.lemmas.Bool.Decides.{nat_tests}
use Rattle.ring_words.specs.declared.order.Order.{Order}
use Rattle.ring_words.specs.declared.order.Orders.{Orders}

-- the result of a test of an order
pub order_fits :
    (number : ℕ) → (nat_le 10 number && nat_le number 20) ≡ true → (10 ≤ number) × (number ≤ 20)
order_fits number passed = grind (arith, nat_tests)

-- the result of a test of two orders
pub orders_differ :
    (left right : ℕ) → (not (left == right) || nat_le 12 left) ≡ true → left ≡ right → 12 ≤ left
orders_differ left right passed same = grind (arith, nat_tests)

-- the order of that number, if it passed its test
abbrev pub order_where :
    (number : ℕ) (passed : Bool) → (passed ≡ true → (10 ≤ number) × (number ≤ 20)) → Option Order
order_where number true fits = Some (record { number = number; in_range = fits refl })
order_where number false fits = None

-- the order of that number, from 10 to 20
abbrev pub order_of : ℕ → Option Order
order_of number = order_where number (nat_le 10 number && nat_le number 20) (order_fits number)

-- two orders, if they passed their test
abbrev pub orders_where :
    (left right : Order) (passed : Bool) → (passed ≡ true → left.number ≡ right.number → 12 ≤ left.number) →
    Option Orders
orders_where left right true differ =
    Some (record { left = left; right = right; distinct = differ refl })
orders_where left right false differ = None

-- two orders that a page may have: not the same one twice if it is below 12
abbrev pub page_orders : Order → Order → Option Orders
page_orders left right =
    orders_where left right (not (left.number == right.number) || nat_le 12 left.number)
    (orders_differ left.number right.number)

-- the orders of a page that two numbers are
abbrev pub orders_of : ℕ → ℕ → Option Orders
orders_of left right =
    option_and_then (λ l. option_and_then (page_orders l) (order_of right)) (order_of left)
