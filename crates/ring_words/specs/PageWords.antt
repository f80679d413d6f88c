-- The words of a page as a list.
use Rattle.std.specs.Prelude.{ℕ, List}
use Rattle.ring_words.specs.declared.order.Orders.{Orders}

-- what a `Words` stands for: the orders of a page's rings, and its words in the order of their numbers
pub record PageWords : Type 0 where
  pub orders : Orders
  pub list : List ℕ
