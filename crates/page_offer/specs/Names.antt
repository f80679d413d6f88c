-- The name by which a page is known before it is made.
-- The names are this project's own.
use Rattle.std.specs.Prelude.{◌≡◌, ℕ, List, [], ◌∷◌}
use denote.RawPtr.{Ptr, block_ptr, null_ptr}
use Rattle.atomic_table.specs.Seated.{TableId}
use Rattle.rtrb.specs.declared.end.End.{End}
use Rattle.ring_words.specs.Rings.{number_of}
use Rattle.ring_words.specs.declared.order.Orders.{Orders}

-- an address as numbers, before others
abbrev pub address : Ptr → List ℕ → List ℕ
address (block_ptr block offset) rest = 1 ∷ block ∷ offset ∷ rest
address null_ptr rest = 0 ∷ rest

-- the name of a page that has these orders, whose indices begin at this number, and that is offered through the ring of this end: no table has it, since a table of a page has words
abbrev pub name_of : {T A P : Type 0} → End T A P → Orders → ℕ → TableId
name_of e orders start = record {
  words = 0;
  slots = e.names.0;
  views_name = e.names.1.0;
  atom = e.names.1.1;
  block = number_of orders.left;
  offset = number_of orders.right;
  slot_names = start ∷ address e.words (address e.slots []);
}

-- the number at which the indices of the page begin whose name has these numbers
abbrev pub start_in : List ℕ → ℕ
start_in [] = 0
start_in (start ∷ address) = start

-- a name is that of a page of these orders whose indices begin at this number, and of no table
pub record IsNameOf (orders : Orders) (start : ℕ) (name : TableId) : Type 0 where
  pub no_words : name.words ≡ 0
  pub left : name.block ≡ number_of orders.left
  pub right : name.offset ≡ number_of orders.right
  pub begins : start_in name.slot_names ≡ start
