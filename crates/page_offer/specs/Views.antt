-- What contracts see of a page that is made at its first use.
-- The forms are this project's own.
use Rattle.std.specs.Prelude.{ℕ}
use Rattle.atomic_table.specs.Seated.{TableId}
use Rattle.ring_words.specs.declared.order.Orders.{Orders}
use Rattle.ring_words.specs.declared.page.Role.{Role}
use Rattle.end_view.specs.EndView.{EndView, state_at_first, untouched_view}
use Rattle.end_view.specs.Settled.{Settled}
use Rattle.vchan_lifecycle.specs.Lifecycle.{retired_view}

-- an end that has done nothing, of the page of this name
abbrev pub unused_view : TableId → Role → EndView
unused_view name role = untouched_view name role (state_at_first role)

-- an end that was retired without being used
abbrev pub idle_view : TableId → Role → EndView
idle_view name role = retired_view (unused_view name role)

-- an end of a page, and the page, under the name by which the page was known before it was made
abbrev pub named : TableId → EndView → EndView
named name e = record e { page = name }

abbrev pub named_page : TableId → Settled → Settled
named_page name s = record { orders = s.orders; start = s.start; server = named name s.server; client = named name s.client }

-- an end that is in use: the name of its page, and the table that the page has
pub record InUse : Type 0 where
  pub name : TableId
  pub table : TableId

-- an end that is done with its page, the orders of the page, and the number at which its indices begin
pub record DoneEnd : Type 0 where
  pub end : EndView
  pub orders : Orders
  pub start : ℕ
