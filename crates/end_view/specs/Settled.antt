-- What holds of a page after both its ends are retired.
-- The statements are this project's own.
use Rattle.std.specs.Prelude.{◌≡◌, ℕ, ◌+◌, ◌≤◌, length, take, true, false, IsSome}
use Rattle.list_laws.specs.Lists.{IsPrefixOf}
use Rattle.atomic_table.specs.Seated.{TableId}
use Rattle.ring_words.specs.Rings.{size}
use Rattle.ring_words.specs.declared.order.Orders.{Orders}
use Rattle.ring_words.specs.declared.page.Role.TheVariants.{Server, Client}
use Rattle.vchan_protocol.specs.declared.call.EndState.TheVariants.{Shut}
use Rattle.vchan_protocol.specs.declared.side.Side.{Side}
use Rattle.vchan_protocol.specs.Honest.LifeLaw.{SaysOrders}
use Rattle.vchan_protocol.specs.Always.Invariant.{PageSettled}
use Rattle.end_view.specs.EndView.{EndView, view_of}

-- a ring between two honest ends: what was got begins what was sent, and is all of it if the ring is drained, as it is if its reader has ended
pub record IsHonestRing (writer reader : EndView) : Type 0 where
  pub in_order : IsPrefixOf reader.got writer.sent
  pub whole : reader.drained ≡ true → reader.got ≡ writer.sent
  pub over : IsSome reader.ended → reader.drained ≡ true

-- a page of two honest ends: not both found the other's end before their own, and none was refused
pub record IsHonestPage (server client : EndView) : Type 0 where
  pub left : IsHonestRing client server
  pub right : IsHonestRing server client
  pub not_both : server.saw ≡ true → client.saw ≡ true → ⊥
  pub server_found : server.misled ≡ false
  pub client_found : client.misled ≡ false

-- a ring of a turned writer and an honest reader: what the reader had got when the writer was turned is still as it was sent
pub record IsTurnedRing (size : ℕ) (writer reader : EndView) : Type 0 where
  pub within : writer.consumed ≤ length reader.got
  pub bound : length writer.sent ≤ writer.consumed + size
  pub begins : IsPrefixOf (take writer.consumed reader.got) writer.sent

-- an end that is done with its page: if it is honest, it has shut its side and has set its gone word
pub record IsDone (e : EndView) : Type 0 where
  pub idle : e.idle ≡ true
  pub shut : e.turned ≡ false → e.state ≡ Shut
  pub told : e.turned ≡ false → e.retired ≡ true

-- a page that is done with: its orders, the number at which all its indices began, and its two ends
pub record Settled : Type 0 where
  pub orders : Orders
  pub start : ℕ
  pub server : EndView
  pub client : EndView

-- what a settled page promises
pub record IsSettled (s : Settled) : Type 0 where
  pub server : s.server.role ≡ Server
  pub client : s.client.role ≡ Client
  pub one_page : s.client.page ≡ s.server.page
  pub server_done : IsDone s.server
  pub client_done : IsDone s.client
  pub honest : s.server.turned ≡ false → s.client.turned ≡ false → IsHonestPage s.server s.client
  pub left : s.client.turned ≡ true → s.server.turned ≡ false → IsTurnedRing (size s.orders.left) s.client s.server
  pub right : s.server.turned ≡ true → s.client.turned ≡ false → IsTurnedRing (size s.orders.right) s.server s.client

-- ---- the law

-- two ends of one page that are done with it
abbrev pub settled_view : Orders → ℕ → TableId → Side → Side → Settled
settled_view orders start page server client = record { orders = orders; start = start; server = view_of page true server; client = view_of page true client }

-- what the two ends are, besides what the protocol settles of them
pub record AreDone (server client : Side) : Type 0 where
  pub is_server : server.role ≡ Server
  pub is_client : client.role ≡ Client
  pub server_shut : server.turned ≡ false → server.state ≡ Shut
  pub client_shut : client.turned ≡ false → client.state ≡ Shut
  pub server_told : server.turned ≡ false → server.retired ≡ true
  pub client_told : client.turned ≡ false → client.retired ≡ true

-- what the protocol settles of two ends that are done is what a settled page promises, if the order words of the start held the page's orders
abbrev pub SettlesViews : Type 0
SettlesViews =
    (orders : Orders) (start : ℕ) (said : ℕ × ℕ) (page : TableId) (server client : Side) → SaysOrders said orders → PageSettled orders said server client → AreDone server client →
    IsSettled (settled_view orders start page server client)
