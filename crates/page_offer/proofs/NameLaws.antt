-- What the name of a page tells, and what holds of the page under it.
use Rattle.std.proofs.Common.{◌≡◌, ℕ, refl, sym, ◌∙◌}
use Rattle.atomic_table.specs.Seated.{TableId}
use Rattle.ring_words.specs.declared.order.Orders.{Orders}
use Rattle.end_view.specs.EndView.{EndView}
use Rattle.end_view.specs.Settled.{IsDone, IsHonestPage, IsHonestRing, IsSettled, IsTurnedRing, Settled}
use Rattle.ring_words.specs.Rings.{size}
use Rattle.ring_words.proofs.OrderLaws.{same_order, same_rings}
use Rattle.page_offer.specs.declared.server.ServerLast.{ServerLast}
use Rattle.page_offer.specs.declared.server.ServerLast.TheVariants as server
use Rattle.page_offer.specs.Names.{IsNameOf}
use Rattle.page_offer.specs.Views.{named, named_page}
use Rattle.page_offer.specs.Offers.{server_end}

-- a server's end that is done is seen under the name
pub server_page : (name : TableId) (last : ServerLast) → (server_end name last).page ≡ name
server_page name server.Unlaid = refl
server_page name (server.Waits page own back) = refl
server_page name (server.Settled settled back) = refl

-- ---- the orders of a name

-- a name belongs only to pages of the same orders
pub same_orders : (a b : Orders) (s t : ℕ) (name : TableId) → IsNameOf a s name → IsNameOf b t name → a ≡ b
same_orders a b s t name n m = same_rings a b (same_order a.left b.left (sym n.left ∙ m.left)) (same_order a.right b.right (sym n.right ∙ m.right))

-- a name belongs only to pages of the same start
pub same_start : (a b : Orders) (s t : ℕ) (name : TableId) → IsNameOf a s name → IsNameOf b t name → s ≡ t
same_start a b s t name n m = sym n.begins ∙ m.begins

-- ---- what holds of a page, under the name

done_named : (name : TableId) (e : EndView) → IsDone e → IsDone (named name e)
done_named name e d = record { idle = d.idle; shut = d.shut; told = d.told }

ring_named : (name : TableId) (writer reader : EndView) → IsHonestRing writer reader → IsHonestRing (named name writer) (named name reader)
ring_named name writer reader r = record { in_order = r.in_order; whole = r.whole; over = r.over }

honest_named : (name : TableId) (server client : EndView) → IsHonestPage server client → IsHonestPage (named name server) (named name client)
honest_named name server client h = record {
  left = ring_named name client server h.left;
  right = ring_named name server client h.right;
  not_both = h.not_both;
  server_found = h.server_found;
  client_found = h.client_found;
}

turned_named : (name : TableId) (size : ℕ) (writer reader : EndView) → IsTurnedRing size writer reader → IsTurnedRing size (named name writer) (named name reader)
turned_named name size writer reader r = record { within = r.within; bound = r.bound; begins = r.begins }

pub settled_named : (name : TableId) (s : Settled) → IsSettled s → IsSettled (named_page name s)
settled_named name s settled = record {
  server = settled.server;
  client = settled.client;
  one_page = refl;
  server_done = done_named name s.server settled.server_done;
  client_done = done_named name s.client settled.client_done;
  honest = λ server client. honest_named name s.server s.client (settled.honest server client);
  left = λ client server. turned_named name (size s.orders.left) s.client s.server (settled.left client server);
  right = λ server client. turned_named name (size s.orders.right) s.server s.client (settled.right server client);
}
