-- What the two sides of an offered page hold, and what they have sent to each other.
-- The forms are this project's own.
use mathlib.Core.List.{IsPrefix}
use Rattle.std.specs.Prelude.{◌≡◌, List, [], ◌∷◌}
use Rattle.std.specs.declared.snapshot.Snapshot.{Snapshot}
use Rattle.atomic_table.specs.Seated.{TableId}
use Rattle.ring_words.specs.declared.page.Role.TheVariants.{Server, Client}
use Rattle.rtrb.specs.Ring.{sent, received, IsPair}
use Rattle.rtrb.specs.Ends.{SameRing}
use Rattle.end_view.specs.EndView.{EndView}
use Rattle.end_view.specs.Settled.{Settled}
use Rattle.vchan_rule.specs.Seated.{PageStart, PageView, SeatedSide, last_view}
use Rattle.page_offer.specs.declared.back.Back.TheVariants.{Of, Done}
use Rattle.page_offer.specs.Backs.{BackSender, BackReceiver}
use Rattle.page_offer.specs.declared.offer.Offer.{Offer}
use Rattle.page_offer.specs.declared.server.ServerLast.{ServerLast}
use Rattle.page_offer.specs.declared.server.ServerLast.TheVariants as server
use Rattle.page_offer.specs.declared.client.ClientLast.{ClientLast}
use Rattle.page_offer.specs.declared.client.ClientLast.TheVariants as client
use Rattle.page_offer.specs.Views.{idle_view, named}

-- this one offer was made, of this page, whose client's end comes back through this ring
pub record IsOffered (offers : List Offer) (page : PageView) (back : BackReceiver) : Type 0 where
  pub offer : Offer
  pub is : offers ≡ offer ∷ []
  pub of_page : offer.page ≡ page
  pub pair : IsPair offer.back back

-- nothing but the page's mark came back yet
pub record IsAwaited (page : PageView) (back : BackReceiver) : Type 0 where
  pub mark : Snapshot PageView
  pub of_page : mark.value ≡ page
  pub got : received back ≡ Of mark ∷ []

-- the client's end came back, and is that of the settled page
pub record IsReturned (settled : Settled) (back : BackReceiver) : Type 0 where
  pub mark : Snapshot PageView
  pub end : SeatedSide
  pub got : received back ≡ Of mark ∷ Done end ∷ []
  pub client : settled.client ≡ last_view end

-- ---- an end that is done

-- the view of a server's end that is done
abbrev pub server_end : TableId → ServerLast → EndView
server_end name server.Unlaid = idle_view name Server
server_end name (server.Waits page own back) = named name (last_view own)
server_end name (server.Settled settled back) = named name settled.server

-- what holds of it, for a page of these start words
abbrev pub StandsServer : PageStart → List Offer → ServerLast → Type 0
StandsServer words offers server.Unlaid = offers ≡ []
StandsServer words offers (server.Waits page own back) =
    (page.orders ≡ words.orders) × (page.start ≡ words.start) × (own.page ≡ page.table) × (own.side.role ≡ Server) × IsOffered offers page back × IsAwaited page back
StandsServer words offers (server.Settled settled back) =
    (settled.orders ≡ words.orders) × (settled.start ≡ words.start) × ((page : PageView) × IsOffered offers page back) × IsReturned settled back

-- the client has put its end after the page's mark
pub record HasReturned (offer : Offer) (end : SeatedSide) (back : BackSender) : Type 0 where
  pub same : SameRing offer.back.end back.end
  pub mark : Snapshot PageView
  pub said : sent back ≡ Of mark ∷ Done end ∷ []

abbrev pub client_end : TableId → ClientLast → EndView
client_end name client.Unlaid = idle_view name Client
client_end name (client.Returned end back) = named name (last_view end.value)

-- the next of the offers that the side found is of a page of these start words
abbrev pub IsOfferedNext : PageStart → List Offer → Type 0
IsOfferedNext words found = (offer : Offer) × IsPrefix (offer ∷ []) found × (offer.page.orders ≡ words.orders) × (offer.page.start ≡ words.start)

-- it took none, and none of a page of its own was there when it looked; or it took one, and gave the end back
abbrev pub StandsClient : PageStart → List Offer → List Offer → ClientLast → Type 0
StandsClient words taken found client.Unlaid = (taken ≡ []) × ¬ IsOfferedNext words found
StandsClient words taken found (client.Returned end back) = (offer : Offer) × (taken ≡ offer ∷ []) × HasReturned offer end.value back
