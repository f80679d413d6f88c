-- What a settled page is under its name.
use Rattle.std.proofs.Common.{◌≡◌, ℕ, sym, ap, ◌∙◌, subst, refl}
use Rattle.atomic_table.specs.Seated.{TableId}
use Rattle.ring_words.specs.declared.order.Orders.{Orders}
use Rattle.end_view.specs.EndView.{EndView}
use Rattle.end_view.specs.Settled.{Settled}
use Rattle.page_offer.specs.declared.server.ServerLast.{ServerLast}
use Rattle.page_offer.specs.declared.server.ServerLast.TheVariants as server
use Rattle.page_offer.specs.declared.client.ClientLast.{ClientLast}
use Rattle.page_offer.specs.declared.client.ClientLast.TheVariants as client
use Rattle.page_offer.specs.Views.{DoneEnd, named, named_page}
use Rattle.page_offer.specs.Offers.{server_end, client_end}
use Rattle.page_offer.proofs.NameLaws.{server_page}

client_page : (name : TableId) (last : ClientLast) → (client_end name last).page ≡ name
client_page name client.Unlaid = refl
client_page name (client.Returned end back) = refl

-- an end that is done is under the name of its page
pub server_named : (name : TableId) (orders : Orders) (start : ℕ) (last now : ServerLast) (done : DoneEnd) → record { end = server_end name last; orders = orders; start = start } ≡ done → last ≡ now → server_end done.end.page now ≡ done.end
server_named name orders start last now done is same =
    let end = ap (λ (d : DoneEnd). d.end) is in
    let page = sym (server_page name last) ∙ ap (λ (e : EndView). e.page) end in
    subst (λ (z : TableId × ServerLast). server_end z.0 z.1 ≡ done.end) (λ i. (page i, same i)) end

pub client_named : (name : TableId) (orders : Orders) (start : ℕ) (last now : ClientLast) (done : DoneEnd) → record { end = client_end name last; orders = orders; start = start } ≡ done → last ≡ now → client_end done.end.page now ≡ done.end
client_named name orders start last now done is same =
    let end = ap (λ (d : DoneEnd). d.end) is in
    let page = sym (client_page name last) ∙ ap (λ (e : EndView). e.page) end in
    subst (λ (z : TableId × ClientLast). client_end z.0 z.1 ≡ done.end) (λ i. (page i, same i)) end

pub settled_as : (name : TableId) (orders : Orders) (start : ℕ) (page : Settled) (server client : EndView) → page.orders ≡ orders → page.start ≡ start → named name page.server ≡ server → named name page.client ≡ client →
    named_page name page ≡ record { orders = orders; start = start; server = server; client = client }
settled_as name orders start page server client o f s c = λ i. record { orders = o i; start = f i; server = s i; client = c i }
