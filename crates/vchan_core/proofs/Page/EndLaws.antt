-- A page with one of its ends changed.
use Rattle.std.proofs.Common.{◌≡◌, ℕ, Option, List, refl, subst, sym, ap, ◌∙◌}
use Rattle.ring_words.specs.declared.order.Orders.{Orders}
use Rattle.ring_words.specs.declared.page.Role.{Role}
use Rattle.ring_words.specs.declared.page.Role.TheVariants.{Server, Client}
use Rattle.vchan_core.specs.declared.ends.End.{End}
use Rattle.vchan_core.specs.declared.ends.Ends.{Ends}
use Rattle.vchan_core.specs.declared.plain.Plain.{Plain}
use Rattle.vchan_core.specs.Page.Ends.{end_of, other_end, with_end}
use Rattle.vchan_core.specs.declared.phase.Next.{Next}
use Rattle.vchan_core.specs.declared.phase.Phase.{Phase}
use Rattle.vchan_core.specs.Page.StandsFor.{HasPayload, StandsFor, machine_of, moved_of, orders_of, turned_of, words_of}
use Rattle.vchan_core.specs.WholeCall.AtPhase.{page_at, page_to}
use Rattle.vchan_protocol.specs.declared.call.Answer.{Answer}
use Rattle.vchan_protocol.specs.History.Core.{Core, event, side_of}
use Rattle.vchan_core.proofs.Page.StepLaws.{DoesAt, DoesEvent, stands_at, stands_on}

pub with_end_at : (ends : Ends) (who : Role) (e : End) → end_of (with_end ends who e) who ≡ e
with_end_at ends Server e = refl
with_end_at ends Client e = refl

pub with_end_other : (ends : Ends) (who : Role) (e : End) → other_end (with_end ends who e) who ≡ other_end ends who
with_end_other ends Server e = refl
with_end_other ends Client e = refl

-- the machine of an end has the end's role
pub role_at : (page : Plain) (who : Role) → (machine_of page who).role ≡ who
role_at page Server = page.server_role
role_at page Client = page.client_role

-- and the orders of the page
pub orders_at : (page : Plain) (who : Role) → (machine_of page who).orders ≡ orders_of page
orders_at page Server = page.server_orders
orders_at page Client = page.client_orders

-- what a page knows of its ends
pub record AreEnds (ends : Ends) (orders : Orders) : Type 0 where
  pub server_orders : ends.server.machine.orders ≡ orders
  pub client_orders : ends.client.machine.orders ≡ orders
  pub server_role : ends.server.machine.role ≡ Server
  pub client_role : ends.client.machine.role ≡ Client

-- it still knows it with one end changed, if that has the same role and the page's orders
pub with_end_are : (page : Plain) (who : Role) (e : End) (orders : Orders) → orders ≡ orders_of page → e.machine.orders ≡ (machine_of page who).orders → e.machine.role ≡ (machine_of page who).role → AreEnds (with_end page.ends who e) orders
with_end_are page Server e orders same own role = record {
  server_orders = own ∙ page.server_orders ∙ sym same;
  client_orders = page.client_orders ∙ sym same;
  server_role = role ∙ page.server_role;
  client_role = page.client_role;
}
with_end_are page Client e orders same own role = record {
  server_orders = page.server_orders ∙ sym same;
  client_orders = own ∙ page.client_orders ∙ sym same;
  server_role = page.server_role;
  client_role = role ∙ page.client_role;
}

-- an end that took the place of another
pub record IsInPlace (who : Role) (ends ends' : Ends) (e : End) : Type 0 where
  pub at : end_of ends' who ≡ e
  pub other : other_end ends' who ≡ other_end ends who

pub in_place : (who : Role) (ends ends' : Ends) (e : End) → ends' ≡ with_end ends who e → IsInPlace who ends ends' e
in_place who ends ends' e is = record {
  at = ap (λ (x : Ends). end_of x who) is ∙ with_end_at ends who e;
  other = ap (λ (x : Ends). other_end x who) is ∙ with_end_other ends who e;
}

-- an event of an end, which takes the place of the end that was
pub stands_with : (core : Core) (who : Role) (page page' : Plain) (e : End) (source : List ℕ) (result : Option Answer) → IsInPlace who page.ends page'.ends e → StandsFor core page → HasPayload (side_of core who) source →
    DoesEvent (orders_of page) (words_of page) source (machine_of page who) e.machine result (words_of page') (moved_of page who) e.moved → orders_of page' ≡ orders_of page → e.turned ≡ turned_of page who → StandsFor (event core who) page'
stands_with core who page page' e source result is h has d orders turned =
    stands_on core who page page' source result h has
    (subst (λ (x : End). DoesEvent (orders_of page) (words_of page) source (machine_of page who) x.machine result (words_of page') (moved_of page who) x.moved) (sym is.at) d)
    orders (ap (λ (x : End). x.turned) is.at ∙ turned) is.other

pub stands_with_at : (core : Core) (who : Role) (page page' : Plain) (e : End) (source : List ℕ) (phase : Phase) (move : Next) → IsInPlace who page.ends page'.ends e → StandsFor core (page_at page who phase) → HasPayload (side_of core who) source →
    DoesAt (orders_of page) (words_of page) source (machine_of page who) e.machine phase move (words_of page') (moved_of page who) e.moved → orders_of page' ≡ orders_of page → e.turned ≡ turned_of page who → StandsFor (event core who) (page_to page' who move)
stands_with_at core who page page' e source phase move is h has d orders turned =
    stands_at core who page page' source phase move h has
    (subst (λ (x : End). DoesAt (orders_of page) (words_of page) source (machine_of page who) x.machine phase move (words_of page') (moved_of page who) x.moved) (sym is.at) d)
    orders (ap (λ (x : End). x.turned) is.at ∙ turned) is.other
