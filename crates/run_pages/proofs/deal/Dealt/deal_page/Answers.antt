use Rattle.std.proofs.Common.{Result, Ok, Err, ◌≡◌, ◌∙◌, ◌++◌, ◌∷◌, [], ap, length, refl, subst, sym, false}
use Rattle.std.specs.Prelude.{IsErr, OnOk}
use Rattle.std.specs.declared.alloc.AllocError.{AllocError}
use Rattle.std.proofs.lemmas.Bool.{and_parts}
use Rattle.atomic_table.specs.Seated.{TableId}
use Rattle.ring_words.specs.declared.page.Role.TheVariants.{Server, Client}
use Rattle.vchan_protocol.specs.declared.side.Side.{Side}
use Rattle.vchan_rule.specs.Seated.{PageView, SeatView}
use Rattle.page_offer.specs.Views.{unused_view}
use Rattle.run_pages.specs.declared.lay.RunPage.{RunPage}
use Rattle.run_pages.specs.declared.lay.PageSeats.{PageSeats}
use Rattle.run_pages.specs.Pages.{AreSeatsOf, IsLaidFor, page_at}
use Rattle.run_pages.specs.Dealt.{AreDealt, Follows, hands_after}
use Rattle.run_pages.proofs.DealLaws.{attached, is_no}
use Rattle.run_pages.proofs.deal.Dealt.deal_page.Goals.{In-Laid-seats, In-Offered-seats-2}
use Rattle.run_pages.proofs.deal.Dealt.deal_page.Goals as goal

seats_laid : (c : In-Laid-seats) → (c.in-Laid-seats.server ≡ record { page = c.in-Laid.page; role = Server }) × (c.in-Laid-seats.client ≡ record { page = c.in-Laid.page; role = Client })
seats_laid c = let s = subst (λ (z : RunPage × PageSeats). AreSeatsOf (page_at z.0) z.1) (λ i. (c.in-Laid.is i, c.in-Laid-seats.is i)) c.requires.seats in (s.1, s.2)

seats_offered : (c : In-Offered-seats-2) → (c.in-Offered-seats-2.server ≡ (page_at c.args.page.now).page) × (c.in-Offered-seats-2.client ≡ (page_at c.args.page.now).page.table)
seats_offered c = let s = subst (λ (q : PageSeats). AreSeatsOf (page_at c.args.page.now) q) c.in-Offered-seats-2.is c.requires.seats in (s.1, s.2)

pub attach-server-requires : goal.attach-server-requires
attach-server-requires c = ap (λ (s : SeatView). s.page) (seats_laid (goal.at.attach-server-requires c).In-Laid-seats).0

pub attach-client-requires : goal.attach-client-requires
attach-client-requires c = ap (λ (s : SeatView). s.page) (seats_laid (goal.at.attach-client-requires c).In-Laid-seats).1

pub deal_laid-requires : goal.deal_laid-requires
deal_laid-requires c = subst (λ (r : RunPage). Follows (length c.args.self.now.hands.items) ((page_at r).place ∷ [])) c.in-Laid.is c.requires.follows

pub deal_data-requires : goal.deal_data-requires
deal_data-requires c = subst (λ (r : RunPage). Follows (length c.args.self.now.hands.items) ((page_at r).place ∷ [])) c.in-Offered.is c.requires.follows

pub returns-in_ok-deal_laid-in-Laid-seats-clause-dealt : goal.returns-in_ok-deal_laid-in-Laid-seats-clause-dealt
returns-in_ok-deal_laid-in-Laid-seats-clause-dealt c = λ pages dealt.
    let page = c.in-Laid.page in
    let seats = seats_laid (goal.at.returns-in_ok-deal_laid-in-Laid-seats-clause-dealt c).In-Laid-seats in
    subst (λ (r : RunPage). AreDealt (pages ++ page_at r ∷ []) c.deal_laid.new.self.controls.items c.deal_laid.new.self.hands.items) (sym c.in-Laid.is)
    (c.in_ok-deal_laid-in-Laid-seats.ensures.dealt pages (record { place = c.in-Laid.place; page = page; offered = false })
    (record {
      at = refl;
      server_is = attached page Server c.in-Laid-seats.server c.attach-server.result seats.0 c.attach-server.ensures.page.0 c.attach-server.ensures.side c.attach-server.ensures.idle.0;
      client_is = attached page Client c.in-Laid-seats.client c.attach-client.result seats.1 c.attach-client.ensures.page.0 c.attach-client.ensures.side c.attach-client.ensures.idle.0;
    }) dealt)

pub returns-in_ok-deal_laid-in-Laid-seats-clause-count : goal.returns-in_ok-deal_laid-in-Laid-seats-clause-count
returns-in_ok-deal_laid-in-Laid-seats-clause-count c =
    c.in_ok-deal_laid-in-Laid-seats.ensures.count ∙ ap (λ (r : RunPage). hands_after (page_at r).place (length c.args.self.now.hands.items)) (sym c.in-Laid.is)

pub returns-in_ok-deal_laid-in-Laid-seats-clause-orders : goal.returns-in_ok-deal_laid-in-Laid-seats-clause-orders
returns-in_ok-deal_laid-in-Laid-seats-clause-orders c = λ s laid ordered.
    let for = subst (λ (r : RunPage). IsLaidFor s (page_at r)) c.in-Laid.is laid in
    c.in_ok-deal_laid-in-Laid-seats.ensures.orders s (ap (λ (e : Side). e.orders) c.attach-server.ensures.side ∙ for.orders) (ap (λ (e : Side). e.orders) c.attach-client.ensures.side ∙ for.orders) ordered

pub returns-in_ok-deal_data-in-Offered-seats-2-clause-dealt : goal.returns-in_ok-deal_data-in-Offered-seats-2-clause-dealt
returns-in_ok-deal_data-in-Offered-seats-2-clause-dealt c = λ pages dealt.
    let p = page_at c.args.page.now in
    let seats = seats_offered (goal.at.returns-in_ok-deal_data-in-Offered-seats-2-clause-dealt c).In-Offered-seats-2 in
    c.in_ok-deal_data-in-Offered-seats-2.ensures.dealt pages p
    (record { at = ap (λ (r : RunPage). (page_at r).place) c.in-Offered.is; server_is = ap (λ (v : PageView). unused_view v.table Server) seats.0; client_is = ap (λ (t : TableId). unused_view t Client) seats.1 }) dealt

pub returns-in_ok-deal_data-in-Offered-seats-2-clause-count : goal.returns-in_ok-deal_data-in-Offered-seats-2-clause-count
returns-in_ok-deal_data-in-Offered-seats-2-clause-count c =
    c.in_ok-deal_data-in-Offered-seats-2.ensures.count ∙ ap (λ (r : RunPage). hands_after (page_at r).place (length c.args.self.now.hands.items)) (sym c.in-Offered.is)

pub returns-in_ok-deal_data-in-Offered-seats-2-clause-orders : goal.returns-in_ok-deal_data-in-Offered-seats-2-clause-orders
returns-in_ok-deal_data-in-Offered-seats-2-clause-orders c = λ s laid ordered.
    let for = subst (λ (r : RunPage). IsLaidFor s (page_at r)) c.in-Offered.is laid in
    let honest = and_parts _ _ (sym for.when) in
    c.in_ok-deal_data-in-Offered-seats-2.ensures.orders s (is_no _ honest.0) (is_no _ honest.1) ordered

-- where memory ran out nothing is said
none_dealt : (P : Type 0) (r : Result (Unit {0}) AllocError) → IsErr r → OnOk r P
none_dealt P (Err e) refused = tt
none_dealt P (Ok v) refused = cc

pub returns-in_err-deal_laid-in-Laid-seats-clause-dealt : goal.returns-in_err-deal_laid-in-Laid-seats-clause-dealt
returns-in_err-deal_laid-in-Laid-seats-clause-dealt c = λ pages dealt. none_dealt _ c.from_residual.result c.from_residual.ensures.0

pub returns-in_err-deal_data-in-Offered-seats-2-clause-dealt : goal.returns-in_err-deal_data-in-Offered-seats-2-clause-dealt
returns-in_err-deal_data-in-Offered-seats-2-clause-dealt c = λ pages dealt. none_dealt _ c.from_residual-in_err-deal_data-in-Offered-seats-2.result c.from_residual-in_err-deal_data-in-Offered-seats-2.ensures.0
