use Rattle.std.proofs.Common.{◌≡◌, ◌<◌, ◌+◌, [], ◌∙◌, arith, subst, sym, ap, map, take, drop, get_or, length}
use Rattle.std.specs.Vec.Iter.{into_iter_items}
use Rattle.run_pages.specs.Pages.{HasSeats, IsLaidFor, page_at}
use Rattle.run_pages.specs.Dealt.{AreDealt, HaveOrders, IsDealing}
use Rattle.run_pages.proofs.DealingLaws.{IsNext, all_dealt, dealing_on, is_next, next_follows, none_dealt, none_ordered, take_all, within_seats}
use Rattle.std.proofs.Math.ListN.{get_or-map}
use Rattle.std.proofs.lemmas.Grind.{common_steps}
use Rattle.std.proofs.lemmas.List.{length-map}
use Rattle.list_laws.proofs.Each.{each_here}
use Rattle.run_pages.proofs.lay.RunPages.deal.Goals.{After-index}
use Rattle.run_pages.proofs.lay.RunPages.deal.Goals as goal

pub loop-seats-init : goal.loop-seats-init
loop-seats-init c =
    let all = length c.args.scenario.now.domains in
    let first = none_dealt c.args.scenario.now c.args.self.now c.args.seats.items c.requires.laid c.requires.seats in
    record {
      dealing = subst (λ seats. IsDealing [] c.args.self.now seats c.in_ok-with_capacity.field-0.items c.in_ok-with_capacity-2.field-0.items all) (sym c.into_iter-seats-iterator.ensures.into_iter_gives.0)
          (subst (λ controls. IsDealing [] c.args.self.now c.args.seats.items controls c.in_ok-with_capacity-2.field-0.items all) (sym c.in_ok-with_capacity.ensures.items)
          (subst (λ hands. IsDealing [] c.args.self.now c.args.seats.items [] hands all) (sym c.in_ok-with_capacity-2.ensures.items) first));
      ordered = subst (HaveOrders c.args.scenario.now) (sym c.in_ok-with_capacity-2.ensures.items) (none_ordered c.args.scenario.now);
    }

pub index-requires : goal.index-requires
index-requires c =
    let seated = subst (λ seats. HasSeats (drop c.loop-seats.index c.args.self.now) seats) c.in-Some.ensures.steps.0 c.loop-seats.invariant.dealing.seated in
    let within : c.loop-seats.index < length c.args.self.now = within_seats c.args.self.now c.loop-seats.index c.in-Some.seats (into_iter_items c.next.new.self) seated in
    let same : length c.args.self.now ≡ length c.self.inside.pages.items = ap length (sym c.self.view_is) ∙ length-map c.self.inside.pages.items page_at in
    omega (arith, within, same)

-- the page at the index, as the invariant has it
here : (c : After-index) → get_or c.args.self.now c.loop-seats.index (page_at c.index.result.now) ≡ page_at c.index.result.now
here c =
    ap (λ pages. get_or pages c.loop-seats.index (page_at c.index.result.now)) (sym c.self.view_is)
    ∙ get_or-map page_at c.self.inside.pages.items c.loop-seats.index c.index.result.now ∙ ap page_at (sym c.index.ensures)

next : (c : After-index) → IsNext c.args.self.now c.loop-seats.index (page_at c.index.result.now) c.in-Some.seats (into_iter_items c.next.new.self) c.loop-seats.dealt.controls.items c.loop-seats.dealt.hands.items (length c.args.scenario.now.domains)
next c =
    is_next c.args.self.now c.loop-seats.index (page_at c.index.result.now) c.in-Some.seats (into_iter_items c.next.new.self) (into_iter_items c.loop-seats.seats-iterator)
    c.loop-seats.dealt.controls.items c.loop-seats.dealt.hands.items (length c.args.scenario.now.domains) c.in-Some.ensures.steps.0 (λ within. here c) c.loop-seats.invariant.dealing

pub deal_page-requires-clause-seats : goal.deal_page-requires-clause-seats
deal_page-requires-clause-seats c = (next c).dealing.seated.0

pub deal_page-requires-clause-follows : goal.deal_page-requires-clause-follows
deal_page-requires-clause-follows c = next_follows (length c.loop-seats.dealt.hands.items) (page_at c.index.result.now).place (map (λ p. p.place) (drop (c.loop-seats.index + 1) c.args.self.now)) (next c).dealing.follows

pub loop-seats-preserved : goal.loop-seats-preserved
loop-seats-preserved c =
    let k = c.loop-seats.index in
    let p = page_at c.index.result.now in
    let w = (goal.at.loop-seats-preserved c).After-index in
    let now = next w in
    let within = within_seats c.args.self.now k c.in-Some.seats (into_iter_items c.next.new.self) (subst (λ seats. HasSeats (drop k c.args.self.now) seats) c.in-Some.ensures.steps.0 c.loop-seats.invariant.dealing.seated) in
    record {
      dealing = subst (λ before. IsDealing before (drop (k + 1) c.args.self.now) (into_iter_items c.next.new.self) c.deal_page.new.self.controls.items c.deal_page.new.self.hands.items (length c.args.scenario.now.domains)) (sym now.taken)
          (dealing_on (take k c.args.self.now) (drop (k + 1) c.args.self.now) p c.in-Some.seats (into_iter_items c.next.new.self) c.loop-seats.dealt.controls.items c.deal_page.new.self.controls.items
          c.loop-seats.dealt.hands.items c.deal_page.new.self.hands.items (length c.args.scenario.now.domains) now.dealing
          (c.in_ok-deal_page.ensures.dealt (take k c.args.self.now) c.loop-seats.invariant.dealing.dealt) c.in_ok-deal_page.ensures.count);
      ordered = c.in_ok-deal_page.ensures.orders c.args.scenario.now (each_here (IsLaidFor c.args.scenario.now) c.args.self.now k p within (here w) c.requires.laid.each) c.loop-seats.invariant.ordered;
    }

-- all pages are dealt
over : (c : goal.After-drop-seats-iterator-2) → AreDealt c.args.self.now c.loop-seats.dealt.controls.items c.loop-seats.dealt.hands.items × (length c.loop-seats.dealt.hands.items ≡ length c.args.scenario.now.domains)
over c =
    let left : into_iter_items c.loop-seats.seats-iterator ≡ [] = grind (arith, common_steps, c.in-None.ensures.steps) in
    let k = c.loop-seats.index in
    let controls = c.loop-seats.dealt.controls.items in
    let hands = c.loop-seats.dealt.hands.items in
    let all = all_dealt (take k c.args.self.now) (drop k c.args.self.now) controls hands (length c.args.scenario.now.domains)
    (subst (λ seats. IsDealing (take k c.args.self.now) (drop k c.args.self.now) seats controls hands (length c.args.scenario.now.domains)) left c.loop-seats.invariant.dealing) in
    (subst (λ pages. AreDealt pages controls hands) (take_all c.args.self.now k all.1) all.0, all.2)

pub returns-clause-controls : goal.returns-clause-controls
returns-clause-controls c = (over c).0.controls_are

pub returns-clause-hands : goal.returns-clause-hands
returns-clause-hands c = (over c).0.hands_are

pub returns-clause-all : goal.returns-clause-all
returns-clause-all c = (over c).1

pub returns-clause-as_many : goal.returns-clause-as_many
returns-clause-as_many c = (over c).0.as_many ∙ (over c).1

pub returns-clause-orders : goal.returns-clause-orders
returns-clause-orders c = c.loop-seats.invariant.ordered
