use Rattle.std.proofs.Common.{◌≡◌, ◌≢◌, ◌∙◌, ◌∷◌, [], sym, ap, subst, arith, map}
use Rattle.task_duties.specs.GivenEnds.{all_retired, retired_at}
use Rattle.run_laws.specs.Laid.{server_of, client_of}
use Rattle.run_pages.specs.Pages.{page_at}
use Rattle.run_pages.specs.Settling.{AreSettledBy, GivesUpBoth, HasEnd, IsSettling}
use Rattle.std.proofs.lemmas.Grind.{common_steps}
use Rattle.std.proofs.lemmas.List.{map-append, length-map}
use Rattle.run_pages.proofs.SettleLaws.{GaveBoth, IsLastPage, gave_both, last_laid, last_page, settles_all, settles_first, settles_on}
use Rattle.run_pages.proofs.lay.RunPages.settle.Goals as goal

pub loop-page-init : goal.loop-page-init
loop-page-init c =
    let hands = map (λ h. all_retired h.items) c.args.given_back.items in
    let first = settles_first c.args.scenario.now c.args.self hands c.requires.laid (length-map c.args.given_back.items (λ h. all_retired h.items) ∙ c.requires.all) c.requires.back in
    subst (λ left. IsSettling c.args.scenario.now (map page_at c.self.inside.pages.items) c.args.self (map (λ h. all_retired h.items) left) hands c.in_ok-settled.settled.items) (sym c.as_mut_slice-left.ensures.value)
    (subst (λ pages. IsSettling c.args.scenario.now pages c.args.self hands hands c.in_ok-settled.settled.items) (sym c.self.view_is)
    (subst (λ settled. IsSettling c.args.scenario.now c.args.self c.args.self hands hands settled) (sym c.in_ok-settled.ensures.items) first))

-- the page that is taken is the last
last : (c : goal.After-take_ends-arg-1) → IsLastPage (map page_at c.pop.new.self.items) (page_at c.in-Some.page) (map (λ h. all_retired h.items) c.loop-page.left)
last c =
    last_page c.args.scenario.now (map page_at c.loop-page.pages.items) c.args.self (map page_at c.pop.new.self.items) (page_at c.in-Some.page) (map (λ h. all_retired h.items) c.loop-page.left)
    (map (λ h. all_retired h.items) c.args.given_back.items) c.loop-page.settled.items
    (ap (map page_at) c.in-Some.ensures.items ∙ map-append page_at c.pop.new.self.items (c.in-Some.page ∷ [])) c.loop-page.invariant

pub take_ends-server-requires-clause-apart : goal.take_ends-server-requires-clause-apart
take_ends-server-requires-clause-apart c = subst (λ place. server_of place ≢ client_of place) (sym c.place-place.ensures) (last c).apart

pub take_ends-server-requires-clause-server : goal.take_ends-server-requires-clause-server
take_ends-server-requires-clause-server c =
    let e = (last c).server in
    subst (λ place. HasEnd (server_of place) (map (λ h. all_retired h.items) c.loop-page.left)) (sym c.place-place.ensures) (e.rest, e.end, e.at)

pub take_ends-server-requires-clause-client : goal.take_ends-server-requires-clause-client
take_ends-server-requires-clause-client c =
    let e = (last c).client in
    subst (λ place. HasEnd (client_of place) (map (λ h. all_retired h.items) c.loop-page.left)) (sym c.place-place.ensures) (e.rest, e.end, e.at)

-- what the two tasks gave up
gives : (c : goal.After-settled-in-Some-1) → GivesUpBoth (page_at c.in-Some.page).place (retired_at c.take_ends-server.result.0) (retired_at c.take_ends-server.result.1)
    (map (λ h. all_retired h.items) c.loop-page.left) (map (λ h. all_retired h.items) c.take_ends-server.new.hands)
gives c =
    subst (λ place. GivesUpBoth place (retired_at c.take_ends-server.result.0) (retired_at c.take_ends-server.result.1) (map (λ h. all_retired h.items) c.loop-page.left) (map (λ h. all_retired h.items) c.take_ends-server.new.hands))
    c.place-place.ensures c.take_ends-server.ensures

gave : (c : goal.After-settled-in-Some-1) → GaveBoth (page_at c.in-Some.page) (retired_at c.take_ends-server.result.0) (retired_at c.take_ends-server.result.1)
    (map (λ h. all_retired h.items) c.loop-page.left) (gives c).0
gave c =
    let before = map page_at c.pop.new.self.items in
    let hands = map (λ h. all_retired h.items) c.loop-page.left in
    let last = last_page c.args.scenario.now (map page_at c.loop-page.pages.items) c.args.self before (page_at c.in-Some.page) hands (map (λ h. all_retired h.items) c.args.given_back.items) c.loop-page.settled.items
    (ap (map page_at) c.in-Some.ensures.items ∙ map-append page_at c.pop.new.self.items (c.in-Some.page ∷ [])) c.loop-page.invariant in
    gave_both before (page_at c.in-Some.page) (retired_at c.take_ends-server.result.0) (retired_at c.take_ends-server.result.1) hands (map (λ h. all_retired h.items) c.take_ends-server.new.hands) last (gives c)

pub settle_page-requires-clause-made : goal.settle_page-requires-clause-made
settle_page-requires-clause-made c = (
  c.args.scenario.now,
  c.requires.starts,
  last_laid c.args.scenario.now (map page_at c.loop-page.pages.items) c.args.self (map page_at c.pop.new.self.items) (page_at c.in-Some.page) (map (λ h. all_retired h.items) c.loop-page.left)
      (map (λ h. all_retired h.items) c.args.given_back.items) c.loop-page.settled.items
      (ap (map page_at) c.in-Some.ensures.items ∙ map-append page_at c.pop.new.self.items (c.in-Some.page ∷ [])) c.loop-page.invariant,
)

pub settle_page-requires-clause-server : goal.settle_page-requires-clause-server
settle_page-requires-clause-server c = (gave c).server_gave.same

pub settle_page-requires-clause-client : goal.settle_page-requires-clause-client
settle_page-requires-clause-client c = (gave c).client_gave.same

pub loop-page-preserved : goal.loop-page-preserved
loop-page-preserved c =
    let hands' = map (λ h. all_retired h.items) c.take_ends-server.new.hands in
    let first = map (λ h. all_retired h.items) c.args.given_back.items in
    let gives = subst (λ place. GivesUpBoth place (retired_at c.take_ends-server.result.0) (retired_at c.take_ends-server.result.1) (map (λ h. all_retired h.items) c.loop-page.left) hands')
    c.place-place.ensures c.take_ends-server.ensures in
    subst (λ settled. IsSettling c.args.scenario.now (map page_at c.pop.new.self.items) c.args.self hands' first settled) (sym c.in_ok-push.ensures.items)
    (settles_on c.args.scenario.now (map page_at c.loop-page.pages.items) c.args.self (map page_at c.pop.new.self.items) (page_at c.in-Some.page)
    (retired_at c.take_ends-server.result.0) (retired_at c.take_ends-server.result.1) c.in_ok-settle_page.field-0 (map (λ h. all_retired h.items) c.loop-page.left) hands' first c.loop-page.settled.items
    (ap (map page_at) c.in-Some.ensures.items ∙ map-append page_at c.pop.new.self.items (c.in-Some.page ∷ [])) c.loop-page.invariant gives c.in_ok-settle_page.ensures)

pub returns : goal.returns
returns c =
    let left : c.loop-page.pages.items ≡ [] = grind (arith, common_steps, c.pop.ensures.cases, c.pop.ensures.variant, c.in_default.not-Some) in
    let first = map (λ h. all_retired h.items) c.args.given_back.items in
    let inv = subst (λ pages. IsSettling c.args.scenario.now (map page_at pages) c.args.self (map (λ h. all_retired h.items) c.loop-page.left) first c.loop-page.settled.items) left c.loop-page.invariant in
    subst (AreSettledBy c.args.scenario.now c.args.self first) (sym c.reverse.ensures.items)
    (settles_all c.args.scenario.now c.args.self (map (λ h. all_retired h.items) c.loop-page.left) first c.loop-page.settled.items inv)
