-- How many turns are left, and how far the ends are.
use Rattle.std.proofs.Common.{◌≡◌, ℕ, ◌+◌, ◌<◌, ◌≤◌, suc, zero, true, false, Bool, List, [], ◌∷◌, Option, Some, None, drop, length, map, slice_get, refl, sym, subst, ap, ◌∙◌, add-one, arith}
use Rattle.std.specs.Prelude.{All}
use Rattle.std.specs.Option.{option_and_then}
use Rattle.std.proofs.lemmas.Option.{get_or_from_slice_get, slice_get_within}
use Rattle.std.specs.List.{AllByRecursion as Each, AllZip as EachPair}
use Rattle.std.proofs.lemmas.List.{drop_all}
use Rattle.vchan_protocol.specs.declared.op.PastEvent.{PastEvent}
use Rattle.end_view.specs.EndView.{hostile_trail}
use Rattle.scenario_file.specs.declared.acts.Act.{Act}
use Rattle.scenario_file.specs.declared.acts.Act.TheVariants.{Rest}
use Rattle.scenario_file.specs.Acts.{ActFits, AreActs}
use Rattle.task_duties.specs.TaskOwes.{IsSameEnd}
use Rattle.task_duties.specs.Hostile.Given.{HostilePlan}
use Rattle.task_duties.specs.Hostile.Trail.{words_of}
use Rattle.hostile_task.specs.declared.domain.HostileDomain.{HostileDomain}
use Rattle.hostile_task.specs.declared.page.TurnedPage.{TurnedPage}
use Rattle.hostile_task.specs.declared.pages.Pages.{Pages}
use Rattle.hostile_task.specs.declared.progress.Progress.{Progress}
use Rattle.hostile_task.specs.Plan.{HostileState, plan_of}
use Rattle.hostile_task.specs.Pages.{AreSamePages, given_of, given_in, now_of, now_in, places_in}
use Rattle.hostile_task.specs.Saying.{after_turn}
use Rattle.hostile_task.specs.UnderWay.{HasBegun, IsPageSoFar, IsTrailSoFar, IsUnderWay, most_turns}
use Rattle.hostile_task.specs.Turns.{GoesOn, HasDone, MayHaveTaken, TakesTurn, all_turns, turns_left}

-- a task of these parts
abbrev pub state_of : HostileDomain → Pages → Progress → HostileState
state_of domain pages p = record { plan = plan_of domain (places_in pages); ends = given_in pages; now = now_in pages; acts = p.acts; turns = p.turns }

-- ---- how many turns are left

-- none, where all acts are done
pub none_left : (acts : List Act) (done turns : ℕ) → length acts ≤ done → turns_left acts done turns ≡ 0
none_left acts done turns all = omega (arith, ap all_turns (drop_all done acts all))

-- those of the act under way and of the acts behind it
next_turns : (acts : List Act) (n : ℕ) (act : Act) → slice_get acts n ≡ Some act → all_turns (drop n acts) ≡ most_turns act + all_turns (drop (n + 1) acts)
next_turns acts n act is = by_suc acts n is ∙ ap (λ (k : ℕ). most_turns act + all_turns (drop k acts)) (sym (add-one n))
  where
    by_suc : (xs : List Act) (k : ℕ) → slice_get xs k ≡ Some act → all_turns (drop k xs) ≡ most_turns act + all_turns (drop (suc k) xs)
    by_suc [] k at = cc
    by_suc (x ∷ xs) zero at = let same : x ≡ act = cc in ap (λ (a : Act). most_turns a + all_turns xs) same
    by_suc (x ∷ xs) (suc k) at = by_suc xs k at

-- each act takes a turn at least
pub some_turn : (act : Act) → ActFits act → 1 ≤ most_turns act
some_turn (Rest turns) fits = fits.0
some_turn _ fits = omega arith

-- an act that has begun has a turn left
pub turn_is_left : (act : Act) (p : Progress) (spelled : List ℕ) → ActFits act → HasBegun (Some act) p spelled → p.turns < most_turns act
turn_is_left act p spelled fits begun = by_turns p.turns refl
  where
    by_turns : (n : ℕ) → p.turns ≡ n → p.turns < most_turns act
    by_turns zero is = omega (arith, is, some_turn act fits)
    by_turns (suc n) is = (begun (omega (arith, is))).0

-- the same of the act of a number
pub turn_left : (acts : List Act) (act : Act) (p : Progress) (spelled : List ℕ) (list : List Act) → list ≡ acts → AreActs list → slice_get acts p.acts ≡ Some act → HasBegun (slice_get acts p.acts) p spelled → p.turns < most_turns act
turn_left acts act p spelled list same fit at begun =
    turn_is_left act p spelled (fits_at list fit.fit p.acts (ap (λ (xs : List Act). slice_get xs p.acts) same ∙ at)) (subst (λ (o : Option Act). HasBegun o p spelled) at begun)
  where
    fits_at : (xs : List Act) → All ActFits xs → (n : ℕ) → slice_get xs n ≡ Some act → ActFits act
    fits_at xs all n is = subst ActFits (get_or_from_slice_get xs n act act is) (all n act (slice_get_within xs n act is))

-- the act is done
pub takes_last : (acts : List Act) (act : Act) (done turns done_then turns_then : ℕ) → slice_get acts done ≡ Some act → turns < most_turns act → (words_of act ≡ None → turns + 1 ≡ most_turns act) → done_then ≡ done + 1 → turns_then ≡ 0
    → TakesTurn acts done turns done_then turns_then
takes_last acts act done turns done_then turns_then at few last one none =
    let next = next_turns acts done act at in
    let behind : all_turns (drop done_then acts) ≡ all_turns (drop (done + 1) acts) = ap (λ (n : ℕ). all_turns (drop n acts)) one in
    record {
      fewer = omega (arith, next, behind, few, none);
      one = λ silent. (let exact = last (sym (ap (λ (a : Option Act). option_and_then words_of a) at) ∙ silent) in omega (arith, next, behind, few, none, exact));
    }

-- the act goes on
pub takes_one : (acts : List Act) (act : Act) (done turns done_then turns_then : ℕ) → slice_get acts done ≡ Some act → turns < most_turns act → done_then ≡ done → turns_then ≡ turns + 1 → TakesTurn acts done turns done_then turns_then
takes_one acts act done turns done_then turns_then at few same more =
    let next = next_turns acts done act at in
    let behind : all_turns (drop done_then acts) ≡ all_turns (drop done acts) = ap (λ (n : ℕ). all_turns (drop n acts)) same in
    record {
      fewer = omega (arith, next, behind, few, more);
      one = λ silent. omega (arith, next, behind, few, more);
    }

-- a rest, which is over where it was its last turn
pub takes_rest : (acts : List Act) (turns : ℕ) (p next : Progress) (over : Bool) → slice_get acts p.acts ≡ Some (Rest turns) → p.turns < turns → (over ≡ true → turns ≤ p.turns + 1) → next ≡ after_turn over (record p { turns = p.turns + 1 })
    → TakesTurn acts p.acts p.turns next.acts next.turns
takes_rest acts turns p next true at few last is =
    takes_last acts (Rest turns) p.acts p.turns next.acts next.turns at few (λ silent. omega (arith, few, last refl)) (ap (λ (q : Progress). q.acts) is) (ap (λ (q : Progress). q.turns) is)
takes_rest acts turns p next false at few last is =
    takes_one acts (Rest turns) p.acts p.turns next.acts next.turns at few (ap (λ (q : Progress). q.acts) is) (ap (λ (q : Progress). q.turns) is)

-- a saying, which is over or goes on
pub takes_said : (acts : List Act) (act : Act) (bytes : List ℕ) (p mid next : Progress) (over : Bool) → slice_get acts p.acts ≡ Some act → words_of act ≡ Some bytes → p.turns < most_turns act → mid.acts ≡ p.acts
    → (over ≡ false → mid.turns ≡ p.turns + 1) → next ≡ after_turn over mid → TakesTurn acts p.acts p.turns next.acts next.turns
takes_said acts act bytes p mid next true at words few same more is =
    takes_last acts act p.acts p.turns next.acts next.turns at few (λ silent. (let both = sym words ∙ silent in cc)) (ap (λ (q : Progress). q.acts) is ∙ ap (λ (n : ℕ). n + 1) same) (ap (λ (q : Progress). q.turns) is)
takes_said acts act bytes p mid next false at words few same more is =
    takes_one acts act p.acts p.turns next.acts next.turns at few (ap (λ (q : Progress). q.acts) is ∙ same) (ap (λ (q : Progress). q.turns) is ∙ more refl)

-- ---- how far the ends are

-- the act under way has taken no more turns than it may
few_taken : (acts : List Act) (p : Progress) (spelled : List ℕ) → HasBegun (slice_get acts p.acts) p spelled → MayHaveTaken acts p.acts p.turns
few_taken acts p spelled begun act at = by_turns p.turns refl
  where
    by_turns : (n : ℕ) → p.turns ≡ n → p.turns ≤ most_turns act
    by_turns zero is = omega (arith, is)
    by_turns (suc n) is = omega (arith, ((subst (λ (o : Option Act). HasBegun o p spelled) at begun) (omega (arith, is))).0)

-- on all ends one beginning of the acts is done
pub has_done : (domain : HostileDomain) (pages : Pages) (p : Progress) (spelled : List ℕ) → IsUnderWay domain pages p spelled → HasDone (state_of domain pages p)
has_done domain pages p spelled way = record {
  within = way.acts;
  same = same (pages.control ∷ pages.payload.items) way.so_far;
  progress = p;
  acts_are = refl;
  turns_are = refl;
  few = few_taken domain.acts p spelled way.begun;
  trails = trails (pages.control ∷ pages.payload.items) way.so_far;
}
  where
    plan : HostilePlan
    plan = plan_of domain (places_in pages)

    same : (ps : List TurnedPage) → Each (IsPageSoFar plan p) ps → EachPair IsSameEnd (map given_of ps) (map now_of ps)
    same [] all = tt
    same (q ∷ ps) all = (record { place = refl; page = all.0.same; role = all.0.role ∙ sym all.0.same_role }, same ps all.1)

    trails : (ps : List TurnedPage) → Each (IsPageSoFar plan p) ps → Each (λ e. IsTrailSoFar plan e.place p e.view.trail) (map now_of ps)
    trails [] all = tt
    trails (q ∷ ps) all =
        (subst (λ (t : List PastEvent). IsTrailSoFar plan q.place p t) (sym (ap (λ (b : Bool). hostile_trail b q.end.side.trail) all.0.turned)) all.0.trail, trails ps all.1)

-- one turn further
pub goes_on : (domain : HostileDomain) (old new : Pages) (p next : Progress) (spelled : List ℕ) → AreSamePages old new → IsUnderWay domain new next spelled → TakesTurn domain.acts p.acts p.turns next.acts next.turns → GoesOn (state_of domain old p) (state_of domain new next)
goes_on domain old new p next spelled same way turn = record {
  plan = ap (λ (places : _). plan_of domain places) same.places;
  ends = same.given;
  turn = turn;
  so_far = has_done domain new next spelled way;
}
