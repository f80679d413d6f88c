-- A task whose acts are all done owes the trails of its ends.
use Rattle.std.proofs.Common.{◌≡◌, ℕ, Bool, true, false, List, [], ◌∷◌, ◌++◌, Option, None, length, map, take, if◌then◌else◌, sym, subst, ap, ◌∙◌, arith}
use Rattle.std.specs.List.{flat_map, AllByRecursion as Each, AllZip as EachPair}
use Rattle.std.specs.Option.{option_and_then}
use Rattle.std.proofs.lemmas.List.{append-nil}
use Rattle.std.proofs.lemmas.Option.{slice_get_past}
use Rattle.std.proofs.Math.Seq.{take-length}
use Rattle.std.proofs.lemmas.Simd.{map-map}
use Rattle.list_laws.proofs.Each.{each_through}
use Rattle.ring_words.specs.declared.page.Role.{Role}
use Rattle.ring_words.specs.declared.page.Role.TheVariants.{Server}
use Rattle.vchan_protocol.specs.declared.op.PastEvent.{PastEvent}
use Rattle.vchan_protocol.specs.Table.Ends.{written_ring, prod_word}
use Rattle.end_view.specs.EndView.{EndView, hostile_trail}
use Rattle.vchan_rule.specs.Seated.{view}
use Rattle.hostile_seat.specs.Hostile.{strays_along}
use Rattle.hostile_seat.proofs.ByteLaws.{along_trail, along_role, along_turned}
use Rattle.scenario_file.specs.declared.acts.Act.{Act}
use Rattle.task_duties.specs.declared.place.PagePlace.{PagePlace}
use Rattle.task_duties.specs.declared.place.PagePlace.TheVariants.{Control, Payload}
use Rattle.task_duties.specs.declared.ends.RetiredEnd.{RetiredEnd}
use Rattle.task_duties.specs.Places.{is_place}
use Rattle.task_duties.specs.TaskOwes.{EndAt, IsSameEnd, AreEnds, AreGivenBack, IsTurnedFrom, before_turned, TaskOwes, Hostile, NoMemory}
use Rattle.task_duties.specs.GivenEnds.{done_view, retired_at, all_retired}
use Rattle.task_duties.specs.Hostile.Given.{HostilePlan}
use Rattle.task_duties.specs.Hostile.Stores.{loaded, stores_of, role_at}
use Rattle.task_duties.specs.Hostile.Trail.{words_of, first_voice, retiring, IsTrail}
use Rattle.task_duties.proofs.Places.{same_self}
use Rattle.hostile_task.specs.declared.domain.HostileDomain.{HostileDomain}
use Rattle.hostile_task.specs.declared.page.TurnedPage.{TurnedPage}
use Rattle.hostile_task.specs.declared.pages.Pages.{Pages}
use Rattle.hostile_task.specs.declared.progress.Progress.{Progress}
use Rattle.task_duties.specs.declared.ends.TaskTurn.{TaskTurn}
use Rattle.hostile_task.specs.declared.task.HostileDone.{HostileDone}
use Rattle.task_duties.specs.declared.ends.TaskTurn.TheVariants as turn
use Rattle.hostile_task.specs.Plan.{HostileState, plan_of, AreApart}
use Rattle.hostile_task.specs.Pages.{AreSamePages, IsRetiredOf, given_in, given_of, places_in}
use Rattle.hostile_task.specs.UnderWay.{IsTrailSoFar, IsPart, words_at, ActsDone, IsPageSoFar, IsUnderWay}
use Rattle.hostile_task.specs.Finishing.{Finishes}
use Rattle.hostile_task.specs.Turns.{Pays}
use Rattle.hostile_task.proofs.ListLaws.{each_of_pairs, map_pairs, pairs_of_pairs}
use Rattle.hostile_task.proofs.PageLaws.{along_before}
use Rattle.hostile_task.proofs.TurnLaws.{none_left, state_of}
use Rattle.hostile_task.proofs.TrailLaws.{all_acts}

-- ---- the end at a place

end_at : EndView → List EndAt → PagePlace → EndView
end_at none [] place = none
end_at none (e ∷ ends) place = if is_place e.place place then e.view else end_at none ends place

are_at : (none : EndView) (ends : List EndAt) → AreApart (map (λ e. e.place) ends) → AreEnds (end_at none ends) ends
unfolding end_at
are_at none [] apart = tt
are_at none (e ∷ ends) apart =
    (ap (λ (test : Bool). if test then e.view else end_at none ends e.place) (sym (same_self e.place)), later ends apart.0 (are_at none ends apart.1))
  where
    later : (others : List EndAt) → Each (λ q. is_place e.place q ≡ false) (map (λ o. o.place) others) → Each (λ o. o.view ≡ end_at none ends o.place) others
        → Each (λ o. o.view ≡ (if is_place e.place o.place then e.view else end_at none ends o.place)) others
    later [] differ are = tt
    later (o ∷ others) differ are =
        (are.0 ∙ ap (λ (test : Bool). if test then e.view else end_at none ends o.place) (sym differ.0), later others differ.1 are.1)

-- ---- one page

past_all : (acts : List Act) (n : ℕ) → n ≡ length acts → take n acts ≡ acts
past_all acts n is = ap (λ (k : ℕ). take k acts) is ∙ take-length acts

trail_whole : (plan : HostilePlan) (p : Progress) (place : PagePlace) (trail : List PastEvent) (role : Role) → p.acts ≡ length plan.acts → role ≡ role_at plan.domain place → IsTrailSoFar plan place p trail → IsTrail plan place (trail ++ retiring role)
trail_whole plan p (Control d) trail role all role_is t =
    let none : words_at plan p.acts ≡ None = ap (λ (a : Option Act). option_and_then words_of a) (slice_get_past plan.acts p.acts (omega (arith, all))) in
    let part : t.part ≡ [] = (subst (λ (w : Option (List ℕ)). IsPart w t.voice p t.part) none t.under_way).0 in (
      t.value,
      t.done,
      all_acts plan (Control d) plan.acts (first_voice plan t.value) t.voice t.done (subst (λ (acts : List Act). ActsDone plan (Control d) acts (first_voice plan t.value) t.voice t.done) (past_all plan.acts p.acts all) t.acts),
      (λ i. t.trail_is i ++ retiring (role_is i)) ∙ ap (λ (events : List PastEvent). loaded (prod_word (written_ring Server)) t.value ∷ (events ++ retiring Server)) (ap (λ (events : List PastEvent). t.done ++ events) part ∙ append-nil t.done),
    )
trail_whole plan p (Payload from to port) trail role all role_is t =
    λ i. (t ∙ ap (λ (acts : List Act). flat_map (stores_of plan (Payload from to port)) acts) (past_all plan.acts p.acts all)) i ++ retiring (role_is i)

page_turned : (plan : HostilePlan) (p : Progress) (page : TurnedPage) (r : RetiredEnd) → IsRetiredOf page r → IsPageSoFar plan p page → (done_view r.retired).turned ≡ true
page_turned plan p page r retired so_far = ap (λ (v : EndView). v.turned) retired.view ∙ along_turned page.end.side (retiring page.end.side.role) ∙ so_far.turned

page_done : (plan : HostilePlan) (p : Progress) (page : TurnedPage) (r : RetiredEnd) → p.acts ≡ length plan.acts → IsRetiredOf page r → IsPageSoFar plan p page → IsTrail plan r.place (done_view r.retired).trail
page_done plan p page r all retired so_far =
    let last = strays_along page.end.side (retiring page.end.side.role) in
    let turned : last.turned ≡ true = along_turned page.end.side (retiring page.end.side.role) ∙ so_far.turned in
    let trail : (done_view r.retired).trail ≡ page.end.side.trail ++ retiring page.end.side.role =
    ap (λ (v : EndView). v.trail) retired.view ∙ ap (λ (test : Bool). hostile_trail test last.trail) turned ∙ along_trail page.end.side (retiring page.end.side.role) in
    subst (λ (t : List PastEvent). IsTrail plan r.place t) (sym trail)
    (subst (λ (place : PagePlace). IsTrail plan place (page.end.side.trail ++ retiring page.end.side.role)) (sym retired.place)
    (trail_whole plan p page.place page.end.side.trail page.end.side.role all so_far.role so_far.trail))

page_same : (plan : HostilePlan) (p : Progress) (page : TurnedPage) (r : RetiredEnd) → IsRetiredOf page r → IsPageSoFar plan p page → IsSameEnd (given_of page) (retired_at r)
page_same plan p page r retired so_far = record {
  place = retired.place;
  page = ap (λ (v : EndView). v.page) retired.view ∙ so_far.same;
  role = ap (λ (v : EndView). v.role) retired.view ∙ along_role page.end.side (retiring page.end.side.role) ∙ so_far.role ∙ sym so_far.same_role;
}

page_from : (plan : HostilePlan) (p : Progress) (page : TurnedPage) (r : RetiredEnd) → IsRetiredOf page r → IsPageSoFar plan p page → IsTurnedFrom (given_of page) (retired_at r)
page_from plan p page r retired so_far = record {
  before = ap before_turned retired.view ∙ along_before page.end (retiring page.end.side.role) ∙ so_far.before;
}

-- the ends of such pages are those that were given, and are turned
are_back : (plan : HostilePlan) (p : Progress) (every : List TurnedPage) (rs : List RetiredEnd) → Each (IsPageSoFar plan p) every → EachPair IsRetiredOf every rs → AreGivenBack true (map given_of every) (all_retired rs)
are_back plan p every rs so_far retired = record {
  same = pairs_of_pairs IsRetiredOf (IsPageSoFar plan p) IsSameEnd given_of retired_at every rs (λ page r is here. page_same plan p page r is here) retired so_far;
  turned_are = each_through (λ e. e.view.turned ≡ true) retired_at rs
      (each_of_pairs IsRetiredOf (IsPageSoFar plan p) (λ r. (done_view r.retired).turned ≡ true) every rs (λ page r is here. page_turned plan p page r is here) retired so_far);
}

-- ---- the whole task

-- where memory runs out in a turn, which leaves the same pages
pub back_pays : (domain : HostileDomain) (old new : Pages) (p next : Progress) (spelled : List ℕ) (rs : List RetiredEnd) → AreSamePages old new → IsUnderWay domain new next spelled → EachPair IsRetiredOf (new.control ∷ new.payload.items) rs
    → TaskOwes (Hostile (plan_of domain (places_in old)) (given_in old)) (NoMemory (all_retired rs))
back_pays domain old new p next spelled rs same way retired =
    (true, subst (λ (given : List EndAt). AreGivenBack true given (all_retired rs)) same.given (are_back (plan_of domain (places_in new)) next (new.control ∷ new.payload.items) rs way.so_far retired))

pub done_pays : (domain : HostileDomain) (pages : Pages) (p : Progress) (spelled : List ℕ) (result : TaskTurn HostileState HostileDone) → IsUnderWay domain pages p spelled → p.acts ≡ length domain.acts → Finishes domain.number pages result
    → Pays (state_of domain pages p) result
done_pays domain pages p spelled (turn.Again task) way all finishes = absurd finishes
done_pays domain pages p spelled (turn.NoMemory ends) way all finishes = absurd finishes
done_pays domain pages p spelled (turn.Done done) way all finishes = (
  none_left domain.acts p.acts p.turns (omega (arith, all)),
  (
    end_at (view pages.control.given.value) ends,
    finishes.0,
    record {
      back = back;
      are = are_at (view pages.control.given.value) ends (subst (λ (ps : List PagePlace). AreApart ps) (sym places) way.apart);
    },
    each_through (λ e. IsTrail plan e.place e.view.trail) retired_at done.ends.items
        (each_of_pairs IsRetiredOf (IsPageSoFar plan p) (λ r. IsTrail plan r.place (done_view r.retired).trail) every done.ends.items (λ page r retired so_far. page_done plan p page r all retired so_far) finishes.1 way.so_far),
    pairs_of_pairs IsRetiredOf (IsPageSoFar plan p) IsTurnedFrom given_of retired_at every done.ends.items (λ page r retired so_far. page_from plan p page r retired so_far) finishes.1 way.so_far,
  ),
)
  where
    plan : HostilePlan
    plan = plan_of domain (places_in pages)

    every : List TurnedPage
    every = pages.control ∷ pages.payload.items

    ends : List EndAt
    ends = all_retired done.ends.items

    back : AreGivenBack true (map given_of every) ends
    back = are_back plan p every done.ends.items way.so_far finishes.1

    places : map (λ e. e.place) ends ≡ places_in pages
    places = map-map (λ e. e.place) retired_at done.ends.items ∙ map_pairs IsRetiredOf (λ q. q.place) (λ r. r.place) every done.ends.items (λ page r retired. retired.place) finishes.1
