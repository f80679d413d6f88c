-- How far a hostile domain is: the events so far of a page are those of the acts that are done, and a part of those of the act under way.
-- Source: this project's own.
use Rattle.std.specs.Prelude.{◌≡◌, ℕ, ◌≤◌, ◌<◌, true, List, [], ◌∷◌, ◌++◌, Option, Some, None, length, take, slice_get}
use Rattle.std.specs.List.{flat_map, AllByRecursion as Each}
use Rattle.std.specs.Option.{option_and_then, option_map_or}
use Rattle.ring_words.specs.declared.page.Role.TheVariants.{Server}
use Rattle.vchan_protocol.specs.declared.op.PastEvent.{PastEvent}
use Rattle.vchan_protocol.specs.Table.Ends.{written_ring, prod_word}
use Rattle.vchan_rule.specs.Seated.{view, last_view}
use Rattle.scenario_file.specs.declared.acts.Act.{Act}
use Rattle.scenario_file.specs.declared.acts.Act.TheVariants.{Rest}
use Rattle.task_duties.specs.TaskOwes.{before_turned}
use Rattle.task_duties.specs.declared.place.PagePlace.{PagePlace}
use Rattle.task_duties.specs.declared.place.PagePlace.TheVariants.{Control, Payload}
use Rattle.task_duties.specs.Hostile.Given.{HostilePlan}
use Rattle.task_duties.specs.Hostile.Stores.{orders_at, role_at, loaded, stores_of}
use Rattle.task_duties.specs.Hostile.Saying.{Voice}
use Rattle.task_duties.specs.Hostile.Trail.{words_of, Acts, first_voice}
use Rattle.hostile_task.specs.declared.domain.HostileDomain.{HostileDomain}
use Rattle.hostile_task.specs.declared.page.TurnedPage.{TurnedPage}
use Rattle.hostile_task.specs.declared.pages.Pages.{Pages}
use Rattle.hostile_task.specs.declared.progress.Progress.{Progress}
use Rattle.hostile_task.specs.Plan.{plan_of, AreApart}
use Rattle.hostile_task.specs.Pages.{places_in}
use Rattle.hostile_task.specs.Saying.{SaysSoFar, IsReady}

-- ---- the trail of a page so far

-- the events of these acts one after another, with the domain's own index before them and after them
abbrev pub ActsDone : HostilePlan → PagePlace → List Act → Voice → Voice → List PastEvent → Type 0
ActsDone plan place [] before after events = (events ≡ []) × (after ≡ before)
ActsDone plan place (act ∷ acts) before after events =
    (first : List PastEvent) × (rest : List PastEvent) × (between : Voice) × (events ≡ first ++ rest)
    × Acts plan place act (words_of act) before between first × ActsDone plan place acts between after rest

-- the bytes that the act of a number sends, if it sends some
abbrev pub words_at : HostilePlan → ℕ → Option (List ℕ)
words_at plan number = option_and_then words_of (slice_get plan.acts number)

-- a part of the events of an act under way: only an act that sends bytes has parts
abbrev pub IsPart : Option (List ℕ) → Voice → Progress → List PastEvent → Type 0
IsPart (Some bytes) v p events = SaysSoFar v bytes p events
IsPart None v p events = (events ≡ []) × (p.own ≡ v.own)

-- the trail of the control page
pub record IsControlTrail (plan : HostilePlan) (place : PagePlace) (p : Progress) (trail : List PastEvent) : Type 0 where
  pub value : ℕ
  pub done : List PastEvent
  pub part : List PastEvent
  pub voice : Voice
  pub orders : voice.orders ≡ plan.control
  pub acts : ActsDone plan place (take p.acts plan.acts) (first_voice plan value) voice done
  pub under_way : IsPart (words_at plan p.acts) voice p part
  pub trail_is : trail ≡ loaded (prod_word (written_ring Server)) value ∷ (done ++ part)

-- the trail of a page
abbrev pub IsTrailSoFar : HostilePlan → PagePlace → Progress → List PastEvent → Type 0
IsTrailSoFar plan (Control d) p trail = IsControlTrail plan (Control d) p trail
IsTrailSoFar plan (Payload from to port) p trail = trail ≡ flat_map (stores_of plan (Payload from to port)) (take p.acts plan.acts)

-- ---- the pages

-- each page
abbrev pub EachPage : (TurnedPage → Type 0) → Pages → Type 0
EachPage P pages = P pages.control × Each P pages.payload.items

abbrev pub HaveOrders : HostilePlan → Pages → Type 0
HaveOrders plan pages = EachPage (λ p. p.end.side.orders ≡ orders_at plan p.place) pages

abbrev pub HaveRoles : ℕ → Pages → Type 0
HaveRoles domain pages = EachPage (λ p. p.end.side.role ≡ role_at domain p.place) pages

-- a page is the one that was given, turned over to the domain, which has come so far on it
pub record IsPageSoFar (plan : HostilePlan) (p : Progress) (page : TurnedPage) : Type 0 where
  pub same : page.end.page ≡ page.given.value.page
  pub same_role : page.given.value.side.role ≡ role_at plan.domain page.place
  pub before : before_turned (last_view page.end) ≡ before_turned (view page.given.value)
  pub role : page.end.side.role ≡ role_at plan.domain page.place
  pub orders : page.end.side.orders ≡ orders_at plan page.place
  pub turned : page.end.side.turned ≡ true
  pub trail : IsTrailSoFar plan page.place p page.end.side.trail

abbrev pub IsControl : PagePlace → Type 0
IsControl (Control d) = Unit {0}
IsControl (Payload from to port) = ⊥

abbrev pub IsPayload : PagePlace → Type 0
IsPayload (Control d) = ⊥
IsPayload (Payload from to port) = Unit {0}

-- ---- the act under way

-- the greatest number of turns that an act takes: 1,024 if it says something, and for a rest the number that it names
abbrev pub most_turns : Act → ℕ
most_turns (Rest turns) = turns
most_turns act = option_map_or (λ bytes. 1024) (words_of act) 1

-- an act that has begun: some of its turns are left, and its words are ready
abbrev pub HasBegun : Option Act → Progress → List ℕ → Type 0
HasBegun None p spelled = Unit {0}
HasBegun (Some act) p spelled = 0 < p.turns → (p.turns < most_turns act) × IsReady act spelled

-- how far the domain has come with its acts on its pages
pub record IsUnderWay (domain : HostileDomain) (pages : Pages) (p : Progress) (spelled : List ℕ) : Type 0 where
  pub acts : p.acts ≤ length domain.acts
  pub begun : HasBegun (slice_get domain.acts p.acts) p spelled
  pub nothing_said : p.turns ≡ 0 → p.said ≡ 0
  pub control : IsControl pages.control.place
  pub payload : Each (λ page. IsPayload page.place) pages.payload.items
  pub apart : AreApart (places_in pages)
  pub so_far : EachPage (IsPageSoFar (plan_of domain (places_in pages)) p) pages
