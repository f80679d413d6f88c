-- A turn of an act keeps what is known of all pages.
use Rattle.std.proofs.Common.{◌≡◌, ℕ, ◌+◌, ◌<◌, Bool, true, false, List, ◌++◌, Option, Some, None, length, slice_get, slice_index_or, refl, sym, subst, ap, ◌∙◌, arith}
use Rattle.std.specs.List.{AllByRecursion as Each}
use Rattle.std.proofs.lemmas.Option.{slice_get-get_or}
use Rattle.list_laws.proofs.Each.{each_mapped, each_weaker, each_with}
use Rattle.vchan_protocol.specs.declared.op.PastEvent.{PastEvent}
use Rattle.vchan_rule.specs.Seated.{SeatedSide}
use Rattle.scenario_file.specs.declared.acts.Act.{Act}
use Rattle.scenario_file.specs.declared.acts.Act.TheVariants.{Hello, Poke, Scribble, Signal, Rest}
use Rattle.scenario_file.specs.declared.acts.ActPage.{ActPage}
use Rattle.ring_words.specs.declared.page.WordName.{WordName}
use Rattle.task_duties.specs.declared.place.PagePlace.{PagePlace}
use Rattle.task_duties.specs.declared.place.PagePlace.TheVariants.{Control, Payload}
use Rattle.task_duties.specs.Hostile.Given.{HostilePlan}
use Rattle.task_duties.specs.Hostile.Stores.{stores_of, orders_at}
use Rattle.task_duties.specs.Hostile.Saying.{Voice, IsSaying}
use Rattle.task_duties.specs.Hostile.Trail.{words_of}
use Rattle.hostile_task.specs.declared.domain.HostileDomain.{HostileDomain}
use Rattle.hostile_task.specs.declared.page.TurnedPage.{TurnedPage}
use Rattle.hostile_task.specs.declared.pages.Pages.{Pages}
use Rattle.hostile_task.specs.declared.progress.Progress.{Progress}
use Rattle.hostile_task.specs.Plan.{plan_of, AreApart}
use Rattle.hostile_task.specs.Pages.{after_events, AreAfter, places_in}
use Rattle.hostile_task.specs.Saying.{voice_at, after_turn, IsReady, AreWords, SaysSoFar, SaysOn, SaysOrSaid, side_after}
use Rattle.hostile_task.specs.UnderWay.{IsTrailSoFar, IsControlTrail, IsPageSoFar, EachPage, IsControl, IsPayload, HasBegun, IsUnderWay, most_turns}
use Rattle.hostile_task.proofs.PageLaws.{are_after_none, are_same_after}
use Rattle.hostile_task.proofs.TrailLaws.{page_stores, page_rests, page_with, payload_stays, payload_passes, control_says, control_said, says_here}

-- an act that has not begun
pub not_begun : (act : Option Act) (p : Progress) (spelled : List ℕ) → p.turns ≡ 0 → HasBegun act p spelled
not_begun None p spelled none = tt
not_begun (Some act) p spelled none = λ some. absurd (omega (arith, some, none))

-- an act of stores is done
pub way_stores : (domain : HostileDomain) (act : Act) (old new : Pages) (p next : Progress) (spelled : List ℕ) → IsUnderWay domain old p spelled → slice_get domain.acts p.acts ≡ Some act → p.acts < length domain.acts → words_of act ≡ None
    → AreAfter (λ place. stores_of (plan_of domain (places_in old)) place act) old new → next ≡ record { acts = p.acts + 1; turns = 0; said = 0; own = p.own } → IsUnderWay domain new next spelled
way_stores domain act old new p next spelled way at within none after is =
    let plan = plan_of domain (places_in old) in
    let places = (are_same_after (λ place. stores_of plan place act) old new after).places in
    let page = λ (q : TurnedPage). after_events q (stores_of plan q.place act) in
    let one : next.acts ≡ p.acts + 1 = ap (λ (q : Progress). q.acts) is in
    let turns : next.turns ≡ 0 = ap (λ (q : Progress). q.turns) is in
    let said : next.said ≡ 0 = ap (λ (q : Progress). q.said) is in
    let own : next.own ≡ p.own = ap (λ (q : Progress). q.own) is in
    let keeps = λ (q : TurnedPage) (so_far : IsPageSoFar plan p q). page_stores plan act p next q so_far at none one turns said own in
    record {
      acts = omega (arith, one, within);
      begun = not_begun (slice_get domain.acts next.acts) next spelled turns;
      nothing_said = λ _. said;
      control = subst (λ (q : TurnedPage). IsControl q.place) (sym after.control) way.control;
      payload = subst (λ (qs : List TurnedPage). Each (λ q. IsPayload q.place) qs) (sym after.payload) (each_mapped (λ q. IsPayload q.place) (λ q. IsPayload q.place) page old.payload.items (λ q h. h) way.payload);
      apart = subst (λ (ps : List PagePlace). AreApart ps) (sym places) way.apart;
      so_far = subst (λ (ps : List PagePlace). EachPage (IsPageSoFar (plan_of domain ps) next) new) (sym places) (
        subst (λ (q : TurnedPage). IsPageSoFar plan next q) (sym after.control) (keeps old.control way.so_far.0),
        subst (λ (qs : List TurnedPage). Each (IsPageSoFar plan next) qs) (sym after.payload) (each_mapped (IsPageSoFar plan p) (IsPageSoFar plan next) page old.payload.items keeps way.so_far.1),
      );
    }

-- one turn of a rest
pub way_rests : (domain : HostileDomain) (turns : ℕ) (pages : Pages) (p next : Progress) (over : Bool) (spelled : List ℕ) → IsUnderWay domain pages p spelled → slice_get domain.acts p.acts ≡ Some (Rest turns) → p.acts < length domain.acts
    → (over ≡ false → p.turns + 1 < turns) → next ≡ after_turn over (record p { turns = p.turns + 1 }) → IsUnderWay domain pages next spelled
way_rests domain turns pages p next true spelled way at within goes_on is =
    way_stores domain (Rest turns) pages pages p next spelled way at within refl (are_after_none pages) is
way_rests domain turns pages p next false spelled way at within goes_on is =
    let plan = plan_of domain (places_in pages) in
    let same : next.acts ≡ p.acts = ap (λ (q : Progress). q.acts) is in
    let count : next.turns ≡ p.turns + 1 = ap (λ (q : Progress). q.turns) is in
    let own : next.own ≡ p.own = ap (λ (q : Progress). q.own) is in
    let keeps = λ (q : TurnedPage) (so_far : IsPageSoFar plan p q). page_rests plan (Rest turns) p next q so_far at refl same own in
    record {
      acts = omega (arith, same, within);
      begun = subst (λ (o : Option Act). HasBegun o next spelled) (sym (ap (λ (n : ℕ). slice_get domain.acts n) same ∙ at)) (λ some. (omega (arith, count, goes_on refl), tt));
      nothing_said = λ none. absurd (omega (arith, none, count));
      control = way.control;
      payload = way.payload;
      apart = way.apart;
      so_far = (keeps pages.control way.so_far.0, each_weaker (IsPageSoFar plan p) (IsPageSoFar plan next) keeps pages.payload.items way.so_far.1);
    }

-- ---- saying

-- the trail of the control page
control_trail : (plan : HostilePlan) (p : Progress) (page : TurnedPage) → IsControl page.place → IsPageSoFar plan p page → IsControlTrail plan page.place p page.end.side.trail
control_trail plan p page is so_far = by_place page.place is so_far.trail
  where
    by_place : (place : PagePlace) → IsControl place → IsTrailSoFar plan place p page.end.side.trail → IsControlTrail plan place p page.end.side.trail
    by_place (Control d) tells trail = trail
    by_place (Payload from to port) never trail = absurd never

control_trail_is : (plan : HostilePlan) (p : Progress) (place : PagePlace) (trail : List PastEvent) → IsControl place → IsControlTrail plan place p trail → IsTrailSoFar plan place p trail
control_trail_is plan p (Control d) trail tells is = is
control_trail_is plan p (Payload from to port) trail never is = absurd never

most_turns_words : (act : Act) (bytes : List ℕ) → words_of act ≡ Some bytes → most_turns act ≡ 1024
most_turns_words Hello bytes is = cc
most_turns_words _ bytes is = cc

-- the pages once the end of the control page is this one
abbrev pub with_control : Pages → SeatedSide → Pages
with_control pages end = record pages { control = record pages.control { end = end } }

-- the control page after these events, which make up its trail
control_after : (plan : HostilePlan) (p next : Progress) (page : TurnedPage) (end : SeatedSide) (more : List PastEvent) → IsControl page.place → IsPageSoFar plan p page → end ≡ side_after page.end more
    → IsControlTrail plan page.place next (page.end.side.trail ++ more) → IsPageSoFar plan next (record page { end = end })
control_after plan p next page end more control so_far is trail =
    subst (λ (e : SeatedSide). IsPageSoFar plan next (record page { end = e })) (sym is)
    (page_with plan p next page more so_far (control_trail_is plan next page.place (page.end.side.trail ++ more) control trail))

-- one turn of saying
pub way_says : (domain : HostileDomain) (act : Act) (bytes : List ℕ) (pages : Pages) (end : SeatedSide) (p mid : Progress) (over : Bool) (before spelled : List ℕ) → IsUnderWay domain pages p before → slice_get domain.acts p.acts ≡ Some act → p.acts < length domain.acts
    → words_of act ≡ Some bytes → IsReady act spelled
    → ((v : Voice) (events : List PastEvent) → v.orders ≡ pages.control.end.side.orders → SaysSoFar v spelled p events → SaysOn v spelled events over mid pages.control.end end)
    → mid.acts ≡ p.acts → (over ≡ false → (mid.turns ≡ p.turns + 1) × (mid.turns < 1024)) → IsUnderWay domain (with_control pages end) (after_turn over mid) spelled
way_says domain act bytes pages end p mid over before spelled way at within words ready says acts turns =
    by_over over refl
  where
    plan : HostilePlan
    plan = plan_of domain (places_in pages)

    t : IsControlTrail plan pages.control.place p pages.control.end.side.trail
    t = control_trail plan p pages.control way.control way.so_far.0

    held : spelled ≡ bytes
    held = subst (λ (w : Option (List ℕ)). AreWords w spelled) words ready

    orders : t.voice.orders ≡ pages.control.end.side.orders
    orders = t.orders ∙ sym (control_orders pages.control.place way.control) ∙ sym way.so_far.0.orders
      where
        control_orders : (place : PagePlace) → IsControl place → orders_at plan place ≡ domain.control
        control_orders (Control d) tells = refl
        control_orders (Payload from to port) never = absurd never

    so_far : SaysSoFar t.voice spelled p t.part
    so_far = subst (λ (bs : List ℕ). SaysSoFar t.voice bs p t.part) (sym held) (says_here plan pages.control.place act bytes p pages.control.end.side.trail t at words)

    turn : SaysOn t.voice spelled t.part over mid pages.control.end end
    turn = says t.voice t.part orders so_far

    trail : List PastEvent
    trail = pages.control.end.side.trail ++ turn.more

    keeps : (next : Progress) → IsControlTrail plan pages.control.place next trail → ((q : TurnedPage) → IsPayload q.place → IsPageSoFar plan p q → IsPageSoFar plan next q) → EachPage (IsPageSoFar plan next) (with_control pages end)
    keeps next is others = (
      control_after plan p next pages.control end turn.more way.control way.so_far.0 turn.end_is is,
      each_with (λ q. IsPayload q.place) (IsPageSoFar plan p) (IsPageSoFar plan next) pages.payload.items others way.payload way.so_far.1,
    )

    by_over : (b : Bool) → over ≡ b → IsUnderWay domain (with_control pages end) (after_turn b mid) spelled
    by_over true is =
        let next : Progress = record { acts = mid.acts + 1; turns = 0; said = 0; own = mid.own } in
        let one : next.acts ≡ p.acts + 1 = ap (λ (n : ℕ). n + 1) acts in
        let said = subst (λ (o : Bool). SaysOrSaid o t.voice spelled mid (t.part ++ turn.more)) is turn.so_far in
        record {
          acts = omega (arith, one, within);
          begun = not_begun (slice_get domain.acts next.acts) next spelled refl;
          nothing_said = λ _. refl;
          control = way.control;
          payload = way.payload;
          apart = way.apart;
          so_far = keeps next
              (control_said plan pages.control.place act bytes p next pages.control.end.side.trail turn.more t at words
              (subst (λ (bs : List ℕ). IsSaying t.voice (voice_at t.voice next) bs (t.part ++ turn.more)) held said) one refl refl)
              (λ q payload sofar. payload_passes plan act bytes p next q payload sofar at words one);
        }
    by_over false is =
        let says_on = subst (λ (o : Bool). SaysOrSaid o t.voice spelled mid (t.part ++ turn.more)) is turn.so_far in
        record {
          acts = omega (arith, acts, within);
          begun = subst (λ (o : Option Act). HasBegun o mid spelled) (sym (ap (λ (n : ℕ). slice_get domain.acts n) acts ∙ at))
              (λ some. (omega (arith, (turns is).1, most_turns_words act bytes words), ready));
          nothing_said = λ none. absurd (omega (arith, none, (turns is).0));
          control = way.control;
          payload = way.payload;
          apart = way.apart;
          so_far = keeps mid
              (control_says plan pages.control.place act bytes p mid pages.control.end.side.trail turn.more t at words acts
              (subst (λ (bs : List ℕ). SaysSoFar t.voice bs mid (t.part ++ turn.more)) held says_on))
              (λ q payload sofar. payload_stays plan p mid q payload sofar acts);
        }

-- ---- the act under way

pub act_at : (acts list : List Act) (n : ℕ) (result act : Act) → list ≡ acts → n < length acts → result ≡ slice_index_or list n result → result ≡ act → slice_get acts n ≡ Some act
act_at acts list n result act same within is act_is =
    slice_get-get_or acts n result within ∙ ap (λ (a : Act). Some a) (ap (λ (others : List Act). slice_index_or others n result) (sym same) ∙ sym is ∙ act_is)

-- an act that is none of these sends something
pub says_some : (act : Act) → ((page : ActPage) (word : WordName) (value : ℕ) → act ≡ Poke page word value → ⊥) → ((seed count : ℕ) → act ≡ Scribble seed count → ⊥) → (act ≡ Signal → ⊥) → ((turns : ℕ) → act ≡ Rest turns → ⊥)
    → (bytes : List ℕ) × (words_of act ≡ Some bytes)
says_some (Poke page word value) poke scribble signal rest = absurd (poke page word value refl)
says_some (Scribble seed count) poke scribble signal rest = absurd (scribble seed count refl)
says_some Signal poke scribble signal rest = absurd (signal refl)
says_some (Rest turns) poke scribble signal rest = absurd (rest turns refl)
says_some _ poke scribble signal rest = (_, refl)
