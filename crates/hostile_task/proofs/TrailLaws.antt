-- The trails of the pages, act by act.
use Rattle.std.proofs.Common.{◌≡◌, ℕ, ◌+◌, List, [], ◌∷◌, ◌++◌, Option, Some, None, take, slice_get, refl, sym, subst, ap, ◌∙◌, append_assoc}
use Rattle.std.specs.List.{flat_map}
use Rattle.std.specs.Option.{option_and_then}
use Rattle.std.proofs.lemmas.List.{append-nil}
use Rattle.std.proofs.lemmas.Grind.{flat_map-append}
use Rattle.list_laws.proofs.Places.{take_next}
use Rattle.vchan_protocol.specs.declared.op.PastEvent.{PastEvent}
use Rattle.vchan_protocol.specs.Table.Ends.{written_ring, prod_word}
use Rattle.ring_words.specs.declared.page.Role.TheVariants.{Server}
use Rattle.scenario_file.specs.declared.acts.Act.{Act}
use Rattle.scenario_file.specs.declared.acts.Act.TheVariants.{Hello}
use Rattle.task_duties.specs.declared.place.PagePlace.{PagePlace}
use Rattle.task_duties.specs.declared.place.PagePlace.TheVariants.{Control, Payload}
use Rattle.task_duties.specs.Hostile.Given.{HostilePlan}
use Rattle.task_duties.specs.Hostile.Stores.{loaded, stores_of}
use Rattle.task_duties.specs.Hostile.Saying.{Voice, IsSaying}
use Rattle.task_duties.specs.Hostile.Trail.{words_of, Acts, AllActs, first_voice}
use Rattle.hostile_task.specs.declared.page.TurnedPage.{TurnedPage}
use Rattle.hostile_task.specs.declared.progress.Progress.{Progress}
use Rattle.hostile_task.specs.Saying.{voice_at, SaysSoFar}
use Rattle.hostile_task.specs.Pages.{after_events}
use Rattle.hostile_task.specs.UnderWay.{ActsDone, words_at, IsPart, IsControlTrail, IsTrailSoFar, IsPageSoFar, IsPayload}
use Rattle.hostile_task.proofs.SayLaws.{nothing_said}
use Rattle.hostile_task.proofs.PageLaws.{along_before}
use Rattle.hostile_seat.proofs.ByteLaws.{along_trail, along_role, along_orders, along_turned}

-- ---- acts

-- one act more
acts_push : (plan : HostilePlan) (place : PagePlace) (acts : List Act) (act : Act) (v between after : Voice) (done more : List PastEvent) → ActsDone plan place acts v between done
    → Acts plan place act (words_of act) between after more → ActsDone plan place (acts ++ act ∷ []) v after (done ++ more)
acts_push plan place [] act v between after done more before acts =
    (more, [], after, ap (λ (events : List PastEvent). events ++ more) before.0 ∙ sym (append-nil more), subst (λ (w : Voice). Acts plan place act (words_of act) w after more) before.1 acts, (refl, refl))
acts_push plan place (first ∷ acts) act v between after done more before last = (
  before.0,
  before.1 ++ more,
  before.2,
  ap (λ (events : List PastEvent). events ++ more) before.3 ∙ append_assoc before.0 before.1 more,
  before.4,
  acts_push plan place acts act before.2 between after before.1 more before.5 last,
)

-- all acts are done
pub all_acts : (plan : HostilePlan) (place : PagePlace) (acts : List Act) (v after : Voice) (events : List PastEvent) → ActsDone plan place acts v after events → AllActs plan place acts v events
all_acts plan place [] v after events done = done.0
all_acts plan place (act ∷ acts) v after events done = (done.0, done.1, done.2, done.3, done.4, all_acts plan place acts done.2 after done.1 done.5)

-- an act that has not begun
pub begins : (words : Option (List ℕ)) (v : Voice) (p : Progress) → p.own ≡ v.own → p.turns ≡ 0 → p.said ≡ 0 → IsPart words v p []
begins None v p own turns said = (refl, own)
begins (Some bytes) v p own turns said = nothing_said v bytes p own turns said

-- ---- the control page

-- the act under way is done
pub control_done : (plan : HostilePlan) (place : PagePlace) (act : Act) (p next : Progress) (trail now part : List PastEvent) (t : IsControlTrail plan place p trail) → slice_get plan.acts p.acts ≡ Some act
    → Acts plan place act (words_of act) t.voice (voice_at t.voice next) part → now ≡ loaded (prod_word (written_ring Server)) t.value ∷ (t.done ++ part)
    → next.acts ≡ p.acts + 1 → next.turns ≡ 0 → next.said ≡ 0 → IsControlTrail plan place next now
control_done plan place act p next trail now part t at acts is one turns said = record {
  value = t.value;
  done = t.done ++ part;
  part = [];
  voice = voice_at t.voice next;
  orders = t.orders;
  acts =
      subst (λ (some : List Act). ActsDone plan place some (first_voice plan t.value) (voice_at t.voice next) (t.done ++ part))
      (sym (ap (λ (n : ℕ). take n plan.acts) one ∙ take_next plan.acts p.acts act at))
      (acts_push plan place (take p.acts plan.acts) act (first_voice plan t.value) t.voice (voice_at t.voice next) t.done part t.acts acts);
  under_way = begins (words_at plan next.acts) (voice_at t.voice next) next refl turns said;
  trail_is = is ∙ ap (λ (events : List PastEvent). loaded (prod_word (written_ring Server)) t.value ∷ events) (sym (append-nil (t.done ++ part)));
}

-- more events of a trail
pub trail_more : (plan : HostilePlan) (place : PagePlace) (p : Progress) (trail more : List PastEvent) (t : IsControlTrail plan place p trail)
    → trail ++ more ≡ loaded (prod_word (written_ring Server)) t.value ∷ (t.done ++ (t.part ++ more))
trail_more plan place p trail more t =
    ap (λ (events : List PastEvent). events ++ more) t.trail_is ∙ ap (λ (events : List PastEvent). loaded (prod_word (written_ring Server)) t.value ∷ events) (append_assoc t.done t.part more)

words_here : (plan : HostilePlan) (n : ℕ) (act : Act) → slice_get plan.acts n ≡ Some act → words_at plan n ≡ words_of act
words_here plan n act at = ap (λ (a : Option Act). option_and_then words_of a) at

-- an act of stores is done in one turn
control_stores : (plan : HostilePlan) (place : PagePlace) (act : Act) (p next : Progress) (trail : List PastEvent) → IsControlTrail plan place p trail → slice_get plan.acts p.acts ≡ Some act → words_of act ≡ None
    → next.acts ≡ p.acts + 1 → next.turns ≡ 0 → next.said ≡ 0 → next.own ≡ p.own → IsControlTrail plan place next (trail ++ stores_of plan place act)
control_stores plan place act p next trail t at none one turns said own =
    let part = subst (λ (words : Option (List ℕ)). IsPart words t.voice p t.part) (words_here plan p.acts act at ∙ none) t.under_way in
    let stores = stores_of plan place act in
    let same : voice_at t.voice next ≡ t.voice = λ i. record t.voice { own = (own ∙ part.1) i } in
    control_done plan place act p next trail (trail ++ stores) stores t at
    (subst (λ (words : Option (List ℕ)). Acts plan place act words t.voice (voice_at t.voice next) stores) (sym none) (refl, same))
    (trail_more plan place p trail stores t ∙ ap (λ (first : List PastEvent). loaded (prod_word (written_ring Server)) t.value ∷ (t.done ++ (first ++ stores))) part.0) one turns said

-- an act goes on
control_goes_on : (plan : HostilePlan) (place : PagePlace) (p next : Progress) (trail more : List PastEvent) (t : IsControlTrail plan place p trail) → next.acts ≡ p.acts → IsPart (words_at plan p.acts) t.voice next (t.part ++ more)
    → IsControlTrail plan place next (trail ++ more)
control_goes_on plan place p next trail more t same part = record {
  value = t.value;
  done = t.done;
  part = t.part ++ more;
  voice = t.voice;
  orders = t.orders;
  acts = subst (λ (n : ℕ). ActsDone plan place (take n plan.acts) (first_voice plan t.value) t.voice t.done) (sym same) t.acts;
  under_way = subst (λ (n : ℕ). IsPart (words_at plan n) t.voice next (t.part ++ more)) (sym same) part;
  trail_is = trail_more plan place p trail more t;
}

-- an act that sends nothing
control_rests : (plan : HostilePlan) (place : PagePlace) (act : Act) (p next : Progress) (trail : List PastEvent) → IsControlTrail plan place p trail → slice_get plan.acts p.acts ≡ Some act → words_of act ≡ None
    → next.acts ≡ p.acts → next.own ≡ p.own → IsControlTrail plan place next (trail ++ [])
control_rests plan place act p next trail t at none same own =
    let words : words_at plan p.acts ≡ None = words_here plan p.acts act at ∙ none in
    let part = subst (λ (w : Option (List ℕ)). IsPart w t.voice p t.part) words t.under_way in
    control_goes_on plan place p next trail [] t same (subst (λ (w : Option (List ℕ)). IsPart w t.voice next (t.part ++ [])) (sym words) (append-nil t.part ∙ part.0, own ∙ part.1))

-- saying goes on
pub control_says : (plan : HostilePlan) (place : PagePlace) (act : Act) (bytes : List ℕ) (p next : Progress) (trail more : List PastEvent) (t : IsControlTrail plan place p trail) → slice_get plan.acts p.acts ≡ Some act → words_of act ≡ Some bytes
    → next.acts ≡ p.acts → SaysSoFar t.voice bytes next (t.part ++ more) → IsControlTrail plan place next (trail ++ more)
control_says plan place act bytes p next trail more t at words same says =
    control_goes_on plan place p next trail more t same (subst (λ (w : Option (List ℕ)). IsPart w t.voice next (t.part ++ more)) (sym (words_here plan p.acts act at ∙ words)) says)

-- saying is over
pub control_said : (plan : HostilePlan) (place : PagePlace) (act : Act) (bytes : List ℕ) (p next : Progress) (trail more : List PastEvent) (t : IsControlTrail plan place p trail) → slice_get plan.acts p.acts ≡ Some act → words_of act ≡ Some bytes
    → IsSaying t.voice (voice_at t.voice next) bytes (t.part ++ more) → next.acts ≡ p.acts + 1 → next.turns ≡ 0 → next.said ≡ 0 → IsControlTrail plan place next (trail ++ more)
control_said plan place act bytes p next trail more t at words says one turns said =
    control_done plan place act p next trail (trail ++ more) (t.part ++ more) t at
    (subst (λ (w : Option (List ℕ)). Acts plan place act w t.voice (voice_at t.voice next) (t.part ++ more)) (sym words) says)
    (trail_more plan place p trail more t) one turns said

-- how far it is with saying
pub says_here : (plan : HostilePlan) (place : PagePlace) (act : Act) (bytes : List ℕ) (p : Progress) (trail : List PastEvent) (t : IsControlTrail plan place p trail) → slice_get plan.acts p.acts ≡ Some act → words_of act ≡ Some bytes
    → SaysSoFar t.voice bytes p t.part
says_here plan place act bytes p trail t at words = subst (λ (w : Option (List ℕ)). IsPart w t.voice p t.part) (words_here plan p.acts act at ∙ words) t.under_way

-- ---- each page

-- on a data page the stores of one act more
payload_stores : (plan : HostilePlan) (from to port : ℕ) (act : Act) (p next : Progress) (trail : List PastEvent) → IsTrailSoFar plan (Payload from to port) p trail → slice_get plan.acts p.acts ≡ Some act → next.acts ≡ p.acts + 1
    → IsTrailSoFar plan (Payload from to port) next (trail ++ stores_of plan (Payload from to port) act)
payload_stores plan from to port act p next trail is at one =
    let stores = stores_of plan (Payload from to port) in
    ap (λ (events : List PastEvent). events ++ stores act) is
    ∙ ap (λ (events : List PastEvent). flat_map stores (take p.acts plan.acts) ++ events) (sym (append-nil (stores act)))
    ∙ sym (flat_map-append stores (take p.acts plan.acts) (act ∷ []))
    ∙ ap (λ (some : List Act). flat_map stores some) (sym (ap (λ (n : ℕ). take n plan.acts) one ∙ take_next plan.acts p.acts act at))

-- the trail of a page after some events
pub page_with : (plan : HostilePlan) (p next : Progress) (page : TurnedPage) (events : List PastEvent) → IsPageSoFar plan p page → IsTrailSoFar plan page.place next (page.end.side.trail ++ events)
    → IsPageSoFar plan next (after_events page events)
page_with plan p next page events so_far trail = record {
  same = so_far.same;
  same_role = so_far.same_role;
  before = along_before page.end events ∙ so_far.before;
  role = along_role page.end.side events ∙ so_far.role;
  orders = along_orders page.end.side events ∙ so_far.orders;
  turned = along_turned page.end.side events ∙ so_far.turned;
  trail = subst (λ (t : List PastEvent). IsTrailSoFar plan page.place next t) (sym (along_trail page.end.side events)) trail;
}

-- an act of stores
pub page_stores : (plan : HostilePlan) (act : Act) (p next : Progress) (page : TurnedPage) → IsPageSoFar plan p page → slice_get plan.acts p.acts ≡ Some act → words_of act ≡ None
    → next.acts ≡ p.acts + 1 → next.turns ≡ 0 → next.said ≡ 0 → next.own ≡ p.own → IsPageSoFar plan next (after_events page (stores_of plan page.place act))
page_stores plan act p next page so_far at none one turns said own =
    page_with plan p next page (stores_of plan page.place act) so_far (by_place page.place page.end.side.trail so_far.trail)
  where
    by_place : (place : PagePlace) (trail : List PastEvent) → IsTrailSoFar plan place p trail → IsTrailSoFar plan place next (trail ++ stores_of plan place act)
    by_place (Control d) trail is = control_stores plan (Control d) act p next trail is at none one turns said own
    by_place (Payload from to port) trail is = payload_stores plan from to port act p next trail is at one

-- an act that sends something stores nothing
stores_words : (plan : HostilePlan) (place : PagePlace) (act : Act) (bytes : List ℕ) → words_of act ≡ Some bytes → stores_of plan place act ≡ []
stores_words plan place Hello bytes is = cc
stores_words plan place _ bytes is = cc

-- a data page while the domain sends something, or rests
pub payload_stays : (plan : HostilePlan) (p next : Progress) (page : TurnedPage) → IsPayload page.place → IsPageSoFar plan p page → next.acts ≡ p.acts → IsPageSoFar plan next page
payload_stays plan p next page payload so_far same =
    page_with plan p next page [] so_far (by_place page.place payload page.end.side.trail so_far.trail)
  where
    by_place : (place : PagePlace) → IsPayload place → (trail : List PastEvent) → IsTrailSoFar plan place p trail → IsTrailSoFar plan place next (trail ++ [])
    by_place (Control d) never trail is = absurd never
    by_place (Payload from to port) tells trail is = append-nil trail ∙ is ∙ ap (λ (n : ℕ). flat_map (stores_of plan (Payload from to port)) (take n plan.acts)) (sym same)

pub payload_passes : (plan : HostilePlan) (act : Act) (bytes : List ℕ) (p next : Progress) (page : TurnedPage) → IsPayload page.place → IsPageSoFar plan p page → slice_get plan.acts p.acts ≡ Some act → words_of act ≡ Some bytes → next.acts ≡ p.acts + 1 → IsPageSoFar plan next page
payload_passes plan act bytes p next page payload so_far at words one =
    page_with plan p next page [] so_far (by_place page.place payload page.end.side.trail so_far.trail)
  where
    by_place : (place : PagePlace) → IsPayload place → (trail : List PastEvent) → IsTrailSoFar plan place p trail → IsTrailSoFar plan place next (trail ++ [])
    by_place (Control d) never trail is = absurd never
    by_place (Payload from to port) tells trail is = subst (λ (events : List PastEvent). IsTrailSoFar plan (Payload from to port) next (trail ++ events)) (stores_words plan (Payload from to port) act bytes words) (payload_stores plan from to port act p next trail is at one)

-- a page while the domain rests
pub page_rests : (plan : HostilePlan) (act : Act) (p next : Progress) (page : TurnedPage) → IsPageSoFar plan p page → slice_get plan.acts p.acts ≡ Some act → words_of act ≡ None → next.acts ≡ p.acts → next.own ≡ p.own → IsPageSoFar plan next page
page_rests plan act p next page so_far at none same own =
    page_with plan p next page [] so_far (by_place page.place page.end.side.trail so_far.trail)
  where
    by_place : (place : PagePlace) (trail : List PastEvent) → IsTrailSoFar plan place p trail → IsTrailSoFar plan place next (trail ++ [])
    by_place (Control d) trail is = control_rests plan (Control d) act p next trail is at none same own
    by_place (Payload from to port) trail is = append-nil trail ∙ is ∙ ap (λ (n : ℕ). flat_map (stores_of plan (Payload from to port)) (take n plan.acts)) (sym same)
