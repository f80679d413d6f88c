-- A drawn store falls on one page alone.
use Rattle.std.proofs.Common.{◌≡◌, ℕ, ◌+◌, ◌%◌, ◌<◌, ◌&&◌, suc, zero, Bool, false, List, [], ◌∷◌, ◌++◌, length, map, slice_get, slice_set, slice_index_or, unwrap_or, if◌then◌else◌, refl, sym, subst, ap, ◌∙◌, append_assoc, arith, add-one}
use Rattle.std.specs.Option.{option_map_or}
use Rattle.std.proofs.Math.Nat.{mod-lt}
use Rattle.ring_words.specs.declared.order.Orders.{Orders}
use Rattle.vchan_protocol.specs.declared.op.PastEvent.{PastEvent}
use Rattle.vchan_protocol.specs.Hostile.Turned.{MayPoke}
use Rattle.task_duties.specs.declared.place.PagePlace.{PagePlace}
use Rattle.task_duties.specs.declared.place.PagePlace.TheVariants.{Control, Payload}
use Rattle.task_duties.specs.Places.{is_place}
use Rattle.scenario_file.specs.Generator.{Drawn, drawn}
use Rattle.script_words.specs.Generator.{next_number}
use Rattle.task_duties.specs.Hostile.Given.{HostilePlan}
use Rattle.task_duties.specs.Hostile.Stores.{field_of, header_words, stored, drawn_on, scribbled}
use Rattle.task_duties.proofs.Places.{same_self}
use Rattle.ring_words.specs.declared.page.WordName.{WordName}
use Rattle.ring_words.specs.declared.page.WordName.TheVariants.{LeftCons, SrvNotify}
use Rattle.hostile_task.specs.declared.page.TurnedPage.{TurnedPage}
use Rattle.hostile_task.specs.Plan.{AreApart}
use Rattle.hostile_task.specs.declared.pages.Pages.{Pages}
use Rattle.hostile_task.specs.Pages.{after_events, AreAfter, places_in}
use Rattle.hostile_task.proofs.PageLaws.{are_after_none, are_after_then, are_same_after}
use Rattle.std.specs.List.{flat_map, AllByRecursion as Each}
use Rattle.std.proofs.lemmas.List.{append-nil, length-map}
use Rattle.std.proofs.lemmas.Grind.{flat_map-append}
use Rattle.list_laws.proofs.Tests.{equal_either_way}

-- ---- places

pub is_place_comm : (p q : PagePlace) → is_place p q ≡ is_place q p
is_place_comm (Control d) (Control e) = equal_either_way d e
is_place_comm (Payload f t p) (Payload from to port) = λ i. (equal_either_way f from i && equal_either_way t to i) && equal_either_way p port i
is_place_comm _ _ = refl

-- the store of the page at an index, and no other
abbrev pub falls_on : List PagePlace → ℕ → PastEvent → PagePlace → List PastEvent
falls_on places at event place = if option_map_or (is_place place) (slice_get places at) false then event ∷ [] else []

-- a place that is none of these is not that at an index either
not_at : (q : PagePlace) (ps : List PagePlace) (n : ℕ) → Each (λ r. is_place q r ≡ false) ps → option_map_or (is_place q) (slice_get ps n) false ≡ false
not_at q [] n apart = refl
not_at q (p ∷ ps) zero apart = apart.0
not_at q (p ∷ ps) (suc n) apart = not_at q ps n apart.1

abbrev on : Bool → PastEvent → List PastEvent
on test event = if test then event ∷ [] else []

untouched : (q : PagePlace) (event : PastEvent) (xs : List TurnedPage) → Each (λ r. is_place q r ≡ false) (map (λ p. p.place) xs) → xs ≡ map (λ p. after_events p (on (is_place p.place q) event)) xs
untouched q event [] apart = refl
untouched q event (x ∷ xs) apart =
    λ i. after_events x (on ((sym apart.0 ∙ is_place_comm q x.place) i) event) ∷ untouched q event xs apart.1 i

-- a store to the page at an index
pub set_falls_on : (xs : List TurnedPage) (at : ℕ) (d : TurnedPage) (event : PastEvent) → AreApart (map (λ p. p.place) xs) → at < length xs
    → slice_set xs at (after_events (slice_index_or xs at d) (event ∷ [])) ≡ map (λ p. after_events p (falls_on (map (λ p. p.place) xs) at event p.place)) xs
set_falls_on [] at d event apart less = absurd (omega arith)
set_falls_on (x ∷ xs) zero d event apart less = λ i. after_events x (on (sym (same_self x.place) i) event) ∷ untouched x.place event xs apart.0 i
set_falls_on (x ∷ xs) (suc n) d event apart less =
    λ i. after_events x (on (sym (not_at x.place (map (λ p. p.place) xs) n apart.0) i) event) ∷ set_falls_on xs n d event apart.1 (omega arith) i

-- ---- fields

-- a hostile user reaches the fields of the header
pub field_may : (orders : Orders) (number : ℕ) → MayPoke orders (field_of number)
field_may orders number = at header_words (number % 10) (tt, (tt, (tt, (tt, (tt, (tt, (tt, (tt, (tt, (tt, tt))))))))))
  where
    at : (words : List WordName) (n : ℕ) → Each (MayPoke orders) words → MayPoke orders (unwrap_or (slice_get words n) SrvNotify)
    at [] n all = tt
    at (w ∷ words) zero all = all.0
    at (w ∷ words) (suc n) all = at words n all.1

-- a number below ten names the field at its place
pub field_at : (number : ℕ) → slice_index_or header_words (number % 10) LeftCons ≡ field_of number
field_at number = at header_words (number % 10) (omega arith)
  where
    at : (words : List WordName) (n : ℕ) → n < length words → slice_index_or words n LeftCons ≡ unwrap_or (slice_get words n) SrvNotify
    at [] n less = absurd (omega arith)
    at (w ∷ words) zero less = refl
    at (w ∷ words) (suc n) less = at words n (omega arith)

-- ---- a drawn store

abbrev pub drawn_event : Drawn → PastEvent
drawn_event d = stored (field_of d.word) d.value

drawn_falls : (plan : HostilePlan) (all : List TurnedPage) (d : Drawn) (at : ℕ) → plan.places ≡ map (λ p. p.place) all → at ≡ d.page % length all → (place : PagePlace)
    → falls_on (map (λ p. p.place) all) at (drawn_event d) place ≡ drawn_on plan place d
drawn_falls plan all d at places is place =
    λ i. on (option_map_or (is_place place) (slice_get (sym places i) ((is ∙ ap (λ (n : ℕ). d.page % n) (sym (length-map all (λ (p : TurnedPage). p.place)) ∙ ap length (sym places))) i)) false) (drawn_event d)

-- the stores of a page by that draw
abbrev pub after_draw : HostilePlan → Drawn → TurnedPage → TurnedPage
after_draw plan d p = after_events p (drawn_on plan p.place d)

all_drawn : (plan : HostilePlan) (all : List TurnedPage) (d : Drawn) (at : ℕ) (dflt : TurnedPage) → plan.places ≡ map (λ p. p.place) all → AreApart (map (λ p. p.place) all) → at ≡ d.page % length all → at < length all
    → slice_set all at (after_events (slice_index_or all at dflt) (drawn_event d ∷ [])) ≡ map (after_draw plan d) all
all_drawn plan all d at dflt places apart is less =
    set_falls_on all at dflt (drawn_event d) apart less
    ∙ (λ i. map (λ p. after_events p (drawn_falls plan all d at places is p.place i)) all)

-- it falls on the first page
pub draws_first : (plan : HostilePlan) (control : TurnedPage) (items : List TurnedPage) (d : Drawn) (new : TurnedPage) → plan.places ≡ control.place ∷ map (λ p. p.place) items
    → AreApart (control.place ∷ map (λ p. p.place) items) → d.page % (length items + 1) ≡ 0 → new ≡ after_events control (drawn_event d ∷ [])
    → (new ≡ after_draw plan d control) × (items ≡ map (after_draw plan d) items)
draws_first plan control items d new places apart first is =
    let all = all_drawn plan (control ∷ items) d 0 control places apart (sym first ∙ ap (λ (n : ℕ). d.page % n) (add-one (length items))) (omega arith) in
    let here : after_events control (drawn_event d ∷ []) ≡ after_draw plan d control = cc in
    let others : items ≡ map (after_draw plan d) items = cc in
    (is ∙ here, others)

-- it falls on another page
pub draws_other : (plan : HostilePlan) (control : TurnedPage) (items : List TurnedPage) (d : Drawn) (n : ℕ) (dflt new : TurnedPage) → plan.places ≡ control.place ∷ map (λ p. p.place) items
    → AreApart (control.place ∷ map (λ p. p.place) items) → d.page % (length items + 1) ≡ suc n → new ≡ after_events (slice_index_or items n dflt) (drawn_event d ∷ [])
    → (control ≡ after_draw plan d control) × (slice_set items n new ≡ map (after_draw plan d) items)
draws_other plan control items d n dflt new places apart other is =
    let all = all_drawn plan (control ∷ items) d (suc n) dflt places apart (sym other ∙ ap (λ (k : ℕ). d.page % k) (add-one (length items))) (omega (arith, mod-lt d.page {m = length items + 1} (omega arith))) in
    let here : control ≡ after_draw plan d control = cc in
    let others : slice_set items n (after_events (slice_index_or items n dflt) (drawn_event d ∷ [])) ≡ map (after_draw plan d) items = cc in
    (here, ap (λ (p : TurnedPage). slice_set items n p) is ∙ others)

-- ---- a scribble

-- of the draws of a scribble, these were made, and this many are left
pub record IsDrawnSoFar (seed count x rest : ℕ) (old now : Pages) : Type 0 where
  pub made : List Drawn
  pub draws : drawn seed count ≡ made ++ drawn x rest
  pub places : places_in now ≡ places_in old
  pub pages : (plan : HostilePlan) → plan.places ≡ places_in old → AreAfter (λ place. flat_map (drawn_on plan place) made) old now

pub none_drawn : (seed count : ℕ) (pages : Pages) → IsDrawnSoFar seed count seed count pages pages
none_drawn seed count pages = record { made = []; draws = refl; places = refl; pages = λ plan is. are_after_none pages }

one_more : (plan : HostilePlan) (place : PagePlace) (made : List Drawn) (d : Drawn) → flat_map (drawn_on plan place) made ++ drawn_on plan place d ≡ flat_map (drawn_on plan place) (made ++ d ∷ [])
one_more plan place made d =
    ap (λ (events : List PastEvent). flat_map (drawn_on plan place) made ++ events) (sym (append-nil (drawn_on plan place d)))
    ∙ sym (flat_map-append (drawn_on plan place) made (d ∷ []))

pub drawn_more : (seed count x rest : ℕ) (d : Drawn) (old now next : Pages) → IsDrawnSoFar seed count x (suc rest) old now
    → d.page ≡ next_number x → d.word ≡ next_number d.page → d.value ≡ next_number d.word
    → ((plan : HostilePlan) → plan.places ≡ places_in now → AreAfter (λ place. drawn_on plan place d) now next)
    → IsDrawnSoFar seed count d.value rest old next
drawn_more seed count x rest d old now next so_far page word value after =
    let plan_now : HostilePlan = record { domain = 0; names = []; acts = []; control = now.control.end.side.orders; payload = now.control.end.side.orders; places = places_in now } in
    let this : record { page = next_number x; word = next_number (next_number x); value = next_number (next_number (next_number x)) } ≡ d = (λ i. record { page = sym page i; word = (ap next_number (sym page) ∙ sym word) i; value = (ap next_number (ap next_number (sym page) ∙ sym word) ∙ sym value) i }) in
    record {
      made = so_far.made ++ d ∷ [];
      draws = so_far.draws ∙ (λ i. so_far.made ++ this i ∷ drawn (this i).value rest) ∙ sym (append_assoc so_far.made (d ∷ []) (drawn d.value rest));
      places = (are_same_after (λ place. drawn_on plan_now place d) now next (after plan_now refl)).places ∙ so_far.places;
      pages = λ plan is. subst (λ (events : PagePlace → List PastEvent). AreAfter events old next) (λ i place. one_more plan place so_far.made d i)
          (are_after_then (λ place. flat_map (drawn_on plan place) so_far.made) (λ place. drawn_on plan place d) old now next (so_far.pages plan is) (after plan (is ∙ sym so_far.places)));
    }

pub all_drawn_on : (seed count x : ℕ) (old now : Pages) (plan : HostilePlan) → plan.places ≡ places_in old → IsDrawnSoFar seed count x 0 old now → AreAfter (λ place. scribbled plan place seed count) old now
all_drawn_on seed count x old now plan is so_far =
    subst (λ (draws : List Drawn). AreAfter (λ place. flat_map (drawn_on plan place) draws) old now) (sym (append-nil so_far.made) ∙ sym so_far.draws) (so_far.pages plan is)
