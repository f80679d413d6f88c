-- A task that begins: its ends are turned over, and nothing is done.
use Rattle.std.proofs.Common.{◌≡◌, ℕ, true, List, [], ◌∷◌, ◌++◌, map, slice_get, refl, sym, subst, ap, ◌∙◌, arith}
use Rattle.std.specs.List.{AllZip as EachPair}
use Rattle.std.proofs.lemmas.Simd.{map-map}
use Rattle.ring_words.specs.declared.page.WordName.TheVariants.{RightProd}
use Rattle.vchan_protocol.specs.declared.op.Op.TheVariants.{Load}
use Rattle.vchan_protocol.specs.declared.op.PastEvent.{PastEvent}
use Rattle.vchan_protocol.specs.Table.Ends.{low32}
use Rattle.vchan_protocol.specs.Hostile.Turned.{strays}
use Rattle.end_view.specs.EndView.{view_of}
use Rattle.vchan_rule.specs.Seated.{SeatedEnd, SeatedSide, view}
use Rattle.task_duties.specs.declared.place.PagePlace.{PagePlace}
use Rattle.task_duties.specs.declared.place.PagePlace.TheVariants.{Control, Payload}
use Rattle.task_duties.specs.declared.ends.DataEnd.{DataEnd}
use Rattle.task_duties.specs.TaskOwes.{all_ends, before_turned, places_in}
use Rattle.task_duties.specs.GivenEnds.{all_given, fresh_view, given_at}
use Rattle.task_duties.specs.Hostile.Given.{HostilePlan}
use Rattle.ring_words.specs.declared.page.Role.TheVariants.{Server}
use Rattle.task_duties.specs.Hostile.Stores.{role_at, orders_at}
use Rattle.task_duties.specs.Hostile.Trail.{first_voice}
use Rattle.task_duties.proofs.Places.{no_control}
use Rattle.hostile_task.specs.declared.domain.HostileDomain.{HostileDomain}
use Rattle.hostile_task.specs.declared.page.TurnedPage.{TurnedPage}
use Rattle.hostile_task.specs.declared.pages.Pages.{Pages}
use Rattle.hostile_task.specs.declared.progress.Progress.{Progress}
use Rattle.hostile_task.specs.Plan.{plan_of, AreApart, IsControlOf, IsDataOf, AreDataOf}
use Rattle.hostile_task.specs.Pages as pages
use Rattle.hostile_task.specs.Pages.{IsTurnedOver, IsDataTurnedOver, IsLaid, given_of, given_in}
use Rattle.hostile_task.specs.UnderWay.{words_at, IsPageSoFar, IsControl, IsPayload, IsUnderWay, IsTrailSoFar}
use Rattle.hostile_task.proofs.ListLaws.{each_of_pairs, map_pairs}
use Rattle.hostile_task.proofs.TrailLaws.{begins}
use Rattle.hostile_task.proofs.WayLaws.{not_begun, with_control}

-- the progress of a task that has read this index
abbrev pub first_progress : ℕ → Progress
first_progress own = record { acts = 0; turns = 0; said = 0; own = own }

-- the control page, once its producer index was loaded
start_control : (domain : HostileDomain) (plan : HostilePlan) (e : SeatedEnd) (page : TurnedPage) (end : SeatedSide) (value own : ℕ) → plan.domain ≡ domain.number → plan.control ≡ domain.control → IsTurnedOver (Control domain.number) e page → IsControlOf domain e
    → end.page ≡ page.end.page → end.side ≡ strays page.end.side (Load RightProd) value → own ≡ low32 value → IsPageSoFar plan (first_progress own) (record page { end = end })
start_control domain plan e page end value own number orders over control same side index = record {
  same = same ∙ over.page ∙ ap (λ (s : SeatedEnd). s.page) (sym over.given_is);
  same_role = ap (λ (s : SeatedEnd). s.side.role) over.given_is ∙ control.role ∙ sym (role page.place over.place_is);
  before = (λ i. before_turned (view_of (same i) true (side i))) ∙ over.before ∙ ap (λ (s : SeatedEnd). before_turned (view s)) (sym over.given_is);
  role = ap (λ s. s.role) side ∙ over.role ∙ control.role ∙ sym (role page.place over.place_is);
  orders = ap (λ s. s.orders) side ∙ over.orders ∙ control.orders ∙ sym orders ∙ sym (order page.place over.place_is);
  turned = ap (λ s. s.turned) side ∙ over.turned;
  trail = subst (λ (place : PagePlace). IsTrailSoFar plan place (first_progress own) end.side.trail) (sym over.place_is) (record {
    value = value;
    done = [];
    part = [];
    voice = first_voice plan value;
    orders = refl;
    acts = (refl, refl);
    under_way = begins (words_at plan 0) (first_voice plan value) (first_progress own) index refl refl;
    trail_is = ap (λ s. s.trail) side ∙ ap (λ (events : List PastEvent). events ++ record { op = Load RightProd; taken = value } ∷ []) over.trail;
  });
}
  where
    role : (place : PagePlace) → place ≡ Control domain.number → role_at plan.domain place ≡ Server
    role place is = ap (λ (p : PagePlace). role_at plan.domain p) is

    order : (place : PagePlace) → place ≡ Control domain.number → orders_at plan place ≡ plan.control
    order place is = ap (λ (p : PagePlace). orders_at plan p) is

-- a data page
start_payload : (domain : HostileDomain) (plan : HostilePlan) (own : ℕ) (d : DataEnd) (page : TurnedPage) → plan.domain ≡ domain.number → plan.payload ≡ domain.payload → IsDataTurnedOver d page → IsDataOf domain d → IsPageSoFar plan (first_progress own) page
start_payload domain plan own d page number orders turned fits =
    let place = Payload d.from d.to d.port in
    let over = turned.over in
    let same : turned.end ≡ fits.end = let both = sym turned.laid ∙ fits.laid in cc in
    let role : role_at plan.domain page.place ≡ role_at domain.number place = λ i. role_at (number i) (over.place_is i) in
    let fits_role = ap (λ (s : SeatedEnd). s.side.role) same ∙ fits.role in
    record {
      same = over.page ∙ ap (λ (s : SeatedEnd). s.page) (sym over.given_is);
      same_role = ap (λ (s : SeatedEnd). s.side.role) over.given_is ∙ fits_role ∙ sym role;
      before = over.before ∙ ap (λ (s : SeatedEnd). before_turned (view s)) (sym over.given_is);
      role = over.role ∙ fits_role ∙ sym role;
      orders = over.orders ∙ ap (λ (s : SeatedEnd). s.side.orders) same ∙ fits.orders ∙ sym orders ∙ ap (λ (p : PagePlace). orders_at plan p) (sym over.place_is);
      turned = over.turned;
      trail = subst (λ (p : PagePlace). IsTrailSoFar plan p (first_progress own) page.end.side.trail) (sym over.place_is) over.trail;
    }

-- ---- where the pages lie, and as they were given

places_are : (ends : List DataEnd) (ps : List TurnedPage) → EachPair IsDataTurnedOver ends ps → map (λ p. p.place) ps ≡ places_in (all_given ends)
places_are ends ps pairs =
    map_pairs IsDataTurnedOver (λ d. (given_at d).place) (λ p. p.place) ends ps (λ d p turned. turned.over.place_is) pairs ∙ sym (map-map (λ e. e.place) given_at ends)

given_are : (ends : List DataEnd) (ps : List TurnedPage) → EachPair IsDataTurnedOver ends ps → map given_of ps ≡ all_given ends
given_are ends ps pairs =
    map_pairs IsDataTurnedOver given_at given_of ends ps (λ d p turned i. record { place = turned.over.place_is i; view = (ap view turned.over.given_is ∙ sym (ap fresh_view turned.laid)) i }) pairs

-- ---- the whole task

pub start_places : (domain : HostileDomain) (e : SeatedEnd) (ends : List DataEnd) (ps : Pages) → IsTurnedOver (Control domain.number) e ps.control → EachPair IsDataTurnedOver ends ps.payload.items
    → pages.places_in ps ≡ Control domain.number ∷ places_in (all_given ends)
start_places domain e ends ps control payload = λ i. control.place_is i ∷ places_are ends ps.payload.items payload i

pub start_given : (domain : HostileDomain) (e : SeatedEnd) (ends : List DataEnd) (ps : Pages) → IsTurnedOver (Control domain.number) e ps.control → EachPair IsDataTurnedOver ends ps.payload.items
    → given_in ps ≡ all_ends domain.number (view e) (all_given ends)
start_given domain e ends ps control payload = λ i. record { place = control.place_is i; view = view (control.given_is i) } ∷ given_are ends ps.payload.items payload i

pub start_way : (domain : HostileDomain) (e : SeatedEnd) (ends : List DataEnd) (ps : Pages) (end : SeatedSide) (value own : ℕ) (spelled : List ℕ) → IsTurnedOver (Control domain.number) e ps.control → EachPair IsDataTurnedOver ends ps.payload.items
    → IsControlOf domain e → AreDataOf domain ends → AreApart (places_in (all_given ends)) → end.page ≡ ps.control.end.page → end.side ≡ strays ps.control.end.side (Load RightProd) value → own ≡ low32 value
    → IsUnderWay domain (with_control ps end) (first_progress own) spelled
start_way domain e ends ps end value own spelled control payload control_fits fits apart same side index =
    let plan = plan_of domain (pages.places_in ps) in
    record {
      acts = omega arith;
      begun = not_begun (slice_get domain.acts 0) (first_progress own) spelled refl;
      nothing_said = λ _. refl;
      control = subst IsControl (sym control.place_is) tt;
      payload = each_of_pairs IsDataTurnedOver (IsDataOf domain) (λ p. IsPayload p.place) ends ps.payload.items (λ d p turned fits. subst IsPayload (sym turned.over.place_is) tt) payload fits;
      apart = subst (λ (places : List PagePlace). AreApart places) (sym (start_places domain e ends ps control payload)) (no_control domain.number ends, apart);
      so_far = (
        start_control domain plan e ps.control end value own refl refl control control_fits same side index,
        each_of_pairs IsDataTurnedOver (IsDataOf domain) (IsPageSoFar plan (first_progress own)) ends ps.payload.items (λ d p turned fits. start_payload domain plan own d p refl refl turned fits) payload fits,
      );
    }
