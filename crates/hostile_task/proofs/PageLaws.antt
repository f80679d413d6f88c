-- Pages after some events of their hostile user.
use Rattle.std.proofs.Common.{◌≡◌, List, [], ◌∷◌, ◌++◌, map, refl, sym, ap, ◌∙◌}
use Rattle.std.proofs.lemmas.List.{map-id}
use Rattle.vchan_protocol.specs.declared.op.PastEvent.{PastEvent}
use Rattle.vchan_protocol.specs.declared.side.Side.{Side}
use Rattle.vchan_protocol.specs.Hostile.Turned.{strays}
use Rattle.vchan_rule.specs.Seated.{SeatedSide, last_view}
use Rattle.hostile_seat.specs.Hostile.{strays_along}
use Rattle.task_duties.specs.declared.place.PagePlace.{PagePlace}
use Rattle.task_duties.specs.TaskOwes.{before_turned}
use Rattle.hostile_task.specs.declared.page.TurnedPage.{TurnedPage}
use Rattle.hostile_task.specs.declared.pages.Pages.{Pages}
use Rattle.hostile_task.specs.Saying.{side_after}
use Rattle.hostile_task.specs.Pages.{after_events, AreAfter, AreSamePages, given_of}
use Rattle.std.proofs.lemmas.Simd.{map-map}

-- ---- one end

pub along_append : (s : Side) (first more : List PastEvent) → strays_along (strays_along s first) more ≡ strays_along s (first ++ more)
along_append s [] more = refl
along_append s (event ∷ events) more = along_append (strays s event.op event.taken) events more

-- what the end was before it was turned
pub along_before : (e : SeatedSide) (events : List PastEvent) → before_turned (last_view (side_after e events)) ≡ before_turned (last_view e)
along_before e [] = refl
along_before e (event ∷ events) = along_before (side_after e (event ∷ [])) events

-- ---- all pages

-- some events, and then some more
pub are_after_then : (first more : PagePlace → List PastEvent) (old between new : Pages) → AreAfter first old between → AreAfter more between new → AreAfter (λ place. first place ++ more place) old new
are_after_then first more old between new before behind = record {
  control = behind.control ∙ ap (λ (p : TurnedPage). after_events p (more p.place)) before.control ∙ then_more old.control;
  payload =
      behind.payload ∙ ap (λ (ps : List TurnedPage). map (λ p. after_events p (more p.place)) ps) before.payload
      ∙ map-map (λ p. after_events p (more p.place)) (λ p. after_events p (first p.place)) old.payload.items
      ∙ (λ i. map (λ p. then_more p i) old.payload.items);
}
  where
    then_more : (p : TurnedPage) → after_events (after_events p (first p.place)) (more p.place) ≡ after_events p (first p.place ++ more p.place)
    then_more p i = record p { end = record p.end { side = along_append p.end.side (first p.place) (more p.place) i } }

-- no event
pub are_after_none : (pages : Pages) → AreAfter (λ place. []) pages pages
are_after_none pages = record { control = refl; payload = sym (map-id pages.payload.items) }

-- the pages stay at their places, and as they were given
pub are_same_after : (events : PagePlace → List PastEvent) (old new : Pages) → AreAfter events old new → AreSamePages old new
are_same_after events old new are = record {
  places = λ i. (are.control i).place ∷ (ap (λ (ps : List TurnedPage). map (λ p. p.place) ps) are.payload ∙ map-map (λ p. p.place) (λ p. after_events p (events p.place)) old.payload.items) i;
  given = λ i. given_of (are.control i) ∷ (ap (λ (ps : List TurnedPage). map given_of ps) are.payload ∙ map-map given_of (λ p. after_events p (events p.place)) old.payload.items) i;
}
