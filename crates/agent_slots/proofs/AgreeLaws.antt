-- What is kept of the ends agrees with the session of each.
use Rattle.std.proofs.Common.{◌≡◌, ℕ, ◌<◌, List, [], ◌∷◌, ◌++◌, length, get_or, map, refl, ap, sym, ◌∙◌, arith, Option, Some, suc, subst}
use Rattle.std.specs.Prelude.{true, false, slice_get, unwrap_or}
use Rattle.task_duties.specs.declared.place.PagePlace.{PagePlace}
use Rattle.task_duties.specs.declared.done.SessionEnd.{SessionEnd}
use Rattle.agent_slots.specs.declared.slot.Slot.{Slot}
use Rattle.agent_slots.specs.declared.stage.Stage.{Stage}
use Rattle.agent_slots.specs.declared.stage.Stage.TheVariants.{Unused, Calls, Awaits, Serves, CallIsOver, ServingIsOver, Taken}
use Rattle.agent_slots.specs.declared.ends.Ends.{Ends}
use Rattle.agent_slots.specs.Slots.{Held}
use Rattle.agent_slots.specs.Sessions.{Session, NotBegun, session_of, sessions_in, is_open}
use Rattle.agent_slots.specs.Agreeing.{place_if_free, places_free, SessionStands, IsOpenAt, Agrees}
use Rattle.agent_slots.specs.Stages.{Frame, place_of, frame_of, use_of, is_session, IsStage, CanRetire}
use Rattle.agent_slots.specs.Whole.{frames, held_in, sessions, unused_at, unused_in, session_at, opened_in, IsNoted, IsWhole, state_of}
use Rattle.agent_slots.proofs.OpenLaws.{open_at}
use Rattle.agent_slots.proofs.TurnLaws.{tells_begun}
use Rattle.agent_slots.proofs.OpenedLaws.{session_here, session_told, told_place, read_any}
use Rattle.std.proofs.lemmas.List.{length-map}
use Rattle.std.specs.List.{cons_option, AllByRecursion as Each}
use Rattle.list_laws.proofs.Places.{get_map, get_map_back}
use Rattle.list_laws.proofs.Each.{each_get}

one_free : (version : ℕ) (place : PagePlace) (stage : Stage) (rest : List PagePlace) → IsStage version stage → cons_option (unused_at place (use_of stage)) rest ≡ place_if_free place (session_of stage) ++ rest
one_free version place (Unused end) rest h = refl
one_free version place (Calls number input side session) rest h = refl
one_free version place (Awaits number service serving side) rest h = refl
one_free version place (Serves number service side session) rest h = refl
one_free version place (CallIsOver number input done end) rest h = refl
one_free version place (ServingIsOver number service outcome got end) rest h = refl
one_free version place Taken rest h = absurd h

all_free : (version : ℕ) (slots : List Slot) → Each (λ s. IsStage version s.stage) slots → unused_in (frames slots) ≡ places_free (map (λ (h : Held). h.place) (held_in slots)) (sessions_in slots)
all_free version [] each = refl
all_free version (s ∷ slots) each =
    one_free version (place_of s) s.stage (unused_in (frames slots)) each.0 ∙ ap (λ l. place_if_free (place_of s) (session_of s.stage) ++ l) (all_free version slots each.1)

all_stand : (version : ℕ) (slots : List Slot) → Each (λ s. IsStage version s.stage) slots → Each (λ s. CanRetire s.stage) slots → Each (SessionStands version) (sessions_in slots)
all_stand version [] each can = tt
all_stand version (s ∷ slots) each can = (by_stage s.stage each.0 can.0, all_stand version slots each.1 can.1)
  where
    by_stage : (stage : Stage) → IsStage version stage → CanRetire stage → SessionStands version (session_of stage)
    by_stage (Unused end) h can = tt
    by_stage (Calls number input side session) h can = (h.0, h.1, h.2, can.0)
    by_stage (Awaits number service serving side) h can = tt
    by_stage (Serves number service side session) h can = (h.0, h.1, (service.value, h.2))
    by_stage (CallIsOver number input done end) h can = can.0
    by_stage (ServingIsOver number service outcome got end) h can = can.0
    by_stage Taken h can = absurd h

still_open : (stage : Stage) → is_session stage ≡ true → is_open (session_of stage) ≡ true
still_open (Unused end) h = cc
still_open (Calls number input side session) h = refl
still_open (Awaits number service serving side) h = refl
still_open (Serves number service side session) h = refl
still_open (CallIsOver number input done end) h = cc
still_open (ServingIsOver number service outcome got end) h = cc
still_open Taken h = cc

pub agrees : (e : Ends) → IsWhole e → Each (λ s. CanRetire s.stage) e.slots.items → Agrees (state_of e false)
agrees e whole can = record {
  version = whole.version_is;
  count = length-map slots (λ (s : Slot). session_of s.stage) ∙ sym (length-map slots (λ (s : Slot). (frame_of s).held));
  sessions = all_stand e.version slots whole.stages can;
  unused = all_free e.version slots whole.stages;
  opened = each e.busy.items (λ k less. open_at (sessions slots) e.busy.items k (get_or e.busy.items k 0) whole.are_open less (read_any e.busy.items k less));
}
  where
    slots : List Slot
    slots = e.slots.items

    fs : List Frame
    fs = frames slots

    one : (n : ℕ) → slice_get (sessions slots) n ≡ Some true → IsOpenAt (state_of e false) (session_at fs n)
    one n is =
        let back = get_map_back (λ (s : Slot). is_session s.stage) slots n true is in
        let slot = back.0 in
        let here : slice_get fs n ≡ Some (frame_of slot) = get_map frame_of slots n slot back.1 in
        let told = session_told slot.from slot.to slot.port slot.stage back.2 in
        let noted = each_get (λ f. IsNoted e.domain e.calls.items e.served.items f.held.place f.used) fs n (frame_of slot) whole.noted here in
        let lies = told_place e.domain e.calls.items e.served.items slot.from slot.to slot.port (use_of slot.stage) told.0 noted told.1 in
        let held : slice_get (held_in slots) n ≡ Some (frame_of slot).held = get_map (λ (s : Slot). (frame_of s).held) slots n slot back.1 in
        let at : slice_get (sessions_in slots) n ≡ Some (session_of slot.stage) = get_map (λ (s : Slot). session_of s.stage) slots n slot back.1 in
        subst (λ (o : SessionEnd). IsOpenAt (state_of e false) o) (sym (session_here fs n (frame_of slot) told.0 here told.1)) (record {
          begun = tells_begun e n slot told.0 whole back.1 told.1;
          at = n;
          place_is = get_map (λ (h : Held). h.place) (held_in slots) n (frame_of slot).held held ∙ ap (λ (p : PagePlace). Some p) (sym lies);
          is_open = ap (λ (o : Option Session). is_open (unwrap_or o NotBegun)) at ∙ still_open slot.stage back.2;
        })

    each : (numbers : List ℕ) → ((k : ℕ) → k < length numbers → slice_get (sessions slots) (get_or numbers k 0) ≡ Some true) → Each (IsOpenAt (state_of e false)) (opened_in fs numbers)
    each [] h = tt
    each (n ∷ numbers) h = (one n (h 0 (omega arith)), each numbers (λ k less. h (suc k) (omega (arith, less))))
