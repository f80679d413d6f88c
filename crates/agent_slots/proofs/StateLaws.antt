-- What is kept of all ends, and what contracts see of them, after an unused one was put to use, and after the turn of one session.
use Rattle.std.proofs.Common.{◌≡◌, ℕ, ◌<◌, List, [], ◌∷◌, ◌++◌, length, get_or, map, set, refl, ap, sym, ◌∙◌, subst, Option, Some, None}
use Rattle.std.specs.Prelude.{Bool, true, false, option_map, slice_get, IsPermutation}
use Rattle.std.specs.List.{swap_remove}
use Rattle.std.proofs.lemmas.List.{map-append, map-set}
use Rattle.list_laws.proofs.Places.{get_map, get_map_back, map_set_same}
use Rattle.service_gate.specs.declared.builtin.Builtin.{Builtin}
use Rattle.task_duties.specs.declared.place.PagePlace.{PagePlace}
use Rattle.task_duties.specs.declared.place.PagePlace.TheVariants.{Payload}
use Rattle.task_duties.specs.declared.done.SessionEnd.{SessionEnd}
use Rattle.task_duties.specs.Places.{without}
use Rattle.agent_slots.specs.declared.slot.Slot.{Slot}
use Rattle.agent_slots.specs.declared.ends.Ends.{Ends}
use Rattle.agent_slots.specs.declared.note.CallNote.{CallNote}
use Rattle.agent_slots.specs.declared.note.ServedNote.{ServedNote}
use Rattle.agent_slots.specs.Slots.{Called, Serves, SlotsState}
use Rattle.agent_slots.specs.Done.{TellsMore}
use Rattle.agent_slots.specs.Sessions.{KeepsSessions, sessions_in}
use Rattle.agent_slots.specs.Stages.{Use, ForNothing, ForCall, ForServing, place_of, frame_of, use_of, told_of, is_session, IsStage}
use Rattle.agent_slots.specs.Whole.{frames, sessions, unused_in, late_in, opened_in, called_of, serves_of, AreWhole, IsWhole, state_with, state_of}
use Rattle.agent_slots.proofs.OpenedLaws.{late_set, opened_more, opened_less}
use Rattle.agent_slots.proofs.WholeLaws.{IsPutTo, begins_call, begins_serving, frames_set, held_set, is_shut, unused_now}
use Rattle.agent_slots.proofs.TurnLaws.{IsBusy, turns_on, turns_over, tells_begun, tells_none}
use Rattle.agent_slots.proofs.SessionLaws.{keeps_sessions}
use Rattle.agent_slots.proofs.BeginLaws.{IsFree, same_state, call_used, serving_used}

-- ---- an unused end is put to use

-- a state after the end at this place is put to use, for the session that is told like this
abbrev pub in_use : SlotsState → PagePlace → SessionEnd → List (Option Called) → List Serves → List Slot → SlotsState
in_use s place told called serves slots = record s { unused = without place s.unused; called = called; served = serves; opened = s.opened ++ told ∷ []; sessions = sessions_in slots }

-- what is kept of these ends now that it is
pub record HasBegun (e : Ends) (spent : Bool) (slots : List Slot) (busy : List ℕ) (calls : List (Option CallNote)) (served : List ServedNote) (place : PagePlace) (told : SessionEnd) (called : List (Option Called)) (serves : List Serves) : Type 0 where
  pub whole : AreWhole e.domain e.version slots e.index busy calls served
  pub state : state_with e.domain e.version slots busy calls served spent ≡ in_use (state_of e spent) place told called serves slots
  pub kept : KeepsSessions (sessions_in e.slots.items) (sessions_in slots)

begun_state : (e : Ends) (spent : Bool) (busy : List ℕ) (calls : List (Option CallNote)) (served : List ServedNote) (at f t p : ℕ) (slot slot' : Slot) (used : Use) (told : SessionEnd) (called : List (Option Called)) (serves : List Serves)
    → IsWhole e → IsFree e.slots.items at (Payload f t p) slot → frame_of slot' ≡ record (frame_of slot) { used = used } → (used ≡ ForNothing → ⊥) → told_of (Payload f t p) used ≡ Some told → busy ≡ e.busy.items ++ at ∷ []
    → map (option_map called_of) calls ≡ called → map serves_of served ≡ serves
    → state_with e.domain e.version (set e.slots.items at slot') busy calls served spent ≡ in_use (state_of e spent) (Payload f t p) told called serves (set e.slots.items at slot')
begun_state e spent busy calls served at f t p slot slot' used told called serves whole free put is_used tells more called_is serves_is =
    let slots = e.slots.items in
    let g = frame_of slot in
    let here = get_map frame_of slots at slot free.here in
    let fs = frames_set slots at slot slot' used put in
    let shut = get_map (λ (s : Slot). is_session s.stage) slots at slot free.here ∙ ap Some (is_shut slot.stage free.unused) in
    same_state e.domain e.version _ _ _ _ _ _ _ _ _ _ _ _ _ _ spent
    (held_set slots at slot slot' free.here (ap (λ x. x.held) put))
    (unused_now slots e.index at f t p slot slot' used whole.indexed free.here free.lies free.unused is_used put)
    (ap late_in fs ∙ late_set (frames slots) at g used here)
    called_is serves_is
    (ap (λ xs. opened_in xs busy) fs ∙ (ap (λ b. opened_in (set (frames slots) at (record g { used = used })) b) more
    ∙ opened_more (frames slots) (sessions slots) e.busy.items at g (record g { used = used }) told whole.are_open shut here (ap (λ q. told_of q used) free.lies ∙ tells)))
    refl

-- a call that has no session in the state that contracts see has none
pub none_called : (calls : List (Option CallNote)) (number : ℕ) → slice_get (map (option_map called_of) calls) number ≡ Some None → slice_get calls number ≡ Some None
none_called calls number h = let back = get_map_back (option_map called_of) calls number None h in none back.0 back.1 back.2
  where
    none : (o : Option CallNote) → slice_get calls number ≡ Some o → option_map called_of o ≡ None → slice_get calls number ≡ Some None
    none None is unnoted = is
    none (Some n) is unnoted = cc

-- a call of the agent's own, and what it serves
pub call_begun : (e : Ends) (spent : Bool) (busy : List ℕ) (number : ℕ) (note : CallNote) (slot slot' : Slot) (input : List ℕ)
    → IsWhole e → IsFree e.slots.items note.at (Payload e.domain note.to note.port) slot → slice_get e.calls.items number ≡ Some None → note.input.value.items ≡ input
    → IsPutTo e.version slot slot' (ForCall number input) → busy ≡ e.busy.items ++ note.at ∷ []
    → HasBegun e spent (set e.slots.items note.at slot') busy (set e.calls.items number (Some note)) e.served.items (Payload e.domain note.to note.port) (record { domain = note.to; port = note.port; call = Some number })
    (set (state_of e spent).called number (Some (record { to = note.to; port = note.port; input = input }))) (state_of e spent).served
call_begun e spent busy number note slot slot' input whole free none is put more = record {
  whole = subst (λ b. AreWhole e.domain e.version (set e.slots.items note.at slot') e.index b (set e.calls.items number (Some note)) e.served.items) (sym more)
      (begins_call e.domain e.version e.slots.items e.index e.busy.items e.calls.items e.served.items number note slot slot' whole free.here free.unused free.lies none (subst (λ i. IsPutTo e.version slot slot' (ForCall number i)) (sym is) put));
  state = begun_state e spent busy (set e.calls.items number (Some note)) e.served.items note.at e.domain note.to note.port slot slot' (ForCall number input) _ _ _ whole free put.frame (call_used number input) refl more
      (map-set (option_map called_of) e.calls.items number (Some note) ∙ ap (λ i. set (state_of e spent).called number (Some (record { to = note.to; port = note.port; input = i }))) is) refl;
  kept = keeps_sessions e.slots.items note.at slot slot' free.here free.unused;
}

pub serving_begun : (e : Ends) (spent : Bool) (busy : List ℕ) (served : List ServedNote) (note : ServedNote) (slot slot' : Slot) (service : Builtin) (number : ℕ)
    → IsWhole e → IsFree e.slots.items note.at (Payload note.from e.domain note.port) slot → note.service.value ≡ service → number ≡ length e.served.items
    → IsPutTo e.version slot slot' (ForServing number service) → busy ≡ e.busy.items ++ note.at ∷ [] → served ≡ e.served.items ++ note ∷ []
    → HasBegun e spent (set e.slots.items note.at slot') busy e.calls.items served (Payload note.from e.domain note.port) (record { domain = note.from; port = note.port; call = None }) (state_of e spent).called
    ((state_of e spent).served ++ record { from = note.from; port = note.port; service = service } ∷ [])
serving_begun e spent busy served note slot slot' service number whole free is counts put more noted = record {
  whole = subst (λ ns. AreWhole e.domain e.version (set e.slots.items note.at slot') e.index busy e.calls.items ns) (sym noted)
      (subst (λ b. AreWhole e.domain e.version (set e.slots.items note.at slot') e.index b e.calls.items (e.served.items ++ note ∷ [])) (sym more)
      (begins_serving e.domain e.version e.slots.items e.index e.busy.items e.calls.items e.served.items note slot slot' whole free.here free.unused free.lies
      (subst (λ n. IsPutTo e.version slot slot' (ForServing n note.service.value)) counts (subst (λ s. IsPutTo e.version slot slot' (ForServing number s)) (sym is) put))));
  state = begun_state e spent busy e.calls.items served note.at note.from e.domain note.port slot slot' (ForServing number service) _ _ _ whole free put.frame (serving_used number service) refl more refl
      (ap (map serves_of) noted ∙ (map-append serves_of e.served.items (note ∷ []) ∙ ap (λ v. (state_of e spent).served ++ record { from = note.from; port = note.port; service = v } ∷ []) is));
  kept = keeps_sessions e.slots.items note.at slot slot' free.here free.unused;
}

-- ---- one session takes its turn

-- what a turn leaves of these ends, whose slots and open ones are these now
pub record Leaves (e : Ends) (slots : List Slot) (busy : List ℕ) (before now : List SessionEnd) : Type 0 where
  pub whole : AreWhole e.domain e.version slots e.index busy e.calls.items e.served.items
  pub state : state_with e.domain e.version slots busy e.calls.items e.served.items false ≡ record (state_of e false) { opened = opened_in (frames slots) busy; sessions = sessions_in slots }
  pub told : TellsMore (state_of e false) (state_with e.domain e.version slots busy e.calls.items e.served.items false) before now

left_state : (e : Ends) (busy : List ℕ) (at : ℕ) (slot slot' : Slot) → slice_get e.slots.items at ≡ Some slot → frame_of slot' ≡ frame_of slot
    → state_with e.domain e.version (set e.slots.items at slot') busy e.calls.items e.served.items false ≡ record (state_of e false) { opened = opened_in (frames (set e.slots.items at slot')) busy; sessions = sessions_in (set e.slots.items at slot') }
left_state e busy at slot slot' here same =
    let fs = map_set_same frame_of e.slots.items at slot slot' here same in
    same_state e.domain e.version _ _ _ _ _ _ _ _ _ _ _ _ _ _ false (held_set e.slots.items at slot slot' here (ap (λ f. f.held) same)) (ap unused_in fs) (ap late_in fs) refl refl refl refl

-- it goes on, or is over
pub one_on : (e : Ends) (at : ℕ) (slot slot' : Slot) (over : List SessionEnd) → IsWhole e → IsBusy e.slots.items at slot → frame_of slot' ≡ frame_of slot → IsStage e.version slot'.stage → is_session slot'.stage ≡ true
    → Leaves e (set e.slots.items at slot') e.busy.items over over
one_on e at slot slot' over whole is same stage session = record {
  whole = turns_on e.domain e.version e.slots.items e.index e.busy.items e.calls.items e.served.items at slot slot' whole is same stage session;
  state = left_state e e.busy.items at slot slot' is.here same;
  told = tells_none (state_of e false) (opened_in (frames (set e.slots.items at slot')) e.busy.items) over (ap (λ fs. opened_in fs e.busy.items) (map_set_same frame_of e.slots.items at slot slot' is.here same));
}

pub one_over : (e : Ends) (next at : ℕ) (slot slot' : Slot) (told : SessionEnd) (over : List SessionEnd) → IsWhole e → IsBusy e.slots.items at slot → next < length e.busy.items → at ≡ get_or e.busy.items next at
    → frame_of slot' ≡ frame_of slot → IsStage e.version slot'.stage → is_session slot'.stage ≡ false → told_of (place_of slot) (use_of slot.stage) ≡ Some told
    → Leaves e (set e.slots.items at slot') (swap_remove e.busy.items next at) over (over ++ told ∷ [])
one_over e next at slot slot' told over whole is less read same stage session tells = record {
  whole = turns_over e.domain e.version e.slots.items e.index e.busy.items next e.calls.items e.served.items at slot slot' whole is less read same stage session;
  state = left_state e (swap_remove e.busy.items next at) at slot slot' is.here same;
  told = (
    told ∷ [],
    refl,
    subst (λ fs. IsPermutation (told ∷ opened_in fs (swap_remove e.busy.items next at)) (opened_in (frames e.slots.items) e.busy.items)) (sym (map_set_same frame_of e.slots.items at slot slot' is.here same))
        (opened_less (frames e.slots.items) e.busy.items next at (frame_of slot) told less read (get_map frame_of e.slots.items at slot is.here) tells),
    (tells_begun e at slot told whole is.here tells, tt),
  );
}
