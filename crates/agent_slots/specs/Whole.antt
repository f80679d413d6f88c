-- How the ends of an agent, and what is noted of them, agree.
use Rattle.std.specs.Prelude.{◌≡◌, ℕ, ◌+◌, ◌≤◌, ◌==◌, Bool, false, List, map, filter_map, slice_get, option_map, unwrap_or, Option, Some, None, if◌then◌else◌}
use Rattle.std.specs.List.{sum_by, AllByRecursion as Each}
use Rattle.task_duties.specs.declared.place.PagePlace.{PagePlace}
use Rattle.task_duties.specs.declared.place.PagePlace.TheVariants.{Payload}
use Rattle.task_duties.specs.declared.done.SessionEnd.{SessionEnd}
use Rattle.agent_slots.specs.declared.slot.Slot.{Slot}
use Rattle.agent_slots.specs.declared.note.CallNote.{CallNote}
use Rattle.agent_slots.specs.declared.note.ServedNote.{ServedNote}
use Rattle.agent_slots.specs.declared.ends.Ends.{Ends}
use Rattle.agent_slots.specs.Slots.{Held, Called, Serves, SlotsState, IsEndOf}
use Rattle.agent_slots.specs.Stages.{Use, ForNothing, ForCall, ForServing, Frame, place_of, frame_of, told_of, is_session, IsStage}
use Rattle.agent_slots.specs.Done.{TellsMore}
use Rattle.agent_slots.specs.Sessions.{sessions_in}
use Rattle.agent_slots.specs.Index.{PlaceIndex, IsIndexOf}

-- ---- all ends, as lists

abbrev pub frames : List Slot → List Frame
frames slots = map frame_of slots

abbrev pub held_in : List Slot → List Held
held_in slots = map (λ s. (frame_of s).held) slots

abbrev pub places : List Slot → List PagePlace
places slots = map place_of slots

abbrev pub sessions : List Slot → List Bool
sessions slots = map (λ s. is_session s.stage) slots

-- the place of an end that is used for nothing
abbrev pub unused_at : PagePlace → Use → Option PagePlace
unused_at place ForNothing = Some place
unused_at place used = None

abbrev pub unused_in : List Frame → List PagePlace
unused_in fs = filter_map (λ f. unused_at f.held.place f.used) fs

-- where an end lies whose page is laid when it is first used
abbrev pub late_in : List Frame → List PagePlace
late_in fs = filter_map (λ f. if f.late then Some f.held.place else None) fs

-- the session of the end of a number, as it is told once it is over
abbrev pub told_by : Option Frame → Option SessionEnd
told_by (Some f) = told_of f.held.place f.used
told_by None = None

abbrev pub session_at : List Frame → ℕ → SessionEnd
session_at fs at = unwrap_or (told_by (slice_get fs at)) (record { domain = 0; port = 0; call = None })

-- those of the ends of these numbers
abbrev pub opened_in : List Frame → List ℕ → List SessionEnd
opened_in fs numbers = map (session_at fs) numbers

-- whether the page of the end of a number is laid when it is first used
abbrev pub late_by : Option Frame → Bool
late_by (Some f) = f.late
late_by None = false

abbrev pub is_late_at : List Frame → ℕ → Bool
is_late_at fs at = late_by (slice_get fs at)

abbrev pub called_of : CallNote → Called
called_of n = record { to = n.to; port = n.port; input = n.input.value.items }

abbrev pub serves_of : ServedNote → Serves
serves_of n = record { from = n.from; port = n.port; service = n.service.value }

-- ---- which sessions are open

-- how often a number is in a list
abbrev pub times : ℕ → List ℕ → ℕ
times i numbers = sum_by (λ n. if n == i then 1 else 0) numbers

-- the list has the number of each open session once, and no other
abbrev pub AreOpen : List Bool → List ℕ → Type 0
AreOpen are_sessions numbers = (i : ℕ) → times i numbers ≡ (if unwrap_or (slice_get are_sessions i) false then 1 else 0)

-- ---- which end is used by what

-- the end with this number lies there, and has this use
pub record IsUsedAt (fs : List Frame) (at : ℕ) (place : PagePlace) (used : Use) : Type 0 where
  pub held : Held
  pub late : Bool
  pub is : slice_get fs at ≡ Some (record { held = held; used = used; late = late })
  pub lies : held.place ≡ place

-- each noted call and each served session has its end
pub record HaveEnds (domain : ℕ) (fs : List Frame) (calls : List (Option CallNote)) (served : List ServedNote) : Type 0 where
  pub called : (number : ℕ) (n : CallNote) → slice_get calls number ≡ Some (Some n) → IsUsedAt fs n.at (Payload domain n.to n.port) (ForCall number n.input.value.items)
  pub serving : (number : ℕ) (n : ServedNote) → slice_get served number ≡ Some n → IsUsedAt fs n.at (Payload n.from domain n.port) (ForServing number n.service.value)

-- what an end is used for is noted
abbrev pub IsNoted : ℕ → List (Option CallNote) → List ServedNote → PagePlace → Use → Type 0
IsNoted domain calls served place ForNothing = Unit {0}
IsNoted domain calls served place (ForCall number input) = (n : CallNote) × (slice_get calls number ≡ Some (Some n)) × (place ≡ Payload domain n.to n.port)
IsNoted domain calls served place (ForServing number service) = (n : ServedNote) × (slice_get served number ≡ Some n) × (place ≡ Payload n.from domain n.port)

-- ---- all of it

pub record AreWhole (domain version : ℕ) (slots : List Slot) (index : PlaceIndex) (busy : List ℕ) (calls : List (Option CallNote)) (served : List ServedNote) : Type 0 where
  pub version_is : (2 ≤ version) × (version ≤ 3)
  pub stages : Each (λ s. IsStage version s.stage) slots
  pub of_domain : Each (λ h. IsEndOf domain h.place h.role) (held_in slots)
  pub indexed : IsIndexOf (places slots) index
  pub are_open : AreOpen (sessions slots) busy
  pub have_ends : HaveEnds domain (frames slots) calls served
  pub noted : Each (λ f. IsNoted domain calls served f.held.place f.used) (frames slots)

abbrev pub IsWhole : Ends → Type 0
IsWhole e = AreWhole e.domain e.version e.slots.items e.index e.busy.items e.calls.items e.served.items

-- the state that contracts see
abbrev pub state_with : ℕ → ℕ → List Slot → List ℕ → List (Option CallNote) → List ServedNote → Bool → SlotsState
state_with domain version slots busy calls served spent = record {
  domain = domain;
  version = version;
  held = held_in slots;
  unused = unused_in (frames slots);
  late = late_in (frames slots);
  called = map (option_map called_of) calls;
  served = map serves_of served;
  opened = opened_in (frames slots) busy;
  sessions = sessions_in slots;
  spent = spent;
}

abbrev pub state_of : Ends → Bool → SlotsState
state_of e spent = state_with e.domain e.version e.slots.items e.busy.items e.calls.items e.served.items spent

-- ---- a turn

-- after the turn all ends are whole, and the only sessions that are no longer open are those that were reported
pub record IsTurned (old new : Ends) (before now : List SessionEnd) : Type 0 where
  pub whole : IsWhole new
  pub state : state_of new false ≡ record (state_of old false) { opened = (state_of new false).opened; sessions = (state_of new false).sessions }
  pub told : TellsMore (state_of old false) (state_of new false) before now

-- of the sessions whose turn is to come, one took it
abbrev pub TakesFrom : ℕ → List ℕ → List ℕ → Type 0
TakesFrom at ahead left = (i : ℕ) → times i left + (if at == i then 1 else 0) ≡ times i ahead

-- it has the same ends
abbrev pub HasSameEnds : Ends → Ends → Type 0
HasSameEnds old new = (held_in new.slots.items ≡ held_in old.slots.items) × (new.domain ≡ old.domain) × (new.version ≡ old.version)
