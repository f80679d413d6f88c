-- An unused end that was found, and what contracts see after it is put to use.
use Rattle.std.proofs.Common.{◌≡◌, ℕ, ◌<◌, List, length, subst, get_or, refl, ap, sym, ◌∙◌, Option, Some}
use Rattle.std.specs.Prelude.{slice_get, Bool, false}
use Rattle.std.proofs.lemmas.Option.{get_or_from_slice_get, slice_get_within}
use Rattle.std.proofs.lemmas.List.{length-map}
use Rattle.std.specs.List.{AllByRecursion as Each}
use Rattle.list_laws.proofs.Places.{get_map, get_map_back}
use Rattle.list_laws.proofs.Each.{each_get}
use Rattle.ring_words.specs.declared.page.Role.{Role}
use Rattle.ring_words.specs.declared.page.Role.TheVariants.{Server, Client}
use Rattle.service_gate.specs.declared.builtin.Builtin.{Builtin}
use Rattle.task_duties.specs.declared.place.PagePlace.{PagePlace}
use Rattle.task_duties.specs.declared.place.PagePlace.TheVariants.{Payload}
use Rattle.task_duties.specs.declared.done.SessionEnd.{SessionEnd}
use Rattle.agent_slots.specs.declared.slot.Slot.{Slot}
use Rattle.agent_slots.specs.declared.stage.Stage.{Stage}
use Rattle.agent_slots.specs.declared.stage.Stage.TheVariants.{Unused, Calls, Awaits, Serves, CallIsOver, ServingIsOver, Taken}
use Rattle.agent_slots.specs.Sessions.{Session, AwaitsPage, session_of}
use Rattle.std.specs.declared.snapshot.Snapshot.{Snapshot}
use Rattle.atomic_table.specs.Seated.{TableId}
use Rattle.qrexec_data.specs.ServingSide.{ServingState}
use Rattle.task_duties.specs.declared.ends.UnusedEnd.{UnusedEnd}
use Rattle.agent_slots.specs.Slots.{Held, Called, Serves as ServedHere, SlotsState, IsEndOf}
use Rattle.agent_slots.specs.Stages.{Use, ForNothing, ForCall, ForServing, Frame, place_of, frame_of, use_of, end_of, IsStage, IsUnusedBy}
use Rattle.agent_slots.specs.Whole.{frames, held_in, IsUsedAt, IsWhole, state_of}
use Rattle.agent_slots.specs.declared.ends.Ends.{Ends}

-- ends that memory sufficed for are whole
pub whole_of : (e : Ends) (spent : Bool) (s : SlotsState) → state_of e spent ≡ s → s.spent ≡ false → (spent ≡ false → IsWhole e) → IsWhole e
whole_of e spent s is unspent whole = whole (ap (λ (x : SlotsState). x.spent) is ∙ unspent)

pub state_is : (e : Ends) (spent : Bool) (s : SlotsState) → state_of e spent ≡ s → s.spent ≡ false → state_of e false ≡ s
state_is e spent s is unspent = ap (state_of e) (sym (ap (λ (x : SlotsState). x.spent) is ∙ unspent)) ∙ is

-- a slot whose end is unused
pub record IsFree (slots : List Slot) (at : ℕ) (place : PagePlace) (slot : Slot) : Type 0 where
  pub here : slice_get slots at ≡ Some slot
  pub unused : use_of slot.stage ≡ ForNothing
  pub lies : place_of slot ≡ place

pub is_free : (slots : List Slot) (at : ℕ) (place : PagePlace) (slot : Slot) → IsUsedAt (frames slots) at place ForNothing → slot ≡ get_or slots at slot → IsFree slots at place slot
is_free slots at place slot used read =
    let back = get_map_back frame_of slots at (record { held = used.held; used = ForNothing; late = used.late }) used.is in
    let same : slot ≡ back.0 = read ∙ get_or_from_slice_get slots at back.0 slot back.1 in
    record {
      here = back.1 ∙ ap Some (sym same);
      unused = ap (λ s. use_of s.stage) same ∙ ap (λ (f : Frame). f.used) back.2;
      lies = ap place_of same ∙ (ap (λ (f : Frame). f.held.place) back.2 ∙ used.lies);
    }

-- an end that was found is one of the list
pub used_within : (slots : List Slot) (at : ℕ) (place : PagePlace) (used : Use) → IsUsedAt (frames slots) at place used → at < length slots
used_within slots at place used h =
    let end : Frame = record { held = h.held; used = used; late = h.late } in
    subst (λ n. at < n) (length-map slots frame_of) (slice_get_within (frames slots) at end h.is)

-- the end of a stage that is unused, and of one that awaits its page
pub unused_end : (role : Role) (stage : Stage) → IsUnusedBy role stage → (end : UnusedEnd) × (stage ≡ Unused end)
unused_end role (Unused end) h = (end, refl)
unused_end role (Calls number input side session) h = absurd h
unused_end role (Awaits number service serving side) h = absurd h
unused_end role (Serves number service side session) h = absurd h
unused_end role (CallIsOver number input done end) h = absurd h
unused_end role (ServingIsOver number service outcome got end) h = absurd h
unused_end role Taken h = absurd h

pub awaits_page : (stage : Stage) {P : Type 0} → session_of stage ≡ AwaitsPage → ((number : ℕ) (service : Snapshot Builtin) (serving : ServingState Builtin) (side : TableId) → stage ≡ Awaits number service serving side → P) → P
awaits_page (Awaits number service serving side) h go = go number service serving side refl
awaits_page (Unused end) h go = cc
awaits_page (Calls number input side session) h go = cc
awaits_page (Serves number service side session) h go = cc
awaits_page (CallIsOver number input done end) h go = cc
awaits_page (ServingIsOver number service outcome got end) h go = cc
awaits_page Taken h go = cc

-- an end that is put to use is used for something
pub call_used : (number : ℕ) (input : List ℕ) → ForCall number input ≡ ForNothing → ⊥
call_used number input e = cc

pub serving_used : (number : ℕ) (service : Builtin) → ForServing number service ≡ ForNothing → ⊥
serving_used number service e = cc

server_role : (domain f t p : ℕ) (role : Role) → f ≡ domain → IsEndOf domain (Payload f t p) role → role ≡ Server
server_role domain f t p Server same h = refl
server_role domain f t p Client same h = absurd (h.1 same)

client_role : (domain f t p : ℕ) (role : Role) → t ≡ domain → IsEndOf domain (Payload f t p) role → role ≡ Client
client_role domain f t p Server same h = absurd (h.1 same)
client_role domain f t p Client same h = refl

unused_by : (version : ℕ) (role : Role) (stage : Stage) → IsStage version stage → use_of stage ≡ ForNothing → (end_of stage).role ≡ role → IsUnusedBy role stage
unused_by version role (Unused end) h unused is = (h, is)
unused_by version role (Calls number input side session) h unused is = absurd (call_used number input.value.items unused)
unused_by version role (Awaits number service serving side) h unused is = absurd (serving_used number service.value unused)
unused_by version role (Serves number service side session) h unused is = absurd (serving_used number service.value unused)
unused_by version role (CallIsOver number input done end) h unused is = absurd (call_used number input.value.items unused)
unused_by version role (ServingIsOver number service outcome got end) h unused is = absurd (serving_used number service.value unused)
unused_by version role Taken h unused is = absurd h

pub from_is : (a b c f t p : ℕ) → Payload a b c ≡ Payload f t p → a ≡ f
from_is a b c f t p e = cc

pub to_is : (a b c f t p : ℕ) → Payload a b c ≡ Payload f t p → b ≡ t
to_is a b c f t p e = cc

pub port_is : (a b c f t p : ℕ) → Payload a b c ≡ Payload f t p → c ≡ p
port_is a b c f t p e = cc

-- it is a server's if the agent calls, and a client's if it is called
pub free_server : (domain version to port : ℕ) (slots : List Slot) (at : ℕ) (slot : Slot) → Each (λ s. IsStage version s.stage) slots → Each (λ h. IsEndOf domain h.place h.role) (held_in slots)
    → IsFree slots at (Payload domain to port) slot → IsUnusedBy Server slot.stage
free_server domain version to port slots at slot stages ends free =
    unused_by version Server slot.stage (each_get (λ s. IsStage version s.stage) slots at slot stages free.here) free.unused
    (server_role domain slot.from slot.to slot.port (end_of slot.stage).role (from_is slot.from slot.to slot.port domain to port free.lies)
    (each_get (λ h. IsEndOf domain h.place h.role) (held_in slots) at (frame_of slot).held ends (get_map (λ s. (frame_of s).held) slots at slot free.here)))

pub free_client : (domain version from port : ℕ) (slots : List Slot) (at : ℕ) (slot : Slot) → Each (λ s. IsStage version s.stage) slots → Each (λ h. IsEndOf domain h.place h.role) (held_in slots)
    → IsFree slots at (Payload from domain port) slot → IsUnusedBy Client slot.stage
free_client domain version from port slots at slot stages ends free =
    unused_by version Client slot.stage (each_get (λ s. IsStage version s.stage) slots at slot stages free.here) free.unused
    (client_role domain slot.from slot.to slot.port (end_of slot.stage).role (to_is slot.from slot.to slot.port from domain port free.lies)
    (each_get (λ h. IsEndOf domain h.place h.role) (held_in slots) at (frame_of slot).held ends (get_map (λ s. (frame_of s).held) slots at slot free.here)))

-- two states are the same if their lists are
pub same_state : (domain version : ℕ) (held held' : List Held) (unused unused' late late' : List PagePlace) (called called' : List (Option Called)) (served served' : List ServedHere) (opened opened' : List SessionEnd) (are are' : List Session) (spent : Bool)
    → held ≡ held' → unused ≡ unused' → late ≡ late' → called ≡ called' → served ≡ served' → opened ≡ opened' → are ≡ are'
    → ◌≡◌ {A = SlotsState} (record { domain = domain; version = version; held = held; unused = unused; late = late; called = called; served = served; opened = opened; sessions = are; spent = spent })
    (record { domain = domain; version = version; held = held'; unused = unused'; late = late'; called = called'; served = served'; opened = opened'; sessions = are'; spent = spent })
same_state domain version held held' unused unused' late late' called called' served served' opened opened' are are' spent a b l c d o r =
    λ i. record { domain = domain; version = version; held = a i; unused = b i; late = l i; called = c i; served = d i; opened = o i; sessions = r i; spent = spent }
