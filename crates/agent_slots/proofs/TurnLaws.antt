-- All ends through a turn of one session.
use Rattle.std.proofs.Common.{◌≡◌, ℕ, ◌<◌, List, [], ◌∷◌, ◌++◌, length, map, set, get_or, refl, ap, sym, ◌∙◌, append_assoc, subst, Option, Some, None}
use Rattle.std.specs.Prelude.{Bool, true, false, slice_get, option_map, IsPermutation, Result, Ok, Err, OnOk, is_err}
use Rattle.std.proofs.lemmas.Bool.{false≢true}
use Rattle.std.specs.List.{swap_remove, AllByRecursion as Each}
use Rattle.std.proofs.lemmas.List.{append-nil, map-set, length-map}
use Rattle.std.proofs.lemmas.List.Sorted.{IsPermutation-refl, IsPermutation-trans, IsPermutation-append_right}
use Rattle.std.proofs.lemmas.Option.{slice_get_within, get_or_from_slice_get}
use Rattle.list_laws.specs.Lists.{SomeOf}
use Rattle.list_laws.proofs.Places.{get_map, get_map_back, map_set_same, set_same}
use Rattle.list_laws.proofs.Each.{each_get, each_set, some_get}
use Rattle.task_duties.specs.declared.place.PagePlace.{PagePlace}
use Rattle.task_duties.specs.declared.place.PagePlace.TheVariants.{Control, Payload}
use Rattle.task_duties.specs.declared.done.SessionEnd.{SessionEnd}
use Rattle.agent_slots.specs.declared.slot.Slot.{Slot}
use Rattle.agent_slots.specs.declared.stage.Stage.{Stage}
use Rattle.agent_slots.specs.declared.stage.Stage.TheVariants.{Unused, Calls, Awaits, Serves, CallIsOver, ServingIsOver, Taken}
use Rattle.agent_slots.specs.declared.note.CallNote.{CallNote}
use Rattle.agent_slots.specs.declared.note.ServedNote.{ServedNote}
use Rattle.agent_slots.specs.declared.ends.Ends.{Ends}
use Rattle.agent_slots.specs.Slots.{SlotsState, IsEndOf}
use Rattle.agent_slots.specs.Done.{IsToldOver, IsBegun, TellsMore}
use Rattle.agent_slots.specs.Stages.{Use, ForNothing, ForCall, ForServing, Frame, place_of, frame_of, use_of, is_session, told_of, IsStage, CanTurn, CanRetire}
use Rattle.agent_slots.specs.Index.{PlaceIndex, IsIndexOf}
use Rattle.agent_slots.specs.Whole.{frames, held_in, sessions, called_of, serves_of, AreOpen, HaveEnds, IsNoted, AreWhole, IsWhole, state_of, IsTurned, HasSameEnds}
use Rattle.agent_slots.proofs.OpenLaws.{open_at, open_less}
use Rattle.agent_slots.proofs.WholeLaws.{held_set, places_set}
use Rattle.agent_slots.proofs.BeginLaws.{state_is, from_is, to_is, port_is}

-- a slot whose session is open, by its place among the open ones
pub record IsBusy (slots : List Slot) (at : ℕ) (slot : Slot) : Type 0 where
  pub here : slice_get slots at ≡ Some slot
  pub session : is_session slot.stage ≡ true

pub busy_within : (slots : List Slot) (busy : List ℕ) (next at : ℕ) → AreOpen (sessions slots) busy → next < length busy → at ≡ get_or busy next at → at < length slots
busy_within slots busy next at h less read =
    subst (λ n. at < n) (length-map slots (λ (s : Slot). is_session s.stage)) (slice_get_within (sessions slots) at true (open_at (sessions slots) busy next at h less read))

pub busy_slot : (slots : List Slot) (busy : List ℕ) (next at : ℕ) (slot : Slot) → AreOpen (sessions slots) busy → next < length busy → at ≡ get_or busy next at → slot ≡ get_or slots at slot → IsBusy slots at slot
busy_slot slots busy next at slot h less read item =
    let back = get_map_back (λ (s : Slot). is_session s.stage) slots at true (open_at (sessions slots) busy next at h less read) in
    let same : slot ≡ back.0 = item ∙ get_or_from_slice_get slots at back.0 slot back.1 in
    record { here = back.1 ∙ ap Some (sym same); session = ap (λ s. is_session s.stage) same ∙ back.2 }

pub can_turn : (version : ℕ) (stage : Stage) → IsStage version stage → is_session stage ≡ true → CanTurn stage
can_turn version (Unused end) h is = absurd (false≢true is)
can_turn version (Calls number input side session) h is = h.0
can_turn version (Awaits number service serving side) h is = h.0
can_turn version (Serves number service side session) h is = h.0
can_turn version (CallIsOver number input done end) h is = absurd (false≢true is)
can_turn version (ServingIsOver number service outcome got end) h is = absurd (false≢true is)
can_turn version Taken h is = absurd h

-- a slot that still has its use
turns : (domain version : ℕ) (slots : List Slot) (index : PlaceIndex) (busy busy' : List ℕ) (calls : List (Option CallNote)) (served : List ServedNote) (at : ℕ) (slot slot' : Slot)
    → AreWhole domain version slots index busy calls served → slice_get slots at ≡ Some slot → frame_of slot' ≡ frame_of slot → IsStage version slot'.stage
    → AreOpen (set (sessions slots) at (is_session slot'.stage)) busy' → AreWhole domain version (set slots at slot') index busy' calls served
turns domain version slots index busy busy' calls served at slot slot' whole here same stage now_open =
    let held = ap (λ (f : Frame). f.held) same in
    let fs = map_set_same frame_of slots at slot slot' here same in
    record {
      version_is = whole.version_is;
      stages = each_set (λ s. IsStage version s.stage) slots at slot' whole.stages stage;
      of_domain = subst (λ hs. Each (λ h. IsEndOf domain h.place h.role) hs) (sym (held_set slots at slot slot' here held)) whole.of_domain;
      indexed = subst (λ ps. IsIndexOf ps index) (sym (places_set slots at slot slot' here held)) whole.indexed;
      are_open = subst (λ bs. AreOpen bs busy') (sym (map-set (λ (s : Slot). is_session s.stage) slots at slot')) now_open;
      have_ends = subst (λ gs. HaveEnds domain gs calls served) (sym fs) whole.have_ends;
      noted = subst (λ gs. Each (λ f. IsNoted domain calls served f.held.place f.used) gs) (sym fs) whole.noted;
    }

pub turns_on : (domain version : ℕ) (slots : List Slot) (index : PlaceIndex) (busy : List ℕ) (calls : List (Option CallNote)) (served : List ServedNote) (at : ℕ) (slot slot' : Slot)
    → AreWhole domain version slots index busy calls served → IsBusy slots at slot → frame_of slot' ≡ frame_of slot → IsStage version slot'.stage → is_session slot'.stage ≡ true
    → AreWhole domain version (set slots at slot') index busy calls served
turns_on domain version slots index busy calls served at slot slot' whole is same stage session =
    let was : slice_get (sessions slots) at ≡ Some true = get_map (λ (s : Slot). is_session s.stage) slots at slot is.here ∙ ap Some is.session in
    let unchanged = ap (set (sessions slots) at) session ∙ set_same (sessions slots) at true was in
    turns domain version slots index busy busy calls served at slot slot' whole is.here same stage (subst (λ bs. AreOpen bs busy) (sym unchanged) whole.are_open)

pub turns_over : (domain version : ℕ) (slots : List Slot) (index : PlaceIndex) (busy : List ℕ) (next : ℕ) (calls : List (Option CallNote)) (served : List ServedNote) (at : ℕ) (slot slot' : Slot)
    → AreWhole domain version slots index busy calls served → IsBusy slots at slot → next < length busy → at ≡ get_or busy next at → frame_of slot' ≡ frame_of slot → IsStage version slot'.stage
    → is_session slot'.stage ≡ false → AreWhole domain version (set slots at slot') index (swap_remove busy next at) calls served
turns_over domain version slots index busy next calls served at slot slot' whole is less read same stage session =
    let was : slice_get (sessions slots) at ≡ Some true = get_map (λ (s : Slot). is_session s.stage) slots at slot is.here ∙ ap Some is.session in
    turns domain version slots index busy (swap_remove busy next at) calls served at slot slot' whole is.here same stage
    (subst (λ b. AreOpen (set (sessions slots) at b) (swap_remove busy next at)) (sym session) (open_less (sessions slots) busy next at whole.are_open less read was))

-- ---- what is reported

begun : (e : Ends) (place : PagePlace) (used : Use) (told : SessionEnd) → IsNoted e.domain e.calls.items e.served.items place used → told_of place used ≡ Some told → IsToldOver (state_of e false) told
begun e (Payload from to port) (ForCall number input) told noted tells =
    let n = noted.0 in
    let there : to ≡ n.to = to_is from to port e.domain n.to n.port noted.2 in
    let at : port ≡ n.port = port_is from to port e.domain n.to n.port noted.2 in
    let it : SessionEnd = record { domain = to; port = port; call = Some number } in
    let same : it ≡ told = cc in
    subst (λ t. IsToldOver (state_of e false) t) same (called_of n, get_map (option_map called_of) e.calls.items number (Some n) noted.1, sym there, sym at)
begun e (Payload from to port) (ForServing number service) told noted tells =
    let n = noted.0 in
    let here : n.from ≡ from = sym (from_is from to port n.from e.domain n.port noted.2) in
    let at : n.port ≡ port = sym (port_is from to port n.from e.domain n.port noted.2) in
    let it : SessionEnd = record { domain = from; port = port; call = None } in
    let same : it ≡ told = cc in
    subst (λ t. IsToldOver (state_of e false) t) same
    (some_get (λ x. (x.from ≡ from) × (x.port ≡ port)) (map serves_of e.served.items) number (serves_of n) (get_map serves_of e.served.items number n noted.1) (here, at))
begun e place ForNothing told noted tells = absurd (never place tells)
  where
    never : (p : PagePlace) → told_of p ForNothing ≡ Some told → ⊥
    never (Payload f t q) h = cc
    never (Control d) h = cc
begun e (Control d) (ForCall number input) told noted tells = cc
begun e (Control d) (ForServing number service) told noted tells = cc

pub tells_begun : (e : Ends) (at : ℕ) (slot : Slot) (told : SessionEnd) → IsWhole e → slice_get e.slots.items at ≡ Some slot → told_of (place_of slot) (use_of slot.stage) ≡ Some told → IsToldOver (state_of e false) told
tells_begun e at slot told whole here tells =
    begun e (place_of slot) (use_of slot.stage) told
    (each_get (λ f. IsNoted e.domain e.calls.items e.served.items f.held.place f.used) (frames e.slots.items) at (frame_of slot) whole.noted (get_map frame_of e.slots.items at slot here)) tells

-- ---- one turn after another

pub tells_none : (s : SlotsState) (opened before : List SessionEnd) → opened ≡ s.opened → TellsMore s (record s { opened = opened }) before before
tells_none s opened before same = ([], sym (append-nil before), subst (λ l. IsPermutation l s.opened) (sym same) (IsPermutation-refl s.opened), tt)

tells_after : (s s' s'' : SlotsState) (before mid now : List SessionEnd) → s'.called ≡ s.called → s'.served ≡ s.served → TellsMore s s' before mid → TellsMore s' s'' mid now → TellsMore s s'' before now
tells_after s s' s'' before mid now called served one two = (
  one.0 ++ two.0,
  two.1 ∙ (ap (λ l. l ++ two.0) one.1 ∙ append_assoc before one.0 two.0),
  subst (λ l. IsPermutation l s.opened) (sym (append_assoc one.0 two.0 s''.opened))
      (IsPermutation-trans (one.0 ++ (two.0 ++ s''.opened)) (one.0 ++ s'.opened) s.opened (IsPermutation-append_right one.0 (two.0 ++ s''.opened) s'.opened two.2) one.2),
  each_both one.0 one.3 (each_same two.0 two.3),
)
  where
    each_both : (xs : List SessionEnd) → Each (IsToldOver s) xs → Each (IsToldOver s) two.0 → Each (IsToldOver s) (xs ++ two.0)
    each_both [] a b = b
    each_both (x ∷ xs) a b = (a.0, each_both xs a.1 b)

    begun_same : (number : Option ℕ) (domain port : ℕ) → IsBegun s' number domain port → IsBegun s number domain port
    begun_same (Some n) domain port h = (h.0, ap (λ cs. slice_get cs n) (sym called) ∙ h.1, h.2, h.3)
    begun_same None domain port h = subst (λ xs. SomeOf (λ x. (x.from ≡ domain) × (x.port ≡ port)) xs) served h

    each_same : (xs : List SessionEnd) → Each (IsToldOver s') xs → Each (IsToldOver s) xs
    each_same [] a = tt
    each_same (x ∷ xs) a = (begun_same x.call x.domain x.port a.0, each_same xs a.1)

-- what a loop of turns keeps
pub record IsTurning (old new : Ends) (before now : List SessionEnd) : Type 0 where
  pub turned : IsTurned old new before now
  pub same : HasSameEnds old new
  pub retire : Each (λ s. CanRetire s.stage) new.slots.items

-- if no session is over
pub turned_not : (e : Ends) (over : List SessionEnd) → IsWhole e → IsTurned e e over over
turned_not e over whole = record { whole = whole; state = refl; told = tells_none (state_of e false) (state_of e false).opened over refl }

pub turned_after : (a b c : Ends) (before mid now : List SessionEnd) → IsTurned a b before mid → IsTurned b c mid now → IsTurned a c before now
turned_after a b c before mid now one two = record {
  whole = two.whole;
  state = two.state ∙ ap (λ (s : SlotsState). record s { opened = (state_of c false).opened; sessions = (state_of c false).sessions }) one.state;
  told = tells_after (state_of a false) (state_of b false) (state_of c false) before mid now (ap (λ (s : SlotsState). s.called) one.state) (ap (λ (s : SlotsState). s.served) one.state) one.told two.told;
}

pub turning_on : (a b c : Ends) (before mid now : List SessionEnd) → IsTurning a b before mid → IsTurned b c mid now → HasSameEnds b c → Each (λ s. CanRetire s.stage) c.slots.items → IsTurning a c before now
turning_on a b c before mid now h turned same retire = record {
  turned = turned_after a b c before mid now h.turned turned;
  same = (same.0 ∙ h.same.0, same.1 ∙ h.same.1, same.2 ∙ h.same.2);
  retire = retire;
}

-- ---- a turn of all, as contracts see it

pub same_many : (slots slots' : List Slot) → held_in slots' ≡ held_in slots → length slots' ≡ length slots
same_many slots slots' same = sym (length-map slots' (λ (s : Slot). (frame_of s).held)) ∙ (ap length same ∙ length-map slots (λ (s : Slot). (frame_of s).held))

-- ends that a turn didn't spend are whole
pub whole_unspent : (old new : Ends) (before now : List SessionEnd) {T E : Type 0} (r : Result T E) (spent : Bool) → spent ≡ is_err r → OnOk r (IsTurned old new before now) → spent ≡ false → IsWhole new
whole_unspent old new before now (Ok x) spent is turned unspent = turned.whole
whole_unspent old new before now (Err x) spent is turned unspent = absurd (false≢true (sym unspent ∙ is))

pub seen_turned : (old new : Ends) (before now : List SessionEnd) {T E : Type 0} (r : Result T E) (was spent : Bool) (s : SlotsState) → spent ≡ is_err r → state_of old was ≡ s → s.spent ≡ false → OnOk r (IsTurned old new before now)
    → OnOk r ((state_of new spent ≡ record s { opened = (state_of new spent).opened; sessions = (state_of new spent).sessions }) × TellsMore s (state_of new spent) before now)
seen_turned old new before now (Err x) was spent s is seen unspent turned = tt
seen_turned old new before now (Ok x) was spent s is seen unspent turned =
    let from = state_is old was s seen unspent in
    let to = ap (state_of new) (sym is) in (
      sym to ∙ (turned.state ∙ ap (λ (x : SlotsState). record x { opened = (state_of new false).opened; sessions = (state_of new false).sessions }) from),
      subst (λ (x : SlotsState). TellsMore s x before now) to (subst (λ (x : SlotsState). TellsMore x (state_of new false) before now) from turned.told),
    )
