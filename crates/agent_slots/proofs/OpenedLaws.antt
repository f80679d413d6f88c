-- The open sessions as contracts see them, and how many of them are on pages that are laid when they are first used.
use Rattle.std.proofs.Common.{◌≡◌, ◌≢◌, ℕ, ◌+◌, ◌<◌, ◌≤◌, zero, suc, List, [], ◌∷◌, ◌++◌, length, get_or, set, take, refl, ap, sym, ◌∙◌, arith, Option, Some, None, subst}
use Rattle.std.specs.Prelude.{true, false, Bool, ◌==◌, count_by, slice_get, unwrap_or, IsPermutation, if◌then◌else◌}
use Rattle.std.specs.List.{swap_remove}
use Rattle.std.proofs.lemmas.List.{map-append}
use Rattle.std.proofs.lemmas.List.Elements.{filter_map-append}
use Rattle.std.proofs.lemmas.List.Sums.{sum_by-cons, count_by_more_yes, count_by_more_no}
use Rattle.std.proofs.lemmas.List.Sorted.{IsPermutation-map, IsPermutation-sym, IsPermutation-swap_remove}
use Rattle.list_laws.proofs.Places.{get_set_same, get_set_other, get_map, get_map_back}
use Rattle.list_laws.proofs.Each.{each_get}
use Rattle.task_duties.specs.declared.place.PagePlace.{PagePlace}
use Rattle.task_duties.specs.declared.place.PagePlace.TheVariants.{Payload}
use Rattle.task_duties.specs.declared.done.SessionEnd.{SessionEnd}
use Rattle.task_duties.specs.Places.{is_place, has_place}
use Rattle.task_duties.proofs.Places.{same_self}
use Rattle.agent_slots.specs.declared.slot.Slot.{Slot}
use Rattle.agent_slots.specs.declared.stage.Stage.{Stage}
use Rattle.agent_slots.specs.declared.stage.Stage.TheVariants.{Unused, Calls, Awaits, Serves, CallIsOver, ServingIsOver, Taken}
use Rattle.agent_slots.specs.declared.note.CallNote.{CallNote}
use Rattle.agent_slots.specs.declared.note.ServedNote.{ServedNote}
use Rattle.agent_slots.specs.declared.ends.Ends.{Ends}
use Rattle.agent_slots.specs.Slots.{place_at, late_count}
use Rattle.agent_slots.specs.Stages.{Use, ForNothing, ForCall, ForServing, Frame, frame_of, use_of, told_of, is_session, is_late}
use Rattle.agent_slots.specs.Whole.{frames, sessions, late_in, told_by, session_at, opened_in, late_by, is_late_at, times, AreOpen, IsNoted, IsWhole, state_of}
use Rattle.agent_slots.proofs.OpenLaws.{other_number, open_at}
use Rattle.agent_slots.proofs.WholeLaws.{places_apart}
use Rattle.agent_slots.proofs.TurnLaws.{busy_within, busy_slot}

-- an end whose number isn't listed changes none of them
opened_set : (fs : List Frame) (numbers : List ℕ) (at : ℕ) (f : Frame) → times at numbers ≡ 0 → opened_in (set fs at f) numbers ≡ opened_in fs numbers
opened_set fs [] at f none = refl
opened_set fs (n ∷ numbers) at f none = by_test (n == at) refl (opened_set fs numbers at f)
  where
    parts : times at (n ∷ numbers) ≡ (if n == at then 1 else 0) + times at numbers
    parts = sum_by-cons (λ m. if m == at then 1 else 0) n numbers

    by_test : (b : Bool) → (n == at) ≡ b → (times at numbers ≡ 0 → opened_in (set fs at f) numbers ≡ opened_in fs numbers) → opened_in (set fs at f) (n ∷ numbers) ≡ opened_in fs (n ∷ numbers)
    by_test true is more = absurd (let e : ◌≡◌ {A = ℕ} (if n == at then 1 else 0) 1 = ap (λ (b : Bool). if b then 1 else 0) is in omega (arith, parts, none, e))
    by_test false is more =
        let e : ◌≡◌ {A = ℕ} (if n == at then 1 else 0) 0 = ap (λ (b : Bool). if b then 1 else 0) is in
        let same : session_at (set fs at f) n ≡ session_at fs n = ap (λ (o : Option Frame). unwrap_or (told_by o) (record { domain = 0; port = 0; call = None })) (get_set_other fs at n f (λ k. other_number n at is (sym k))) in
        ap (λ s. s ∷ opened_in (set fs at f) numbers) same ∙ ap (λ l. session_at fs n ∷ l) (more (omega (arith, parts, none, e)))

pub session_here : (fs : List Frame) (at : ℕ) (f : Frame) (told : SessionEnd) → slice_get fs at ≡ Some f → told_of f.held.place f.used ≡ Some told → session_at fs at ≡ told
session_here fs at f told here is =
    ap (λ (o : Option Frame). unwrap_or (told_by o) (record { domain = 0; port = 0; call = None })) here ∙ ap (λ (o : Option SessionEnd). unwrap_or o (record { domain = 0; port = 0; call = None })) is

-- a session begins
pub opened_more : (fs : List Frame) (are : List Bool) (numbers : List ℕ) (at : ℕ) (f f' : Frame) (told : SessionEnd) → AreOpen are numbers → slice_get are at ≡ Some false → slice_get fs at ≡ Some f
    → told_of f'.held.place f'.used ≡ Some told → opened_in (set fs at f') (numbers ++ at ∷ []) ≡ opened_in fs numbers ++ told ∷ []
opened_more fs are numbers at f f' told are_open shut here is =
    let none : times at numbers ≡ 0 = are_open at ∙ ap (λ (o : Option Bool). if unwrap_or o false then 1 else 0) shut in
    map-append (session_at (set fs at f')) numbers (at ∷ [])
    ∙ (ap (λ l. l ++ session_at (set fs at f') at ∷ []) (opened_set fs numbers at f' none)
    ∙ ap (λ s. opened_in fs numbers ++ s ∷ []) (session_here (set fs at f') at f' told (get_set_same fs at f f' here) is))

-- a session is over
pub opened_less : (fs : List Frame) (numbers : List ℕ) (next at : ℕ) (f : Frame) (told : SessionEnd) → next < length numbers → at ≡ get_or numbers next at → slice_get fs at ≡ Some f
    → told_of f.held.place f.used ≡ Some told → IsPermutation (told ∷ opened_in fs (swap_remove numbers next at)) (opened_in fs numbers)
opened_less fs numbers next at f told less read here is =
    let moved = IsPermutation-map (session_at fs) numbers (at ∷ swap_remove numbers next at) (IsPermutation-swap_remove numbers next at less read) in
    subst (λ s. IsPermutation (s ∷ opened_in fs (swap_remove numbers next at)) (opened_in fs numbers)) (session_here fs at f told here is) (IsPermutation-sym (opened_in fs numbers) (opened_in fs (at ∷ swap_remove numbers next at)) moved)

-- ---- pages that are laid when they are first used

-- an end that is put to use changes no other
pub late_set : (fs : List Frame) (at : ℕ) (f : Frame) (used : Use) → slice_get fs at ≡ Some f → late_in (set fs at (record f { used = used })) ≡ late_in fs
late_set [] at f used here = cc
late_set (g ∷ fs) zero f used here =
    let first : g ≡ f = cc in
    let here' : late_in (record f { used = used } ∷ fs) ≡ late_in (f ∷ fs) = refl in
    here' ∙ ap (λ (x : Frame). late_in (x ∷ fs)) (sym first)
late_set (g ∷ fs) (suc at) f used here =
    let split : (xs : List Frame) → late_in (g ∷ xs) ≡ late_in (g ∷ []) ++ late_in xs = λ xs. filter_map-append (λ (x : Frame). if x.late then Some x.held.place else None) (g ∷ []) xs in
    split (set fs at (record f { used = used })) ∙ (ap (λ l. late_in (g ∷ []) ++ l) (late_set fs at f used here) ∙ sym (split fs))

late_none : (p : PagePlace) (fs : List Frame) → ((j : ℕ) (g : Frame) → slice_get fs j ≡ Some g → is_place p g.held.place ≡ false) → has_place p (late_in fs) ≡ false
late_none p [] apart = refl
late_none p (g ∷ fs) apart = by_late g.late refl (late_none p fs (λ j. apart (suc j)))
  where
    by_late : (b : Bool) → g.late ≡ b → has_place p (late_in fs) ≡ false → has_place p (late_in (g ∷ fs)) ≡ false
    by_late true is more = let a = apart 0 g refl in rw (is, a) more
    by_late false is more = rw is more

-- the place of an end is among them if its page is laid late
late_there : (fs : List Frame) (i : ℕ) (f : Frame) → slice_get fs i ≡ Some f → ((j : ℕ) (g : Frame) → slice_get fs j ≡ Some g → j ≢ i → is_place f.held.place g.held.place ≡ false)
    → has_place f.held.place (late_in fs) ≡ f.late
late_there [] i f here apart = cc
late_there (g ∷ fs) zero f here apart = subst (λ (x : Frame). has_place x.held.place (late_in (g ∷ fs)) ≡ x.late) first (by_late g.late refl)
  where
    first : g ≡ f
    first = cc

    others : (j : ℕ) (h : Frame) → slice_get fs j ≡ Some h → is_place g.held.place h.held.place ≡ false
    others j h is = subst (λ (x : Frame). is_place x.held.place h.held.place ≡ false) (sym first) (apart (suc j) h is (λ e. bad j e))
      where
        bad : (j : ℕ) → suc j ≡ 0 → ⊥
        bad j e = cc

    by_late : (b : Bool) → g.late ≡ b → has_place g.held.place (late_in (g ∷ fs)) ≡ g.late
    by_late true is = rw (is, same_self g.held.place) refl
    by_late false is = rw is (late_none g.held.place fs others)
late_there (g ∷ fs) (suc i) f here apart = by_late g.late refl (late_there fs i f here (λ j h is ne. apart (suc j) h is (λ e. ne (pred j i e))))
  where
    pred : (j i : ℕ) → suc j ≡ suc i → j ≡ i
    pred j i e = cc

    bad : (i : ℕ) → 0 ≡ suc i → ⊥
    bad i e = cc

    by_late : (b : Bool) → g.late ≡ b → has_place f.held.place (late_in fs) ≡ f.late → has_place f.held.place (late_in (g ∷ fs)) ≡ f.late
    by_late true is more = let a = apart 0 g refl (λ e. bad i e) in rw (is, a) more
    by_late false is more = rw is more

-- an open session is reported
pub session_told : (f t p : ℕ) (stage : Stage) → is_session stage ≡ true → (told : SessionEnd) × (told_of (Payload f t p) (use_of stage) ≡ Some told)
session_told f t p (Unused end) is = cc
session_told f t p (Calls number input side session) is = (record { domain = t; port = p; call = Some number }, refl)
session_told f t p (Awaits number service serving side) is = (record { domain = f; port = p; call = None }, refl)
session_told f t p (Serves number service side session) is = (record { domain = f; port = p; call = None }, refl)
session_told f t p (CallIsOver number input done end) is = cc
session_told f t p (ServingIsOver number service outcome got end) is = cc
session_told f t p Taken is = cc

-- and lies where it is reported to lie
pub told_place : (domain : ℕ) (calls : List (Option CallNote)) (served : List ServedNote) (f t p : ℕ) (used : Use) (told : SessionEnd) → IsNoted domain calls served (Payload f t p) used → told_of (Payload f t p) used ≡ Some told
    → place_at domain told.call told.domain told.port ≡ Payload f t p
told_place domain calls served f t p ForNothing told noted is = cc
told_place domain calls served f t p (ForCall number input) told noted is =
    let it : SessionEnd = record { domain = t; port = p; call = Some number } in
    let same : it ≡ told = cc in
    let n = noted.0 in
    let from_is : Payload f t p ≡ Payload domain n.to n.port = noted.2 in
    let own : f ≡ domain = cc in
    subst (λ (x : SessionEnd). place_at domain x.call x.domain x.port ≡ Payload f t p) same (ap (λ (d : ℕ). Payload d t p) (sym own))
told_place domain calls served f t p (ForServing number service) told noted is =
    let it : SessionEnd = record { domain = f; port = p; call = None } in
    let same : it ≡ told = cc in
    let n = noted.0 in
    let to_is : Payload f t p ≡ Payload n.from domain n.port = noted.2 in
    let own : t ≡ domain = cc in
    subst (λ (x : SessionEnd). place_at domain x.call x.domain x.port ≡ Payload f t p) same (ap (λ (d : ℕ). Payload f d p) (sym own))

-- an element is the same, whatever is read where there is none
pub read_any : (xs : List ℕ) (k : ℕ) → k < length xs → get_or xs k 0 ≡ get_or xs k (get_or xs k 0)
read_any [] k less = absurd (omega (arith, less))
read_any (x ∷ xs) zero less = refl
read_any (x ∷ xs) (suc k) less = read_any xs k (omega (arith, less))

-- how many of the open sessions are on such pages
pub late_counted : (e : Ends) → IsWhole e → count_by (is_late_at (frames e.slots.items)) e.busy.items ≡ late_count (state_of e false)
late_counted e whole = each e.busy.items (λ k less. open_at (sessions slots) e.busy.items k (get_or e.busy.items k 0) whole.are_open less (read_any e.busy.items k less))
  where
    slots : List Slot
    slots = e.slots.items

    fs : List Frame
    fs = frames slots

    is_on_late : SessionEnd → Bool
    is_on_late o = has_place (place_at e.domain o.call o.domain o.port) (late_in fs)

    one : (n : ℕ) → slice_get (sessions slots) n ≡ Some true → is_late_at fs n ≡ is_on_late (session_at fs n)
    one n is =
        let back = get_map_back (λ (s : Slot). is_session s.stage) slots n true is in
        let slot = back.0 in
        let here : slice_get fs n ≡ Some (frame_of slot) = get_map frame_of slots n slot back.1 in
        let told = session_told slot.from slot.to slot.port slot.stage back.2 in
        let noted = each_get (λ f. IsNoted e.domain e.calls.items e.served.items f.held.place f.used) fs n (frame_of slot) whole.noted here in
        let lies = told_place e.domain e.calls.items e.served.items slot.from slot.to slot.port (use_of slot.stage) told.0 noted told.1 in
        ap late_by here
        ∙ (sym (late_there fs n (frame_of slot) here (places_apart slots e.index n slot whole.indexed back.1))
        ∙ (ap (λ (q : PagePlace). has_place q (late_in fs)) (sym lies) ∙ ap is_on_late (sym (session_here fs n (frame_of slot) told.0 here told.1))))

    each : (numbers : List ℕ) → ((k : ℕ) → k < length numbers → slice_get (sessions slots) (get_or numbers k 0) ≡ Some true) → count_by (is_late_at fs) numbers ≡ count_by is_on_late (opened_in fs numbers)
    each [] h = refl
    each (n ∷ numbers) h =
        let same = one n (h 0 (omega arith)) in
        let more = each numbers (λ k less. h (suc k) (omega (arith, less))) in
        sum_by-cons (λ m. if is_late_at fs m then 1 else 0) n numbers
        ∙ (ap (λ (b : Bool). (if b then 1 else 0) + count_by (is_late_at fs) numbers) same ∙ (ap (λ c. (if is_on_late (session_at fs n) then 1 else 0) + c) more
        ∙ sym (sum_by-cons (λ o. if is_on_late o then 1 else 0) (session_at fs n) (opened_in fs numbers))))

-- ---- one after another

pub late_read : (slots : List Slot) (busy d : List ℕ) (k : ℕ) → AreOpen (sessions slots) busy → d ≡ busy → k < length d → get_or d k 0 < length slots
late_read slots busy d k h same less =
    let here : k < length busy = subst (λ (l : List ℕ). k < length l) same less in
    subst (λ (n : ℕ). n < length slots) (ap (λ (l : List ℕ). get_or l k 0) (sym same)) (busy_within slots busy k (get_or busy k 0) h here (read_any busy k here))

pub late_step : (slots : List Slot) (busy d : List ℕ) (k : ℕ) (slot : Slot) (count : ℕ) (b : Bool) → AreOpen (sessions slots) busy → d ≡ busy → k < length d → slot ≡ get_or slots (get_or d k 0) slot
    → (is_session slot.stage ≡ true → b ≡ is_late slot.stage) → count ≡ count_by (is_late_at (frames slots)) (take k busy)
    → (b ≡ true → count + 1 ≡ count_by (is_late_at (frames slots)) (take (k + 1) busy)) × (b ≡ false → count ≡ count_by (is_late_at (frames slots)) (take (k + 1) busy))
late_step slots busy d k slot count b h same less read late so_far =
    let here : k < length busy = subst (λ (l : List ℕ). k < length l) same less in
    let at_busy : slot ≡ get_or slots (get_or busy k 0) slot = read ∙ ap (λ (l : List ℕ). get_or slots (get_or l k 0) slot) same in
    let is = busy_slot slots busy k (get_or busy k 0) slot h here (read_any busy k here) at_busy in
    let is_b : is_late_at (frames slots) (get_or busy k 0) ≡ b = ap late_by (get_map frame_of slots (get_or busy k 0) slot is.here) ∙ sym (late is.session) in (
      λ yes. ap (λ n. n + 1) so_far ∙ sym (count_by_more_yes (is_late_at (frames slots)) busy k 0 here (is_b ∙ yes)),
      λ no. so_far ∙ sym (count_by_more_no (is_late_at (frames slots)) busy k 0 here (is_b ∙ no)),
    )

pub take_past : (xs : List ℕ) (k : ℕ) → length xs ≤ k → take k xs ≡ xs
take_past [] zero past = refl
take_past [] (suc k) past = refl
take_past (x ∷ xs) zero past = absurd (omega (arith, past))
take_past (x ∷ xs) (suc k) past = ap (λ l. x ∷ l) (take_past xs k (omega (arith, past)))
