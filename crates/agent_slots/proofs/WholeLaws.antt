-- What stays of all ends when one of them is put to use.
use Rattle.std.proofs.Common.{◌≡◌, ◌≢◌, ℕ, zero, suc, List, [], ◌∷◌, ◌++◌, length, set, refl, ap, sym, ◌∙◌, ◌⊎◌, inl, inr, Option, Some, None, subst}
use Rattle.std.specs.Prelude.{true, false, Bool, ◌==◌, slice_get}
use Rattle.std.proofs.lemmas.List.{map-set}
use Rattle.std.specs.List.{AllByRecursion as Each}
use Rattle.list_laws.proofs.Places.{get_set_same, get_set_other, get_map, get_map_back, map_set_same, get_push, get_push_before, get_push_last}
use Rattle.list_laws.proofs.Each.{each_set, each_weaker}
use Rattle.list_laws.proofs.Tests.{same_number}
use Rattle.task_duties.specs.declared.place.PagePlace.{PagePlace}
use Rattle.task_duties.specs.declared.place.PagePlace.TheVariants.{Payload}
use Rattle.task_duties.specs.Places.{is_place, without}
use Rattle.task_duties.proofs.ServedLaw.{same_place}
use Rattle.task_duties.proofs.Places.{same_self}
use Rattle.agent_slots.specs.declared.slot.Slot.{Slot}
use Rattle.agent_slots.specs.declared.stage.Stage.{Stage}
use Rattle.agent_slots.specs.declared.stage.Stage.TheVariants.{Unused, Calls, Awaits, Serves, CallIsOver, ServingIsOver, Taken}
use Rattle.agent_slots.specs.declared.note.CallNote.{CallNote}
use Rattle.agent_slots.specs.declared.note.ServedNote.{ServedNote}
use Rattle.agent_slots.specs.Slots.{IsEndOf}
use Rattle.agent_slots.specs.Stages.{Use, ForNothing, ForCall, ForServing, Frame, place_of, frame_of, use_of, is_session, IsStage}
use Rattle.agent_slots.specs.Index.{PlaceIndex, IsIndexOf}
use Rattle.agent_slots.specs.Whole.{frames, held_in, places, sessions, unused_in, AreOpen, IsUsedAt, HaveEnds, IsNoted, AreWhole}
use Rattle.agent_slots.proofs.OpenLaws.{open_more, other_number}
use Rattle.agent_slots.proofs.BeginLaws.{call_used, serving_used}

-- an end that is used stays as it is when an unused one is put to use
used_stays : (fs : List Frame) (i at : ℕ) (f f' : Frame) (place : PagePlace) (used : Use) → slice_get fs i ≡ Some f → f.used ≡ ForNothing → (used ≡ ForNothing → ⊥) → IsUsedAt fs at place used
    → IsUsedAt (set fs i f') at place used
used_stays fs i at f f' place used here unused is_used h = record {
  held = h.held;
  late = h.late;
  is = get_set_other fs i at f' apart ∙ h.is;
  lies = h.lies;
}
  where
    apart : at ≢ i
    apart e =
        let k : Some (record { held = h.held; used = used; late = h.late }) ≡ Some f = sym h.is ∙ (ap (slice_get fs) e ∙ here) in
        let k' : record { held = h.held; used = used; late = h.late } ≡ f = cc in
        is_used (ap (λ (x : Frame). x.used) k' ∙ unused)

-- the one that is put to use is used
now_used : (fs : List Frame) (i : ℕ) (f : Frame) (place : PagePlace) (used : Use) → slice_get fs i ≡ Some f → f.held.place ≡ place → IsUsedAt (set fs i (record f { used = used })) i place used
now_used fs i f place used here lies = record { held = f.held; late = f.late; is = get_set_same fs i f (record f { used = used }) here; lies = lies }

-- ---- a call of the agent's own

noted_more : (domain number : ℕ) (note : CallNote) (calls : List (Option CallNote)) (served : List ServedNote) → slice_get calls number ≡ Some None → (place : PagePlace) (used : Use)
    → IsNoted domain calls served place used → IsNoted domain (set calls number (Some note)) served place used
noted_more domain number note calls served free place ForNothing h = tt
noted_more domain number note calls served free place (ForServing m service) h = h
noted_more domain number note calls served free place (ForCall m input) h = (h.0, get_set_other calls number m (Some note) apart ∙ h.1, h.2)
  where
    apart : m ≢ number
    apart e = let k : Some (Some h.0) ≡ Some None = sym h.1 ∙ (ap (slice_get calls) e ∙ free) in bad h.0 k
      where
        bad : (n : CallNote) → ◌≡◌ {A = Option (Option CallNote)} (Some (Some n)) (Some None) → ⊥
        bad n k = cc

call_ends : (domain number : ℕ) (note : CallNote) (fs : List Frame) (f : Frame) (calls : List (Option CallNote)) (served : List ServedNote) → slice_get fs note.at ≡ Some f → f.used ≡ ForNothing
    → f.held.place ≡ Payload domain note.to note.port → slice_get calls number ≡ Some None → HaveEnds domain fs calls served
    → HaveEnds domain (set fs note.at (record f { used = ForCall number note.input.value.items })) (set calls number (Some note)) served
call_ends domain number note fs f calls served here unused lies free h = record { called = called; serving = serving }
  where
    f' : Frame
    f' = record f { used = ForCall number note.input.value.items }

    called : (m : ℕ) (n : CallNote) → slice_get (set calls number (Some note)) m ≡ Some (Some n) → IsUsedAt (set fs note.at f') n.at (Payload domain n.to n.port) (ForCall m n.input.value.items)
    called m n is = by_number (number == m) refl
      where
        by_number : (b : Bool) → (number == m) ≡ b → IsUsedAt (set fs note.at f') n.at (Payload domain n.to n.port) (ForCall m n.input.value.items)
        by_number true same =
            let e : m ≡ number = sym (same_number number m same) in
            let k : Some (Some n) ≡ Some (Some note) = sym is ∙ (ap (slice_get (set calls number (Some note))) e ∙ get_set_same calls number None (Some note) free) in
            let k' : note ≡ n = cc in
            let P : CallNote → Type 0 = λ x. IsUsedAt (set fs note.at f') x.at (Payload domain x.to x.port) (ForCall m x.input.value.items) in
            let Q : ℕ → Type 0 = λ x. IsUsedAt (set fs note.at f') note.at (Payload domain note.to note.port) (ForCall x note.input.value.items) in
            subst P k' (subst Q (sym e) (now_used fs note.at f (Payload domain note.to note.port) (ForCall number note.input.value.items) here lies))
        by_number false same =
            let apart : m ≢ number = other_number number m same in
            let before : slice_get calls m ≡ Some (Some n) = sym (get_set_other calls number m (Some note) apart) ∙ is in
            used_stays fs note.at n.at f f' (Payload domain n.to n.port) (ForCall m n.input.value.items) here unused (call_used m n.input.value.items) (h.called m n before)

    serving : (m : ℕ) (n : ServedNote) → slice_get served m ≡ Some n → IsUsedAt (set fs note.at f') n.at (Payload n.from domain n.port) (ForServing m n.service.value)
    serving m n is = used_stays fs note.at n.at f f' (Payload n.from domain n.port) (ForServing m n.service.value) here unused (serving_used m n.service.value) (h.serving m n is)

-- the end that serves from now on
serving_ends : (domain : ℕ) (note : ServedNote) (fs : List Frame) (f : Frame) (calls : List (Option CallNote)) (served : List ServedNote) → slice_get fs note.at ≡ Some f → f.used ≡ ForNothing
    → f.held.place ≡ Payload note.from domain note.port → HaveEnds domain fs calls served
    → HaveEnds domain (set fs note.at (record f { used = ForServing (length served) note.service.value })) calls (served ++ note ∷ [])
serving_ends domain note fs f calls served here unused lies h = record { called = called; serving = serving }
  where
    f' : Frame
    f' = record f { used = ForServing (length served) note.service.value }

    called : (m : ℕ) (n : CallNote) → slice_get calls m ≡ Some (Some n) → IsUsedAt (set fs note.at f') n.at (Payload domain n.to n.port) (ForCall m n.input.value.items)
    called m n is = used_stays fs note.at n.at f f' (Payload domain n.to n.port) (ForCall m n.input.value.items) here unused (call_used m n.input.value.items) (h.called m n is)

    serving : (m : ℕ) (n : ServedNote) → slice_get (served ++ note ∷ []) m ≡ Some n → IsUsedAt (set fs note.at f') n.at (Payload n.from domain n.port) (ForServing m n.service.value)
    serving m n is = by_place (get_push served note m n is)
      where
        by_place : (slice_get served m ≡ Some n) ⊎ ((m ≡ length served) × (note ≡ n)) → IsUsedAt (set fs note.at f') n.at (Payload n.from domain n.port) (ForServing m n.service.value)
        by_place (inl before) = used_stays fs note.at n.at f f' (Payload n.from domain n.port) (ForServing m n.service.value) here unused (serving_used m n.service.value) (h.serving m n before)
        by_place (inr (e, k)) =
            let P : ServedNote → Type 0 = λ x. IsUsedAt (set fs note.at f') x.at (Payload x.from domain x.port) (ForServing m x.service.value) in
            let Q : ℕ → Type 0 = λ x. IsUsedAt (set fs note.at f') note.at (Payload note.from domain note.port) (ForServing x note.service.value) in
            subst P k (subst Q (sym e) (now_used fs note.at f (Payload note.from domain note.port) (ForServing (length served) note.service.value) here lies))

served_more : (domain : ℕ) (note : ServedNote) (calls : List (Option CallNote)) (served : List ServedNote) (place : PagePlace) (used : Use)
    → IsNoted domain calls served place used → IsNoted domain calls (served ++ note ∷ []) place used
served_more domain note calls served place ForNothing h = tt
served_more domain note calls served place (ForCall m input) h = h
served_more domain note calls served place (ForServing m service) h = (h.0, get_push_before served note m h.0 h.1, h.2)

-- ---- all of it

-- a slot that is put to use
pub record IsPutTo (version : ℕ) (slot slot' : Slot) (used : Use) : Type 0 where
  pub frame : frame_of slot' ≡ record (frame_of slot) { used = used }
  pub stage : IsStage version slot'.stage
  pub session : is_session slot'.stage ≡ true

pub is_shut : (stage : Stage) → use_of stage ≡ ForNothing → is_session stage ≡ false
is_shut (Unused end) h = refl
is_shut (Calls number input side session) h = absurd (call_used number input.value.items h)
is_shut (Awaits number service serving side) h = absurd (serving_used number service.value h)
is_shut (Serves number service side session) h = absurd (serving_used number service.value h)
is_shut (CallIsOver number input done end) h = refl
is_shut (ServingIsOver number service outcome got end) h = refl
is_shut Taken h = refl

pub frames_set : (slots : List Slot) (at : ℕ) (slot slot' : Slot) (used : Use) → frame_of slot' ≡ record (frame_of slot) { used = used }
    → frames (set slots at slot') ≡ set (frames slots) at (record (frame_of slot) { used = used })
frames_set slots at slot slot' used put = map-set frame_of slots at slot' ∙ ap (set (frames slots) at) put

pub held_set : (slots : List Slot) (at : ℕ) (slot slot' : Slot) → slice_get slots at ≡ Some slot → (frame_of slot').held ≡ (frame_of slot).held → held_in (set slots at slot') ≡ held_in slots
held_set slots at slot slot' here same = map_set_same (λ s. (frame_of s).held) slots at slot slot' here same

pub places_set : (slots : List Slot) (at : ℕ) (slot slot' : Slot) → slice_get slots at ≡ Some slot → (frame_of slot').held ≡ (frame_of slot).held → places (set slots at slot') ≡ places slots
places_set slots at slot slot' here same = map_set_same place_of slots at slot slot' here (ap (λ h. h.place) same)

-- an end is put to use
begins : (domain version : ℕ) (slots : List Slot) (index : PlaceIndex) (busy : List ℕ) (calls calls' : List (Option CallNote)) (served served' : List ServedNote) (at : ℕ) (slot slot' : Slot) (used : Use)
    → AreWhole domain version slots index busy calls served → slice_get slots at ≡ Some slot → use_of slot.stage ≡ ForNothing → IsPutTo version slot slot' used
    → HaveEnds domain (set (frames slots) at (record (frame_of slot) { used = used })) calls' served'
    → ((f : Frame) → IsNoted domain calls served f.held.place f.used → IsNoted domain calls' served' f.held.place f.used) → IsNoted domain calls' served' (place_of slot) used
    → AreWhole domain version (set slots at slot') index (busy ++ at ∷ []) calls' served'
begins domain version slots index busy calls calls' served served' at slot slot' used whole here unused put ends more noted =
    let held = ap (λ (f : Frame). f.held) put.frame in
    let P : List Frame → Type 0 = λ fs. HaveEnds domain fs calls' served' in
    let N : List Frame → Type 0 = λ fs. Each (λ f. IsNoted domain calls' served' f.held.place f.used) fs in
    let shut : slice_get (sessions slots) at ≡ Some false = get_map (λ (s : Slot). is_session s.stage) slots at slot here ∙ ap Some (is_shut slot.stage unused) in
    let were = each_weaker (λ f. IsNoted domain calls served f.held.place f.used) (λ f. IsNoted domain calls' served' f.held.place f.used) more (frames slots) whole.noted in
    let O : List Bool → Type 0 = λ bs. AreOpen bs (busy ++ at ∷ []) in
    record {
      version_is = whole.version_is;
      stages = each_set (λ s. IsStage version s.stage) slots at slot' whole.stages put.stage;
      of_domain = subst (λ hs. Each (λ h. IsEndOf domain h.place h.role) hs) (sym (held_set slots at slot slot' here held)) whole.of_domain;
      indexed = subst (λ ps. IsIndexOf ps index) (sym (places_set slots at slot slot' here held)) whole.indexed;
      are_open = subst O (sym (map-set (λ (s : Slot). is_session s.stage) slots at slot' ∙ ap (set (sessions slots) at) put.session)) (open_more (sessions slots) busy at whole.are_open shut);
      have_ends = subst P (sym (frames_set slots at slot slot' used put.frame)) ends;
      noted = subst N (sym (frames_set slots at slot slot' used put.frame)) (each_set (λ f. IsNoted domain calls' served' f.held.place f.used) (frames slots) at (record (frame_of slot) { used = used }) were noted);
    }

pub begins_call : (domain version : ℕ) (slots : List Slot) (index : PlaceIndex) (busy : List ℕ) (calls : List (Option CallNote)) (served : List ServedNote) (number : ℕ) (note : CallNote) (slot slot' : Slot)
    → AreWhole domain version slots index busy calls served → slice_get slots note.at ≡ Some slot → use_of slot.stage ≡ ForNothing → place_of slot ≡ Payload domain note.to note.port
    → slice_get calls number ≡ Some None → IsPutTo version slot slot' (ForCall number note.input.value.items)
    → AreWhole domain version (set slots note.at slot') index (busy ++ note.at ∷ []) (set calls number (Some note)) served
begins_call domain version slots index busy calls served number note slot slot' whole here unused lies free put =
    begins domain version slots index busy calls (set calls number (Some note)) served served note.at slot slot' (ForCall number note.input.value.items) whole here unused put
    (call_ends domain number note (frames slots) (frame_of slot) calls served (get_map frame_of slots note.at slot here) unused lies free whole.have_ends)
    (λ f. noted_more domain number note calls served free f.held.place f.used)
    (note, get_set_same calls number None (Some note) free, lies)

pub begins_serving : (domain version : ℕ) (slots : List Slot) (index : PlaceIndex) (busy : List ℕ) (calls : List (Option CallNote)) (served : List ServedNote) (note : ServedNote) (slot slot' : Slot)
    → AreWhole domain version slots index busy calls served → slice_get slots note.at ≡ Some slot → use_of slot.stage ≡ ForNothing → place_of slot ≡ Payload note.from domain note.port
    → IsPutTo version slot slot' (ForServing (length served) note.service.value)
    → AreWhole domain version (set slots note.at slot') index (busy ++ note.at ∷ []) calls (served ++ note ∷ [])
begins_serving domain version slots index busy calls served note slot slot' whole here unused lies put =
    begins domain version slots index busy calls calls served (served ++ note ∷ []) note.at slot slot' (ForServing (length served) note.service.value) whole here unused put
    (serving_ends domain note (frames slots) (frame_of slot) calls served (get_map frame_of slots note.at slot here) unused lies whole.have_ends)
    (λ f. served_more domain note calls served f.held.place f.used)
    (note, get_push_last served note, lies)

-- ---- the unused ends, after one of them is put to use

without_none : (p : PagePlace) (fs : List Frame) → ((j : ℕ) (g : Frame) → slice_get fs j ≡ Some g → is_place p g.held.place ≡ false) → without p (unused_in fs) ≡ unused_in fs
without_none p [] apart = refl
without_none p (g ∷ fs) apart = by_use g.used refl (without_none p fs (λ j. apart (suc j)))
  where
    by_use : (u : Use) → g.used ≡ u → without p (unused_in fs) ≡ unused_in fs → without p (unused_in (g ∷ fs)) ≡ unused_in (g ∷ fs)
    by_use ForNothing is more = let a = apart 0 g refl in rw (is, a) (ap (λ ps. g.held.place ∷ ps) more)
    by_use (ForCall n input) is more = rw is more
    by_use (ForServing n service) is more = rw is more

pub unused_without : (fs : List Frame) (i : ℕ) (f : Frame) (used : Use) → slice_get fs i ≡ Some f → f.used ≡ ForNothing → (used ≡ ForNothing → ⊥)
    → ((j : ℕ) (g : Frame) → slice_get fs j ≡ Some g → j ≢ i → is_place f.held.place g.held.place ≡ false)
    → unused_in (set fs i (record f { used = used })) ≡ without f.held.place (unused_in fs)
unused_without [] i f used here unused is_used apart = cc
unused_without (g ∷ fs) zero f used here unused is_used apart = at_first used is_used
  where
    first : g ≡ f
    first = cc

    rest : without f.held.place (unused_in fs) ≡ unused_in fs
    rest = without_none f.held.place fs (λ j h is. apart (suc j) h is (λ e. bad j e))
      where
        bad : (j : ℕ) → suc j ≡ 0 → ⊥
        bad j e = cc

    whole : without f.held.place (unused_in (g ∷ fs)) ≡ unused_in fs
    whole = let u : g.used ≡ ForNothing = ap (λ (x : Frame). x.used) first ∙ unused in let self : is_place f.held.place g.held.place ≡ true = ap (λ (x : Frame). is_place f.held.place x.held.place) first ∙ same_self f.held.place in rw (u, self) rest

    at_first : (u : Use) → (u ≡ ForNothing → ⊥) → unused_in (record f { used = u } ∷ fs) ≡ without f.held.place (unused_in (g ∷ fs))
    at_first ForNothing bad = absurd (bad refl)
    at_first (ForCall n input) bad = sym whole
    at_first (ForServing n service) bad = sym whole
unused_without (g ∷ fs) (suc i) f used here unused is_used apart = by_use g.used refl (unused_without fs i f used here unused is_used (λ j h is ne. apart (suc j) h is (λ e. ne (pred j i e))))
  where
    pred : (j i : ℕ) → suc j ≡ suc i → j ≡ i
    pred j i e = cc

    by_use : (u : Use) → g.used ≡ u → unused_in (set fs i (record f { used = used })) ≡ without f.held.place (unused_in fs)
        → unused_in (g ∷ set fs i (record f { used = used })) ≡ without f.held.place (unused_in (g ∷ fs))
    by_use ForNothing is more = let a = apart 0 g refl (λ e. bad i e) in rw (is, a) (ap (λ ps. g.held.place ∷ ps) more)
      where
        bad : (i : ℕ) → 0 ≡ suc i → ⊥
        bad i e = cc
    by_use (ForCall n input) is more = rw is more
    by_use (ForServing n service) is more = rw is more

-- no other end of those in an index lies at the same place
pub places_apart : (slots : List Slot) (index : PlaceIndex) (at : ℕ) (slot : Slot) → IsIndexOf (places slots) index → slice_get slots at ≡ Some slot
    → (j : ℕ) (g : Frame) → slice_get (frames slots) j ≡ Some g → j ≢ at → is_place (place_of slot) g.held.place ≡ false
places_apart slots index at slot indexed here j g is ne = by_test (is_place (place_of slot) g.held.place) refl
  where
    some_same : (a b : ℕ) → Some a ≡ Some b → a ≡ b
    some_same a b e = cc

    by_test : (b : Bool) → is_place (place_of slot) g.held.place ≡ b → is_place (place_of slot) g.held.place ≡ false
    by_test false h = h
    by_test true h =
        let back = get_map_back frame_of slots j g is in
        let one : slice_get (places slots) j ≡ Some (place_of slot) = get_map place_of slots j back.0 back.1 ∙ ap Some (ap (λ (x : Frame). x.held.place) back.2 ∙ sym (same_place (place_of slot) g.held.place h)) in
        let two : slice_get (places slots) at ≡ Some (place_of slot) = get_map place_of slots at slot here in
        let k : Some j ≡ Some at = sym (indexed.has j slot.from slot.to slot.port one) ∙ indexed.has at slot.from slot.to slot.port two in
        absurd (ne (some_same j at k))

-- in the frames of ends with an index
pub unused_now : (slots : List Slot) (index : PlaceIndex) (at f t p : ℕ) (slot slot' : Slot) (used : Use) → IsIndexOf (places slots) index → slice_get slots at ≡ Some slot → place_of slot ≡ Payload f t p
    → use_of slot.stage ≡ ForNothing → (used ≡ ForNothing → ⊥) → frame_of slot' ≡ record (frame_of slot) { used = used }
    → unused_in (frames (set slots at slot')) ≡ without (Payload f t p) (unused_in (frames slots))
unused_now slots index at f t p slot slot' used indexed here lies unused is_used put =
    ap unused_in (frames_set slots at slot slot' used put)
    ∙ (unused_without (frames slots) at (frame_of slot) used (get_map frame_of slots at slot here) unused is_used (places_apart slots index at slot indexed here) ∙ ap (λ q. without q (unused_in (frames slots))) lies)
