-- Ends by their places, and which are unused.
use Rattle.std.proofs.Common.{◌≡◌, ℕ, ◌<◌, zero, suc, List, [], ◌∷◌, length, get_or, refl, ap, sym, ◌∙◌, Some, None, subst}
use Rattle.std.specs.Prelude.{true, false, Bool, ◌||◌, slice_get}
use Rattle.std.proofs.lemmas.Option.{slice_get_within, slice_get_read}
use Rattle.std.proofs.lemmas.List.{length-map}
use Rattle.list_laws.proofs.Places.{get_map, get_map_back}
use Rattle.task_duties.specs.declared.place.PagePlace.{PagePlace}
use Rattle.task_duties.specs.declared.place.PagePlace.TheVariants.{Payload}
use Rattle.task_duties.specs.Places.{is_place, has_place}
use Rattle.task_duties.proofs.ServedLaw.{same_place}
use Rattle.task_duties.proofs.Places.{same_self}
use Rattle.agent_slots.specs.declared.slot.Slot.{Slot}
use Rattle.agent_slots.specs.Stages.{Use, ForNothing, ForCall, ForServing, Frame, place_of, frame_of, use_of, is_nothing}
use Rattle.agent_slots.specs.Index.{PlaceIndex, end_at, IsIndexOf}
use Rattle.agent_slots.specs.Whole.{frames, places, unused_in, IsUsedAt}

-- an unused end at a place
record Found (p : PagePlace) (fs : List Frame) : Type 0 where
  pub at : ℕ
  pub frame : Frame
  pub is : slice_get fs at ≡ Some frame
  pub lies : frame.held.place ≡ p
  pub unused : frame.used ≡ ForNothing

later : (p : PagePlace) (f : Frame) (fs : List Frame) → Found p fs → Found p (f ∷ fs)
later p f fs h = record { at = suc h.at; frame = h.frame; is = h.is; lies = h.lies; unused = h.unused }

find_unused : (p : PagePlace) (fs : List Frame) → has_place p (unused_in fs) ≡ true → Found p fs
find_unused p [] h = cc
find_unused p (f ∷ fs) h = by_use f.used refl h (find_unused p fs)
  where
    by_place : (b : Bool) → is_place p f.held.place ≡ b → f.used ≡ ForNothing → (b || has_place p (unused_in fs)) ≡ true → (has_place p (unused_in fs) ≡ true → Found p fs) → Found p (f ∷ fs)
    by_place true is used h more = record { at = 0; frame = f; is = refl; lies = sym (same_place p f.held.place is); unused = used }
    by_place false is used h more = later p f fs (more h)

    by_use : (u : Use) → f.used ≡ u → has_place p (unused_in (f ∷ fs)) ≡ true → (has_place p (unused_in fs) ≡ true → Found p fs) → Found p (f ∷ fs)
    by_use ForNothing is h more = let h' = rw is at h in by_place (is_place p f.held.place) refl is h' more
    by_use (ForCall n input) is h more = let h' = rw is at h in later p f fs (more h')
    by_use (ForServing n service) is h more = let h' = rw is at h in later p f fs (more h')

there_unused : (fs : List Frame) (i : ℕ) (f : Frame) → slice_get fs i ≡ Some f → f.used ≡ ForNothing → has_place f.held.place (unused_in fs) ≡ true
there_unused [] i f h used = cc
there_unused (g ∷ fs) zero f h used =
    let e : g ≡ f = cc in
    let used' : g.used ≡ ForNothing = ap (λ x. x.used) e ∙ used in
    let self : is_place f.held.place g.held.place ≡ true = ap (λ (x : Frame). is_place f.held.place x.held.place) e ∙ same_self f.held.place in
    rw (used', self) refl
there_unused (g ∷ fs) (suc i) f h used = by_use g.used refl (there_unused fs i f h used)
  where
    by_place : (b : Bool) → has_place f.held.place (unused_in fs) ≡ true → (b || has_place f.held.place (unused_in fs)) ≡ true
    by_place true k = refl
    by_place false k = k

    by_use : (u : Use) → g.used ≡ u → has_place f.held.place (unused_in fs) ≡ true → has_place f.held.place (unused_in (g ∷ fs)) ≡ true
    by_use ForNothing is k = rw is (by_place (is_place f.held.place g.held.place) k)
    by_use (ForCall n input) is k = rw is k
    by_use (ForServing n service) is k = rw is k

-- the end at a place, by its number
pub slot_there : (slots : List Slot) (index : PlaceIndex) (at f t p : ℕ) → IsIndexOf (places slots) index → end_at index f t p ≡ Some at → at < length slots
slot_there slots index at f t p indexed is = subst (λ n. at < n) (length-map slots place_of) (slice_get_within (places slots) at (Payload f t p) (indexed.has_only at f t p is))

pub slot_here : (slots : List Slot) (index : PlaceIndex) (at f t p : ℕ) (slot : Slot) → IsIndexOf (places slots) index → end_at index f t p ≡ Some at → slot ≡ get_or slots at slot
    → slice_get slots at ≡ Some slot
slot_here slots index at f t p slot indexed is read = slice_get_read slots (length slots) at slot refl (slot_there slots index at f t p indexed is) read

-- whether the end at a place is unused, and that none is unused if none lies there
pub unused_there : (slots : List Slot) (index : PlaceIndex) (at f t p : ℕ) (slot : Slot) → IsIndexOf (places slots) index → end_at index f t p ≡ Some at → slot ≡ get_or slots at slot
    → is_nothing (use_of slot.stage) ≡ has_place (Payload f t p) (unused_in (frames slots))
unused_there slots index at f t p slot indexed is read = by_found (has_place (Payload f t p) (unused_in (frames slots))) refl
  where
    here : slice_get slots at ≡ Some slot
    here = slot_here slots index at f t p slot indexed is read

    lies : place_of slot ≡ Payload f t p
    lies = let a = get_map place_of slots at slot here in let b = indexed.has_only at f t p is in cc

    in_frames : slice_get (frames slots) at ≡ Some (frame_of slot)
    in_frames = get_map frame_of slots at slot here

    nothing : (u : Use) → (u ≡ ForNothing → ⊥) → is_nothing u ≡ false
    nothing ForNothing no' = absurd (no' refl)
    nothing (ForCall n input) no' = refl
    nothing (ForServing n service) no' = refl

    same : (fd : Found (Payload f t p) (frames slots)) → use_of slot.stage ≡ ForNothing
    same fd =
        let back = get_map_back frame_of slots fd.at fd.frame fd.is in
        let there : slice_get (places slots) fd.at ≡ Some (Payload f t p) = get_map place_of slots fd.at back.0 back.1 ∙ ap Some (ap (λ (x : Frame). x.held.place) back.2 ∙ fd.lies) in
        let k : Some fd.at ≡ Some at = sym (indexed.has fd.at f t p there) ∙ is in
        let e : fd.at ≡ at = cc in
        let s : Some fd.frame ≡ Some (frame_of slot) = sym fd.is ∙ (ap (slice_get (frames slots)) e ∙ in_frames) in
        let g : fd.frame ≡ frame_of slot = cc in
        ap (λ (x : Frame). x.used) (sym g) ∙ fd.unused

    by_found : (b : Bool) → has_place (Payload f t p) (unused_in (frames slots)) ≡ b → is_nothing (use_of slot.stage) ≡ b
    by_found true h = ap is_nothing (same (find_unused (Payload f t p) (frames slots) h))
    by_found false h = nothing (use_of slot.stage) (λ u. (let k = subst (λ q. has_place q (unused_in (frames slots)) ≡ true) lies (there_unused (frames slots) at (frame_of slot) in_frames u) in let w : false ≡ true = sym h ∙ k in bad w))
      where
        bad : false ≡ true → ⊥
        bad w = cc

pub none_there : (slots : List Slot) (index : PlaceIndex) (f t p : ℕ) → IsIndexOf (places slots) index → end_at index f t p ≡ None → has_place (Payload f t p) (unused_in (frames slots)) ≡ false
none_there slots index f t p indexed none = by_found (has_place (Payload f t p) (unused_in (frames slots))) refl
  where
    by_found : (b : Bool) → has_place (Payload f t p) (unused_in (frames slots)) ≡ b → has_place (Payload f t p) (unused_in (frames slots)) ≡ false
    by_found true h =
        let fd = find_unused (Payload f t p) (frames slots) h in
        let back = get_map_back frame_of slots fd.at fd.frame fd.is in
        let there : slice_get (places slots) fd.at ≡ Some (Payload f t p) = get_map place_of slots fd.at back.0 back.1 ∙ ap Some (ap (λ (x : Frame). x.held.place) back.2 ∙ fd.lies) in
        let k : None ≡ Some fd.at = sym none ∙ indexed.has fd.at f t p there in
        cc
    by_found false h = h

pub used_there : (slots : List Slot) (index : PlaceIndex) (at f t p : ℕ) (slot : Slot) → IsIndexOf (places slots) index → end_at index f t p ≡ Some at → slot ≡ get_or slots at slot
    → is_nothing (use_of slot.stage) ≡ true → IsUsedAt (frames slots) at (Payload f t p) ForNothing
used_there slots index at f t p slot indexed is read nothing = record {
  held = (frame_of slot).held;
  late = (frame_of slot).late;
  is = get_map frame_of slots at slot (slot_here slots index at f t p slot indexed is read)
      ∙ ap (λ u. Some (record { held = (frame_of slot).held; used = u; late = (frame_of slot).late })) (unused (use_of slot.stage) nothing);
  lies = lies;
}
  where
    here : slice_get slots at ≡ Some slot
    here = slot_here slots index at f t p slot indexed is read

    lies : place_of slot ≡ Payload f t p
    lies = let a = get_map place_of slots at slot here in let b = indexed.has_only at f t p is in cc

    unused : (u : Use) → is_nothing u ≡ true → u ≡ ForNothing
    unused ForNothing h = refl
    unused (ForCall n input) h = cc
    unused (ForServing n service) h = cc
