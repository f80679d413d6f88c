-- Ends that were just given are whole.
use Rattle.std.proofs.Common.{◌≡◌, ℕ, zero, suc, List, [], ◌∷◌, length, map, replicate, refl, ap, sym, subst, Option, Some, None}
use Rattle.std.specs.Prelude.{false, Bool, ◌≤◌, slice_get, unwrap_or, option_map, if◌then◌else◌}
use Rattle.std.specs.List.{cons_option, AllByRecursion as Each}
use Rattle.task_duties.specs.declared.place.PagePlace.TheVariants.{Payload}
use Rattle.task_duties.specs.declared.ends.DataEnd.{DataEnd}
use Rattle.task_duties.specs.TaskOwes.{places_in}
use Rattle.task_duties.specs.GivenEnds.{given_at, all_given}
use Rattle.agent_slots.specs.declared.note.CallNote.{CallNote}
use Rattle.agent_slots.specs.declared.note.ServedNote.{ServedNote}
use Rattle.agent_slots.specs.Slots.{Called, held_at, IsEndOf, IsGiven}
use Rattle.agent_slots.specs.Stages.{IsStage, CanRetire}
use Rattle.agent_slots.specs.Index.{PlaceIndex, IsIndexOf}
use Rattle.agent_slots.specs.Given.{unused_slots}
use Rattle.agent_slots.specs.Sides.{is_late_unused, late_places}
use Rattle.agent_slots.specs.Whole.{frames, held_in, places, sessions, unused_in, late_in, called_of, IsNoted, AreWhole, state_with}
use Rattle.agent_slots.specs.Sessions.{NotBegun}
use Rattle.agent_slots.specs.declared.slot.Slot.{Slot}
use Rattle.agent_slots.proofs.BeginLaws.{same_state}
use Rattle.agent_slots.proofs.SessionLaws.{given_sessions}

pub given_places : (ends : List DataEnd) → places (unused_slots ends) ≡ places_in (all_given ends)
given_places [] = refl
given_places (d ∷ ends) = ap (λ ps. (given_at d).place ∷ ps) (given_places ends)

pub given_held : (ends : List DataEnd) → held_in (unused_slots ends) ≡ map held_at (all_given ends)
given_held [] = refl
given_held (d ∷ ends) = ap (λ hs. held_at (given_at d) ∷ hs) (given_held ends)

pub given_unused : (ends : List DataEnd) → unused_in (frames (unused_slots ends)) ≡ places_in (all_given ends)
given_unused [] = refl
given_unused (d ∷ ends) = ap (λ ps. (given_at d).place ∷ ps) (given_unused ends)

pub given_late : (ends : List DataEnd) → late_in (frames (unused_slots ends)) ≡ late_places ends
given_late [] = refl
given_late (d ∷ ends) = ap (λ ps. cons_option (if is_late_unused d.end then Some (Payload d.from d.to d.port) else None) ps) (given_late ends)

pub given_retire : (domain : ℕ) (ends : List DataEnd) → Each (IsGiven domain) (all_given ends) → Each (λ s. CanRetire s.stage) (unused_slots ends)
given_retire domain [] each = tt
given_retire domain (d ∷ ends) each = (each.0.unused.idle, given_retire domain ends each.1)

stages : (domain version : ℕ) (ends : List DataEnd) → Each (IsGiven domain) (all_given ends) → Each (λ s. IsStage version s.stage) (unused_slots ends)
stages domain version [] each = tt
stages domain version (d ∷ ends) each = (each.0.unused, stages domain version ends each.1)

of_domain_lem : (domain : ℕ) (ends : List DataEnd) → Each (IsGiven domain) (all_given ends) → Each (λ h. IsEndOf domain h.place h.role) (held_in (unused_slots ends))
of_domain_lem domain [] each = tt
of_domain_lem domain (d ∷ ends) each = (each.0.of_domain, of_domain_lem domain ends each.1)

all_shut : (ends : List DataEnd) (i : ℕ) → unwrap_or (slice_get (sessions (unused_slots ends)) i) false ≡ false
all_shut [] i = refl
all_shut (d ∷ ends) zero = refl
all_shut (d ∷ ends) (suc i) = all_shut ends i

no_call : (count number : ℕ) (n : CallNote) → slice_get (replicate count None) number ≡ Some (Some n) → ⊥
no_call zero number n h = cc
no_call (suc count) zero n h = bad h
  where
    bad : ◌≡◌ {A = Option (Option CallNote)} (Some None) (Some (Some n)) → ⊥
    bad h = cc
no_call (suc count) (suc number) n h = no_call count number n h

noted : (domain : ℕ) (calls : List (Option CallNote)) (served : List ServedNote) (ends : List DataEnd) → Each (λ f. IsNoted domain calls served f.held.place f.used) (frames (unused_slots ends))
noted domain calls served [] = tt
noted domain calls served (d ∷ ends) = (tt, noted domain calls served ends)

pub called_none : (count : ℕ) → map (option_map called_of) (replicate count None) ≡ replicate count None
called_none zero = refl
called_none (suc count) = ap (λ (os : List (Option Called)). None ∷ os) (called_none count)

given_whole : (domain version : ℕ) (ends : List DataEnd) (index : PlaceIndex) (count : ℕ) → (2 ≤ version) × (version ≤ 3) → Each (IsGiven domain) (all_given ends) → IsIndexOf (places (unused_slots ends)) index
    → AreWhole domain version (unused_slots ends) index [] (replicate count None) []
given_whole domain version ends index count version_is given indexed = record {
  version_is = version_is;
  stages = stages domain version ends given;
  of_domain = of_domain_lem domain ends given;
  indexed = indexed;
  are_open = λ i. ap (λ (b : Bool). if b then 1 else 0) (sym (all_shut ends i));
  have_ends = record { called = λ m n is. absurd (no_call count m n is); serving = λ m n is. absurd (none m n is) };
  noted = noted domain (replicate count None) [] ends;
}
  where
    none : (m : ℕ) (n : ServedNote) → slice_get [] m ≡ Some n → ⊥
    none m n is = cc

pub made_whole : (domain version : ℕ) (ends : List DataEnd) (slots : List Slot) (index : PlaceIndex) (busy : List ℕ) (calls : List (Option CallNote)) (count : ℕ) (served : List ServedNote)
    → slots ≡ unused_slots ends → busy ≡ [] → calls ≡ replicate count None → served ≡ [] → (2 ≤ version) × (version ≤ 3) → Each (IsGiven domain) (all_given ends) → IsIndexOf (places_in (all_given ends)) index
    → AreWhole domain version slots index busy calls served
made_whole domain version ends slots index busy calls count served s b k v version_is given indexed =
    rw (s, b, k, v) (given_whole domain version ends index count version_is given (subst (λ ps. IsIndexOf ps index) (sym (given_places ends)) indexed))

-- what contracts see of them
pub given_state : (domain version : ℕ) (ends : List DataEnd) (slots : List Slot) (busy : List ℕ) (calls : List (Option CallNote)) (count : ℕ) (served : List ServedNote) (spent : Bool)
    → slots ≡ unused_slots ends → busy ≡ [] → calls ≡ replicate count None → served ≡ [] → spent ≡ false → state_with domain version slots busy calls served spent ≡ record {
      domain = domain;
      version = version;
      held = map held_at (all_given ends);
      unused = places_in (all_given ends);
      late = late_places ends;
      called = replicate count None;
      served = [];
      opened = [];
      sessions = replicate (length ends) NotBegun;
      spent = false;
    }
given_state domain version ends slots busy calls count served spent s b k v f =
    rw (s, b, k, v, f) (same_state domain version _ _ _ _ _ _ _ _ _ _ _ _ _ _ false (given_held ends) (given_unused ends) (given_late ends) (called_none count) refl refl (given_sessions ends))
