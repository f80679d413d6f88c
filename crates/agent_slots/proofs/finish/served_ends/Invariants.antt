use Rattle.std.proofs.Common.{◌≡◌, ℕ, ◌≤◌, map, take}
use Rattle.std.specs.Prelude.{slice_get, Some}
use Rattle.agent_slots.specs.declared.note.ServedNote.{ServedNote}
use Rattle.agent_slots.specs.Finished.{served_at}
use Rattle.agent_slots.proofs.finish.served_ends.Given as goal

abbrev pub invariant-loop-note : goal.invariant-loop-note
invariant-loop-note l = record {
  done : map Some l.done.items ≡ map (served_at l.fn.reports) (take l.note-index l.served);
  later : (m : ℕ) (n : ServedNote) → l.note-index ≤ m → slice_get l.served m ≡ Some n → slice_get l.reports n.at ≡ slice_get l.fn.reports n.at;
}
