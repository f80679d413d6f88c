use Rattle.std.proofs.Common.{◌≡◌, ℕ, ◌≤◌, map, take, Some}
use Rattle.std.specs.Prelude.{slice_get}
use Rattle.agent_slots.specs.declared.note.CallNote.{CallNote}
use Rattle.agent_slots.specs.Finished.{KeepsServings, call_at}
use Rattle.agent_slots.proofs.finish.call_ends.Given as goal

abbrev pub invariant-loop-note : goal.invariant-loop-note
invariant-loop-note l = record {
  done : l.done.items ≡ map (call_at l.fn.reports) (take l.note-index l.calls);
  later : (m : ℕ) (n : CallNote) → l.note-index ≤ m → slice_get l.calls m ≡ Some (Some n) → slice_get l.reports n.at ≡ slice_get l.fn.reports n.at;
  others : KeepsServings l.fn.reports l.reports;
}
