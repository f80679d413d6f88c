use Rattle.std.proofs.Common.{◌≡◌, replicate, None}
use Rattle.agent_slots.proofs.setup.no_notes.Given as goal

abbrev pub invariant-loop-call : goal.invariant-loop-call
invariant-loop-call l = l.notes.items ≡ replicate l._call None
