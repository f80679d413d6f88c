use Rattle.std.proofs.Common.{◌≡◌, ◌++◌, map}
use Rattle.std.specs.Vec.Iter.{into_iter_items}
use Rattle.run_laws.specs.HostileSessions.{session_line}
use Rattle.scenario_run.specs.Sessions.{seen}
use Rattle.scenario_run.proofs.sessions.lines_of.Given as goal

abbrev pub invariant-loop-session : goal.invariant-loop-session
invariant-loop-session l = record {
  can_next : (goal.iterator-loop-session).can_next l.session-iterator;
  is_finite : (goal.iterator-loop-session).is_finite l.session-iterator;
  made : l.lines.items ++ map (λ x. session_line l.scenario (seen x)) (into_iter_items l.session-iterator) ≡ map (λ x. session_line l.scenario (seen x)) l.fn.sessions.items;
}
