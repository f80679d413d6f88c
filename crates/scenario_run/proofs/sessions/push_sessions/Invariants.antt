use Rattle.std.proofs.Common.{◌≡◌, ◌++◌, map}
use Rattle.std.specs.Vec.Iter.{into_iter_items}
use Rattle.scenario_run.specs.Sessions.{seen, sessions_with}
use Rattle.scenario_run.proofs.sessions.push_sessions.Given as goal

abbrev pub invariant-loop-done : goal.invariant-loop-done
invariant-loop-done l = record {
  can_next : (goal.iterator-loop-done).can_next l.done-iterator;
  is_finite : (goal.iterator-loop-done).is_finite l.done-iterator;
  made : map seen l.sessions.items ++ sessions_with l.scenario l.number (into_iter_items l.done-iterator) ≡ map seen l.initial.sessions.items ++ sessions_with l.scenario l.number l.fn.served.items;
}
