use Rattle.std.proofs.Common.{◌≡◌, ◌+◌, ◌++◌, ◌≤◌, length, map}
use Rattle.std.specs.Vec.Iter.{into_iter_items}
use Rattle.scenario_run.specs.Sessions.{seen, sessions_from}
use Rattle.scenario_run.proofs.sessions.sessions.Given as goal

abbrev pub invariant-loop-report : goal.invariant-loop-report
invariant-loop-report l = record {
  can_next : (goal.iterator-loop-report).can_next l.report-iterator;
  is_finite : (goal.iterator-loop-report).is_finite l.report-iterator;
  made : map seen l.sessions.items ++ sessions_from l.scenario l.number (map (λ r. r.served) (into_iter_items l.report-iterator)) ≡ sessions_from l.scenario 0 (map (λ r. r.served) l.fn.reports.items);
  few : l.number + length (into_iter_items l.report-iterator) ≤ 33;
}
