use Rattle.std.proofs.Common.{◌≡◌, drop, length, map, take}
use Rattle.run_laws.specs.Run.{Run}
use Rattle.run_laws.specs.ReadOff.{line_read}
use Rattle.scenario_run.specs.Lines.{HasReports}
use Rattle.scenario_run.proofs.lines.call_lines.Given as goal

abbrev pub invariant-loop-call : goal.invariant-loop-call
invariant-loop-call l = record {
  reports : (run : Run) → HasReports l.scenario run l.scenario.calls l.initial.reports → HasReports l.scenario run (drop l.call-index l.scenario.calls) l.reports;
  lines : (run : Run) → HasReports l.scenario run l.scenario.calls l.initial.reports → l.lines.items ≡ map (line_read l.scenario run) (take l.call-index l.scenario.calls);
  served : map (λ r. r.served) l.reports ≡ map (λ r. r.served) l.initial.reports;
  long : length l.reports ≡ length l.initial.reports;
}
