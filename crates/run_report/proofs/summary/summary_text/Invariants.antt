use Rattle.std.proofs.Common.{length}
use Rattle.run_report.specs.Summary.{done_calls}
use Rattle.run_report.specs.Summing.{IsSumming}
use Rattle.run_report.proofs.summary.summary_text.Given as goal

abbrev pub invariant-loop-call : goal.invariant-loop-call
invariant-loop-call l = IsSumming l.sums l.call-iterator.a.rest.now l.call-iterator.b.rest.now (done_calls l.scenario.calls l.report.calls) (length l.scenario.calls)
