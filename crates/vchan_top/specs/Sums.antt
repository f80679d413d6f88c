-- The sums of a scenario without hostile domains, by the services and the names alone.
use Rattle.std.specs.Prelude.{ℕ, List, length, filter_map, Option, Some, None}
use Rattle.std.specs.List.{zip}
use Rattle.scenario_file.specs.declared.scenario.CallPlan.{CallPlan}
use Rattle.scenario_file.specs.declared.line.Line.{Line}
use Rattle.scenario_file.specs.declared.line.LineResult.{LineResult}
use Rattle.scenario_file.specs.declared.line.LineResult.TheVariants.{Done, Refused}
use Rattle.scenario_file.specs.Lines.{lines_among}
use Rattle.scenario_file.specs.Scenario.{Written}
use Rattle.run_report.specs.Summary.{DoneCall, sums_text, totals}

-- a call with an input of `stdin` bytes, if its result is that it is done
abbrev pub done_by : ℕ → LineResult → Option DoneCall
done_by stdin (Done code stdout stderr) = Some (record { stdin = stdin; stdout = length stdout; stderr = length stderr; code = code })
done_by stdin (Refused cause) = None

-- a call beside its line
abbrev pub done_beside : CallPlan × Line → Option DoneCall
done_beside (call, l) = done_by (length call.stdin) l.result

-- the text of the sums over the calls of a scenario, with the lines that the services and the names give
abbrev pub sums_of : Written → List ℕ
sums_of s = sums_text (length s.call_list) (totals (filter_map done_beside (zip s.call_list (lines_among s.domain_list s.call_list))))
