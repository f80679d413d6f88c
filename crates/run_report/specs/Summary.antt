-- The sums over the calls of a report that are done.
-- Source: this project's own.
use Rattle.std.specs.Prelude.{ℕ, ◌+◌, ◌*◌, ◌^◌, ◌≤◌, ℤ, pos, ◌+ℤ◌, ◌≤ℤ◌, neg_ℤ, List, ◌++◌, length, filter_map, codes, decimal, sum_by, Option, Some, None}
use Rattle.std.specs.Fmt.{signed_decimal}
use Rattle.std.specs.List.{fold, zip}
use Rattle.scenario_file.specs.declared.scenario.CallPlan.{CallPlan}
use Rattle.run_laws.specs.declared.report.CallLine.{CallLine}
use Rattle.run_laws.specs.declared.report.CallResult.{CallResult}
use Rattle.run_laws.specs.declared.report.CallResult.TheVariants as result
use Rattle.run_laws.specs.Report.{Report}
use Rattle.run_report.specs.Lines.{sum_line}

-- a call that is done: how many bytes its streams have, and its exit code
pub record DoneCall : Type 0 where
  pub stdin : ℕ
  pub stdout : ℕ
  pub stderr : ℕ
  pub code : ℤ

-- a call with an input of `stdin` bytes, if it is done
abbrev pub done_of : ℕ → CallResult → Option DoneCall
done_of stdin (result.Done code stdout stderr page) = Some (record { stdin = stdin; stdout = length stdout; stderr = length stderr; code = code })
done_of stdin (result.Refused cause) = None
done_of stdin (result.Mixed outcome got) = None

-- a call beside its line
abbrev pub done_at : CallPlan × CallLine → Option DoneCall
done_at (call, line) = done_of (length call.stdin) line.result

-- the calls that are done, when each call is put beside its line
abbrev pub done_calls : List CallPlan → List CallLine → List DoneCall
done_calls calls lines = filter_map done_at (zip calls lines)

-- the number of these calls, the sums of their lengths and of their codes
pub record Totals : Type 0 where
  pub done : ℕ
  pub stdin : ℕ
  pub stdout : ℕ
  pub stderr : ℕ
  pub codes : ℤ

-- with one call more
abbrev pub counted : Option DoneCall → Totals → Totals
counted None t = t
counted (Some d) t = record { done = t.done + 1; stdin = t.stdin + d.stdin; stdout = t.stdout + d.stdout; stderr = t.stderr + d.stderr; codes = t.codes +ℤ d.code }

-- the sum of exit codes
abbrev pub code_sum : List DoneCall → ℤ
code_sum dones = fold (λ sum d. sum +ℤ d.code) (pos 0) dones

-- the totals of some calls
abbrev pub totals : List DoneCall → Totals
totals dones = record {
  done = length dones;
  stdin = sum_by (λ d. d.stdin) dones;
  stdout = sum_by (λ d. d.stdout) dones;
  stderr = sum_by (λ d. d.stderr) dones;
  codes = code_sum dones;
}

-- the totals of at most 4,096 calls, with lengths below 2^64 and codes of 32 bits
pub record AreWithin (t : Totals) : Type 0 where
  pub few : t.done ≤ 4096
  pub stdin : t.stdin ≤ t.done * 2 ^ 64
  pub stdout : t.stdout ≤ t.done * 2 ^ 64
  pub stderr : t.stderr ≤ t.done * 2 ^ 64
  pub most : t.codes ≤ℤ pos (t.done * 2 ^ 31)
  pub least : neg_ℤ (pos (t.done * 2 ^ 31)) ≤ℤ t.codes

-- the text of totals
abbrev pub sums_text : ℕ → Totals → List ℕ
sums_text calls t =
    sum_line (codes "calls") (decimal calls)
    ++ (sum_line (codes "done") (decimal t.done)
    ++ (sum_line (codes "stdin") (decimal t.stdin)
    ++ (sum_line (codes "stdout") (decimal t.stdout)
    ++ (sum_line (codes "stderr") (decimal t.stderr)
    ++ sum_line (codes "codes") (signed_decimal t.codes)))))

-- the summary of a report of these calls
abbrev pub summary_of : List CallPlan → Report → List ℕ
summary_of calls r = sums_text (length r.calls) (totals (done_calls calls r.calls))
