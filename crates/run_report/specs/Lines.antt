-- The lines of a report.
-- Source: this project's own.
use Rattle.std.specs.Prelude.{ℕ, List, [], ◌∷◌, ◌++◌, length, codes, decimal}
use Rattle.std.specs.Fmt.{signed_decimal}
use Rattle.std.specs.List.{flat_map}
use Rattle.script_words.specs.Text.{shown_bytes}
pub use Rattle.script_words.specs.Text.{spaced}
use Rattle.scenario_file.specs.declared.line.LineCause.{LineCause}
use Rattle.scenario_file.specs.declared.line.LineCause.TheVariants as cause
use Rattle.run_laws.specs.declared.report.CallLine.{CallLine}
use Rattle.run_laws.specs.declared.report.CallResult.{CallResult}
use Rattle.run_laws.specs.declared.report.CallResult.TheVariants as result
use Rattle.run_laws.specs.declared.report.ServedLine.{ServedLine}
use Rattle.run_laws.specs.declared.report.MixedOutcome.{MixedOutcome}
use Rattle.run_laws.specs.declared.report.MixedOutcome.TheVariants.{Done, Refused, Fault, Closed, Gone}
use Rattle.run_laws.specs.Report.{Report}

-- how a session with a hostile domain ended
abbrev pub outcome_word : MixedOutcome → List ℕ
outcome_word (Done code) = codes "done:" ++ signed_decimal code
outcome_word Refused = codes "refused"
outcome_word Fault = codes "fault"
outcome_word Closed = codes "closed"
outcome_word Gone = codes "gone"

-- why a call was refused
abbrev pub cause_word : LineCause → List ℕ
cause_word cause.NoDomain = codes "no-domain"
cause_word cause.SameDomain = codes "same-domain"
cause_word cause.NoService = codes "no-service"

-- what came of a call; bytes are in lower case hexadecimal, and none are `-`
abbrev pub result_words : CallResult → List (List ℕ)
result_words (result.Done code stdout stderr page) = codes "done" ∷ signed_decimal code ∷ shown_bytes stdout ∷ shown_bytes stderr ∷ []
result_words (result.Refused cause) = codes "refused" ∷ cause_word cause ∷ []
result_words (result.Mixed outcome got) = codes "mixed" ∷ outcome_word outcome ∷ shown_bytes got ∷ []

-- the line of a call
abbrev pub call_line : CallLine → List ℕ
call_line l = codes "call" ++ (spaced (decimal l.number ∷ l.from ∷ l.to ∷ l.service ∷ result_words l.result) ++ 10 ∷ [])

-- the line of a session with a hostile caller
abbrev pub served_line : ServedLine → List ℕ
served_line l = codes "served" ++ (spaced (l.from ∷ l.to ∷ decimal l.port ∷ outcome_word l.outcome ∷ shown_bytes l.got ∷ []) ++ 10 ∷ [])

-- the line of a name and a number
abbrev pub sum_line : List ℕ → List ℕ → List ℕ
sum_line name number = name ++ (spaced (number ∷ []) ++ 10 ∷ [])

-- the text of a report: its lines, and the number of calls
abbrev pub text_of : Report → List ℕ
text_of r = flat_map call_line r.calls ++ (flat_map served_line r.served ++ sum_line (codes "calls") (decimal (length r.calls)))
