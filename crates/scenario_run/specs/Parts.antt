-- What a task answers besides its ends.
-- Source: this project's own.
use Rattle.std.specs.Prelude.{List, [], Option, Some, None}
use Rattle.call_broker.specs.Brokered.{Brokered}
use Rattle.call_broker.specs.declared.decision.Entry.{Entry}
use Rattle.task_duties.specs.declared.done.CallDone.{CallDone}
use Rattle.task_duties.specs.declared.done.ServedDone.{ServedDone}
use Rattle.task_duties.specs.TaskOwes.{TaskDone}
use Rattle.run_laws.specs.Results.{calls_of, journal_of, served_of}

-- an agent's calls and what it served, and the broker's journal; other tasks have none of these
pub record ReportPart : Type 0 where
  pub calls : List CallDone
  pub served : List ServedDone
  pub journal : List Entry

-- the report of an answer
abbrev pub report_of : TaskDone → ReportPart
report_of done = record { calls = calls_of done; served = served_of done; journal = journal_of done }

-- the journal of a broker, if there is one
abbrev pub journal_in : Option Brokered → List Entry
journal_in None = []
journal_in (Some broker) = broker.journal
