-- What a run of the program returns, as contracts see it.
use Rattle.std.specs.Prelude.{List, Option}
use Rattle.end_view.specs.Settled.{Settled}
use Rattle.run_laws.specs.Report.{Report}
use Rattle.vchan_top.specs.declared.status.Status.{Status}

-- how it ended, the report of the scenario that was run, if one was, and the pages apart from those of a report
pub record EndOfRun : Type 0 where
  pub status : Status
  pub report : Option Report
  pub settled : List Settled
