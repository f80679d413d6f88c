use Rattle.std.proofs.Common.{◌∙◌}
use Rattle.std.proofs.lemmas.Result.{err_from_is_err_and}
use Rattle.toml.specs.View.{table_view}
use Rattle.scenario_file.specs.Tables.{scenario_in}
use Rattle.scenario_file.proofs.FileLaws.{document_refused, scenario_where, told_refusal}
use Rattle.scenario_file.proofs.file.read.Goals as goal

pub returns-in_err-table-clause-bad : goal.returns-in_err-table-clause-bad
returns-in_err-table-clause-bad c =
    let p = err_from_is_err_and c.from_residual.result c.from_residual.ensures.1 in
    rw (p.1, p.2) (document_refused _ c.args.bytes.now c.in_err-table.ensures.bad)

pub returns-in-Ok-clause-scenario : goal.returns-in-Ok-clause-scenario
returns-in-Ok-clause-scenario c = scenario_where c.args.bytes.now (table_view c.in_ok-table.table) c.in_ok-table.ensures.table ∙ c.in-Ok.ensures

pub returns-clause-bad : goal.returns-clause-bad
returns-clause-bad c =
    let here = scenario_where c.args.bytes.now (table_view c.in_ok-table.table) c.in_ok-table.ensures.table in
    rw here (told_refusal c.told.result c.in-Err.refusal (scenario_in (table_view c.in_ok-table.table)) c.told.ensures c.in-Err.ensures)
