use Rattle.std.proofs.Common.{◌≡◌, ℕ, List, map, string_bytes, Some, Ok, ap, sym, subst, ◌∙◌, rules}
use Rattle.scenario_file.specs.Scenario.{written}
use Rattle.scenario_file.specs.Tables.{scenario_of}
use Rattle.vchan_top.specs.declared.command.Command.TheVariants.{Run}
use Rattle.vchan_top.specs.Command.{command_of}
use Rattle.vchan_top.specs.EndOfRun.{EndOfRun}
use Rattle.tests_program.specs.RowRings.{HasRowRings}
use Rattle.tests_program.proofs.RowLaws.{pages_of_row}
use Rattle.tests_program.proofs.unusual_rings.report_of_row.Goals as goal

pub returns-in-Some : goal.returns-in-Some
returns-in-Some g c =
    let s = c.in_ok-scenario.scenario in
    let command : command_of (map string_bytes c.as_slice-3.result.now) ≡ Some (Run c.in-Some-Run.field-0-0) = cc in
    let whole : c.as_slice.result.now ≡ c.new-source.result.left = cc in
    let reads : scenario_of c.new-source.result.left ≡ Ok (written s) =
    subst (λ (bytes : List ℕ). scenario_of bytes ≡ Ok (written s)) whole c.in_ok-scenario.ensures.scenario in
    let rings : HasRowRings (written s) = c.has_row_rings.ensures (search rules) in
    let shown : c.top.result.report ≡ Some c.in-Some.report = ap (λ (e : EndOfRun). e.report) (sym c.report.view_is) ∙ c.in-Some.is in
    pages_of_row _ _ _ s _ _ _ _ _ _ _ c.top.result c.in-Some.report command reads rings c.top.ensures.run shown
