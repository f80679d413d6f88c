-- A run of a scenario has the rings that its file says on each page.
use Rattle.std.proofs.Common.{◌≡◌, ℕ, List, [], ◌∷◌, Option, Some, None, Ok, ap, subst, ◌∙◌}
use Rattle.std.specs.List.{AllByRecursion as Each}
use Rattle.vchan_io.proofs.Streaming.{Takes_all}
use Rattle.end_view.specs.Settled.{Settled}
use Rattle.scenario_file.specs.Scenario.{Plan as Scenario, written, order_numbers}
use Rattle.scenario_file.specs.Tables.{scenario_of}
use Rattle.task_duties.specs.declared.place.PagePlace.{PagePlace}
use Rattle.task_duties.specs.declared.place.PagePlace.TheVariants.{Control, Payload}
use Rattle.run_laws.specs.Laid.{BeganAsSaid, orders_of}
use Rattle.run_laws.specs.Report.{Report, SettledPage}
use Rattle.vchan_top.specs.declared.command.Command.{Command}
use Rattle.vchan_top.specs.declared.command.Command.TheVariants.{Run}
use Rattle.vchan_top.specs.declared.status.Status.{Status}
use Rattle.vchan_top.specs.declared.status.Status.TheVariants.{Done, BadWords, ReadFault, TooLong, BadInput, WriteFault, OutOfMemory}
use Rattle.vchan_top.specs.Command.{command_of, words_read}
use Rattle.vchan_top.specs.EndOfRun.{EndOfRun}
use Rattle.vchan_top.specs.Prints.{Prints, PrintsReport}
use Rattle.tests_program.specs.RowRings.{HasRowRings, IsOfRow, row_orders}
use Rattle.vchan_top.specs.Top.{Ends, IsReadBy, IsRun, PrintedBy}

-- ---- the pages of a lawful report

orders_are : (s : Scenario) (place : PagePlace) → HasRowRings (written s) → order_numbers (orders_of s place) ≡ row_orders place
orders_are s (Control d) rings = rings.control
orders_are s (Payload from to port) rings = rings.payload

each_is : (s : Scenario) (pages : List SettledPage) → HasRowRings (written s) → Each (λ p. BeganAsSaid s p.place p.settled) pages → Each IsOfRow pages
each_is s [] rings begun = tt
each_is s (p ∷ pages) rings begun =
    (record { orders = ap order_numbers begun.0.orders ∙ orders_are s p.place rings; start = begun.0.start ∙ rings.start }, each_is s pages rings begun.1)

-- ---- what a run that shows a report has printed

run_prints : (workers : ℕ) (input text : List ℕ) (report : Report) (pages : List Settled) → Prints (Run workers) input text (Some report) pages → PrintsReport input text report
run_prints workers input text report [] prints = prints
run_prints workers input text report (page ∷ pages) prints = absurd prints

record HasShown (words : List (List ℕ)) (taken : List ℕ) (left' : Option (List ℕ)) (report : Report) : Type 0 where
  read : IsReadBy words left'
  text : List ℕ
  pages : List Settled
  printed : PrintedBy words taken text (Some report) pages

nothing_shown : {A : Type 0} (report : Report) (shown : Option Report) → shown ≡ Some report → shown ≡ None → A
nothing_shown report shown is none = cc

has_shown : (status : Status) (words : List (List ℕ)) (taken : List ℕ) (left' : Option (List ℕ)) (reads reads' : ℕ) (held held' : Option (List ℕ)) (writes writes' : ℕ) (end : EndOfRun) (report : Report) →
    end.report ≡ Some report → Ends status words taken left' reads reads' held held' writes writes' end → HasShown words taken left' report
has_shown Done words taken left' reads reads' held held' writes writes' end report is ends = record {
  read = ends.0;
  text = ends.1.0;
  pages = end.settled;
  printed = subst (λ (shown : Option Report). PrintedBy words taken ends.1.0 shown end.settled) is ends.1.1;
}
has_shown WriteFault words taken left' reads reads' held held' writes writes' end report is ends = record {
  read = ends.0;
  text = ends.3.0;
  pages = ends.3.1.0;
  printed = subst (λ (shown : Option Report). PrintedBy words taken ends.3.0 shown ends.3.1.0) is ends.3.1.1;
}
has_shown BadWords words taken left' reads reads' held held' writes writes' end report is ends = nothing_shown report end.report is ends.1
has_shown ReadFault words taken left' reads reads' held held' writes writes' end report is ends = nothing_shown report end.report is ends.2.1
has_shown TooLong words taken left' reads reads' held held' writes writes' end report is ends = nothing_shown report end.report is ends.1
has_shown (BadInput wrong) words taken left' reads reads' held held' writes writes' end report is ends = nothing_shown report end.report is ends.2.1
has_shown OutOfMemory words taken left' reads reads' held held' writes writes' end report is ends = nothing_shown report end.report is ends.1

-- ---- the whole

-- what was taken is the whole file, so the report is that of the scenario in it
pub pages_of_row : (words : List (List ℕ)) (workers : ℕ) (file : List ℕ) (s : Scenario) (left' : Option (List ℕ)) (reads reads' : ℕ) (held held' : Option (List ℕ)) (writes writes' : ℕ) (end : EndOfRun) (report : Report) →
    command_of words ≡ Some (Run workers) → scenario_of file ≡ Ok (written s) → HasRowRings (written s) →
    IsRun words (Some file) left' reads reads' held held' writes writes' end → end.report ≡ Some report → Each IsOfRow report.pages
pages_of_row words workers file s left' reads reads' held held' writes writes' end report command reads_file rings run is =
    let shown : HasShown words run.taken left' report = has_shown end.status words run.taken left' reads reads' held held' writes writes' end report is run.ends in
    let same : shown.printed.0 ≡ Run workers = cc in
    let prints : PrintsReport run.taken shown.text report =
    run_prints workers run.taken shown.text report shown.pages (subst (λ (c : Command). Prints c run.taken shown.text (Some report) shown.pages) same shown.printed.2) in
    let whole : run.taken ≡ file = Takes_all (Some file) left' run.taken run.takes (shown.read (ap words_read command)) in
    let one : scenario_of file ≡ Ok (written prints.scenario) = subst (λ (bytes : List ℕ). scenario_of bytes ≡ Ok (written prints.scenario)) whole prints.reads in
    let seen : written s ≡ written prints.scenario = cc in
    each_is prints.scenario report.pages (subst HasRowRings seen rings) prints.lawful.begun
