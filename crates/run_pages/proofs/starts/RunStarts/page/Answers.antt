use Rattle.std.proofs.Common.{◌∙◌, ap, sym}
use Rattle.run_laws.specs.Laid.{orders_of}
use Rattle.run_pages.specs.Pages.{is_offered}
use Rattle.run_pages.proofs.starts.RunStarts.page.Goals as goal

pub returns-in-Control : goal.returns-in-Control
returns-in-Control c = λ starts.
    let s = c.args.scenario.now in
    c.laid.ensures s (ap (is_offered s) c.in-Control.is) (starts.control.0 ∙ sym (ap (orders_of s) c.in-Control.is)) starts.control.1
