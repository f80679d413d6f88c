use Rattle.std.proofs.Common.{refl, ◌∙◌, sym}
use Rattle.run_pages.proofs.starts.RunStarts.laid.Goals as goal

pub returns : goal.returns
returns c = λ s when orders start. record {
  at = refl;
  laid = record { orders = c.in_ok-page.ensures.0 ∙ orders; start = c.in_ok-page.ensures.1 ∙ start; when = sym when };
  seated = (refl, c.in_ok-page.ensures.2, c.in_ok-page.ensures.3);
}
