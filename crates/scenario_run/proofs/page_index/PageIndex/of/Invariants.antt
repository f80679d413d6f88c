use Rattle.std.proofs.Common.{◌≡◌, map, take}
use Rattle.scenario_run.specs.Index.{AreNumbers}
use Rattle.scenario_run.proofs.page_index.PageIndex.of.Given as goal

abbrev pub invariant-loop-page : goal.invariant-loop-page
invariant-loop-page l = record {
  counted : l.count ≡ l.page-index;
  numbers : AreNumbers (map (λ p. p.place) (take l.page-index l.pages)) l.numbers;
}
