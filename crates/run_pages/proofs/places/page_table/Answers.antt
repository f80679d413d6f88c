use Rattle.std.proofs.Common.{◌∙◌, ◌+◌, [], map, arith}
use Rattle.run_laws.specs.Laid.{all_domains, pages_between}
use Rattle.run_pages.proofs.NumberLaws.{flat_more}
use Rattle.run_pages.proofs.places.page_table.Goals as goal

pub loop-index-preserved : goal.loop-index-preserved
loop-index-preserved c = c.in_ok-push_row.ensures
    ∙ flat_more (λ from. map (pages_between c.args.scenario.now from) (all_domains c.args.scenario.now)) 1 1 c.loop-index.index (c.loop-index.index + 1) [] c.loop-index.table.items (omega arith) c.loop-index.invariant
