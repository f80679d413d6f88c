use Rattle.std.proofs.Common.{◌∙◌, ◌+◌, ◌++◌, ◌∷◌, [], ap, arith}
use Rattle.run_laws.specs.Laid.{pages_between}
use Rattle.run_pages.proofs.NumberLaws.{map_more}
use Rattle.run_pages.proofs.places.push_row.Goals as goal

pub loop-index-preserved : goal.loop-index-preserved
loop-index-preserved c = c.in_ok-push.ensures.items ∙ ap (λ n. c.loop-index.table.items ++ n ∷ []) c.pages_between.ensures.pages
    ∙ map_more (pages_between c.args.scenario.now c.args.from) 1 1 c.loop-index.index (c.loop-index.index + 1) c.args.table.now.items c.loop-index.table.items (omega arith) c.loop-index.invariant
