use Rattle.std.proofs.Common.{◌∙◌, ◌+◌, ◌++◌, ◌∷◌, [], ap, arith}
use Rattle.run_pages.proofs.NumberLaws.{map_more}
use Rattle.scenario_run.specs.Tasks.{awaited_from}
use Rattle.scenario_run.proofs.tasks.awaited.Goals as goal

pub loop-index-preserved : goal.loop-index-preserved
loop-index-preserved c = c.in_ok-push.ensures.items ∙ ap (λ n. c.loop-index.counts.items ++ n ∷ []) c.count_from.ensures
    ∙ map_more (awaited_from c.args.scenario.now) 1 1 c.loop-index.index (c.loop-index.index + 1) [] c.loop-index.counts.items (omega arith) c.loop-index.invariant
