use Rattle.std.proofs.Common.{◌∙◌, ◌+◌, map, arith}
use Rattle.std.specs.List.{flat_map}
use Rattle.task_duties.specs.declared.place.PagePlace.TheVariants.{Control}
use Rattle.run_laws.specs.Laid.{all_domains, laid_between}
use Rattle.run_pages.proofs.NumberLaws.{flat_more}
use Rattle.run_pages.proofs.places.places.Goals as goal

pub loop-index-preserved : goal.loop-index-preserved
loop-index-preserved c = c.in_ok-push_from.ensures
    ∙ flat_more (λ from. flat_map (laid_between c.args.scenario.now from) (all_domains c.args.scenario.now)) 1 1 c.loop-index.index (c.loop-index.index + 1) (map Control (all_domains c.args.scenario.now)) c.loop-index.places.items (omega arith) c.loop-index.invariant
