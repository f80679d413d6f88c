use Rattle.std.proofs.Common.{◌∙◌, ◌+◌, arith}
use Rattle.task_duties.specs.declared.place.PagePlace.TheVariants.{Control}
use Rattle.run_pages.proofs.NumberLaws.{map_more}
use Rattle.run_pages.proofs.places.push_controls.Goals as goal

pub loop-index-preserved : goal.loop-index-preserved
loop-index-preserved c = c.in_ok-push.ensures.items ∙ map_more Control 1 1 c.loop-index.index (c.loop-index.index + 1) c.args.places.now.items c.loop-index.places.items (omega arith) c.loop-index.invariant
