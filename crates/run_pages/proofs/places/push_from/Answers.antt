use Rattle.std.proofs.Common.{◌∙◌, ◌+◌, ◌++◌, ap, map, arith}
use Rattle.run_laws.specs.Laid.{laid_between}
use Rattle.call_broker.specs.Domains.{first_port}
use Rattle.task_duties.specs.Places.{numbers}
use Rattle.task_duties.specs.declared.place.PagePlace.TheVariants.{Payload}
use Rattle.run_pages.proofs.NumberLaws.{flat_more}
use Rattle.run_pages.proofs.places.push_from.Goals as goal

pub loop-index-preserved : goal.loop-index-preserved
loop-index-preserved c = c.in_ok-push_between.ensures
    ∙ ap (λ count. c.loop-index.places.items ++ map (Payload c.args.from (c.loop-index.index + 1)) (numbers (first_port c.args.from (c.loop-index.index + 1)) 2 count)) c.pages_between-count.ensures.pages
    ∙ flat_more (laid_between c.args.scenario.now c.args.from) 1 1 c.loop-index.index (c.loop-index.index + 1) c.args.places.now.items c.loop-index.places.items (omega arith) c.loop-index.invariant
