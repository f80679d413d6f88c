use Rattle.std.proofs.Common.{◌∙◌}
use Rattle.call_broker.specs.Domains.{first_port}
use Rattle.task_duties.specs.declared.place.PagePlace.TheVariants.{Payload}
use Rattle.run_pages.proofs.NumberLaws.{map_more}
use Rattle.run_pages.proofs.places.push_between.Goals as goal

pub loop-call-preserved : goal.loop-call-preserved
loop-call-preserved c = c.in_ok-push.ensures.items
    ∙ map_more (Payload c.args.from c.args.to) (first_port c.args.from c.args.to) 2 c.loop-call.call c.port_after-port.result c.args.places.now.items c.loop-call.places.items c.port_after-port.ensures c.loop-call.invariant
