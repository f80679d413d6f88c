use Rattle.std.proofs.Common.{refl, arith}
use Rattle.broker_task.proofs.PostLaws.{at_item}
use Rattle.broker_task.proofs.RoundSteps.{let_go_none, let_go_next, let_go_all}
use Rattle.broker_task.proofs.round.release_target.Goals as goal

pub loop-daemon-init : goal.loop-daemon-init
loop-daemon-init c = let_go_none c.args.target c.args.daemons.now

pub loop-daemon-preserved : goal.loop-daemon-preserved
loop-daemon-preserved c =
    let_go_next c.args.target c.loop-daemon.daemon-index c.args.daemons.now c.loop-daemon.daemons _ _ c.loop-daemon.invariant
    (at_item c.loop-daemon.daemons c.loop-daemon.daemon-index c.daemon-item.result (omega arith) c.daemon-item.is)
    (record { port = refl; domain = refl; awaited = refl; counted = refl; letters = c.release_target.ensures })

pub returns : goal.returns
returns c = let_go_all c.args.target c.loop-daemon.daemon-index c.args.daemons.now c.loop-daemon.daemons c.loop-daemon.invariant (omega arith)
