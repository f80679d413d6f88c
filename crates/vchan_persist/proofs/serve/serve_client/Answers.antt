-- The two tasks hand back what an epoch comes to.
use Rattle.std.proofs.Common.{IfOk, subst}
use denote.Param.Send.{sendable}
use Rattle.vchan_rule.specs.Seated.{PageStart}
use Rattle.vchan_persist.specs.declared.settle.Epoch.{Epoch}
use Rattle.vchan_persist.specs.Settling.{ComesTo}
use Rattle.vchan_persist.proofs.EpochLaws.{handed_back}
use Rattle.vchan_persist.proofs.Sent.{task_send}
use Rattle.vchan_persist.proofs.serve.serve_client.Goals as goal

pub run_pool-requires-send-T : goal.run_pool-requires-send-T
run_pool-requires-send-T g c κs within = search (sendable, task_send)

pub settle-requires : goal.settle-requires
settle-requires g c =
    let named = c.requires.named in
    (named.0, c.args.client, c.args.service, named.1, handed_back c.in_ok-page.page.table c.args.client c.args.service c.in_ok-tasks.tasks.items c.in_ok-dones.dones.items c.in_ok-tasks.ensures c.in_ok-dones.ensures)

pub returns : goal.returns
returns g c =
    subst (λ (words : PageStart). IfOk c.settle.result (λ (e : Epoch). ComesTo words c.args.client c.args.service e.result e.settled)) (λ i. record { orders = c.in_ok-page.ensures.0 i; start = c.in_ok-page.ensures.1 i })
    (c.settle.ensures c.args.client c.args.service (handed_back c.in_ok-page.page.table c.args.client c.args.service c.in_ok-tasks.tasks.items c.in_ok-dones.dones.items c.in_ok-tasks.ensures c.in_ok-dones.ensures))
