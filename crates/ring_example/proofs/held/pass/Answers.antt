use Rattle.std.proofs.Common.{subst}
use Rattle.ring_words.specs.declared.page.Role.TheVariants.{Client}
use Rattle.vchan_rule.specs.Seated.{PageView}
use Rattle.ring_example.specs.Sides.{HasReceived}
use Rattle.ring_example.proofs.SideLaws.{passed}
use Rattle.ring_example.proofs.held.pass.Goals as goal
use Rattle.vchan_lifecycle.specs.Ended.{IsEndOf}

pub returns : goal.returns
returns g c = passed c.in_ok-page.page c.join-client.result.1 c.join-client.result.0 c.settle-settled.result c.settle-settled.ensures
    (subst (λ (p : PageView). HasReceived p c.join-client.result.1) c.in_ok-server_hold.ensures c.join-client.ensures.second)
    (subst (λ (p : PageView). IsEndOf p.table Client c.join-client.result.0) c.in_ok-client_hold.ensures c.join-client.ensures.first) c.promise.ensures
