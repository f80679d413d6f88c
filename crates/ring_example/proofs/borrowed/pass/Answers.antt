use Rattle.ring_example.proofs.SideLaws.{passed}
use Rattle.ring_example.proofs.borrowed.pass.Goals as goal

pub returns : goal.returns
returns g c = passed c.in_ok-page.page c.join-client.result.1 c.join-client.result.0 c.finish-settled.result c.finish-settled.ensures c.join-client.ensures.second c.join-client.ensures.first c.promise.ensures
