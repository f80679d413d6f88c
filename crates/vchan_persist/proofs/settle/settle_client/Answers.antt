use Rattle.vchan_rule.specs.Seated.{words_of}
use Rattle.vchan_persist.proofs.EpochLaws.{by_called}
use Rattle.vchan_persist.proofs.settle.settle_client.Goals as goal

pub returns-in-Called : goal.returns-in-Called
returns-in-Called c = by_called (words_of c.args.page) c.args.page.table c.in-Called.caller c.args.server c.settle_call.result.result c.settle_call.result.settled c.args.client c.in-Called.is c.settle_call.ensures
