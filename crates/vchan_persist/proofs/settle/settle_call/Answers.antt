-- Between honest ends a call is done.
use Rattle.std.specs.Int.{w32}
use Rattle.std.proofs.lemmas.Int.{to_z-of_z}
use Rattle.vchan_rule.specs.Seated.{last_view}
use Rattle.vchan_persist.proofs.EpochLaws.{call_comes, no_other, served}
use Rattle.vchan_persist.proofs.settle.settle_call.Goals as goal

pub unreachable-requires : goal.unreachable-requires
unreachable-requires c =
    let given = c.requires in
    no_other given.0 given.1 c.args.caller.done (last_view c.args.server.retired)
    (served given.0 given.1 given.2 c.args.page c.args.caller c.args.server c.settle_page-settled.result given.3 given.4 given.5 c.settle_page-settled.ensures) c.in_default.not-Done

pub returns : goal.returns
returns c = call_comes c.args.page c.args.caller c.args.server c.settle_page-settled.result c.in-Done.code _ c.settle_page-settled.ensures c.in-Done.is (λ fits. to_z-of_z w32 c.in-Done.code fits)
