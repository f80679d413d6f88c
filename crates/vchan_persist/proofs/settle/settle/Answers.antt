-- The two that were handed back come to the epoch.
use Rattle.std.proofs.Common.{sym, subst, ◌∙◌}
use Rattle.vchan_persist.specs.declared.task.SideDone.{SideDone}
use Rattle.vchan_persist.specs.Owes.{ServerHands}
use Rattle.vchan_persist.proofs.EpochLaws.{two_handed}
use Rattle.vchan_persist.proofs.settle.settle.Goals as goal

pub returns : goal.returns
returns c guest service handed =
    let page = c.args.page.table in
    let both = two_handed page guest service c.args.dones.items c.next.new.self.rest.items c.next-2.new.self.rest.items c.in-Some.client c.in-Some-next.server handed
    (sym c.into_iter-dones.ensures.rest ∙ c.in-Some.ensures.cases.0) c.in-Some-next.ensures.cases.0 in
    c.settle_client.ensures guest service both.0 (subst (λ (d : SideDone). ServerHands page service d) c.in_ok-served.ensures both.1)
