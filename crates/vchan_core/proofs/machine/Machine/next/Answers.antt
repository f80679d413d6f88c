use Rattle.std.proofs.Common.{◌∙◌, ap, sym}
use Rattle.vchan_protocol.specs.Table.Plan.{next_op}
use Rattle.vchan_protocol.proofs.Table.PlanLaws.{rest_after_Leads}
use Rattle.vchan_core.proofs.machine.Machine.next.Goals as goal

pub returns-clause-trail : goal.returns-clause-trail
returns-clause-trail c =
    λ begun call events stood. c.next_event.ensures.op ∙ ap next_op (sym (rest_after_Leads _ events _ stood))
