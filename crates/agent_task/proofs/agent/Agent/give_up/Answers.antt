use Rattle.std.proofs.Common.{subst}
use Rattle.task_duties.specs.TaskOwes.{EndAt}
use Rattle.task_duties.specs.GivenEnds.{all_retired}
use Rattle.agent_slots.specs.Done.{AreBack}
use Rattle.agent_task.proofs.DoneLaws.{given_back}
use Rattle.agent_task.proofs.agent.Agent.give_up.Goals as goal

pub returns : goal.returns
returns c =
    given_back c.args.self c.retired_port.result (all_retired c.give_up.result.items) c.requires c.retired_port.ensures.page c.retired_port.ensures.role c.retired_port.ensures.honest
    (subst (λ (e : EndAt). AreBack e c.args.self.slots.held (all_retired c.give_up.result.items)) c.control_end-first.ensures c.give_up.ensures)
