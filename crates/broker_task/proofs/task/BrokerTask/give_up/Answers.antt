use Rattle.std.proofs.Common.{ap, subst}
use Rattle.task_duties.specs.TaskOwes.{NoMemory, TaskGiven, TaskOwes}
use Rattle.task_duties.specs.GivenEnds.{all_retired}
use Rattle.broker_task.specs.Given.{task_given}
use Rattle.broker_task.proofs.DoneLaws.{idle_list}
use Rattle.broker_task.proofs.KeepingSteps.{given_up}
use Rattle.broker_task.proofs.task.BrokerTask.give_up.Goals as goal

pub give_up-requires-clause-idle : goal.give_up-requires-clause-idle
give_up-requires-clause-idle c = idle_list c.self.inside.switchboard.daemons.items (λ i x at. (c.self.invariant.0.posting.lines i x at).idle)

pub returns : goal.returns
returns c =
    let s = c.self.inside.switchboard in
    subst (λ (given : TaskGiven). TaskOwes given (NoMemory (all_retired c.give_up.result.items))) (ap task_given c.self.view_is)
    (given_up s.daemons.items c.give_up.result.items c.self.invariant.0.posting.lines c.give_up.ensures)
