use Rattle.std.proofs.Common.{◌∙◌, ap, subst}
use Rattle.task_duties.specs.TaskOwes.{TaskGiven}
use Rattle.broker_task.specs.Given.{task_given}
use Rattle.task_duties.specs.declared.ends.TaskTurn.TheVariants as turn
use Rattle.broker_task.specs.Turns.{Pays}
use Rattle.broker_task.proofs.KeepingSteps.{given_back}
use Rattle.broker_task.proofs.DoneLaws.{given_on, idle_list}
use Rattle.std.proofs.Common.{List}
use Rattle.broker_task.specs.Moving.{BrokerLine}
use Rattle.broker_task.specs.Given.{BrokerState}
use Rattle.broker_task.specs.Turns.{TurnsEach}
use Rattle.broker_task.proofs.MovingLaws.{turns_each}
use Rattle.broker_task.proofs.task.BrokerTask.turn.Goals as goal

pub returns-in-Ok-clause-pays : goal.returns-in-Ok-clause-pays
returns-in-Ok-clause-pays c =
    subst (λ (given : TaskGiven). Pays given c.after_round.result) (given_on c.self.inside.switchboard c.round.new.self c.in-Ok.ensures.goes ∙ ap task_given c.self.view_is) c.after_round.ensures.pays

pub give_up-ends-requires-clause-idle : goal.give_up-ends-requires-clause-idle
give_up-ends-requires-clause-idle c = idle_list c.round.new.self.daemons.items c.round.ensures.idle

pub returns-clause-pays : goal.returns-clause-pays
returns-clause-pays c =
    let s = c.self.inside.switchboard in
    subst (λ (given : TaskGiven). Pays given (turn.NoMemory c.give_up-ends.result)) (ap task_given c.self.view_is)
    (given_back s.daemons.items c.round.new.self.daemons.items c.give_up-ends.result.items c.self.invariant.0.posting.lines c.round.ensures.kept c.give_up-ends.ensures)

pub returns-in-Ok-clause-turns : goal.returns-in-Ok-clause-turns
returns-in-Ok-clause-turns c =
    subst (λ (lines : List BrokerLine). TurnsEach lines c.after_round.result) (ap (λ (t : BrokerState). t.lines) c.self.view_is)
    (turns_each c.self.inside.switchboard c.round.new.self c.after_round.result c.in-Ok.ensures.turns c.after_round.ensures.lines)
