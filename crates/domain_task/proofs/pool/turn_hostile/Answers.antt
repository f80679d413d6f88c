-- A hostile domain that goes on was given the same, and one that is done gives what it owes.
use Rattle.task_duties.specs.TaskOwes.{Hostile}
use Rattle.domain_task.proofs.pool.turn_hostile.Goals as goal

pub returns-in-Again-clause-pays : goal.returns-in-Again-clause-pays
returns-in-Again-clause-pays c = λ i. Hostile (c.in-Again.ensures.plan i) (c.in-Again.ensures.ends i)

pub returns-in-Done-clause-pays : goal.returns-in-Done-clause-pays
returns-in-Done-clause-pays c = c.in-Done.ensures.1
