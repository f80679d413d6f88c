use denote.Param.Send.{sendable}
use Rattle.std.proofs.Common.{ℕ, List, Result, Ok, Err, IfOk, arith}
use Rattle.vchan_io.specs.declared.faults.Memory.{Memory}
use Rattle.task_pool.specs.declared.rounds.Rounds.{Rounds}
use Rattle.task_pool.specs.declared.rounds.Rounds.TheVariants.{AllDone, WentOn}
use Rattle.task_pool.specs.Rounds.{Comes}
use Rattle.task_pool.proofs.RoundLaws.{all_paid}
use Rattle.scenario_file.specs.Scenario.{Plan as Scenario}
use Rattle.domain_task.specs.declared.done.TaskDone.{TaskDone}
use Rattle.run_pages.specs.Pages.{PageAt}
use Rattle.scenario_run.specs.Alone.{AreDealt, TurnedTo}
use Rattle.scenario_run.specs.Turns.{Owes, RunState, RunTurns}
use Rattle.domain_task.proofs.Sent.{task_done_send}
use Rattle.scenario_run.proofs.Sent.{run_task_send}
use Rattle.scenario_run.proofs.run.turn_tasks.Goals as goal

turned : (s : Scenario) (pages : List PageAt) (count : ℕ) (tasks : List RunState) (result : Result (Rounds TaskDone) Memory) → AreDealt s pages tasks → IfOk result (Comes Owes RunTurns count tasks) → IfOk result (TurnedTo s pages count)
turned s pages count tasks (Ok (AllDone dones)) dealt comes = dealt.answers dones.items (all_paid Owes RunTurns count tasks dones.items comes)
turned s pages count tasks (Ok WentOn) dealt comes = (tasks, dealt.controls, dealt.hands, dealt.of, comes)
turned s pages count tasks (Err fault) dealt comes = tt

pub run_rounds-requires-send-T : goal.run_rounds-requires-send-T
run_rounds-requires-send-T g c κs within = search (sendable, run_task_send)

pub run_rounds-requires-send-T-Done : goal.run_rounds-requires-send-T-Done
run_rounds-requires-send-T-Done g c κs within = search (sendable, task_done_send)

pub run_rounds-requires-clause-few_tasks : goal.run_rounds-requires-clause-few_tasks
run_rounds-requires-clause-few_tasks g c κs within = let few = c.in_ok-tasks.ensures.few in let count = c.in_ok-tasks.tasks.ok in omega arith

pub returns : goal.returns
returns g c = turned c.args.scenario.now c.args.pages.now c.args.rounds c.in_ok-tasks.tasks.items c.run_rounds.result c.in_ok-tasks.ensures c.run_rounds.ensures
