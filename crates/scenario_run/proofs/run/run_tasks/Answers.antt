use Rattle.std.proofs.Common.{Result, Ok, Err, IfOk, arith}
use denote.Param.Send.{sendable}
use Rattle.domain_task.proofs.Sent.{task_done_send}
use Rattle.scenario_run.proofs.Sent.{run_task_send}
use Rattle.scenario_run.proofs.run.run_tasks.Goals as goal

if_ok : {T E : Type 0} (r : Result T E) (P Q : T → Type 0) → ((x : T) → P x → Q x) → IfOk r P → IfOk r Q
if_ok (Ok x) P Q f p = f x p
if_ok (Err e) P Q f p = tt

pub run_pool-requires-send-T : goal.run_pool-requires-send-T
run_pool-requires-send-T g c κs within = search (sendable, run_task_send)

pub run_pool-requires-send-T-Done : goal.run_pool-requires-send-T-Done
run_pool-requires-send-T-Done g c κs within = search (sendable, task_done_send)

pub run_pool-requires-clause-few_tasks : goal.run_pool-requires-clause-few_tasks
run_pool-requires-clause-few_tasks g c κs within = let few = c.in_ok-tasks.ensures.few in let count = c.in_ok-tasks.tasks.ok in omega arith

pub returns : goal.returns
returns g c = if_ok c.run_pool.result _ _ (λ dones owes. c.in_ok-tasks.ensures.answers dones.items owes) c.run_pool.ensures
