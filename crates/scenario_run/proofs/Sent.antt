-- A task of a run may go from thread to thread, and so may the ends of which it is made.
use denote.Param.Send.{IsSend, sendable, view_send}
use denote.Param.SendFields.{FieldsHave, declared_send, variants_send}
use Rattle.std.proofs.Crossing.{crosses}
use Rattle.std.proofs.alloc.Global.TheSendSync as heap
use Rattle.std.proofs.sync.atomic.AtomicBool.TheSendSync as flag
use Rattle.scenario_file.proofs.scenario.Scenario.TheSendSync as scenario
use Rattle.vchan_rule.proofs.Sent.{end_send}
use Rattle.run_pages.specs.contracts.deal.Hand as hand
use Rattle.domain_task.proofs.Sent.{data_end_send, retired_end_send, task_send}
use Rattle.scenario_run.specs.contracts.run_task.TaskStage as stage
use Rattle.scenario_run.specs.contracts.run_task.RunTask as run_task
use Rattle.scenario_run.specs.contracts.run_task.RunTask.TheInside as inside

hand_send : (κ : _) → IsSend (hand.the_row κ)
hand_send κ = declared_send (hand.the_type κ) (end_send κ, (search (sendable, crosses, data_end_send) depth 20, tt))

stage_send : (κ : _) → IsSend (stage.the_row κ)
stage_send κ = variants_send (stage.enum κ) ((search (sendable, crosses, end_send) depth 20, (search (sendable, crosses, retired_end_send) depth 20, tt)), ((search sendable, (hand_send κ, (search (sendable, crosses, retired_end_send) depth 20, tt))), ((task_send κ, tt), tt)))

pub run_task_send : (κ ν : _) → IsSend (run_task.the_row κ ν)
run_task_send κ ν =
    let fields : FieldsHave IsSend (inside.the_type κ ν).parts = (heap.the_send, (search (sendable, scenario.the_sync), (search (sendable, flag.the_sync), (stage_send κ, tt)))) in
    view_send (inside.the_row κ ν) _ _ _ _ (declared_send (inside.the_type κ ν) fields)
