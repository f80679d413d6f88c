use Rattle.std.proofs.Common.{◌≡◌, ◌++◌, map}
use Rattle.std.specs.Vec.Iter.{into_iter_items}
use Rattle.std.specs.List.{AllByRecursion as Each}
use Rattle.domain_task.specs.declared.done.TaskDone.{TaskDone}
use Rattle.domain_task.specs.Owes.{answer_of}
use Rattle.task_duties.specs.GivenEnds.{all_retired}
use Rattle.task_duties.specs.TaskOwes.{IsReport}
use Rattle.run_laws.specs.Results.{ends_of}
use Rattle.scenario_run.specs.Parts.{report_of}
use Rattle.scenario_run.proofs.answers.take_apart.Given as goal

abbrev pub invariant-loop-done : goal.invariant-loop-done
invariant-loop-done l = record {
  can_next : (goal.iterator-loop-done).can_next l.done-iterator;
  is_finite : (goal.iterator-loop-done).is_finite l.done-iterator;
  ends : map (λ ends. all_retired ends.items) l.answers.ends.items ++ map (λ done. ends_of (answer_of done)) (into_iter_items l.done-iterator) ≡ map (λ done. ends_of (answer_of done)) l.fn.dones.items;
  reports : l.answers.reports.items ++ map (λ done. report_of (answer_of done)) (into_iter_items l.done-iterator) ≡ map (λ done. report_of (answer_of done)) l.fn.dones.items;
  done : Each (λ (done : TaskDone). IsReport (answer_of done)) (into_iter_items l.done-iterator) → Each (λ (done : TaskDone). IsReport (answer_of done)) l.fn.dones.items;
}
