use Rattle.std.proofs.Common.{◌≡◌, ◌∙◌, sym, ap, refl}
use Rattle.call_broker.specs.declared.decision.Entry.{Entry}
use Rattle.std.specs.Prelude.{List}
use Rattle.qrexec_data.specs.declared.outcome.Outcome.TheVariants as outcome
use Rattle.qrexec_data.proofs.RepliesLaws.{if_true, if_false}
use Rattle.scenario_file.specs.Scenario.{Plan as Scenario, is_mixed}
use Rattle.scenario_file.specs.declared.scenario.CallPlan.{CallPlan}
use Rattle.task_duties.specs.declared.done.CallEnd.{CallEnd}
use Rattle.task_duties.specs.declared.done.CallEnd.TheVariants.{Session, Refused, Unanswered}
use Rattle.run_laws.specs.Laid.{laid}
use Rattle.run_laws.specs.Run.{Run}
use Rattle.run_laws.specs.ReadOff.{end_of_call, mixed_end, plain_end, result_of}
use Rattle.scenario_run.specs.Lines.{plain_result}
use Rattle.scenario_run.proofs.lines.call_line.Goals as goal
use Rattle.scenario_run.proofs.lines.call_line.Goals.{then-is_mixed, else-is_mixed+in_ok-result}

-- what comes of a call, read off the pages of the run
same_end : (s : Scenario) (run : Run) (call : CallPlan) (end : CallEnd) → plain_result (laid s) run.journal call end ≡ plain_end s run call end
same_end s run call (Session port to (outcome.Done code) stdout stderr got) = refl
same_end s run call _ = refl

pub returns : goal.returns
returns c = λ run journal end.
    let s = c.args.scenario.now in
    let call = c.args.call.now in
    let over = end_of_call run call in
    let result : c.if-is_mixed.result ≡ result_of s run call = elim c.if-is_mixed.branch [
      | then-is_mixed w ↦ w.result-is ∙ (w.mixed_result-result.ensures ∙ (ap mixed_end end ∙ sym (if_true (is_mixed s call) (mixed_end over) (plain_end s run call over) (sym c.is_mixed.ensures ∙ w.if-is_mixed.true))))
      | else-is_mixed+in_ok-result w ↦ w.result-is ∙ (w.in_ok-result.ensures (laid s) c.requires.pages
          ∙ (ap (λ (j : List Entry). plain_result (laid s) j call c.args.end) (sym journal) ∙ (ap (λ (e : CallEnd). plain_result (laid s) run.journal call e) end
          ∙ (same_end s run call over ∙ sym (if_false (is_mixed s call) (mixed_end over) (plain_end s run call over) (sym c.is_mixed.ensures ∙ w.if-is_mixed.false))))))
    ] in
    λ i. record { number = call.number; from = c.in_ok-name_of.ensures i; to = c.in_ok-clone.ensures.cases i; service = c.in_ok-clone-2.ensures.cases i; result = result i }
