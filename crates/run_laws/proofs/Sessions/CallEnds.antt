-- The end that the report of an honest caller gives of a call, with the message that it comes from.
use Rattle.std.proofs.Common.{◌≡◌, ◌≢◌, ℕ, List, [], ◌∷◌, refl, ap, sym, ◌∙◌, arith, ◌⊎◌, inl, inr, subst}
use Rattle.std.specs.Prelude.{true, false, Bool, ◌==◌, if◌then◌else◌}
use Rattle.std.proofs.lemmas.Bool.Decides.{nat_tests}
use Rattle.std.specs.List.{AllByRecursion as Each, AllZip as EachPair}
use Rattle.qrexec_frame.specs.declared.message.Message.{Message}
use Rattle.end_view.specs.EndView.{EndView}
use Rattle.scenario_file.specs.Scenario.{Plan as Scenario}
use Rattle.scenario_file.specs.declared.scenario.CallPlan.{CallPlan}
use Rattle.task_duties.specs.declared.place.PagePlace.{PagePlace}
use Rattle.task_duties.specs.Agent.Given.{AgentPlan}
use Rattle.task_duties.specs.Words.{ident_of}
use Rattle.task_duties.specs.Agent.Answers.{Answer, Asked}
use Rattle.task_duties.specs.declared.done.CallDone.{CallDone}
use Rattle.task_duties.specs.declared.done.CallEnd.{CallEnd}
use Rattle.task_duties.specs.declared.done.CallEnd.TheVariants.{Unanswered}
use Rattle.task_duties.specs.Agent.Owes.{ReportsCall, ReportsAnswer}
use Rattle.task_duties.proofs.Elements.{Has, one_key}
use Rattle.run_laws.specs.Laid.{calls_from, agent_plan}
use Rattle.run_laws.specs.Run.{Run, IsRun, IsHonest, end_of}
use Rattle.run_laws.specs.Laws.{agent_heard}
use Rattle.run_laws.specs.ReadOff.{end_in}
use Rattle.run_laws.proofs.Scenarios.Calls.{calls_differ}
use Rattle.run_laws.proofs.Sessions.CallLaw.{AreHeard, IsHeard, all_heard}
use Rattle.run_laws.proofs.Domains.ControlLaws.{own_end}
use Rattle.run_laws.proofs.Domains.AnswersAllLaw.{answers_all}
use Rattle.run_laws.proofs.Scenarios.Facts.{facts}

pub record Found (heard : List Message) (plan : AgentPlan) (end : PagePlace → EndView) (calls : List CallPlan) (number : ℕ) (e : CallEnd) : Type 0 where
  pub call : CallPlan
  pub there : Has calls call
  pub numbered : call.number ≡ number
  pub answer : Answer
  pub heard_is : IsHeard heard call answer
  pub reports : ReportsAnswer plan end call answer e
  pub answered : e ≢ Unanswered

later : (heard : List Message) (plan : AgentPlan) (end : PagePlace → EndView) (c : CallPlan) (calls : List CallPlan) (number : ℕ) (e : CallEnd) → Found heard plan end calls number e → Found heard plan end (c ∷ calls) number e
later heard plan end c calls number e f = record { call = f.call; there = inr f.there; numbered = f.numbered; answer = f.answer; heard_is = f.heard_is; reports = f.reports; answered = f.answered }

found : (heard : List Message) (plan : AgentPlan) (end : PagePlace → EndView) (calls : List CallPlan) (asked : List Asked) (done : List CallDone) → AreHeard heard calls asked → EachPair (ReportsCall plan end) asked done
    → Each (λ c. c.end ≢ Unanswered) done → (call : CallPlan) → Has calls call → Found heard plan end calls call.number (end_in done call.number)
found heard plan end [] asked done are reports answered call there = absurd there
found heard plan end (c ∷ calls) [] done are reports answered call there = absurd are
found heard plan end (c ∷ calls) (a ∷ asked) [] are reports answered call there = absurd reports
found heard plan end (c ∷ calls) (a ∷ asked) (d ∷ done) are reports answered call there =
    by_test (d.number == call.number) refl there (λ k. found heard plan end calls asked done are.1 reports.1 answered.1 call k)
  where
    number_is : d.number ≡ c.number
    number_is = reports.0.0 ∙ ap (λ x. x.number) are.0.0

    by_test : (b : Bool) → (d.number == call.number) ≡ b → (c ≡ call) ⊎ Has calls call → (Has calls call → Found heard plan end calls call.number (end_in done call.number))
        → Found heard plan end (c ∷ calls) call.number (if b then d.end else end_in done call.number)
    by_test true is k more = record {
      call = c;
      there = inl refl;
      numbered = sym number_is ∙ (let e : d.number ≡ call.number = grind (arith, nat_tests, is) in e);
      answer = a.answer;
      heard_is = are.0.1;
      reports = subst (λ x. ReportsAnswer plan end x a.answer d.end) are.0.0 reports.0.1;
      answered = answered.0;
    }
    by_test false is (inl here) more =
        let same : d.number ≡ call.number = number_is ∙ ap (λ x. x.number) here in
        let yes' : (d.number == call.number) ≡ true = grind (arith, nat_tests) in
        cc
    by_test false is (inr k) more = later heard plan end c calls call.number _ (more k)

-- what the report of a domain says of its call
pub record IsReported (s : Scenario) (run : Run) (d : ℕ) (call : CallPlan) (e : CallEnd) : Type 0 where
  pub answer : Answer
  pub heard_is : IsHeard (agent_heard s run d) call answer
  pub reports : ReportsAnswer (agent_plan s d) (end_of run d) call answer e
  pub answered : e ≢ Unanswered

pub is_reported : (s : Scenario) (run : Run) (h : IsRun s run) (d : ℕ) → IsHonest s d → (call : CallPlan) → Has (calls_from s d) call → IsReported s run d call (end_in (run.calls d) call.number)
is_reported s run h d honest call planned =
    let agent = h.agent d honest in
    let reports = rw (own_end run d) at agent.reports in
    let f = found (agent_heard s run d) (agent_plan s d) (end_of run d) (calls_from s d) _ (run.calls d) (all_heard s run d (agent_heard s run d)) reports (answers_all s run h d honest).reported call planned in
    let same : f.call ≡ call = one_key (λ c. ident_of c.number) (calls_from s d) (calls_differ s (facts s run h) d) f.call call f.there planned (ap ident_of f.numbered) in
    record {
      answer = f.answer;
      heard_is = subst (λ c. IsHeard (agent_heard s run d) c f.answer) same f.heard_is;
      reports = subst (λ c. ReportsAnswer (agent_plan s d) (end_of run d) c f.answer (end_in (run.calls d) call.number)) same f.reports;
      answered = f.answered;
    }
