-- What the tasks report of the calls and of what was served, in the form that the lines of a report need.
use Rattle.std.proofs.Common.{◌≡◌, ◌≢◌, inl, inr, ℕ, zero, suc, ◌+◌, ◌<◌, ◌≤◌, List, [], ◌∷◌, map, length, refl, ap, sym, ◌∙◌, subst, arith, Some}
use Rattle.std.specs.Prelude.{◌==◌, Bool, true, false, filter, is_some, slice_get}
use Rattle.std.proofs.lemmas.Bool.{false≢true}
use Rattle.std.proofs.lemmas.Bool.Decides.{nat_tests}
use Rattle.std.specs.List.{AllByRecursion as Each, AllZip as EachPair}
use Rattle.std.proofs.lemmas.Option.{none-some}
use Rattle.list_laws.specs.Lists.{AreDifferent}
use Rattle.end_view.specs.EndView.{EndView}
use Rattle.qrexec_frame.specs.declared.message.Message.{Message}
use Rattle.scenario_file.specs.Scenario.{Plan as Scenario, domain_of, hostile_at}
use Rattle.scenario_file.specs.declared.scenario.CallPlan.{CallPlan}
use Rattle.task_duties.specs.declared.place.PagePlace.{PagePlace}
use Rattle.task_duties.specs.declared.done.CallDone.{CallDone}
use Rattle.task_duties.specs.Agent.Answers.{Asked}
use Rattle.task_duties.specs.Agent.Given.{AgentPlan}
use Rattle.task_duties.specs.Agent.Owes.{ReportsCall}
use Rattle.task_duties.specs.TaskOwes.{Agent, AgentDone, Broker, BrokerDone, Hostile, HostileDone, NoMemory, TaskDone, TaskGiven, TaskOwes}
use Rattle.task_duties.specs.Words.{ident_of}
use Rattle.task_duties.proofs.Elements.{Has, each_at, has_filter, has_map_back}
use Rattle.run_laws.specs.Laid.{agent_plan, calls_from}
use Rattle.run_laws.specs.Laws.{agent_heard}
use Rattle.run_laws.specs.ReadOff.{end_in}
use Rattle.run_laws.specs.Report.{SettledPage}
use Rattle.run_laws.specs.Results.{AreResults, IsGivenTo, answer_at, calls_of, run_of, served_of}
use Rattle.run_laws.specs.Run.{IsHonest, IsRun, Run, end_of}
use Rattle.run_laws.proofs.Domains.ControlLaws.{own_end}
use Rattle.run_laws.proofs.Runs.ResultLaws.{results_are_runs}
use Rattle.run_laws.proofs.Scenarios.Calls.{calls_differ, idents}
use Rattle.run_laws.proofs.Scenarios.Facts.{IsCall, facts}
use Rattle.run_laws.proofs.Sessions.CallLaw.{AreHeard, all_heard}
use Rattle.scenario_run.specs.Parts.{ReportPart, report_of}
use Rattle.scenario_run.specs.Lines.{HasReports, IsEndOf}
use Rattle.scenario_run.specs.Sessions.{HaveServed}

-- ---- the calls of an agent are reported in their order

abbrev IsNumbered : CallPlan → CallDone → Type 0
IsNumbered call done = done.number ≡ call.number

all_numbered : (heard : List Message) (plan : AgentPlan) (end : PagePlace → EndView) (calls : List CallPlan) (asked : List Asked) (done : List CallDone)
    → AreHeard heard calls asked → EachPair (ReportsCall plan end) asked done → EachPair IsNumbered calls done
all_numbered heard plan end [] [] [] are reports = tt
all_numbered heard plan end [] (a ∷ asked) done are reports = absurd are
all_numbered heard plan end (c ∷ calls) [] done are reports = absurd are
all_numbered heard plan end (c ∷ calls) (a ∷ asked) (d ∷ done) are reports =
    (reports.0.0 ∙ ap (λ x. x.number) are.0.0, all_numbered heard plan end calls asked done are.1 reports.1)
all_numbered heard plan end _ _ _ are reports = absurd reports

-- what is reported of each call is found by its number
abbrev IsFound : List CallDone → CallPlan → CallDone → Type 0
IsFound all call done = done.end ≡ end_in all call.number

pair_map : {A B : Type 0} (P Q : A → B → Type 0) (xs : List A) (ys : List B) → ((x : A) (y : B) → Has xs x → P x y → Q x y) → EachPair P xs ys → EachPair Q xs ys
pair_map P Q [] [] go each = tt
pair_map P Q (x ∷ xs) (y ∷ ys) go each = (go x y (inl refl) each.0, pair_map P Q xs ys (λ a b h. go a b (inr h)) each.1)
pair_map P Q _ _ go each = absurd each

all_found : (calls : List CallPlan) (done : List CallDone) → AreDifferent (idents calls) → EachPair IsNumbered calls done → EachPair (IsFound done) calls done
all_found [] [] differ each = tt
all_found (c ∷ calls) (d ∷ done) differ each = (
  (let same : (d.number == c.number) ≡ true = (let e = each.0 in grind (arith, nat_tests, e)) in rw same refl),
  pair_map (IsFound done) (IsFound (d ∷ done)) calls done
      (λ x y h is. (let other : (d.number == x.number) ≡ false = unlike x h in rw other is))
      (all_found calls done differ.1 each.1),
)
  where
    unlike : (x : CallPlan) → Has calls x → (d.number == x.number) ≡ false
    unlike x h = by (d.number == x.number) refl
      where
        by : (b : Bool) → (d.number == x.number) ≡ b → (d.number == x.number) ≡ false
        by true is = absurd (let e : d.number ≡ x.number = grind (arith, nat_tests, is) in
            each_at (λ (i : List ℕ). ident_of c.number ≢ i) (idents calls) (ident_of x.number) differ.0 (has_map_back (λ call. ident_of call.number) calls x h) (ap ident_of (sym each.0 ∙ e)))
        by false is = is
all_found _ _ differ each = absurd each

-- each call of a domain has that domain as its caller
own_call : (s : Scenario) (d : ℕ) (call : CallPlan) → Has (calls_from s d) call → call.from ≡ d
own_call s d call h = let is = (has_filter (λ c. c.from == d) s.calls call h).1 in grind (arith, nat_tests, is)

calls_of_honest : (s : Scenario) (run : Run) → IsRun s run → (d : ℕ) → IsHonest s d → EachPair (IsEndOf run) (calls_from s d) (run.calls d)
calls_of_honest s run h d honest =
    let agent = h.agent d honest in
    let reports = rw (own_end run d) at agent.reports in
    let numbered = all_numbered (agent_heard s run d) (agent_plan s d) (end_of run d) (calls_from s d) _ (run.calls d) (all_heard s run d (agent_heard s run d)) reports in
    pair_map (IsFound (run.calls d)) (IsEndOf run) (calls_from s d) (run.calls d)
    (λ call done there is. record { end = is ∙ ap (λ f. end_in (run.calls f) call.number) (sym (own_call s d call there)) })
    (all_found (calls_from s d) (run.calls d) (calls_differ s (facts s run h) d) numbered)

-- ---- a domain that isn't honest has no calls

no_calls : (s : Scenario) (d : ℕ) (calls : List CallPlan) → Each (IsCall s) calls → (is_some (domain_of s d) ≡ true → hostile_at s d ≡ true) → filter (λ call. call.from == d) calls ≡ []
no_calls s d [] each other = refl
no_calls s d (c ∷ calls) each other = by (c.from == d) refl (no_calls s d calls each.1 other)
  where
    by : (b : Bool) → (c.from == d) ≡ b → filter (λ call. call.from == d) calls ≡ [] → filter (λ call. call.from == d) (c ∷ calls) ≡ []
    by true is rest = absurd (let e : c.from ≡ d = grind (arith, nat_tests, is) in
        let bad : hostile_at s c.from ≡ true = subst (λ n. hostile_at s n ≡ true) (sym e) (other (subst (λ n. is_some (domain_of s n) ≡ true) e each.0.from_some)) in
        false≢true (sym each.0.from_honest ∙ bad))
    by false is rest = rw is rest

no_report : (s : Scenario) (d : ℕ) (given : TaskGiven) (done : TaskDone) → (is_some (domain_of s d) ≡ true → hostile_at s d ≡ true) → IsGivenTo s d given → TaskOwes given done → calls_of done ≡ []
no_report s d (Agent plan ends) (AgentDone report) other is owes = absurd (false≢true (sym is.0.honest ∙ other is.0.there))
no_report s d (Broker hub awaited ends) (AgentDone report) other is owes = absurd owes
no_report s d (Hostile plan ends) (AgentDone report) other is owes = absurd owes
no_report s d given _ other is owes = refl

-- ---- the reports

get_part : (dones : List TaskDone) (d : ℕ) (part : ReportPart) → slice_get (map report_of dones) d ≡ Some part → (d < length dones) × (part ≡ report_of (answer_at dones d))
get_part [] d part is = absurd (none-some part is)
get_part (x ∷ dones) zero part is = (omega arith, sym (let e : Some (report_of x) ≡ Some part = is in cc))
get_part (x ∷ dones) (suc d) part is = let more = get_part dones d part is in (omega (arith, more.0), more.1)

first_part : (dones : List TaskDone) → 0 < length dones → slice_get (map report_of dones) 0 ≡ Some (report_of (answer_at dones 0))
first_part [] less = absurd (omega (arith, less))
first_part (x ∷ dones) less = refl

calls_at : (s : Scenario) (dones : List TaskDone) (pages : List SettledPage) → AreResults s dones pages → (d : ℕ) → d ≤ length s.domains → EachPair (IsEndOf (run_of s dones)) (calls_from s d) ((run_of s dones).calls d)
calls_at s dones pages h d within = by (is_some (domain_of s d)) refl (hostile_at s d) refl
  where
    run : Run
    run = run_of s dones

    is_run : IsRun s run
    is_run = (results_are_runs s dones pages h).0

    none : (is_some (domain_of s d) ≡ true → hostile_at s d ≡ true) → EachPair (IsEndOf run) (calls_from s d) (run.calls d)
    none other =
        let a = h.answered d within in
        let calls : calls_from s d ≡ [] = no_calls s d s.calls (facts s run is_run).calls other in
        let report : run.calls d ≡ [] = no_report s d a.0 (answer_at dones d) other a.1 a.3 in
        subst (λ xs. EachPair (IsEndOf run) xs (run.calls d)) (sym calls) (subst (EachPair (IsEndOf run) []) (sym report) tt)

    by : (a : Bool) → is_some (domain_of s d) ≡ a → (b : Bool) → hostile_at s d ≡ b → EachPair (IsEndOf run) (calls_from s d) (run.calls d)
    by true there false honest = calls_of_honest s run is_run d (record { there = there; honest = honest })
    by true there true bad = none (λ k. bad)
    by false away b is = none (λ k. absurd (false≢true (sym away ∙ k)))

pub has_reports : (s : Scenario) (dones : List TaskDone) (pages : List SettledPage) → AreResults s dones pages → length dones ≡ length s.domains + 1 → HasReports s (run_of s dones) s.calls (map report_of dones)
has_reports s dones pages h count = record {
  journal = (report_of (answer_at dones 0), first_part dones (omega (arith, count)), refl);
  each = λ d part is. (let at = get_part dones d part is in
      subst (λ p. EachPair (IsEndOf (run_of s dones)) (calls_from s d) p.calls) (sym at.1) (calls_at s dones pages h d (omega (arith, at.0, count))));
}

nothing_served : (s : Scenario) (given : TaskGiven) (done : TaskDone) → IsGivenTo s 0 given → TaskOwes given done → served_of done ≡ []
nothing_served s (Agent plan ends) (AgentDone report) is owes = absurd (let there : is_some (domain_of s 0) ≡ true = is.0.there in false≢true there)
nothing_served s (Broker hub awaited ends) (AgentDone report) is owes = absurd owes
nothing_served s (Hostile plan ends) (AgentDone report) is owes = absurd owes
nothing_served s given _ is owes = refl

pub have_served : (s : Scenario) (dones : List TaskDone) (pages : List SettledPage) → AreResults s dones pages → HaveServed (run_of s dones) (map report_of dones)
have_served s dones pages h = record {
  each = λ d part is. ap (λ p. p.served) (get_part dones d part is).1;
  broker = (let a = h.answered 0 (omega arith) in nothing_served s a.0 (answer_at dones 0) a.1 a.3);
}
