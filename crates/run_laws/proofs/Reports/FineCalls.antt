-- Each call of a run whose target isn't hostile has the result that the services and the names alone give.
use Rattle.std.proofs.Common.{◌≡◌, ◌≢◌, ℕ, List, refl, ap, sym, ◌∙◌, arith, Some, subst}
use Rattle.std.specs.Prelude.{true, false, ◌==◌, Contains, is_some, ℤ}
use Rattle.std.specs.Option.{option_map_or}
use Rattle.std.proofs.lemmas.Bool.Decides.{nat_tests}
use Rattle.qrexec_frame.specs.declared.message.Message.TheVariants as m
use Rattle.service_gate.specs.Triple.{Triple}
use Rattle.service_gate.specs.ServiceResult.{service}
use Rattle.call_broker.specs.declared.event.Event.TheVariants.{Trigger}
use Rattle.call_broker.specs.declared.decision.Decision.TheVariants as decision
use Rattle.end_view.specs.Settled.{Settled}
use Rattle.qrexec_data.specs.declared.outcome.Outcome.{Outcome}
use Rattle.qrexec_data.specs.declared.outcome.Outcome.TheVariants as outcome
use Rattle.qrexec_data.specs.Seeing.{caller_sees}
use Rattle.qrexec_data.specs.Fitting.{FitsCaller}
use Rattle.scenario_file.specs.Scenario.{Plan as Scenario, domain_named, hostile_at, version_at, is_mixed}
use Rattle.scenario_file.specs.declared.scenario.CallPlan.{CallPlan}
use Rattle.scenario_file.specs.declared.line.LineResult.{LineResult}
use Rattle.scenario_file.specs.Lines.{by_domain, by_service, line_of}
use Rattle.scenario_file.specs.declared.line.LineResult.TheVariants as line
use Rattle.task_duties.specs.declared.place.PagePlace.TheVariants.{Control, Payload}
use Rattle.task_duties.specs.Words.{ident_of}
use Rattle.task_duties.specs.Hearing.{to_agent}
use Rattle.task_duties.specs.Agent.Answers.{Answer, Waits, IsRefused, At}
use Rattle.task_duties.specs.declared.done.CallerDone.{CallerDone}
use Rattle.task_duties.specs.Agent.Sessions.{CallerOwes, ServingOwes}
use Rattle.task_duties.specs.declared.done.CallEnd.{CallEnd}
use Rattle.task_duties.specs.declared.done.CallEnd.TheVariants.{Session, Refused as WasRefused, Unanswered}
use Rattle.task_duties.specs.Agent.Owes.{ReportsAnswer, caller_done}
use Rattle.task_duties.proofs.Elements.{Has, has_from, contains_from, has_filter_back, has_map_back, each_at}
use Rattle.run_laws.specs.Laid.{calls_from, agent_plan, laid}
use Rattle.run_laws.specs.declared.report.CallResult.{CallResult}
use Rattle.run_laws.specs.declared.report.CallResult.TheVariants.{Done as IsDone, Mixed as IsMixed}
use Rattle.run_laws.specs.declared.report.ServedLine.{ServedLine}
use Rattle.run_laws.specs.Report.{plain_result, with_result}
use Rattle.run_laws.specs.declared.report.CallResult.TheVariants as call_result
use Rattle.run_laws.specs.Lawful.{ResultStands, IsAnswered, ToldAs, has_page, is_mixed_result, control_messages}
use Rattle.run_laws.specs.Run.{Run, IsRun, IsHonest, end_of}
use Rattle.run_laws.proofs.Scenarios.Facts.{facts, IsCall}
use Rattle.run_laws.specs.Laws.{IsEqual, agent_heard}
use Rattle.run_laws.specs.ReadOff.{end_of_call, index_of, page_read, session_result, cause_result, plain_end, mixed_end, mixed_outcome, line_read, report_of, ports_of, port_of_end}
use Rattle.run_laws.proofs.Sessions.CallLaw.{IsHeard, on_call}
use Rattle.run_laws.proofs.Domains.ControlLaws.{control_bytes}
use Rattle.run_laws.proofs.Domains.ControlMessages.{greeted, has_all}
use Rattle.run_laws.proofs.Sessions.CallEnds.{IsReported}
use Rattle.run_laws.proofs.Domains.LimitsKeptLaw.{limits_kept}
use Rattle.run_laws.proofs.Scenarios.Places.{is_laid}
use Rattle.run_laws.proofs.Reports.ReadLaws.{page_found, control_laid, ports_is, cause_found, refused_line}
use Rattle.run_laws.proofs.Sessions.ServedAllLaw.{served_all, heard_entry, is_of, answered_at}
use Rattle.run_laws.proofs.Sessions.Services.{small_codes_lem}

pub caller_honest : (s : Scenario) (run : Run) → IsRun s run → (call : CallPlan) → Has s.calls call → IsHonest s call.from
caller_honest s run h call there = let c = each_at (IsCall s) s.calls call (facts s run h).calls there in record { there = c.from_some; honest = c.from_honest }

pub planned_of : (s : Scenario) (call : CallPlan) → Has s.calls call → Has (calls_from s call.from) call
planned_of s call there = has_filter_back (λ c. c.from == call.from) s.calls call there (grind (arith, nat_tests))

-- ---- what an end comes from

-- the end of a call that has a session
abbrev pub session_end : ℕ → ℕ → CallerDone → CallEnd
session_end port to done = Session port to done.outcome done.stdout done.stderr done.got

pub record IsSession (s : Scenario) (run : Run) (d to port : ℕ) (call : CallPlan) (done : CallerDone) : Type 0 where
  pub heard : Has (agent_heard s run d) (m.Connect to port (ident_of call.number))
  pub owes : CallerOwes (version_at s d) call.stdin done (run.page (Payload d to port)).server

pub session_heard : (s : Scenario) (run : Run) (d to port : ℕ) (call : CallPlan) (done : CallerDone) (a : Answer) → IsHeard (agent_heard s run d) call a
    → ReportsAnswer (agent_plan s d) (end_of run d) call a (session_end port to done) → IsSession s run d to port call done
session_heard s run d to port call done Waits heard r = absurd r
session_heard s run d to port call done IsRefused heard r = absurd r
session_heard s run d to port call done (At to' port') heard r =
    let dd : (d == d) ≡ true = grind (arith, nat_tests) in
    let same : end_of run d (Payload d to port) ≡ (run.page (Payload d to port)).server = rw dd refl in
    let owes : CallerOwes (version_at s d) call.stdin done (end_of run d (Payload d to port)) = rw (r.1, r.0) r.2 in
    record {
      heard = has_from (agent_heard s run d) _ (subst (λ p. Contains (agent_heard s run d) (m.Connect to p (ident_of call.number))) (sym r.0) (subst (λ t. Contains (agent_heard s run d) (m.Connect t port' (ident_of call.number))) (sym r.1) heard));
      owes = subst (CallerOwes (version_at s d) call.stdin done) same owes;
    }

pub refused_heard : (s : Scenario) (run : Run) (d : ℕ) (call : CallPlan) (a : Answer) → IsHeard (agent_heard s run d) call a
    → ReportsAnswer (agent_plan s d) (end_of run d) call a WasRefused → Has (agent_heard s run d) (m.Refused (ident_of call.number))
refused_heard s run d call Waits heard r = absurd r
refused_heard s run d call IsRefused heard r = has_from (agent_heard s run d) _ heard
refused_heard s run d call (At to port) heard r = absurd r

-- ---- the call whose target isn't hostile

pub record IsFine (s : Scenario) (run : Run) (served : List ServedLine) (call : CallPlan) (result : CallResult) (e : CallEnd) : Type 0 where
  pub unmixed : is_mixed_result result ≡ false
  pub plain : plain_result (line_read s run call) result ≡ Some (line_of s call)
  pub stands : (to : ℕ) → domain_named s call.to ≡ Some to → ResultStands s (report_of s run served) (ports_of s run) call to result
  pub paged : is_some (port_of_end e) ≡ has_page result
  pub told : (to : ℕ) → domain_named s call.to ≡ Some to → ToldAs s (report_of s run served) (ports_of s run) call to result

-- the target of a call that isn't mixed
target_plain : (s : Scenario) (call : CallPlan) (to : ℕ) → is_mixed s call ≡ false → domain_named s call.to ≡ Some to → hostile_at s to ≡ false
target_plain s call to plain named = ap (λ o. option_map_or (hostile_at s) o false) (sym named) ∙ plain

with_line : (s : Scenario) (run : Run) (call : CallPlan) (result : LineResult) → by_domain call (domain_named s call.to) ≡ result → Some (with_result (line_read s run call) result) ≡ Some (line_of s call)
with_line s run call result is = ap (λ r. Some (with_result (line_read s run call) r)) (sym is)

answered_well : (s : Scenario) (call : CallPlan) (to : ℕ) (done : CallerDone) (page : Settled) → IsEqual call done page → CallerOwes (version_at s call.from) call.stdin done page.server
    → (serving : Outcome) (got : List ℕ) → ServingOwes (version_at s to) call.service serving got page.client → (code : ℤ) → done.outcome ≡ outcome.Done code → IsAnswered s call to page code done.stdout done.stderr
answered_well s call to done page eq o serving got w code is =
    let fits = o.fits in
    let fits' : FitsCaller (outcome.Done code) (caller_sees page.server.got) = subst (λ x. FitsCaller x (caller_sees page.server.got)) is fits in
    record { code_is = fits'; stdout_is = sym o.stdout; stderr_is = sym o.stderr; no_fault = eq.no_fault; input_is = eq.input_is; input_ended = eq.input_ended; asked = o.sent; owed = w.owed; is_service = w.is_service; answered = w.sent }

-- a call that has a session
fine_session : (s : Scenario) (run : Run) (h : IsRun s run) (served : List ServedLine) (call : CallPlan) → Has s.calls call → is_mixed s call ≡ false → (port to : ℕ) (done : CallerDone)
    → end_of_call run call ≡ session_end port to done → IsReported s run call.from call (session_end port to done) → IsFine s run served call (plain_end s run call (session_end port to done)) (session_end port to done)
fine_session s run h served call there plain port to done end r =
    let d : ℕ = call.from in
    let honest = caller_honest s run h call there in
    let planned = planned_of s call there in
    let view = session_heard s run call.from to port call done r.answer r.heard_is r.reports in
    let a = answered_at s run h call.from to port honest call planned view.heard in
    let named = a.named in
    let other : IsHonest s to = record { there = a.place.2; honest = target_plain s call to plain named } in
    let eq = on_call served_all small_codes_lem s run h call.from honest call (contains_from (calls_from s call.from) call planned) r.answer r.heard_is (session_end port to done) r.reports other in
    let t : Triple = eq.owed call.stdin in
    let code : ℤ = (eq.owed call.stdin).code in
    let is : plain_end s run call (session_end port to done) ≡ IsDone (eq.owed call.stdin).code done.stdout done.stderr (index_of (Payload call.from to port) (laid s)) = ap (session_result s call port to done) eq.outcome in
    let apart = a.place.0 in
    let self : (to == call.from) ≡ false = grind (arith, nat_tests) in
    let known : service call.service call.stdin ≡ Some (eq.owed call.stdin) = eq.is_service call.stdin in
    let out : line.Done (eq.owed call.stdin).code (eq.owed call.stdin).stdout (eq.owed call.stdin).stderr ≡ line.Done (eq.owed call.stdin).code done.stdout done.stderr =
    ap (λ x. line.Done (eq.owed call.stdin).code x (eq.owed call.stdin).stderr) (sym eq.stdout) ∙ ap (λ x. line.Done (eq.owed call.stdin).code done.stdout x) (sym eq.stderr) in
    let result : by_domain call (domain_named s call.to) ≡ line.Done (eq.owed call.stdin).code done.stdout done.stderr = rw (named, self) (ap by_service known ∙ out) in
    let place : Has (laid s) (Payload call.from to port) = is_laid s call.from to port a.place in
    let ports : ports_of s run call.number ≡ Some port = ports_is s run (facts s run h) call there ∙ ap port_of_end end in
    let page = page_found s run (Payload call.from to port) place in
    let serving = served_all s run h call.from to port honest other call (contains_from (calls_from s call.from) call planned) (contains_from (agent_heard s run call.from) _ view.heard) in
    let answered = answered_well s call to done (run.page (Payload call.from to port)) eq view.owes serving.done.outcome serving.done.got serving.owes (eq.owed call.stdin).code eq.outcome in
    let clean = control_bytes s run h to other in
    let told = serving.told in
    let all = has_all (control_messages (run.page (Control to)).server.got) (agent_heard s run to) _ (greeted (version_at s to) to_agent (run.page (Control to)).server.got clean.left) (has_from (agent_heard s run to) _ told) in
    let target : (to' : ℕ) → domain_named s call.to ≡ Some to' → to ≡ to' = λ to' n. let e : Some to ≡ Some to' = sym named ∙ n in cc in
    let Stands : ℕ → Type 0 = λ t'. ResultStands s (report_of s run served) (ports_of s run) call t' (IsDone (eq.owed call.stdin).code done.stdout done.stderr (index_of (Payload call.from to port) (laid s))) in
    let Told : ℕ → Type 0 = λ t'. ToldAs s (report_of s run served) (ports_of s run) call t' (IsDone (eq.owed call.stdin).code done.stdout done.stderr (index_of (Payload call.from to port) (laid s))) in
    subst (λ res. IsFine s run served call res (session_end port to done)) (sym is) (record {
      unmixed = refl;
      plain = with_line s run call (line.Done (eq.owed call.stdin).code done.stdout done.stderr) result;
      stands = λ to' n. subst Stands (target to' n) (port, run.page (Payload call.from to port), ports, page, answered);
      paged = refl;
      told = λ to' n. subst Told (target to' n) (
        port,
        run.page (Control to),
        ports,
        contains_from _ _ (has_map_back (page_read run) (laid s) (Control to) (control_laid s to other.there)),
        contains_from _ _ all,
      );
    })

-- a call that was refused
fine_refused : (s : Scenario) (run : Run) (h : IsRun s run) (served : List ServedLine) (call : CallPlan) → Has s.calls call → is_mixed s call ≡ false
    → IsReported s run call.from call WasRefused → IsFine s run served call (plain_end s run call WasRefused) WasRefused
fine_refused s run h served call there plain r =
    let honest = caller_honest s run h call there in
    let planned = planned_of s call there in
    let c = heard_entry s run h call.from honest (m.Refused (ident_of call.number)) (refused_heard s run call.from call r.answer r.heard_is r.reports) in
    let put = c.is in
    let of = is_of s run h call.from honest call planned c.one put.target put.service c.there put.event in
    let event : c.one.event ≡ Trigger call.from call.to call.service (ident_of call.number) =
    put.event ∙ ap (λ x. Trigger call.from x put.service (ident_of call.number)) of.target_is ∙ ap (λ x. Trigger call.from call.to x (ident_of call.number)) of.service_is in
    let entry : c.one ≡ record { event = Trigger call.from call.to call.service (ident_of call.number); decision = decision.Refused put.cause } =
    ap (λ e. record { event = e; decision = c.one.decision }) event ∙ ap (λ x. record { event = Trigger call.from call.to call.service (ident_of call.number); decision = x }) put.refused in
    let in_journal = contains_from run.journal _ (subst (Has run.journal) entry c.there) in
    let expected = limits_kept s run h call.from honest call (contains_from (calls_from s call.from) call planned) (decision.Refused put.cause) in_journal in
    let kind = refused_line s call.from (domain_named s call.to) (by_domain call (domain_named s call.to)) put.cause expected (λ to named. target_plain s call to plain named) in
    let cause = cause_found s run h call.from honest c.one call.to call.service (ident_of call.number) put.cause c.there event put.refused in
    let is : plain_end s run call WasRefused ≡ call_result.Refused kind.as_line = ap cause_result cause ∙ kind.result_is in
    subst (λ res. IsFine s run served call res WasRefused) (sym is) (record {
      unmixed = refl;
      plain = with_line s run call (line.Refused kind.as_line) kind.line_is;
      stands = λ to n. tt;
      paged = refl;
      told = λ to n. tt;
    })

pub fine_call : (s : Scenario) (run : Run) (h : IsRun s run) (served : List ServedLine) (call : CallPlan) → Has s.calls call → is_mixed s call ≡ false → (e : CallEnd) → end_of_call run call ≡ e
    → IsReported s run call.from call e → IsFine s run served call (plain_end s run call e) e
fine_call s run h served call there plain (Session port to outcome stdout stderr got) end r = fine_session s run h served call there plain port to (caller_done outcome stdout stderr got) end r
fine_call s run h served call there plain WasRefused end r = fine_refused s run h served call there plain r
fine_call s run h served call there plain Unanswered end r = absurd (r.answered refl)

-- ---- the call whose target is hostile

mixed_page : (o : Outcome) (got : List ℕ) → true ≡ has_page (IsMixed (mixed_outcome o) got)
mixed_page (outcome.Done code) got = refl
mixed_page (outcome.Fault fault) got = refl
mixed_page outcome.Closed got = refl
mixed_page outcome.Gone got = refl

pub mixed_paged : (e : CallEnd) → e ≢ Unanswered → is_some (port_of_end e) ≡ has_page (mixed_end e)
mixed_paged (Session port to outcome stdout stderr got) answered = mixed_page outcome got
mixed_paged WasRefused answered = refl
mixed_paged Unanswered answered = absurd (answered refl)

pub mixed_is : (e : CallEnd) → is_mixed_result (mixed_end e) ≡ true
mixed_is (Session port to outcome stdout stderr got) = refl
mixed_is WasRefused = refl
mixed_is Unanswered = refl
