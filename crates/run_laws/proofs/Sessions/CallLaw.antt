-- Outcome-done and result-equal of a run, from served-all and from the codes of the services.
use Rattle.std.proofs.Common.{◌≡◌, ℕ, suc, List, [], ◌∷◌, map, refl, ap, sym, ◌∙◌, arith, Option, Some, None, subst}
use Rattle.std.specs.Prelude.{true, false, Bool, bytes_eq, ◌&&◌, ◌==◌, Contains, if◌then◌else◌}
use Rattle.std.specs.Int.{w32}
use Rattle.std.specs.Int.RustNames.{FitsSigned}
use Rattle.std.specs.List.{list_any, AllByRecursion as Each, AllZip as EachPair}
use Rattle.std.proofs.lemmas.Bool.Decides.{nat_tests}
use Rattle.std.proofs.lemmas.Slice.Eq.{bytes_eq-Decides}
use Rattle.list_laws.proofs.Each.{each_weaker}
use Rattle.list_laws.proofs.Tests.{and_first}
use Rattle.qrexec_frame.specs.declared.message.Message.{Message}
use Rattle.qrexec_frame.specs.declared.message.Message.TheVariants.{Hello, Exec, JustExec, Connect, Refused, Terminated, Trigger3, Trigger, Stdin, Stdout, Stderr, ExitCode}
use Rattle.service_gate.specs.Triple.{Triple}
use Rattle.service_gate.specs.ServiceResult.{service}
use Rattle.end_view.specs.Settled.{IsHonestPage}
use Rattle.scenario_file.specs.Scenario.{Plan as Scenario, version_at}
use Rattle.scenario_file.specs.declared.scenario.CallPlan.{CallPlan}
use Rattle.task_duties.specs.declared.place.PagePlace.TheVariants.{Payload}
use Rattle.task_duties.specs.Words.{ident_of, service_of_line}
use Rattle.task_duties.specs.Agent.Answers.{Answer, Waits, IsRefused, At, Asked, Answers, waits, waits_as, answered, serves, takes, takes_all, nothing_heard}
use Rattle.task_duties.specs.Places.{has_place}
use Rattle.task_duties.specs.declared.done.CallDone.{CallDone}
use Rattle.task_duties.specs.declared.done.CallEnd.{CallEnd}
use Rattle.task_duties.specs.declared.done.CallEnd.TheVariants.{Session, Refused as WasRefused, Unanswered}
use Rattle.task_duties.specs.Agent.Owes.{ReportsCall, ReportsAnswer, caller_done}
use Rattle.task_duties.proofs.PageLaw.{outcome_done}
use Rattle.run_laws.specs.Laid.{agent_plan, calls_from}
use Rattle.run_laws.specs.Run.{Run, IsRun, IsHonest, end_of}
use Rattle.run_laws.specs.Laws.{ServedAll, ResultEqual, IsEqual, OfSession, agent_heard}
use Rattle.run_laws.proofs.Scenarios.Numbers.{version_is}
use Rattle.run_laws.proofs.Domains.ControlLaws.{own_end}
use Rattle.run_laws.proofs.Scenarios.Facts.{facts}
use Rattle.qrexec_data.specs.Laws.{IsVersion}

-- ---- an answer is that of a Connect or a Refused that was heard, and the calls stay those of the plan

abbrev pub IsHeard : List Message → CallPlan → Answer → Type 0
IsHeard heard call (At to port) = Contains heard (Connect to port (ident_of call.number))
IsHeard heard call IsRefused = Contains heard (Refused (ident_of call.number))
IsHeard heard call Waits = Unit {0}

abbrev pub AreHeard : List Message → List CallPlan → List Asked → Type 0
AreHeard heard calls asked = EachPair (λ call a. (a.call ≡ call) × IsHeard heard call a.answer) calls asked

answered_heard : (heard : List Message) (ident : List ℕ) (answer : Answer) → ((call : CallPlan) → ident_of call.number ≡ ident → IsHeard heard call answer)
    → (calls : List CallPlan) (asked : List Asked) → AreHeard heard calls asked → AreHeard heard calls (answered ident answer asked)
answered_heard heard ident answer there [] [] h = tt
answered_heard heard ident answer there [] (a ∷ asked) h = absurd h
answered_heard heard ident answer there (c ∷ calls) [] h = absurd h
answered_heard heard ident answer there (c ∷ calls) (a ∷ asked) h = (by_wait (waits_as ident a) refl, answered_heard heard ident answer there calls asked h.1)
  where
    by_wait : (b : Bool) → waits_as ident a ≡ b → ((if b then record { call = a.call; answer = answer } else a).call ≡ c) × IsHeard heard c (if b then record { call = a.call; answer = answer } else a).answer
    by_wait false is = h.0
    by_wait true is =
        let same : bytes_eq (ident_of a.call.number) ident ≡ true = and_first (bytes_eq (ident_of a.call.number) ident) (waits a.answer) is in
        let ident_is : ident_of a.call.number ≡ ident = (bytes_eq-Decides (ident_of a.call.number) ident).0 same in
        (h.0.0, there c (ap (λ x. ident_of x.number) (sym h.0.0) ∙ ident_is))

on_message : (heard : List Message) (d : ℕ) (calls : List CallPlan) (a : Answers) (m : Message) → Contains heard m → AreHeard heard calls a.asked → AreHeard heard calls (takes d a m).asked
on_message heard d calls a (Refused ident) there h = answered_heard heard ident IsRefused (λ call same. rw same there) calls a.asked h
on_message heard d calls a (Connect to port ident) there h = by_test (list_any (waits_as ident) a.asked && has_place (Payload d to port) a.unused) refl
  where
    by_test : (b : Bool) → (list_any (waits_as ident) a.asked && has_place (Payload d to port) a.unused) ≡ b → AreHeard heard calls (takes d a (Connect to port ident)).asked
    by_test false is = rw is h
    by_test true is = rw is (answered_heard heard ident (At to port) (λ call same. rw same there) calls a.asked h)
on_message heard d calls a (Exec from port line) there h = by_service (service_of_line line)
  where
    by_place : (svc : List ℕ) (b : Bool) → has_place (Payload from d port) a.unused ≡ b → AreHeard heard calls (serves d from port (Some svc) a).asked
    by_place svc true is = rw is h
    by_place svc false is = rw is h

    by_service : (o : Option (List ℕ)) → AreHeard heard calls (serves d from port o a).asked
    by_service None = h
    by_service (Some svc) = by_place svc (has_place (Payload from d port) a.unused) refl
on_message heard d calls a (JustExec from port line) there h = h
on_message heard d calls a (Hello v) there h = h
on_message heard d calls a (Terminated x p) there h = h
on_message heard d calls a (Trigger3 t i s) there h = h
on_message heard d calls a (Trigger t i s) there h = h
on_message heard d calls a (Stdin b) there h = h
on_message heard d calls a (Stdout b) there h = h
on_message heard d calls a (Stderr b) there h = h
on_message heard d calls a (ExitCode c) there h = h

on_messages : (heard : List Message) (d : ℕ) (calls : List CallPlan) (ms : List Message) (a : Answers) → Each (Contains heard) ms → AreHeard heard calls a.asked → AreHeard heard calls (takes_all d a ms).asked
on_messages heard d calls [] a each h = h
on_messages heard d calls (m ∷ ms) a each h = on_messages heard d calls ms (takes d a m) each.1 (on_message heard d calls a m each.0 h)

contains_later : {A : Type 0} (y : A) (xs : List A) (x : A) → Contains xs x → Contains (y ∷ xs) x
contains_later y xs x c = (suc c.0, omega (arith, c.1), c.2)

each_itself : {A : Type 0} (xs : List A) → Each (Contains xs) xs
each_itself [] = tt
each_itself (x ∷ xs) = ((0, omega arith, refl), each_weaker (Contains xs) (Contains (x ∷ xs)) (λ y c. contains_later x xs y c) xs (each_itself xs))

at_first : (heard : List Message) (calls : List CallPlan) → AreHeard heard calls (map (λ call. record { call = call; answer = Waits }) calls)
at_first heard [] = tt
at_first heard (c ∷ calls) = ((refl, tt), at_first heard calls)

pub all_heard : (s : Scenario) (run : Run) (f : ℕ) (heard : List Message) → AreHeard heard (calls_from s f) (takes_all f (nothing_heard (agent_plan s f)) heard).asked
all_heard s run f heard = on_messages heard f (calls_from s f) heard (nothing_heard (agent_plan s f)) (each_itself heard) (at_first heard (calls_from s f))

-- the codes of the services are numbers of 32 bits
abbrev pub SmallCodes : Type 0
SmallCodes = (name input : List ℕ) (t : Triple) → service name input ≡ Some t → FitsSigned w32 t.code

-- one call
pub on_call : ServedAll → SmallCodes → (s : Scenario) (run : Run) → IsRun s run → (f : ℕ) → IsHonest s f → (call : CallPlan) → Contains (calls_from s f) call
    → (a : Answer) → IsHeard (agent_heard s run f) call a → (e : CallEnd) → ReportsAnswer (agent_plan s f) (end_of run f) call a e
    → OfSession (λ port to done. IsEqual call done (run.page (Payload f to port))) s e
on_call served small s run h f honest call planned a heard WasRefused r = tt
on_call served small s run h f honest call planned a heard Unanswered r = tt
on_call served small s run h f honest call planned Waits heard (Session port to outcome stdout stderr got) r = absurd r
on_call served small s run h f honest call planned IsRefused heard (Session port to outcome stdout stderr got) r = absurd r
on_call served small s run h f honest call planned (At to' port') heard (Session port to outcome stdout stderr got) r = λ other. all other
  where
    all : IsHonest s to → IsEqual call (caller_done outcome stdout stderr got) (run.page (Payload f to port))
    all other =
        let heard' : Contains (agent_heard s run f) (Connect to port (ident_of call.number)) = rw (r.0, r.1) heard in
        let w = served s run h f to port honest other call planned heard' in
        let place = w.place in
        let page : IsHonestPage (run.page (Payload f to port)).server (run.page (Payload f to port)).client =
        (h.settled (Payload f to port) place).honest (h.server_turned (Payload f to port) place ∙ honest.honest) (h.client_turned (Payload f to port) place ∙ other.honest) in
        let ff : (f == f) ≡ true = grind (arith, nat_tests) in
        let same : end_of run f (Payload f to port) ≡ (run.page (Payload f to port)).server = rw ff refl in
        let r2 = rw (← r.1, ← r.0) at r.2 in
        let owes = rw same at r2 in
        let vf = version_is s (facts s run h) f in
        let vt = version_is s (facts s run h) to in
        let is_f : IsVersion (version_at s f) = record { least = vf.least; small = omega (arith, vf.most) } in
        let is_t : IsVersion (version_at s to) = record { least = vt.least; small = omega (arith, vt.most) } in
        let d = outcome_done (version_at s f) (version_at s to) call.service call.stdin (caller_done outcome stdout stderr got) w.done.outcome w.done.got _ _ is_f is_t page owes w.owes (λ x. small call.service x (w.owes.owed x) (w.owes.is_service x)) in
        record {
          owed = w.owes.owed;
          is_service = w.owes.is_service;
          outcome = d.outcome;
          stdout = d.stdout;
          stderr = d.stderr;
          no_fault = d.no_fault;
          input_is = d.input_is;
          input_ended = d.input_ended;
        }

-- all calls of a domain
on_calls : ServedAll → SmallCodes → (s : Scenario) (run : Run) → IsRun s run → (f : ℕ) → IsHonest s f → (calls : List CallPlan) → Each (Contains (calls_from s f)) calls
    → (asked : List Asked) → AreHeard (agent_heard s run f) calls asked → (done : List CallDone) → EachPair (ReportsCall (agent_plan s f) (end_of run f)) asked done
    → EachPair (λ call c. OfSession (λ port to d. IsEqual call d (run.page (Payload f to port))) s c.end) calls done
on_calls served small s run h f honest [] planned [] heard [] r = tt
on_calls served small s run h f honest [] planned [] heard (c ∷ done) r = absurd r
on_calls served small s run h f honest [] planned (a ∷ asked) heard done r = absurd heard
on_calls served small s run h f honest (call ∷ calls) planned [] heard done r = absurd heard
on_calls served small s run h f honest (call ∷ calls) planned (a ∷ asked) heard [] r = absurd r
on_calls served small s run h f honest (call ∷ calls) planned (a ∷ asked) heard (c ∷ done) r =
    let is = heard.0.0 in
    let r0 = r.0.1 in
    let reports : ReportsAnswer (agent_plan s f) (end_of run f) call a.answer c.end = subst (λ x. ReportsAnswer (agent_plan s f) (end_of run f) x a.answer c.end) is r0 in
    (on_call served small s run h f honest call planned.0 a.answer heard.0.1 c.end reports, on_calls served small s run h f honest calls planned.1 asked heard.1 done r.1)

pub result_equal_lem : ServedAll → SmallCodes → ResultEqual
result_equal_lem served small s run h f honest =
    let agent = h.agent f honest in
    let reports = rw (own_end run f) at agent.reports in
    on_calls served small s run h f honest (calls_from s f) (each_itself (calls_from s f)) _ (all_heard s run f (agent_heard s run f)) (run.calls f) reports
