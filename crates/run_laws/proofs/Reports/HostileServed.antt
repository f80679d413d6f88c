-- Each Exec that an honest domain heard from a hostile one was served, as the report has to say.
use Rattle.std.proofs.Common.{◌≡◌, ℕ, List, [], ◌∷◌, map, refl, ap, sym, ◌∙◌, arith, ◌⊎◌, inl, inr, Some, None, subst}
use Rattle.std.specs.Prelude.{true, false, Bool, ◌==◌, filter_map, is_some, if◌then◌else◌}
use Rattle.std.proofs.lemmas.Bool.Decides.{nat_tests}
use Rattle.std.specs.List.{AllByRecursion as Each}
use Rattle.qrexec_frame.specs.Names.{cleaned_service}
use Rattle.qrexec_frame.specs.declared.message.Message.{Message}
use Rattle.qrexec_frame.specs.declared.message.Message.TheVariants as m
use Rattle.service_gate.specs.Triple.{Triple}
use Rattle.service_gate.specs.ServiceResult.{service}
use Rattle.call_broker.specs.declared.event.Event.TheVariants.{Trigger}
use Rattle.call_broker.specs.Journal.{events}
use Rattle.end_view.specs.EndView.{EndView}
use Rattle.qrexec_data.specs.declared.outcome.Outcome.{Outcome}
use Rattle.qrexec_data.specs.declared.outcome.Outcome.TheVariants as outcome
use Rattle.qrexec_data.specs.Seeing.{serving_sees}
use Rattle.qrexec_data.specs.Fitting as fitting
use Rattle.scenario_file.specs.Scenario.{Plan as Scenario, hostile_at, name_at, version_at}
use Rattle.task_duties.specs.declared.place.PagePlace.{PagePlace}
use Rattle.task_duties.specs.declared.place.PagePlace.TheVariants.{Control, Payload}
use Rattle.task_duties.specs.Words.{exec_line, service_of_line}
use Rattle.task_duties.specs.Hearing.{to_agent}
use Rattle.task_duties.specs.Agent.Answers.{Served, takes_all, nothing_heard}
use Rattle.task_duties.specs.Agent.Sessions.{ServingOwes, ServingEnded}
use Rattle.task_duties.specs.Agent.Owes.{ReportsServed}
use Rattle.task_duties.specs.Broker.Outbox.{is_from}
use Rattle.task_duties.proofs.Elements.{Has, has_from, contains_from, has_flat_map, has_filter_map, has_filter_back, has_map, has_map_back, pair_of}
use Rattle.task_duties.proofs.LineLaw.{line_served}
use Rattle.task_duties.proofs.ServedLaw.{serves_each}
use Rattle.task_duties.specs.declared.done.ServedDone.{ServedDone}
use Rattle.run_laws.specs.HostileSessions.{session_of, session_line}
use Rattle.run_laws.specs.Laid.{laid, agent_plan}
use Rattle.run_laws.specs.declared.report.ServedLine.{ServedLine}
use Rattle.run_laws.specs.Report as report
use Rattle.run_laws.specs.Lawful.{ExecAt, exec_at, execs_on, hostile_execs, IsAskedFor, IsServed, ServedSent, control_messages}
use Rattle.run_laws.specs.Run.{Run, IsRun, IsHonest, IsPlace, end_of}
use Rattle.run_laws.specs.Laws.{agent_heard}
use Rattle.run_laws.specs.ReadOff.{page_read, mixed_outcome, report_of}
use Rattle.run_laws.proofs.Domains.ControlLaws.{own_end, control_bytes}
use Rattle.run_laws.proofs.Domains.ControlMessages.{Greeted, Silent, Spoken, greeted}
use Rattle.run_laws.proofs.Scenarios.Names.{service_byte, no_spaces, name_is, name_well, word_is}
use Rattle.run_laws.proofs.Scenarios.Places.{is_laid}
use Rattle.run_laws.proofs.Domains.Planned.{is_called, heard_apart, heard_unused}
use Rattle.run_laws.proofs.Sessions.ServedAllLaw.{heard_entry}
use Rattle.run_laws.proofs.Reports.ReadLaws.{control_laid}
use Rattle.run_laws.proofs.Reports.WholeReport.{laid_place, lies_at}
use Rattle.run_laws.proofs.Scenarios.Numbers.{is_domain_lem}
use Rattle.run_laws.proofs.Scenarios.Facts.{facts}

-- a cleaned service has no space
cleaned_bytes : (text : List ℕ) → Each (λ b. service_byte b ≡ true) (cleaned_service text)
cleaned_bytes [] = tt
cleaned_bytes (b ∷ text) = (by_test (service_byte b) refl, cleaned_bytes text)
  where
    by_test : (c : Bool) → service_byte b ≡ c → service_byte (if c then b else 95) ≡ true
    by_test true is = is
    by_test false is = refl

-- the line of an Exec in the report
pub record Serves (s : Scenario) (run : Run) (x : ExecAt) : Type 0 where
  pub line : ServedLine
  pub is : (served : List ServedLine) → IsServed s (report_of s run served) x line

fits_of : (o : Outcome) (got : List ℕ) → fitting.FitsServing o (serving_sees got) → report.FitsServing (mixed_outcome o) got
fits_of (outcome.Done code) got f = f
fits_of (outcome.Fault fault) got f = rw f refl
fits_of outcome.Closed got f = f
fits_of outcome.Gone got f = f

ended_of : (s : Scenario) (x : ExecAt) (owed : List ℕ → Triple) (o : Outcome) (end : EndView) → ServingEnded (version_at s x.to) owed o end → ServedSent s x owed (mixed_outcome o) end
ended_of s x owed (outcome.Done code) end f = f
ended_of s x owed (outcome.Fault fault) end f = tt
ended_of s x owed outcome.Closed end (inl c) = inl c.ended
ended_of s x owed outcome.Closed end (inr c) = inr c
ended_of s x owed outcome.Gone end f = f.ended

-- it was asked for
exec_asked : (s : Scenario) (run : Run) (h : IsRun s run) (d : ℕ) → IsHonest s d → (from port : ℕ) (line : List ℕ) → Has (agent_heard s run d) (m.Exec from port line)
    → (served : List ServedLine) → IsAskedFor s (report_of s run served) (record { from = from; to = d; port = port; line = line })
exec_asked s run h d honest from port line heard served =
    let c = heard_entry s run h d honest (m.Exec from port line) heard in
    let put = c.is in
    let called = is_called s run h c.one c.there from put.target put.service put.ident d port put.event put.accepted in
    let there = called.place.1 in
    let entered = subst (Has (events run.journal)) put.event (has_map_back (λ y. y.event) run.journal c.one c.there) in
    let self : (from == from) ≡ true = grind (arith, nat_tests) in
    let read = has_filter_back (is_from from) (events run.journal) (Trigger from put.target put.service put.ident) entered self in
    let told = subst (λ l. Has l (Trigger from put.target put.service put.ident)) (h.broker.reads from (is_domain_lem s from there)) read in
    record {
      page = run.page (Control from);
      lies = lies_at s run served (Control from) (control_laid s from there);
      target = put.target;
      service = put.service;
      ident = put.ident;
      heard = contains_from _ _ told;
      named = called.accepted.named;
      line_is = put.line_is ∙ ap (exec_line (cleaned_service put.service)) (name_is s from there);
    }

-- an Exec that was heard names a service and a page
pub record ExecRead (s : Scenario) (run : Run) (d from port : ℕ) (line : List ℕ) : Type 0 where
  pub service : List ℕ
  pub read : service_of_line line ≡ Some service
  pub place : IsPlace s (Payload from d port)
  pub asked : (served : List ServedLine) → IsAskedFor s (report_of s run served) (record { from = from; to = d; port = port; line = line })

pub exec_read : (s : Scenario) (run : Run) (h : IsRun s run) (d : ℕ) → IsHonest s d → (from port : ℕ) (line : List ℕ) → Has (agent_heard s run d) (m.Exec from port line) → ExecRead s run d from port line
exec_read s run h d honest from port line heard =
    let c = heard_entry s run h d honest (m.Exec from port line) heard in
    let put = c.is in
    let called = is_called s run h c.one c.there from put.target put.service put.ident d port put.event put.accepted in
    let place = called.place in
    let name = name_is s from place.1 in
    let word = word_is (name_at s from) (name_well s (facts s run h) from place.1) in
    let spaces = no_spaces service_byte refl (cleaned_service put.service) (cleaned_bytes put.service) in
    let known : is_some (service (cleaned_service put.service) []) ≡ true = called.accepted.serves in
    let line_is : line ≡ exec_line (cleaned_service put.service) (name_at s from) = put.line_is ∙ ap (exec_line (cleaned_service put.service)) name in
    record {
      service = cleaned_service put.service;
      read = ap service_of_line line_is ∙ line_served (cleaned_service put.service) (name_at s from) spaces word known;
      place = place;
      asked = exec_asked s run h d honest from port line heard;
    }

-- what the agent reports of it stands
pub exec_stands : (s : Scenario) (run : Run) (d from port : ℕ) (line : List ℕ) (x : ExecRead s run d from port line) (done : ServedDone)
    → ReportsServed (agent_plan s d) (end_of run d) (record { from = from; port = port; service = x.service }) done
    → (served : List ServedLine) → IsServed s (report_of s run served) (record { from = from; to = d; port = port; line = line }) (session_line s (session_of d done))
exec_stands s run d from port line x done r served =
    let apart = x.place.0 in
    let other : (from == d) ≡ false = grind (arith, nat_tests) in
    let end : end_of run d (Payload from d port) ≡ (run.page (Payload from d port)).client = rw other refl in
    let owes : ServingOwes (version_at s d) x.service done.outcome done.got (run.page (Payload from d port)).client =
    subst (λ e. ServingOwes (version_at s d) x.service done.outcome done.got e) end r.2 in
    record {
      from = ap (name_at s) r.0;
      to = refl;
      port = r.1;
      page = run.page (Payload from d port);
      lies = lies_at s run served (Payload from d port) (is_laid s from d port x.place);
      name = x.service;
      named = x.read;
      owed = owes.owed;
      is_service = owes.is_service;
      got = owes.got_is;
      fits = subst (λ g. report.FitsServing (mixed_outcome done.outcome) g) (sym owes.got_is) (fits_of done.outcome (run.page (Payload from d port)).client.got owes.fits);
      sent = owes.sent;
      ended = ended_of s (record { from = from; to = d; port = port; line = line }) owes.owed done.outcome (run.page (Payload from d port)).client owes.ended;
      asked = x.asked served;
    }

exec_served : (s : Scenario) (run : Run) (h : IsRun s run) (d : ℕ) → IsHonest s d → (from port : ℕ) (line : List ℕ) → Has (agent_heard s run d) (m.Exec from port line)
    → Serves s run (record { from = from; to = d; port = port; line = line })
exec_served s run h d honest from port line heard =
    let x = exec_read s run h d honest from port line heard in
    let one : Served = record { from = from; port = port; service = x.service } in
    let there = serves_each d from port line x.service x.read (nothing_heard (agent_plan s d)) (agent_heard s run d) (heard_apart s run h d honest) (heard_unused s run h d honest) heard in
    let agent = h.agent d honest in
    let reports = rw (own_end run d) at agent.serves in
    let p = pair_of (ReportsServed (agent_plan s d) (end_of run d)) (takes_all d (nothing_heard (agent_plan s d)) (agent_heard s run d)).served (run.served d) one reports
    (has_from (takes_all d (nothing_heard (agent_plan s d)) (agent_heard s run d)).served one there) in
    record { line = session_line s (session_of d p.one); is = exec_stands s run d from port line x p.one p.is }

-- ---- an Exec of the report was heard

exec_in : (all heard : List Message) → Greeted all heard → (from port : ℕ) (line : List ℕ) → Has all (m.Exec from port line) → Has heard (m.Exec from port line)
exec_in all heard (Silent a b) from port line there = absurd (subst (λ l. Has l (m.Exec from port line)) a there)
exec_in all heard (Spoken v a) from port line there = by_place (subst (λ l. Has l (m.Exec from port line)) a there)
  where
    by_place : (m.Hello v ≡ m.Exec from port line) ⊎ Has heard (m.Exec from port line) → Has heard (m.Exec from port line)
    by_place (inl e) = cc
    by_place (inr k) = k

pub record IsExecOf (to : ℕ) (y : Message) (x : ExecAt) : Type 0 where
  pub from : ℕ
  pub port : ℕ
  pub line : List ℕ
  pub message : y ≡ m.Exec from port line
  pub exec : record { from = from; to = to; port = port; line = line } ≡ x

exec_if : (to from port : ℕ) (line : List ℕ) (x : ExecAt) (b : Bool) → (if b then Some (record { from = from; to = to; port = port; line = line }) else None) ≡ Some x → IsExecOf to (m.Exec from port line) x
exec_if to from port line x false e = cc
exec_if to from port line x true e = let same : record { from = from; to = to; port = port; line = line } ≡ x = cc in record { from = from; port = port; line = line; message = refl; exec = same }

pub exec_view : (s : Scenario) (to : ℕ) (y : Message) (x : ExecAt) → exec_at s to y ≡ Some x → IsExecOf to y x
exec_view s to (m.Exec from port line) x is = exec_if to from port line x (hostile_at s from) is
exec_view s to y x is = cc

by_message : (s : Scenario) (run : Run) (h : IsRun s run) (d : ℕ) → IsHonest s d → (all : List Message) → Greeted all (agent_heard s run d) → (y : Message) (x : ExecAt) → Has all y → exec_at s d y ≡ Some x → Serves s run x
by_message s run h d honest all g y x there is =
    let v = exec_view s d y x is in
    let heard = exec_in all (agent_heard s run d) g v.from v.port v.line (subst (Has all) v.message there) in
    subst (Serves s run) v.exec (exec_served s run h d honest v.from v.port v.line heard)

by_place_lem : (s : Scenario) (run : Run) (h : IsRun s run) (place : PagePlace) (x : ExecAt) → IsPlace s place → Has (execs_on s place (run.page place)) x → Serves s run x
by_place_lem s run h (Control d) x laid_there there = by_test (hostile_at s d) refl there
  where
    by_test : (b : Bool) → hostile_at s d ≡ b → Has (if b then [] else filter_map (exec_at s d) (control_messages (run.page (Control d)).server.got)) x → Serves s run x
    by_test true is k = absurd k
    by_test false is k =
        let c = has_filter_map (exec_at s d) (control_messages (run.page (Control d)).server.got) x k in
        let honest : IsHonest s d = record { there = laid_there; honest = is } in
        by_message s run h d honest (control_messages (run.page (Control d)).server.got) (greeted (version_at s d) to_agent (run.page (Control d)).server.got (control_bytes s run h d honest).left) c.one x c.there c.is
by_place_lem s run h (Payload f t port) x laid_there there = absurd there

pub each_served : (s : Scenario) (run : Run) (h : IsRun s run) (x : ExecAt) → Has (hostile_execs s (report_of s run [])) x → Serves s run x
each_served s run h x there =
    let a = has_flat_map (λ p. execs_on s p.place p.settled) (map (page_read run) (laid s)) x there in
    let b = has_map (page_read run) (laid s) a.one a.there in
    let here : Has (execs_on s b.one (run.page b.one)) x = subst (λ p. Has (execs_on s p.place p.settled) x) (sym b.is) a.is in
    by_place_lem s run h b.one x (laid_place s b.one b.there) here
