-- The report that is read off a run is lawful in what it says of honest domains.
use Rattle.std.proofs.Common.{◌≡◌, ◌≢◌, ℕ, ◌<◌, List, [], ◌∷◌, map, refl, ap, sym, ◌∙◌, arith, inl, inr, Option, Some, None, subst}
use Rattle.std.specs.Prelude.{true, false, Bool, not, IsSome, filter, filter_map, slice_index_or, is_some}
use Rattle.std.proofs.lemmas.List.Elements.{Contains-get_or}
use Rattle.qrexec_frame.specs.declared.message.Message.{Message}
use Rattle.qrexec_frame.specs.declared.message.Message.TheVariants as m
use Rattle.call_broker.specs.declared.event.Event.TheVariants.{Trigger}
use Rattle.call_broker.specs.Journal.{port_in}
use Rattle.end_view.specs.Settled.{Settled}
use Rattle.scenario_file.specs.Scenario.{Plan as Scenario, domain_named, hostile_at, version_at, is_mixed}
use Rattle.scenario_file.specs.declared.scenario.CallPlan.{CallPlan}
use Rattle.scenario_file.specs.Lines.{line_of}
use Rattle.scenario_file.specs.Scenario.{IsHonest as IsHonestNumber}
use Rattle.std.specs.List.{AllByRecursion, AllByRecursion as Each, AllZip as EachPair}
use Rattle.list_laws.proofs.Tests.{same_bytes}
use Rattle.scenario_file.proofs.WithoutLaws.{lines_without}
use Rattle.task_duties.specs.declared.place.PagePlace.TheVariants.{Control}
use Rattle.task_duties.specs.Words.{ident_of}
use Rattle.task_duties.specs.Hearing.{to_agent, to_broker}
use Rattle.task_duties.specs.declared.done.CallEnd.{CallEnd}
use Rattle.task_duties.specs.declared.done.CallEnd.TheVariants.{Session, Refused as WasRefused, Unanswered}
use Rattle.task_duties.proofs.Elements.{Has, has_from, has_filter_back, has_map, each_of, each_at, one_of}
use Rattle.task_duties.specs.Agent.Owes.{caller_done}
use Rattle.run_laws.specs.Laid.{calls_from, laid}
use Rattle.run_laws.specs.declared.report.CallLine.{CallLine}
use Rattle.run_laws.specs.declared.report.ServedLine.{ServedLine}
use Rattle.run_laws.specs.Report.{plain_line, plain_result}
use Rattle.run_laws.specs.Lawful.{AreApart, CallStands, ControlStands, ToldAs, LiesAt, IsLineOf, has_page, is_mixed_result, control_messages, replies, is_reply, answer_of}
use Rattle.run_laws.specs.Run.{Run, IsRun, IsHonest}
use Rattle.run_laws.proofs.Scenarios.Facts.{facts, IsCall}
use Rattle.run_laws.specs.Laws.{IsOne, agent_heard}
use Rattle.run_laws.specs.ReadOff.{end_of_call, page_read, plain_end, mixed_end, result_of, line_read, report_of, ports_of, port_of_end, IsLawfulHonest}
use Rattle.run_laws.proofs.Domains.AnswersAllLaw.{answers_all, replies_one}
use Rattle.run_laws.proofs.Sessions.CallEnds.{IsReported, is_reported}
use Rattle.run_laws.proofs.Scenarios.Calls.{ident_number, own_call}
use Rattle.run_laws.proofs.Domains.ControlLaws.{own_end, control_bytes}
use Rattle.run_laws.proofs.Scenarios.Numbers.{is_domain_lem}
use Rattle.run_laws.proofs.Domains.ControlMessages.{greeted, same_asked, same_replies}
use Rattle.run_laws.proofs.Reports.FineCalls.{caller_honest, planned_of, session_heard, refused_heard, IsFine, fine_call, mixed_paged, mixed_is}
use Rattle.run_laws.proofs.Domains.Planned.{ports_differ}
use Rattle.run_laws.proofs.Reports.ReadLaws.{laid_control, ports_is}
use Rattle.run_laws.proofs.Sessions.ServedAllLaw.{answered_at, IsAnsweredAt, port_is_lem}

-- ---- each call

pub reported : (s : Scenario) (run : Run) (h : IsRun s run) (call : CallPlan) → Has s.calls call → IsReported s run call.from call (end_of_call run call)
reported s run h call there = is_reported s run h call.from (caller_honest s run h call there) call (planned_of s call there)

pub fine : (s : Scenario) (run : Run) (h : IsRun s run) (served : List ServedLine) (call : CallPlan) → Has s.calls call → is_mixed s call ≡ false → IsFine s run served call (result_of s run call) (end_of_call run call)
fine s run h served call there plain =
    let f = fine_call s run h served call there plain (end_of_call run call) refl (reported s run h call there) in
    let is : result_of s run call ≡ plain_end s run call (end_of_call run call) = rw plain refl in
    subst (λ res. IsFine s run served call res (end_of_call run call)) (sym is) f

pub mixed_same : (s : Scenario) (run : Run) (h : IsRun s run) (served : List ServedLine) (call : CallPlan) → Has s.calls call → (b : Bool) → is_mixed s call ≡ b → is_mixed_result (result_of s run call) ≡ is_mixed s call
mixed_same s run h served call there true is = let r : result_of s run call ≡ mixed_end (end_of_call run call) = rw is refl in ap is_mixed_result r ∙ mixed_is (end_of_call run call) ∙ sym is
mixed_same s run h served call there false is = (fine s run h served call there is).unmixed ∙ sym is

paged : (s : Scenario) (run : Run) (h : IsRun s run) (served : List ServedLine) (call : CallPlan) → Has s.calls call → (b : Bool) → is_mixed s call ≡ b → is_some (ports_of s run call.number) ≡ has_page (result_of s run call)
paged s run h served call there true is =
    let r : result_of s run call ≡ mixed_end (end_of_call run call) = rw is refl in
    ap is_some (ports_is s run (facts s run h) call there) ∙ mixed_paged (end_of_call run call) (reported s run h call there).answered ∙ ap has_page (sym r)
paged s run h served call there false is = ap is_some (ports_is s run (facts s run h) call there) ∙ (fine s run h served call there is).paged

-- ---- all of them

pub pairs_of : (s : Scenario) (run : Run) (R : CallPlan → CallLine → Type 0) (calls : List CallPlan) → ((call : CallPlan) → Has calls call → R call (line_read s run call)) → EachPair R calls (map (line_read s run) calls)
pairs_of s run R [] go = tt
pairs_of s run R (c ∷ calls) go = (go c (inl refl), pairs_of s run R calls (λ call there. go call (inr there)))

results_on : (s : Scenario) (run : Run) (calls : List CallPlan) → ((call : CallPlan) → Has calls call → is_mixed s call ≡ false → plain_line (line_read s run call) ≡ Some (line_of s call))
    → ((call : CallPlan) → Has calls call → is_mixed s call ≡ true → plain_line (line_read s run call) ≡ None)
    → filter_map plain_line (map (line_read s run) calls) ≡ map (line_of s) (filter (λ call. not (is_mixed s call)) calls)
results_on s run [] plain mixed = refl
results_on s run (c ∷ calls) plain mixed = by_mixed (is_mixed s c) refl (results_on s run calls (λ call there. plain call (inr there)) (λ call there. mixed call (inr there)))
  where
    by_mixed : (b : Bool) → is_mixed s c ≡ b → filter_map plain_line (map (line_read s run) calls) ≡ map (line_of s) (filter (λ call. not (is_mixed s call)) calls)
        → filter_map plain_line (map (line_read s run) (c ∷ calls)) ≡ map (line_of s) (filter (λ call. not (is_mixed s call)) (c ∷ calls))
    by_mixed true is more = let none = mixed c (inl refl) is in rw (none, is) more
    by_mixed false is more = let some = plain c (inl refl) is in rw (some, is) (ap (λ r. line_of s c ∷ r) more)

mixed_none : (s : Scenario) (run : Run) (call : CallPlan) → is_mixed s call ≡ true → plain_line (line_read s run call) ≡ None
mixed_none s run call is =
    let r : result_of s run call ≡ mixed_end (end_of_call run call) = rw is refl in
    ap (plain_result (line_read s run call)) r ∙ by_end (end_of_call run call)
  where
    by_end : (e : CallEnd) → plain_result (line_read s run call) (mixed_end e) ≡ None
    by_end (Session port to outcome stdout stderr got) = refl
    by_end WasRefused = refl
    by_end Unanswered = refl

-- ---- calls of one pair have different pages

session_at : (s : Scenario) (run : Run) (h : IsRun s run) (call : CallPlan) → Has s.calls call → (port : ℕ) → (e : CallEnd) → end_of_call run call ≡ e → port_of_end e ≡ Some port
    → IsReported s run call.from call e → (t : ℕ) × IsAnsweredAt s run call.from t port call
session_at s run h call there port (Session p to outcome stdout stderr got) end is r =
    let view = session_heard s run call.from to p call (caller_done outcome stdout stderr got) r.answer r.heard_is r.reports in
    let a = answered_at s run h call.from to p (caller_honest s run h call there) call (planned_of s call there) view.heard in
    let same : p ≡ port = cc in
    (to, subst (λ q. IsAnsweredAt s run call.from to q call) same a)
session_at s run h call there port WasRefused end is r = cc
session_at s run h call there port Unanswered end is r = cc

never_shared : (s : Scenario) (run : Run) (h : IsRun s run) (a b : CallPlan) → Has s.calls a → Has s.calls b → a.number < b.number → a.from ≡ b.from → domain_named s a.to ≡ domain_named s b.to
    → (port : ℕ) → ports_of s run a.number ≡ Some port → ports_of s run b.number ≡ Some port → ⊥
never_shared s run h a b a_there b_there less from to port pa pb =
    let x = session_at s run h a a_there port (end_of_call run a) refl (sym (ports_is s run (facts s run h) a a_there) ∙ pa) (reported s run h a a_there) in
    let y = session_at s run h b b_there port (end_of_call run b) refl (sym (ports_is s run (facts s run h) b b_there) ∙ pb) (reported s run h b b_there) in
    let both : Some x.0 ≡ Some y.0 = sym x.1.named ∙ to ∙ y.1.named in
    let same_t : x.0 ≡ y.0 = cc in
    let px : port_in a.from x.0 x.1.one.event x.1.one.decision ≡ Some port = port_is_lem a.from x.0 port x.1.one a.to a.service (ident_of a.number) x.1.event x.1.accepted in
    let py : port_in b.from y.0 y.1.one.event y.1.one.decision ≡ Some port = port_is_lem b.from y.0 port y.1.one b.to b.service (ident_of b.number) y.1.event y.1.accepted in
    let py' : port_in a.from x.0 y.1.one.event y.1.one.decision ≡ Some port =
    ap (λ f. port_in f x.0 y.1.one.event y.1.one.decision) from ∙ ap (λ t. port_in b.from t y.1.one.event y.1.one.decision) same_t ∙ py in
    let same = one_of (λ z. port_in a.from x.0 z.event z.decision) run.journal (ports_differ s run h a.from x.0) x.1.one y.1.one port x.1.there y.1.there px py' in
    let events : Trigger a.from a.to a.service (ident_of a.number) ≡ Trigger b.from b.to b.service (ident_of b.number) = sym x.1.event ∙ ap (λ z. z.event) same ∙ y.1.event in
    let idents : ident_of a.number ≡ ident_of b.number = cc in
    let ca = each_at (IsCall s) s.calls a (facts s run h).calls a_there in
    let cb = each_at (IsCall s) s.calls b (facts s run h).calls b_there in
    let number = ident_number a.number b.number ca.number_small cb.number_small idents in
    absurd (omega (arith, less, number))

apart_of : (s : Scenario) (run : Run) (h : IsRun s run) (a b : CallPlan) → Has s.calls a → Has s.calls b → a.number < b.number → a.from ≡ b.from → domain_named s a.to ≡ domain_named s b.to
    → (o : Option ℕ) → ports_of s run a.number ≡ o → IsSome o → o ≢ ports_of s run b.number
apart_of s run h a b a_there b_there less from to None is some = cc
apart_of s run h a b a_there b_there less from to (Some port) is some = λ same. never_shared s run h a b a_there b_there less from to port is (sym same)

are_apart : (s : Scenario) (run : Run) (h : IsRun s run) → AreApart s (ports_of s run)
are_apart s run h i j d less small from to some =
    apart_of s run h (slice_index_or s.calls i d) (slice_index_or s.calls j d)
    (has_from s.calls _ (Contains-get_or s.calls i d (omega (arith, less, small)))) (has_from s.calls _ (Contains-get_or s.calls j d small))
    ((facts s run h).numbers_rise i j d less small) from to (ports_of s run (slice_index_or s.calls i d).number) refl some

-- ---- the control page of an honest domain

one_reply : (ms : List Message) (x : Message) → IsOne ms → Has ms x → ms ≡ x ∷ []
one_reply [] x one there = absurd there
one_reply (y ∷ []) x one (inl here) = ap (λ z. z ∷ []) here
one_reply (y ∷ []) x one (inr later) = absurd later
one_reply (y ∷ z ∷ ms) x one there = absurd one

reply_by : (s : Scenario) (run : Run) (h : IsRun s run) (call : CallPlan) → Has s.calls call → (e : CallEnd) → end_of_call run call ≡ e → IsReported s run call.from call e
    → replies (ident_of call.number) (agent_heard s run call.from) ≡ answer_of s (ports_of s run) call (domain_named s call.to) (port_of_end e) ∷ []
reply_by s run h call there (Session port to outcome stdout stderr got) end r =
    let honest = caller_honest s run h call there in
    let planned = planned_of s call there in
    let view = session_heard s run call.from to port call (caller_done outcome stdout stderr got) r.answer r.heard_is r.reports in
    let named = (answered_at s run h call.from to port honest call planned view.heard).named in
    let reply = has_filter_back (is_reply (ident_of call.number)) (agent_heard s run call.from) (m.Connect to port (ident_of call.number)) view.heard (same_bytes (ident_of call.number)) in
    one_reply _ _ (replies_one s run h call.from honest call planned) reply ∙ ap (λ o. answer_of s (ports_of s run) call o (Some port) ∷ []) (sym named)
reply_by s run h call there WasRefused end r =
    let honest = caller_honest s run h call there in
    let planned = planned_of s call there in
    let heard = refused_heard s run call.from call r.answer r.heard_is r.reports in
    let reply = has_filter_back (is_reply (ident_of call.number)) (agent_heard s run call.from) (m.Refused (ident_of call.number)) heard (same_bytes (ident_of call.number)) in
    one_reply _ _ (replies_one s run h call.from honest call planned) reply ∙ by_name (domain_named s call.to)
  where
    by_name : (o : Option ℕ) → m.Refused (ident_of call.number) ∷ [] ≡ answer_of s (ports_of s run) call o None ∷ []
    by_name None = refl
    by_name (Some to) = refl
reply_by s run h call there Unanswered end r = absurd (r.answered refl)

reply_of : (s : Scenario) (run : Run) (h : IsRun s run) (d : ℕ) → IsHonest s d → (call : CallPlan) → Has (calls_from s d) call
    → replies (ident_of call.number) (control_messages (run.page (Control d)).server.got) ≡ answer_of s (ports_of s run) call (domain_named s call.to) (ports_of s run call.number) ∷ []
reply_of s run h d honest call planned =
    let own = own_call s (facts s run h) d call planned in
    let clean = control_bytes s run h d honest in
    let by = reply_by s run h call own.there (end_of_call run call) refl (reported s run h call own.there) in
    let heard : replies (ident_of call.number) (agent_heard s run d) ≡ replies (ident_of call.number) (agent_heard s run call.from) = ap (λ x. replies (ident_of call.number) (agent_heard s run x)) (sym own.from) in
    same_replies (ident_of call.number) _ _ (greeted (version_at s d) to_agent (run.page (Control d)).server.got clean.left) ∙ heard ∙ by
    ∙ ap (λ o. answer_of s (ports_of s run) call (domain_named s call.to) o ∷ []) (sym (ports_is s run (facts s run h) call own.there))

control_stands : (s : Scenario) (run : Run) (h : IsRun s run) (d : ℕ) → IsHonest s d → ControlStands s (ports_of s run) d (run.page (Control d))
control_stands s run h d honest =
    let clean = control_bytes s run h d honest in
    let all = answers_all s run h d honest in
    let agent = h.agent d honest in
    record {
      left = clean.left;
      right = clean.right;
      left_said = h.broker.said d;
      left_says = h.broker.says d (is_domain_lem s d honest.there);
      right_said = agent.said;
      right_says = rw (own_end run d) at agent.says;
      asked = same_asked _ _ (greeted 3 to_broker (run.page (Control d)).client.got clean.right) ∙ all.asked;
      answered = each_of (λ call. replies (ident_of call.number) (control_messages (run.page (Control d)).server.got) ≡ answer_of s (ports_of s run) call (domain_named s call.to) (ports_of s run call.number) ∷ [])
          (calls_from s d) (λ call planned. reply_of s run h d honest call planned);
    }

control_lies : (s : Scenario) (run : Run) (h : IsRun s run) (served : List ServedLine) (d : ℕ) (page : Settled) → LiesAt (report_of s run served) (Control d) page → hostile_at s d ≡ false
    → ControlStands s (ports_of s run) d page
control_lies s run h served d page lies plain =
    let there = has_from (map (page_read run) (laid s)) _ lies in
    let c = has_map (page_read run) (laid s) _ there in
    let place : c.one ≡ Control d = ap (λ p. p.place) c.is in
    let page_is : run.page (Control d) ≡ page = ap run.page (sym place) ∙ ap (λ p. p.settled) c.is in
    let laid_there = laid_control s d (subst (λ p. Has (laid s) p) place c.there) in
    subst (ControlStands s (ports_of s run) d) page_is (control_stands s run h d (record { there = laid_there; honest = plain }))

-- ---- the whole

callers : (s : Scenario) (calls : List CallPlan) → Each (IsCall s) calls → AllByRecursion (λ call. IsHonestNumber s.domains call.from) calls
callers s [] each = tt
callers s (c ∷ calls) each = (each.0.caller, callers s calls each.1)

pub lawful_honest : (s : Scenario) (run : Run) → IsRun s run → (served : List ServedLine) → IsLawfulHonest s (report_of s run served) (ports_of s run)
lawful_honest s run h served = record {
  calls = pairs_of s run (IsLineOf s) s.calls (λ call there. record { number = refl; from = refl; to = refl; service = refl });
  results = results_on s run s.calls (λ call there plain. (fine s run h served call there plain).plain) (λ call there mixed. mixed_none s run call mixed)
      ∙ sym (lines_without s (callers s s.calls (facts s run h).calls));
  apart = are_apart s run h;
  stand = pairs_of s run (λ call l. is_mixed s call ≡ false → CallStands s (report_of s run served) (ports_of s run) call l) s.calls
      (λ call there plain. (mixed_same s run h served call there false plain, (fine s run h served call there plain).stands));
  paged = pairs_of s run (λ call l. is_some (ports_of s run call.number) ≡ has_page l.result) s.calls (λ call there. paged s run h served call there (is_mixed s call) refl);
  control = λ d page lies plain. control_lies s run h served d page lies plain;
  told = pairs_of s run (λ call l. is_mixed s call ≡ false → (to : ℕ) → domain_named s call.to ≡ Some to → ToldAs s (report_of s run served) (ports_of s run) call to l.result) s.calls
      (λ call there plain. (fine s run h served call there plain).told);
}
