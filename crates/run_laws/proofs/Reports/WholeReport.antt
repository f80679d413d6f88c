-- The report that is read off a run is lawful, if its lines of served sessions are.
use Rattle.std.proofs.Common.{◌≡◌, ◌≢◌, ℕ, ◌+◌, ◌*◌, ◌<◌, suc, zero, List, [], ◌∷◌, ◌++◌, length, map, refl, ap, sym, ◌∙◌, arith, ◌⊎◌, inl, inr, Option, Some, None, subst}
use Rattle.std.specs.Prelude.{true, false, Bool, nat_le, ◌==◌, ◌||◌, AllPairs, IsPermutation, is_some}
use Rattle.std.specs.List.{flat_map, list_any, AllByRecursion as Each, AllZip as EachPair}
use Rattle.std.proofs.lemmas.Bool.Decides.{nat_tests}
use Rattle.std.proofs.lemmas.List.Sorted.{IsPermutation-refl}
use Rattle.std.proofs.Math.Bool.{or-true}
use Rattle.qrexec_frame.specs.declared.message.Message.TheVariants as m
use Rattle.service_gate.specs.Triple.{Triple}
use Rattle.service_gate.specs.ServiceResult.{service}
use Rattle.call_broker.specs.declared.decision.Entry.{Entry}
use Rattle.call_broker.specs.declared.event.Event.TheVariants.{Trigger}
use Rattle.call_broker.specs.declared.decision.Cause.{Cause}
use Rattle.call_broker.specs.declared.decision.Cause.TheVariants.{TargetDropped}
use Rattle.call_broker.specs.declared.decision.Decision.TheVariants as decision
use Rattle.call_broker.specs.Domains.{target_of, is_service, pages_of, port_after, first_port}
use Rattle.call_broker.specs.Pair.{Ordered, has, state_after}
use Rattle.call_broker.specs.Pair as pair
use Rattle.call_broker.specs.Journal.{drops, is_dropped}
use Rattle.call_broker.proofs.StateLaws.{IsDecidedAt, still_up, none_before, dropped_events}
use Rattle.end_view.specs.Settled.{Settled, IsSettled}
use Rattle.qrexec_data.specs.declared.outcome.Outcome.{Outcome}
use Rattle.qrexec_data.specs.declared.outcome.Outcome.TheVariants as outcome
use Rattle.qrexec_data.specs.Seeing.{caller_sees}
use Rattle.qrexec_data.specs.Fitting as fitting
use Rattle.qrexec_data.specs.Sending.{CallerMaySend}
use Rattle.scenario_file.specs.Scenario.{Plan as Scenario, domain_named, hostile_at, version_at, is_mixed}
use Rattle.scenario_file.specs.declared.scenario.CallPlan.{CallPlan}
use Rattle.scenario_file.specs.Lines.{by_service}
use Rattle.task_duties.specs.declared.place.PagePlace.{PagePlace}
use Rattle.task_duties.specs.declared.place.PagePlace.TheVariants.{Control, Payload}
use Rattle.task_duties.specs.Places.{numbers}
use Rattle.task_duties.specs.Words.{ident_of}
use Rattle.task_duties.specs.declared.done.CallerDone.{CallerDone}
use Rattle.task_duties.specs.Agent.Sessions.{chunk, CallerOwes, CallerEnded}
use Rattle.task_duties.specs.declared.done.CallEnd.{CallEnd}
use Rattle.task_duties.specs.declared.done.CallEnd.TheVariants.{Session, Refused as WasRefused, Unanswered}
use Rattle.task_duties.proofs.Elements.{Has, has_from, contains_from, has_append, has_map, has_map_back, has_flat_map}
use Rattle.task_duties.specs.Agent.Owes.{caller_done}
use Rattle.run_laws.specs.Laid.{BeganAsSaid, hub_of, all_domains, pages_between, ports_between, laid_between, laid, is_end_of, hostile_plan, calls_from, server_of, client_of}
use Rattle.run_laws.specs.declared.report.CallResult.TheVariants.{Mixed as IsMixed}
use Rattle.run_laws.specs.declared.report.ServedLine.{ServedLine}
use Rattle.run_laws.specs.Report.{Report}
use Rattle.run_laws.specs.Report as report
use Rattle.run_laws.specs.Run.{Run, IsRun, IsHonest, IsPlace, end_of}
use Rattle.run_laws.specs.Laws.{IsExpected}
use Rattle.run_laws.specs.Lawful.{IsActedOn, IsLawful, TurnedAsSaid, LiesAt, MayRefuse, MixedOn, EndedAs, ResultStands, CallStands, ExecAt, hostile_execs, comes_before, IsServed}
use Rattle.run_laws.specs.Lawful as lawful
use Rattle.run_laws.specs.ReadOff.{end_of_call, page_read, mixed_outcome, mixed_end, result_of, report_of, ports_of, port_of_end}
use Rattle.run_laws.proofs.Sessions.CallEnds.{IsReported}
use Rattle.run_laws.proofs.Scenarios.Calls.{own_call}
use Rattle.run_laws.proofs.Reports.FineCalls.{caller_honest, planned_of, session_heard, refused_heard}
use Rattle.run_laws.proofs.Reports.HonestReport.{reported, fine, mixed_same, pairs_of, lawful_honest}
use Rattle.run_laws.proofs.Domains.LimitsKeptLaw.{limits_kept, taken, up_at}
use Rattle.run_laws.proofs.Scenarios.Names.{target_is_lem, target_there}
use Rattle.run_laws.proofs.Scenarios.Numbers.{is_domain_lem}
use Rattle.run_laws.proofs.Scenarios.Places.{is_laid}
use Rattle.run_laws.proofs.Reports.ReadLaws.{laid_control, control_laid, number_there, ports_is}
use Rattle.run_laws.proofs.Sessions.ServedAllLaw.{heard_entry, is_of, answered_at}
use Rattle.service_gate.proofs.EveryService.{known_anyway}
use Rattle.run_laws.proofs.Domains.SpentLaw.{decided_at}
use Rattle.run_laws.proofs.Scenarios.Facts.{facts}

-- ---- the pages that are laid

pub record IsNumber (from by count n : ℕ) : Type 0 where
  pub index : ℕ
  pub less : index < count
  pub is : n ≡ from + by * index

number_at : (from by count n : ℕ) → Has (numbers from by count) n → IsNumber from by count n
number_at from by zero n h = absurd h
number_at from by (suc count) n (inl h) = record { index = 0; less = omega arith; is = omega (arith, h) }
number_at from by (suc count) n (inr h) = let k = number_at (from + by) by count n h in record { index = suc k.index; less = (let l = k.less in omega (arith, l)); is = (let e = k.is in omega (arith, e)) }

between_self : (s : Scenario) (d : ℕ) → pages_between s d d ≡ 0
between_self s d = let dd : (d == d) ≡ true = grind (arith, nat_tests) in rw dd refl

data_place : (s : Scenario) (f t port : ℕ) → Has (all_domains s) f → Has (all_domains s) t → Has (ports_between s f t) port → IsPlace s (Payload f t port)
data_place s f t port hf ht hp =
    let n = number_at (first_port f t) 2 (pages_between s f t) port hp in
    let less = n.less in
    let is = n.is in (
      (λ same. let none : pages_between s f t ≡ 0 = ap (λ x. pages_between s f x) (sym same) ∙ between_self s f in absurd (omega (arith, less, none))),
      number_there s f hf,
      number_there s t ht,
      (n.index, less, is),
    )

pub laid_place : (s : Scenario) (place : PagePlace) → Has (laid s) place → IsPlace s place
laid_place s (Control d) h = laid_control s d h
laid_place s (Payload f t port) h = by_part (has_append (map Control (all_domains s)) (flat_map (λ from. flat_map (laid_between s from) (all_domains s)) (all_domains s)) (Payload f t port) h)
  where
    by_part : Has (map Control (all_domains s)) (Payload f t port) ⊎ Has (flat_map (λ from. flat_map (laid_between s from) (all_domains s)) (all_domains s)) (Payload f t port) → IsPlace s (Payload f t port)
    by_part (inl k) = let c = has_map Control (all_domains s) (Payload f t port) k in let is = c.is in cc
    by_part (inr k) =
        let a = has_flat_map (λ from. flat_map (laid_between s from) (all_domains s)) (all_domains s) (Payload f t port) k in
        let b = has_flat_map (laid_between s a.one) (all_domains s) (Payload f t port) a.is in
        let c = has_map (Payload a.one b.one) (ports_between s a.one b.one) (Payload f t port) b.is in
        subst (IsPlace s) c.is (data_place s a.one b.one c.one a.there b.there c.there)

-- a page of the report is that of a place that is laid
pub record IsPageOf (s : Scenario) (run : Run) (place : PagePlace) (page : Settled) : Type 0 where
  pub there : IsPlace s place
  pub is : run.page place ≡ page

pub page_of : (s : Scenario) (run : Run) (served : List ServedLine) (place : PagePlace) (page : Settled) → LiesAt (report_of s run served) place page → IsPageOf s run place page
page_of s run served place page lies =
    let c = has_map (page_read run) (laid s) _ (has_from (map (page_read run) (laid s)) _ lies) in
    let same : c.one ≡ place = ap (λ p. p.place) c.is in
    record { there = subst (IsPlace s) same (laid_place s c.one c.there); is = ap run.page (sym same) ∙ ap (λ p. p.settled) c.is }

pub lies_at : (s : Scenario) (run : Run) (served : List ServedLine) (place : PagePlace) → Has (laid s) place → LiesAt (report_of s run served) place (run.page place)
lies_at s run served place there = contains_from (map (page_read run) (laid s)) _ (has_map_back (page_read run) (laid s) place there)

places_same : (run : Run) (places : List PagePlace) → map (λ p. p.place) (map (page_read run) places) ≡ places
places_same run [] = refl
places_same run (p ∷ places) = ap (λ r. p ∷ r) (places_same run places)

settled_each : (s : Scenario) (run : Run) → IsRun s run → (places : List PagePlace) → ((place : PagePlace) → Has places place → IsPlace s place) → Each (λ p. IsSettled p.settled) (map (page_read run) places)
settled_each s run h [] go = tt
settled_each s run h (p ∷ places) go = (h.settled p (go p (inl refl)), settled_each s run h places (λ place there. go place (inr there)))

turned_each : (s : Scenario) (run : Run) → IsRun s run → (places : List PagePlace) → ((place : PagePlace) → Has places place → IsPlace s place) → Each (TurnedAsSaid s) (map (page_read run) places)
turned_each s run h [] go = tt
turned_each s run h (p ∷ places) go = (record { server = h.server_turned p (go p (inl refl)); client = h.client_turned p (go p (inl refl)) }, turned_each s run h places (λ q there. go q (inr there)))

begun_each : (s : Scenario) (run : Run) → IsRun s run → (places : List PagePlace) → ((place : PagePlace) → Has places place → IsPlace s place) → Each (λ p. BeganAsSaid s p.place p.settled) (map (page_read run) places)
begun_each s run h [] go = tt
begun_each s run h (p ∷ places) go = (h.begun p (go p (inl refl)), begun_each s run h places (λ place there. go place (inr there)))

-- ---- turned ends

server_end : (place : PagePlace) → is_end_of (server_of place) place ≡ true
server_end (Control d) = grind (arith, nat_tests)
server_end (Payload f t port) = let ff : (f == f) ≡ true = grind (arith, nat_tests) in rw ff refl

pub server_acts_lem : (s : Scenario) (run : Run) → IsRun s run → (place : PagePlace) → IsPlace s place → (run.page place).server.turned ≡ true → IsActedOn (hostile_plan s (server_of place)) place (run.page place).server
server_acts_lem s run h place there turned =
    let bad : hostile_at s (server_of place) ≡ true = sym (h.server_turned place there) ∙ turned in
    let acted = h.hostile (server_of place) bad place there (server_end place) in
    let self : (server_of place == server_of place) ≡ true = grind (arith, nat_tests) in
    let same : end_of run (server_of place) place ≡ (run.page place).server = rw self refl in
    subst (λ e. IsActedOn (hostile_plan s (server_of place)) place e) same acted

pub client_acts_lem : (s : Scenario) (run : Run) → IsRun s run → (place : PagePlace) → IsPlace s place → (run.page place).client.turned ≡ true → IsActedOn (hostile_plan s (client_of place)) place (run.page place).client
client_acts_lem s run h (Control d) there turned = let fine' : (run.page (Control d)).client.turned ≡ false = h.client_turned (Control d) there in cc
client_acts_lem s run h (Payload f t port) there turned =
    let bad : hostile_at s t ≡ true = sym (h.client_turned (Payload f t port) there) ∙ turned in
    let tt' : (t == t) ≡ true = grind (arith, nat_tests) in
    let own : (f == t || t == t) ≡ true = rw tt' (or-true (f == t)) in
    let acted = h.hostile t bad (Payload f t port) there own in
    let apart = there.0 in
    let other : (f == t) ≡ false = grind (arith, nat_tests) in
    let same : end_of run t (Payload f t port) ≡ (run.page (Payload f t port)).client = rw other refl in
    subst (λ e. IsActedOn (hostile_plan s t) (Payload f t port) e) same acted

-- ---- the calls to hostile domains

mixed_on : (s : Scenario) (call : CallPlan) (done : CallerDone) (page : Settled) (o : Outcome) → done.outcome ≡ o → CallerOwes (version_at s call.from) call.stdin done page.server → MixedOn s call (mixed_outcome o) done.got page
mixed_on s call done page o is owes = (sym owes.got, by_fits o is owes.fits, sent, by_end o is owes.ended)
  where
    got : page.server.got ≡ done.got
    got = sym owes.got

    sent : CallerMaySend (version_at s call.from) chunk call.stdin done.got page.server.sent
    sent = subst (λ g. CallerMaySend (version_at s call.from) chunk call.stdin g page.server.sent) (sym owes.got) owes.sent

    at_got : (o' : Outcome) → report.FitsCaller (mixed_outcome o') page.server.got → report.FitsCaller (mixed_outcome o') done.got
    at_got o' f = subst (λ g. report.FitsCaller (mixed_outcome o') g) got f

    by_fits : (o' : Outcome) → done.outcome ≡ o' → fitting.FitsCaller done.outcome (caller_sees page.server.got) → report.FitsCaller (mixed_outcome o') done.got
    by_fits (outcome.Done code) e f = let f' = rw e at f in at_got (outcome.Done code) f'
    by_fits (outcome.Fault fault) e f = let f' = rw e at f in at_got (outcome.Fault fault) (rw f' tt)
    by_fits outcome.Closed e f = let f' = rw e at f in at_got outcome.Closed f'
    by_fits outcome.Gone e f = let f' = rw e at f in at_got outcome.Gone f'

    by_end : (o' : Outcome) → done.outcome ≡ o' → CallerEnded done.outcome page.server → EndedAs (mixed_outcome o') page.server
    by_end (outcome.Done code) e f = tt
    by_end (outcome.Fault fault) e f = tt
    by_end outcome.Closed e f = let f' = rw e at f in (f'.ended, f'.drained)
    by_end outcome.Gone e f = let f' = rw e at f in f'.ended

mixed_session : (s : Scenario) (r : Report) (ports : ℕ → Option ℕ) (call : CallPlan) (to port : ℕ) (page : Settled) (got : List ℕ) (o : Outcome) → ports call.number ≡ Some port
    → LiesAt r (Payload call.from to port) page → MixedOn s call (mixed_outcome o) got page → ResultStands s r ports call to (IsMixed (mixed_outcome o) got)
mixed_session s r ports call to port page got (outcome.Done code) p l on = (port, page, p, l, on)
mixed_session s r ports call to port page got (outcome.Fault fault) p l on = (port, page, p, l, on)
mixed_session s r ports call to port page got outcome.Closed p l on = (port, page, p, l, on)
mixed_session s r ports call to port page got outcome.Gone p l on = (port, page, p, l, on)

-- a trigger that was refused as TargetDropped comes after its target was dropped
not_dropped : (serves full spent : Bool) (live to port : ℕ) → taken serves false full spent live to port ≢ decision.Refused TargetDropped
not_dropped false full spent live to port = λ e. cc
not_dropped true true spent live to port = λ e. cc
not_dropped true false true live to port = λ e. cc
not_dropped true false false live to port = λ e. cc

pub was_dropped : (s : Scenario) (run : Run) (h : IsRun s run) (d : ℕ) → IsHonest s d → (to : ℕ) (call : CallPlan) → (to == d) ≡ false → target_of (hub_of s) call.to ≡ Some to → (x : Entry) → Has run.journal x
    → x.event ≡ Trigger d call.to call.service (ident_of call.number) → x.decision ≡ decision.Refused TargetDropped → is_dropped run.journal to ≡ true
was_dropped s run h d honest to call other named x there event refused = by_test (is_dropped run.journal to) refl
  where
    at : IsDecidedAt (hub_of s) [] run.journal x
    at = decided_at (hub_of s) [] run.journal x h.broker.decided there

    never : is_dropped run.journal to ≡ false → ⊥
    never kept =
        let all : list_any (drops to) (at.before ++ x.event ∷ at.rest) ≡ false = ap (list_any (drops to)) (sym at.all) ∙ dropped_events to run.journal ∙ kept in
        let gone : has to (state_after (hub_of s) at.before (Ordered d to)).dropped ≡ false = still_up (hub_of s) (Ordered d to) to at.before (none_before to at.before (x.event ∷ at.rest) all) in
        let up' = up_at s run h d honest x at (Ordered d to) in
        let is : pair.decision (hub_of s) at.before (Trigger d call.to call.service (ident_of call.number))
        ≡ taken (is_service call.service) false (nat_le 16 (length (state_after (hub_of s) at.before (Ordered d to)).live))
        (nat_le (pages_of (hub_of s) d to) (state_after (hub_of s) at.before (Ordered d to)).calls) (length (state_after (hub_of s) at.before (Ordered d to)).live) to (port_after d to (state_after (hub_of s) at.before (Ordered d to)).calls) =
        rw (named, other, up', gone) refl in
        let decided : decision.Refused TargetDropped ≡ pair.decision (hub_of s) at.before (Trigger d call.to call.service (ident_of call.number)) =
        sym refused ∙ at.decided ∙ ap (pair.decision (hub_of s) at.before) event in
        not_dropped (is_service call.service) _ _ _ to _ (sym is ∙ sym decided)

    by_test : (b : Bool) → is_dropped run.journal to ≡ b → is_dropped run.journal to ≡ true
    by_test true is = is
    by_test false is = absurd (never is)

no_service : (name x : List ℕ) (o : Option Triple) → service name x ≡ o → is_some o ≡ false → (q : Option Triple) → service name [] ≡ q → q ≡ None
no_service name x o is none None isq = refl
no_service name x o is none (Some t) isq = let same = known_anyway name x [] in let a = rw (is, isq) at same in cc

may_refuse : (s : Scenario) (run : Run) (h : IsRun s run) (served : List ServedLine) (call : CallPlan) → Has s.calls call → (to : ℕ) → domain_named s call.to ≡ Some to → hostile_at s to ≡ true → (x : Entry) → Has run.journal x
    → x.event ≡ Trigger call.from call.to call.service (ident_of call.number) → (cause : Cause) → x.decision ≡ decision.Refused cause → MayRefuse s (report_of s run served) call to
may_refuse s run h served call there to named bad x hx event cause refused = by_service' (service call.service call.stdin) refl
  where
    honest : IsHonest s call.from
    honest = caller_honest s run h call there

    planned : Has (calls_from s call.from) call
    planned = planned_of s call there

    other : (to == call.from) ≡ false
    other = by_test (to == call.from) refl
      where
        by_test : (b : Bool) → (to == call.from) ≡ b → b ≡ false
        by_test false is = refl
        by_test true is = let same : to ≡ call.from = grind (arith, nat_tests, is) in let good = honest.honest in let bad' : hostile_at s call.from ≡ true = ap (hostile_at s) (sym same) ∙ bad in cc

    entry : x ≡ record { event = Trigger call.from call.to call.service (ident_of call.number); decision = decision.Refused cause }
    entry = ap (λ e. record { event = e; decision = x.decision }) event ∙ ap (λ d. record { event = Trigger call.from call.to call.service (ident_of call.number); decision = d }) refused

    expected : IsExpected s call.from (Some to) (by_service (service call.service call.stdin)) (decision.Refused cause)
    expected =
        let e = limits_kept s run h call.from honest call (contains_from (calls_from s call.from) call planned) (decision.Refused cause) (contains_from run.journal _ (subst (Has run.journal) entry hx)) in
        rw (named, other) at e

    target : target_of (hub_of s) call.to ≡ Some to
    target = target_is_lem s call.to (own_call s (facts s run h) call.from call planned).well.to ∙ named

    by_service' : (o : Option Triple) → service call.service call.stdin ≡ o → MayRefuse s (report_of s run served) call to
    by_service' None is = inl (no_service call.service call.stdin None is refl (service call.service []) refl)
    by_service' (Some t) is = let e = rw is at expected in by_cause e
      where
        by_cause : ((port : ℕ) × (decision.Refused cause ≡ decision.Accepted to port)) ⊎ ((decision.Refused cause ≡ decision.Refused TargetDropped) × (hostile_at s to ≡ true)) → MayRefuse s (report_of s run served) call to
        by_cause (inl a) = let e = a.1 in cc
        by_cause (inr a) =
            let t_there = target_there s call.to to target in
            let dropped = was_dropped s run h call.from honest to call other target x hx event (refused ∙ a.0) in
            inr (run.page (Control to), lies_at s run served (Control to) (control_laid s to t_there), h.broker.drops to (is_domain_lem s to t_there) dropped)

mixed_stands : (s : Scenario) (run : Run) (h : IsRun s run) (served : List ServedLine) (call : CallPlan) → Has s.calls call → (to : ℕ) → domain_named s call.to ≡ Some to → hostile_at s to ≡ true → (e : CallEnd) → end_of_call run call ≡ e
    → IsReported s run call.from call e → ResultStands s (report_of s run served) (ports_of s run) call to (mixed_end e)
mixed_stands s run h served call there to named bad (Session port t outcome stdout stderr got) end r =
    let view = session_heard s run call.from t port call (caller_done outcome stdout stderr got) r.answer r.heard_is r.reports in
    let a = answered_at s run h call.from t port (caller_honest s run h call there) call (planned_of s call there) view.heard in
    let both : Some t ≡ Some to = sym a.named ∙ named in
    let same : t ≡ to = cc in
    let ports : ports_of s run call.number ≡ Some port = ports_is s run (facts s run h) call there ∙ ap port_of_end end in
    let on = mixed_on s call (caller_done outcome stdout stderr got) (run.page (Payload call.from t port)) outcome refl view.owes in
    subst (λ x. ResultStands s (report_of s run served) (ports_of s run) call x (IsMixed (mixed_outcome outcome) got)) same
    (mixed_session s (report_of s run served) (ports_of s run) call t port (run.page (Payload call.from t port)) got outcome ports
    (lies_at s run served (Payload call.from t port) (is_laid s call.from t port a.place)) on)
mixed_stands s run h served call there to named bad WasRefused end r =
    let honest = caller_honest s run h call there in
    let planned = planned_of s call there in
    let c = heard_entry s run h call.from honest (m.Refused (ident_of call.number)) (refused_heard s run call.from call r.answer r.heard_is r.reports) in
    let put = c.is in
    let of = is_of s run h call.from honest call planned c.one put.target put.service c.there put.event in
    let event : c.one.event ≡ Trigger call.from call.to call.service (ident_of call.number) =
    put.event ∙ ap (λ x. Trigger call.from x put.service (ident_of call.number)) of.target_is ∙ ap (λ x. Trigger call.from call.to x (ident_of call.number)) of.service_is in
    (ports_is s run (facts s run h) call there ∙ ap port_of_end end, refl, may_refuse s run h served call there to named bad c.one c.there event put.cause put.refused)
mixed_stands s run h served call there to named bad Unanswered end r = absurd (r.answered refl)

stands : (s : Scenario) (run : Run) (h : IsRun s run) (served : List ServedLine) (call : CallPlan) → Has s.calls call → (b : Bool) → is_mixed s call ≡ b
    → (to : ℕ) → domain_named s call.to ≡ Some to → ResultStands s (report_of s run served) (ports_of s run) call to (result_of s run call)
stands s run h served call there false plain to named = (fine s run h served call there plain).stands to named
stands s run h served call there true mixed to named =
    let r : result_of s run call ≡ mixed_end (end_of_call run call) = rw mixed refl in
    let bad : hostile_at s to ≡ true = let e = rw named at mixed in e in
    subst (ResultStands s (report_of s run served) (ports_of s run) call to) (sym r) (mixed_stands s run h served call there to named bad (end_of_call run call) refl (reported s run h call there))

-- nothing need be told of a call to a hostile domain
told : (s : Scenario) (run : Run) (h : IsRun s run) (served : List ServedLine) (call : CallPlan) → Has s.calls call → (b : Bool) → is_mixed s call ≡ b
    → (to : ℕ) → domain_named s call.to ≡ Some to → lawful.ToldAs s (report_of s run served) (ports_of s run) call to (result_of s run call)
told s run h served call there false plain to named = (fine s run h served call there plain).told to named
told s run h served call there true mixed to named =
    let r : result_of s run call ≡ mixed_end (end_of_call run call) = rw mixed refl in
    subst (lawful.ToldAs s (report_of s run served) (ports_of s run) call to) (sym r) (by_end (end_of_call run call))
  where
    by_end : (e : CallEnd) → lawful.ToldAs s (report_of s run served) (ports_of s run) call to (mixed_end e)
    by_end (Session port t outcome stdout stderr got) = tt
    by_end WasRefused = tt
    by_end Unanswered = tt

-- ---- the whole, but for the lines of served sessions

pub lawful_with_served : (s : Scenario) (run : Run) → IsRun s run → (served : List ServedLine) (execs : List ExecAt) → IsPermutation execs (hostile_execs s (report_of s run served))
    → AllPairs (λ a b. comes_before a b ≡ true) execs → EachPair (IsServed s (report_of s run served)) execs served → IsLawful s (report_of s run served)
lawful_with_served s run h served execs all_execs in_order each =
    let honest = lawful_honest s run h served in
    record {
      ports = ports_of s run;
      pages = (let same = places_same run (laid s) in rw same (IsPermutation-refl (laid s)));
      begun = begun_each s run h (laid s) (λ place there. laid_place s place there);
      turned = turned_each s run h (laid s) (λ place there. laid_place s place there);
      settled = settled_each s run h (laid s) (λ place there. laid_place s place there);
      calls = honest.calls;
      results = honest.results;
      apart = honest.apart;
      stand = pairs_of s run (CallStands s (report_of s run served) (ports_of s run)) s.calls
          (λ call there. (mixed_same s run h served call there (is_mixed s call) refl, stands s run h served call there (is_mixed s call) refl));
      paged = honest.paged;
      execs = execs;
      all_execs = all_execs;
      in_order = in_order;
      served = each;
      control = honest.control;
      told = pairs_of s run (λ call l. (to : ℕ) → domain_named s call.to ≡ Some to → lawful.ToldAs s (report_of s run served) (ports_of s run) call to l.result) s.calls
          (λ call there. told s run h served call there (is_mixed s call) refl);
      server_acts = λ place page lies turned. (let p = page_of s run served place page lies in
          subst (λ q. IsActedOn (hostile_plan s (server_of place)) place q.server) p.is (server_acts_lem s run h place p.there (ap (λ q. q.server.turned) p.is ∙ turned)));
      client_acts = λ place page lies turned. (let p = page_of s run served place page lies in
          subst (λ q. IsActedOn (hostile_plan s (client_of place)) place q.client) p.is (client_acts_lem s run h place p.there (ap (λ q. q.client.turned) p.is ∙ turned)));
    }
