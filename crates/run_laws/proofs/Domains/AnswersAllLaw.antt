-- Answers-all of a run: each planned call of an honest domain was asked for, has one reply, and is reported with it.
use Rattle.std.proofs.Common.{◌≡◌, ◌≢◌, ℕ, ◌+◌, ◌-◌, ◌<◌, ◌≤◌, List, [], ◌∷◌, length, map, refl, ap, sym, ◌∙◌, arith, inl, inr, subst}
use Rattle.std.specs.Prelude.{true, false, Bool, ◌&&◌, bytes_eq}
use Rattle.std.proofs.lemmas.List.{length-map}
use Rattle.std.proofs.lemmas.List.Sums.{length-filter}
use Rattle.std.proofs.lemmas.Slice.Eq.{bytes_eq-Decides}
use Rattle.std.specs.List.{AllByRecursion as Each, AllZip as EachPair}
use Rattle.list_laws.specs.Lists.{SomeOf}
use Rattle.list_laws.proofs.Prefixes.{prefix_all}
use Rattle.list_laws.proofs.Tests.{same_bytes}
use Rattle.qrexec_frame.specs.declared.message.Message.{Message}
use Rattle.qrexec_frame.specs.declared.message.Message.TheVariants as m
use Rattle.scenario_file.specs.Scenario.{Plan as Scenario}
use Rattle.scenario_file.specs.declared.scenario.CallPlan.{CallPlan}
use Rattle.task_duties.specs.declared.place.PagePlace.{PagePlace}
use Rattle.end_view.specs.EndView.{EndView}
use Rattle.task_duties.specs.Words.{ident_of}
use Rattle.task_duties.specs.Agent.Given.{AgentPlan}
use Rattle.task_duties.specs.Agent.Answers.{Answer, Waits, IsRefused, At, Asked, waits, waits_as, takes_all, nothing_heard}
use Rattle.task_duties.specs.declared.done.CallDone.{CallDone}
use Rattle.task_duties.specs.declared.done.CallEnd.{CallEnd}
use Rattle.task_duties.specs.declared.done.CallEnd.TheVariants.{Session, Refused as WasRefused, Unanswered}
use Rattle.task_duties.specs.Agent.Owes.{ReportsCall, ReportsAnswer}
use Rattle.task_duties.specs.Agent.Saying.{asking_of}
use Rattle.task_duties.specs.Broker.Owes.{awaited_of}
use Rattle.task_duties.specs.Broker.Outbox.{outbox, answered, is_answer}
use Rattle.task_duties.proofs.AnsweredLaw.{IsIdle, AnswersTo, answers_each}
use Rattle.task_duties.proofs.Elements.{Has, Comes, has_filter, each_at, each_of, tally, tally_permuted}
use Rattle.task_duties.proofs.JournalLaw.{asked_in}
use Rattle.run_laws.specs.Laid.{hub_of, calls_from, agent_plan, awaited_by}
use Rattle.run_laws.specs.Lawful.{is_reply, replies}
use Rattle.run_laws.specs.Run.{Run, IsRun, IsHonest, end_of}
use Rattle.run_laws.specs.Laws.{AnswersAll, IsOne, agent_heard}
use Rattle.run_laws.proofs.Scenarios.Numbers.{is_domain_lem, domain_is}
use Rattle.run_laws.proofs.Scenarios.Calls.{calls_differ}
use Rattle.run_laws.proofs.Sessions.CallLaw.{AreHeard, IsHeard, all_heard}
use Rattle.run_laws.proofs.Domains.ControlLaws.{own_end, control_ends}
use Rattle.run_laws.proofs.Domains.Planned.{heard_is, asked_same, asked_planned, heard_apart, heard_unused}
use Rattle.run_laws.proofs.Domains.PortsLaw.{index_numbers}
use Rattle.run_laws.proofs.Domains.ReplyCounts.{answers_in, counted, IsAnsweredEntry, reply_count, ask_count, outbox_replies, one_asks, is_one}
use Rattle.run_laws.proofs.Scenarios.Facts.{facts}

-- ---- the count of calls

awaited_is : (s : Scenario) (run : Run) (d : ℕ) → IsHonest s d → awaited_of (awaited_by s) d ≡ length (calls_from s d)
awaited_is s run d honest =
    let within = domain_is s d honest.there in
    let back : 1 + (d - 1) ≡ d = omega (arith, within) in
    index_numbers (λ x. length (calls_from s x)) 1 (length s.domains) (d - 1) (omega (arith, within)) ∙ ap (λ x. length (calls_from s x)) back

-- the calls were all asked for, and all answered
pub record AllAsked (s : Scenario) (run : Run) (d : ℕ) : Type 0 where
  pub asked : asked_in run.journal d ≡ map asking_of (calls_from s d)
  pub answers : Each (IsAnsweredEntry d) run.journal

pub all_asked : (s : Scenario) (run : Run) (h : IsRun s run) (d : ℕ) → IsHonest s d → AllAsked s run d
all_asked s run h d honest =
    let settled = h.broker.settled d (is_domain_lem s d honest.there) (control_ends s run h d honest).kept in
    let awaited = awaited_is s run d honest in
    let count : length (answers_in run.journal d) ≡ answered run.journal d = length-filter (λ x. is_answer d x.event x.decision) run.journal in
    let c = counted d run.journal in
    let most = c.most in
    let plan : length (map asking_of (calls_from s d)) ≡ length (calls_from s d) = length-map (calls_from s d) asking_of in
    let all : length (map asking_of (calls_from s d)) ≤ length (asked_in run.journal d) = omega (arith, settled, awaited, count, most, plan) in
    let asked = prefix_all (asked_in run.journal d) (map asking_of (calls_from s d)) (asked_planned s run h d honest) all in
    let long : length (asked_in run.journal d) ≡ length (map asking_of (calls_from s d)) = ap length asked in
    record { asked = asked; answers = c.all (omega (arith, settled, awaited, count, plan, long)) }

-- ---- one reply to each

has_some : {A : Type 0} (xs : List A) (x : A) → Has xs x → 0 < length xs
has_some [] x h = absurd h
has_some (y ∷ xs) x h = omega arith

pub replies_one : (s : Scenario) (run : Run) (h : IsRun s run) (d : ℕ) → IsHonest s d → (call : CallPlan) → Has (calls_from s d) call → IsOne (replies (ident_of call.number) (agent_heard s run d))
replies_one s run h d honest call planned =
    let all = all_asked s run h d honest in
    let awaited = awaited_is s run d honest in
    let some = has_some (calls_from s d) call planned in
    let said = h.broker.all_said d (is_domain_lem s d honest.there) (control_ends s run h d honest).kept (omega (arith, awaited, some)) in
    let heard = heard_is s run h d honest in
    let ident = ident_of call.number in
    let in_outbox : tally (reply_count ident) (agent_heard s run d) ≡ tally (reply_count ident) (outbox (hub_of s) run.journal d) =
    ap (tally (reply_count ident)) heard ∙ tally_permuted (reply_count ident) (h.broker.said d) (outbox (hub_of s) run.journal d) said in
    let in_journal = outbox_replies (hub_of s) d ident run.journal all.answers in
    let in_plan : tally (ask_count ident) (asked_in run.journal d) ≡ tally (ask_count ident) (map asking_of (calls_from s d)) = ap (tally (ask_count ident)) all.asked in
    let one = one_asks (calls_from s d) (calls_differ s (facts s run h) d) call planned in
    is_one ident (agent_heard s run d) (in_outbox ∙ in_journal ∙ in_plan ∙ one)

-- ---- no call waits

reply_answers : (ident : List ℕ) (x : Message) → is_reply ident x ≡ true → AnswersTo ident x
reply_answers ident (m.Connect to port i) h = (bytes_eq-Decides i ident).0 h
reply_answers ident (m.Refused i) h = (bytes_eq-Decides i ident).0 h
reply_answers ident x h = cc

some_of : (ident : List ℕ) (ms : List Message) (x : Message) → Has ms x → AnswersTo ident x → SomeOf (AnswersTo ident) ms
some_of ident [] x h a = absurd h
some_of ident (y ∷ ms) x (inl h) a = inl (subst (AnswersTo ident) (sym h) a)
some_of ident (y ∷ ms) x (inr h) a = inr (some_of ident ms x h a)

first_of : (ms : List Message) → IsOne ms → Comes Message ms (λ x. Unit {0})
first_of [] one = absurd one
first_of (x ∷ ms) one = record { one = x; there = inl refl; is = tt }

replied : (ident : List ℕ) (heard : List Message) → IsOne (replies ident heard) → SomeOf (AnswersTo ident) heard
replied ident heard one =
    let c = first_of (replies ident heard) one in
    let there = has_filter (is_reply ident) heard c.one c.there in
    some_of ident heard c.one there.0 (reply_answers ident c.one there.1)

partner : {A B : Type 0} (R : A → B → Type 0) (xs : List A) (ys : List B) (y : B) → EachPair R xs ys → Has ys y → Comes A xs (λ x. R x y)
partner R [] [] y each h = absurd h
partner R [] (z ∷ ys) y each h = absurd each
partner R (x ∷ xs) [] y each h = absurd h
partner R (x ∷ xs) (z ∷ ys) y each (inl h) = record { one = x; there = inl refl; is = subst (R x) h each.0 }
partner R (x ∷ xs) (z ∷ ys) y each (inr h) = let c = partner R xs ys y each.1 h in record { one = c.one; there = inr c.there; is = c.is }

and-false : (a b : Bool) → a ≡ true → (a && b) ≡ false → b ≡ false
and-false true b is h = h
and-false false b is h = cc

none_wait : (heard : List Message) (calls : List CallPlan) (asked : List Asked) → AreHeard heard calls asked → ((call : CallPlan) → Has calls call → IsIdle (ident_of call.number) asked)
    → Each (λ a. waits a.answer ≡ false) asked
none_wait heard calls asked are idle = each_of (λ a. waits a.answer ≡ false) asked (λ a there.
    let c = partner (λ call x. (x.call ≡ call) × IsHeard heard call x.answer) calls asked a are there in
    let idle' = each_at (λ x. waits_as (ident_of c.one.number) x ≡ false) asked a (idle c.one c.there) there in
    let same : bytes_eq (ident_of a.call.number) (ident_of c.one.number) ≡ true = ap (λ x. bytes_eq (ident_of x.number) (ident_of c.one.number)) c.is.0 ∙ same_bytes (ident_of c.one.number) in
    and-false (bytes_eq (ident_of a.call.number) (ident_of c.one.number)) (waits a.answer) same idle')

one_reported : (plan : AgentPlan) (end : PagePlace → EndView) (call : CallPlan) (a : Answer) (e : CallEnd) → waits a ≡ false → ReportsAnswer plan end call a e → e ≢ Unanswered
one_reported plan end call a (Session port to outcome stdout stderr got) idle r = λ e. cc
one_reported plan end call a WasRefused idle r = λ e. cc
one_reported plan end call Waits Unanswered idle r = cc
one_reported plan end call IsRefused Unanswered idle r = absurd r
one_reported plan end call (At to port) Unanswered idle r = absurd r

all_reported : (plan : AgentPlan) (end : PagePlace → EndView) (asked : List Asked) (done : List CallDone) → EachPair (ReportsCall plan end) asked done → Each (λ a. waits a.answer ≡ false) asked
    → Each (λ c. c.end ≢ Unanswered) done
all_reported plan end [] [] r idle = tt
all_reported plan end [] (c ∷ done) r idle = absurd r
all_reported plan end (a ∷ asked) [] r idle = absurd r
all_reported plan end (a ∷ asked) (c ∷ done) r idle = (one_reported plan end a.call a.answer c.end idle.0 r.0.1, all_reported plan end asked done r.1 idle.1)

pub answers_all : AnswersAll
answers_all s run h d honest =
    let all = all_asked s run h d honest in
    let heard = agent_heard s run d in
    let idle : (call : CallPlan) → Has (calls_from s d) call → IsIdle (ident_of call.number) (takes_all d (nothing_heard (agent_plan s d)) (agent_heard s run d)).asked = λ call planned.
    answers_each d (ident_of call.number) (nothing_heard (agent_plan s d)) (agent_heard s run d) (heard_apart s run h d honest) (heard_unused s run h d honest)
    (replied (ident_of call.number) (agent_heard s run d) (replies_one s run h d honest call planned)) in
    let agent = h.agent d honest in
    let reports = rw (own_end run d) at agent.reports in
    record {
      asked = sym (asked_same s run h d honest) ∙ all.asked;
      answered = each_of (λ call. IsOne (replies (ident_of call.number) (agent_heard s run d))) (calls_from s d) (λ call planned. replies_one s run h d honest call planned);
      reported = all_reported (agent_plan s d) (end_of run d) _ (run.calls d) reports
          (none_wait (agent_heard s run d) (calls_from s d) _ (all_heard s run d (agent_heard s run d)) idle);
    }
