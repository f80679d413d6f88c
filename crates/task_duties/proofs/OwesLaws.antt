-- What an agent and the broker owe depends on their own ends alone.
use Rattle.std.proofs.Common.{◌≡◌, ℕ, List, [], ◌∷◌, ◌++◌, refl, Option, Some, None, subst}
use Rattle.std.specs.Prelude.{true, false, Bool, ◌&&◌, ◌||◌, filter_map, IsSome, ◌⊎◌, if◌then◌else◌}
use Rattle.std.specs.List.{list_any, AllByRecursion as Each, AllZip as EachPair}
use Rattle.list_laws.proofs.Tests.{and_second}
use Rattle.qrexec_frame.specs.declared.message.Message.{Message}
use Rattle.qrexec_frame.specs.declared.message.Message.TheVariants.{Hello, Exec, JustExec, Connect, Refused, Terminated, Trigger3, Trigger, Stdin, Stdout, Stderr, ExitCode}
use Rattle.call_broker.specs.declared.decision.Entry.{Entry}
use Rattle.call_broker.specs.Domains.{Domains, is_domain}
use Rattle.end_view.specs.EndView.{EndView}
use Rattle.scenario_file.specs.declared.scenario.CallPlan.{CallPlan}
use Rattle.task_duties.specs.declared.place.PagePlace.{PagePlace}
use Rattle.task_duties.specs.declared.place.PagePlace.TheVariants.{Control, Payload}
use Rattle.task_duties.specs.declared.done.CallDone.{CallDone}
use Rattle.task_duties.specs.declared.done.CallEnd.{CallEnd}
use Rattle.task_duties.specs.declared.done.CallEnd.TheVariants.{Session, Refused as WasRefused, Unanswered}
use Rattle.task_duties.specs.declared.done.ServedDone.{ServedDone}
use Rattle.task_duties.specs.declared.done.ControlEnd.{ControlEnd}
use Rattle.task_duties.specs.Places.{is_place, has_place, without}
use Rattle.task_duties.specs.Hearing.{to_agent, to_broker, IsSaid, hears}
use Rattle.task_duties.specs.Words.{service_of_line}
use Rattle.task_duties.specs.Agent.Given.{AgentPlan}
use Rattle.task_duties.specs.Agent.Answers.{Answer, Waits, IsRefused, At, Asked, Served, Answers, waits_as, answered, serves, takes, takes_all, nothing_heard, answers, answer_in}
use Rattle.task_duties.specs.Agent.Saying.{IsOfVersion, KeepsTo, IsTold}
use Rattle.task_duties.specs.Agent.Sessions.{CallerOwes, ServingOwes}
use Rattle.task_duties.specs.Agent.Owes.{AgentOwes, ReportsAnswer, ReportsCall, ReportsServed, ControlOver, caller_done}
use Rattle.task_duties.specs.Broker.Outbox.{event_of, read_from}
use Rattle.task_duties.specs.Broker.Owes.{BrokerOwes, broker_version}

-- ---- calls are answered, and sessions served, on the ends that were given alone

abbrev AnswerGiven : ℕ → List PagePlace → Answer → Type 0
AnswerGiven d places (At to port) = has_place (Payload d to port) places ≡ true
AnswerGiven d places answer = Unit {0}

record AreGiven (d : ℕ) (places : List PagePlace) (a : Answers) : Type 0 where
  pub unused : (place : PagePlace) → has_place place a.unused ≡ true → has_place place places ≡ true
  pub asked : Each (λ x. AnswerGiven d places x.answer) a.asked
  pub served : Each (λ x. has_place (Payload x.from d x.port) places ≡ true) a.served

there_before : (taken place : PagePlace) (places : List PagePlace) → has_place place (without taken places) ≡ true → has_place place places ≡ true
there_before taken place [] h = h
there_before taken place (p ∷ places) h = by_place (is_place taken p) refl (is_place place p) refl h (there_before taken place places)
  where
    by_place : (b : Bool) → is_place taken p ≡ b → (c : Bool) → is_place place p ≡ c → has_place place (without taken (p ∷ places)) ≡ true
        → (has_place place (without taken places) ≡ true → has_place place places ≡ true) → (c || has_place place places) ≡ true
    by_place b gone true is h' more = refl
    by_place true gone false is h' more = more (let left = rw gone at h' in left)
    by_place false gone false is h' more = more (let left = rw (gone, is) at h' in left)

answers_given : (d : ℕ) (places : List PagePlace) (ident : List ℕ) (answer : Answer) → AnswerGiven d places answer → (asked : List Asked) → Each (λ x. AnswerGiven d places x.answer) asked
    → Each (λ x. AnswerGiven d places x.answer) (answered ident answer asked)
answers_given d places ident answer there [] each = tt
answers_given d places ident answer there (a ∷ asked) each = (by_wait (waits_as ident a), answers_given d places ident answer there asked each.1)
  where
    by_wait : (b : Bool) → AnswerGiven d places (if b then record { call = a.call; answer = answer } else a).answer
    by_wait true = there
    by_wait false = each.0

each_push : (d : ℕ) (places : List PagePlace) (served : List Served) (x : Served) → Each (λ y. has_place (Payload y.from d y.port) places ≡ true) served → has_place (Payload x.from d x.port) places ≡ true
    → Each (λ y. has_place (Payload y.from d y.port) places ≡ true) (served ++ x ∷ [])
each_push d places [] x each there = (there, tt)
each_push d places (y ∷ served) x each there = (each.0, each_push d places served x each.1 there)

message_given : (d : ℕ) (places : List PagePlace) (a : Answers) (m : Message) → AreGiven d places a → AreGiven d places (takes d a m)
message_given d places a (Refused ident) h = record { unused = h.unused; asked = answers_given d places ident IsRefused tt a.asked h.asked; served = h.served }
message_given d places a (Connect to port ident) h = by_test (list_any (waits_as ident) a.asked && has_place (Payload d to port) a.unused) refl
  where
    by_test : (b : Bool) → (list_any (waits_as ident) a.asked && has_place (Payload d to port) a.unused) ≡ b → AreGiven d places (takes d a (Connect to port ident))
    by_test false is = rw is h
    by_test true is =
        let free = and_second (list_any (waits_as ident) a.asked) (has_place (Payload d to port) a.unused) is in
        rw is (record {
          unused = λ place there. h.unused place (there_before (Payload d to port) place a.unused there);
          asked = answers_given d places ident (At to port) (h.unused (Payload d to port) free) a.asked h.asked;
          served = h.served;
        })
message_given d places a (Exec from port line) h = by_service (service_of_line line)
  where
    by_place : (svc : List ℕ) (b : Bool) → has_place (Payload from d port) a.unused ≡ b → AreGiven d places (serves d from port (Some svc) a)
    by_place svc false is = rw is h
    by_place svc true is = rw is (record {
      unused = λ place there. h.unused place (there_before (Payload from d port) place a.unused there);
      asked = h.asked;
      served = each_push d places a.served (record { from = from; port = port; service = svc }) h.served (h.unused (Payload from d port) is);
    })

    by_service : (o : Option (List ℕ)) → AreGiven d places (serves d from port o a)
    by_service None = h
    by_service (Some svc) = by_place svc (has_place (Payload from d port) a.unused) refl
message_given d places a (JustExec from port line) h = h
message_given d places a (Hello v) h = h
message_given d places a (Terminated x p) h = h
message_given d places a (Trigger3 t i s) h = h
message_given d places a (Trigger t i s) h = h
message_given d places a (Stdin b) h = h
message_given d places a (Stdout b) h = h
message_given d places a (Stderr b) h = h
message_given d places a (ExitCode c) h = h

messages_given : (d : ℕ) (places : List PagePlace) (ms : List Message) (a : Answers) → AreGiven d places a → AreGiven d places (takes_all d a ms)
messages_given d places [] a h = h
messages_given d places (m ∷ ms) a h = messages_given d places ms (takes d a m) (message_given d places a m h)

none_answered : (d : ℕ) (places : List PagePlace) (calls : List CallPlan) → Each (λ x. AnswerGiven d places x.answer) (nothing_heard (record { domain = d; version = 3; calls = calls; places = places })).asked
none_answered d places [] = tt
none_answered d places (call ∷ calls) = (tt, none_answered d places calls)

all_given : (plan : AgentPlan) (heard : List Message) → AreGiven plan.domain plan.places (answers plan heard)
all_given plan heard = messages_given plan.domain plan.places heard (nothing_heard plan) (record {
  unused = λ place there. there;
  asked = none_answered plan.domain plan.places plan.calls;
  served = tt;
})

-- ---- an agent

answer_same : (plan : AgentPlan) (end end' : PagePlace → EndView) → ((place : PagePlace) → has_place place plan.places ≡ true → end place ≡ end' place) → (call : CallPlan) (a : Answer) (e : CallEnd)
    → AnswerGiven plan.domain plan.places a → ReportsAnswer plan end call a e → ReportsAnswer plan end' call a e
answer_same plan end end' same call Waits Unanswered there r = tt
answer_same plan end end' same call IsRefused WasRefused there r = tt
answer_same plan end end' same call (At to port) (Session port' to' outcome stdout stderr got) there r =
    (r.0, r.1, subst (CallerOwes plan.version call.stdin (caller_done outcome stdout stderr got)) (same (Payload plan.domain to port) there) r.2)
answer_same plan end end' same call Waits WasRefused there r = absurd r
answer_same plan end end' same call Waits (Session port' to' outcome stdout stderr got) there r = absurd r
answer_same plan end end' same call IsRefused Unanswered there r = absurd r
answer_same plan end end' same call IsRefused (Session port' to' outcome stdout stderr got) there r = absurd r
answer_same plan end end' same call (At to port) WasRefused there r = absurd r
answer_same plan end end' same call (At to port) Unanswered there r = absurd r

calls_same : (plan : AgentPlan) (end end' : PagePlace → EndView) → ((place : PagePlace) → has_place place plan.places ≡ true → end place ≡ end' place) → (asked : List Asked) (calls : List CallDone)
    → Each (λ x. AnswerGiven plan.domain plan.places x.answer) asked → EachPair (ReportsCall plan end) asked calls → EachPair (ReportsCall plan end') asked calls
calls_same plan end end' same [] [] each r = tt
calls_same plan end end' same [] (c ∷ calls) each r = absurd r
calls_same plan end end' same (a ∷ asked) [] each r = absurd r
calls_same plan end end' same (a ∷ asked) (c ∷ calls) each r =
    ((r.0.0, answer_same plan end end' same a.call a.answer c.end each.0 r.0.1), calls_same plan end end' same asked calls each.1 r.1)

served_same : (plan : AgentPlan) (end end' : PagePlace → EndView) → ((place : PagePlace) → has_place place plan.places ≡ true → end place ≡ end' place) → (served : List Served) (dones : List ServedDone)
    → Each (λ x. has_place (Payload x.from plan.domain x.port) plan.places ≡ true) served → EachPair (ReportsServed plan end) served dones → EachPair (ReportsServed plan end') served dones
served_same plan end end' same [] [] each r = tt
served_same plan end end' same [] (d ∷ dones) each r = absurd r
served_same plan end end' same (x ∷ served) [] each r = absurd r
served_same plan end end' same (x ∷ served) (d ∷ dones) each r = (
  (r.0.0, r.0.1, subst (ServingOwes plan.version x.service d.outcome d.got) (same (Payload x.from plan.domain x.port) each.0) r.0.2),
  served_same plan end end' same served dones each.1 r.1,
)

pub agent_owes_same : (plan : AgentPlan) (end end' : PagePlace → EndView) (calls : List CallDone) (served : List ServedDone) (control : ControlEnd) → end (Control plan.domain) ≡ end' (Control plan.domain)
    → ((place : PagePlace) → has_place place plan.places ≡ true → end place ≡ end' place) → AgentOwes plan end calls served control → AgentOwes plan end' calls served control
agent_owes_same plan end end' calls served control c same h =
    let given = all_given plan (hears plan.version to_agent (end' (Control plan.domain)).got).messages in
    let reports = subst (λ e. EachPair (ReportsCall plan end) (answers plan (hears plan.version to_agent e.got).messages).asked calls) c h.reports in
    let serves = subst (λ e. EachPair (ReportsServed plan end) (answers plan (hears plan.version to_agent e.got).messages).served served) c h.serves in
    record {
      said = h.said;
      says = subst (λ e. IsSaid plan.version to_broker h.said e.sent) c h.says;
      in_order = h.in_order;
      of_version = subst (λ e. Each (IsOfVersion (hears plan.version to_agent e.got).version) h.said) c h.of_version;
      greeted = subst (λ e. (hears plan.version to_agent e.got).version ≡ None → h.said ≡ []) c h.greeted;
      keeps = λ target. subst (λ e. KeepsTo (answer_in (answers plan (hears plan.version to_agent e.got).messages).asked) target [] h.said) c (h.keeps target);
      told = subst (λ e. Each (IsTold (answers plan (hears plan.version to_agent e.got).messages).asked (hears plan.version to_agent e.got).messages) h.said) c h.told;
      over = subst (λ e. ControlOver e (hears plan.version to_agent e.got) control) c h.over;
      reports = calls_same plan end end' same _ calls given.asked reports;
      serves = served_same plan end end' same _ served given.served serves;
    }

-- ---- the broker

pub broker_owes_same : (hub : Domains) (awaited : List ℕ) (journal : List Entry) (end end' : ℕ → EndView) → ((d : ℕ) → is_domain hub d ≡ true → end d ≡ end' d)
    → BrokerOwes hub awaited journal end → BrokerOwes hub awaited journal end'
broker_owes_same hub awaited journal end end' same h = record {
  decided = h.decided;
  numbered = h.numbered;
  reads = λ d there. subst (λ e. read_from journal d ≡ filter_map (event_of d) (hears broker_version to_broker e.got).messages) (same d there) (h.reads d there);
  drops = λ d there dropped. subst (λ e. (e.saw ≡ true) ⊎ (e.misled ≡ true) ⊎ IsSome (hears broker_version to_broker e.got).fault) (same d there) (h.drops d there dropped);
  said = h.said;
  says = λ d there. subst (λ e. IsSaid broker_version to_agent (h.said d) e.sent) (same d there) (h.says d there);
  from_journal = h.from_journal;
  exec_first = h.exec_first;
  settled = h.settled;
  all_said = h.all_said;
}
