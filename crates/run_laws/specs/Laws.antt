-- The eight laws that lead from ends to the report. Each speaks of one page, one domain or one call.
-- Source: this project's own.
use Rattle.std.specs.Prelude.{◌≡◌, ◌≢◌, ◌⊎◌, ℕ, ℤ, pos, ◌≤◌, true, false, List, [], ◌∷◌, filter_map, map, is_some, Contains, Option, Some, None}
use Rattle.std.specs.List.{AllByRecursion as Each, AllZip as EachPair}
use Rattle.ring_words.specs.declared.order.Orders.{Orders}
use Rattle.qrexec_frame.specs.declared.message.Message.{Message}
use Rattle.qrexec_frame.specs.declared.message.Message.TheVariants as message
use Rattle.service_gate.specs.Triple.{Triple}
use Rattle.call_broker.specs.declared.event.Event.TheVariants.{Trigger}
use Rattle.call_broker.specs.declared.decision.Decision.{Decision}
use Rattle.call_broker.specs.declared.decision.Decision.TheVariants.{Accepted, Refused}
use Rattle.call_broker.specs.declared.decision.Cause.TheVariants.{NoDomain, SameDomain, NoService, TargetDropped}
use Rattle.call_broker.specs.Domains.{first_port}
use Rattle.call_broker.specs.Journal.{is_dropped, accepted_ports}
use Rattle.end_view.specs.Settled.{Settled}
use Rattle.qrexec_data.specs.declared.outcome.Outcome.TheVariants.{Done}
use Rattle.qrexec_data.specs.Seeing.{serving_sees}
use Rattle.scenario_file.specs.Scenario.{Plan as Scenario, domain_of, domain_named, hostile_at, name_at, version_at}
use Rattle.scenario_file.specs.declared.scenario.CallPlan.{CallPlan}
use Rattle.scenario_file.specs.declared.line.LineResult.{LineResult}
use Rattle.scenario_file.specs.Lines.{by_domain}
use Rattle.scenario_file.specs.declared.line.LineResult.TheVariants as line
use Rattle.scenario_file.specs.declared.line.LineCause.TheVariants as line_cause
use Rattle.task_duties.specs.declared.place.PagePlace.TheVariants.{Control, Payload}
use Rattle.task_duties.specs.Places.{numbers}
use Rattle.task_duties.specs.Hearing.{to_agent, to_broker, hears}
use Rattle.task_duties.specs.Words.{ident_of, exec_line}
use Rattle.task_duties.specs.declared.done.CallerDone.{CallerDone}
use Rattle.task_duties.specs.Agent.Sessions.{ServingOwes, IsService}
use Rattle.task_duties.specs.declared.done.CallEnd.{CallEnd}
use Rattle.task_duties.specs.declared.done.CallEnd.TheVariants.{Session, Refused as WasRefused, Unanswered}
use Rattle.task_duties.specs.declared.done.CallDone.{CallDone}
use Rattle.task_duties.specs.declared.done.ServedDone.{ServedDone}
use Rattle.task_duties.specs.Agent.Owes.{caller_done}
use Rattle.task_duties.specs.Agent.Saying.{asking, asking_of}
use Rattle.run_laws.specs.Laid.{pages_between, calls_from}
use Rattle.run_laws.specs.Lawful.{replies}
use Rattle.run_laws.specs.Run.{Run, IsRun, IsHonest, IsPlace}

-- what the agent of a domain heard on its control page
abbrev pub agent_heard : Scenario → Run → ℕ → List Message
agent_heard s run d = (hears (version_at s d) to_agent (run.page (Control d)).server.got).messages

-- what the broker heard of a domain
abbrev pub broker_heard : Run → ℕ → List Message
broker_heard run d = (hears 3 to_broker (run.page (Control d)).client.got).messages

-- ---- of one control page: what comes over it is right

-- neither side heard anything wrong
pub record NoFaults (s : Scenario) (run : Run) (d : ℕ) : Type 0 where
  pub left : (hears (version_at s d) to_agent (run.page (Control d)).server.got).fault ≡ None
  pub right : (hears 3 to_broker (run.page (Control d)).client.got).fault ≡ None

-- on the control page of an honest domain neither side hears anything wrong
abbrev pub ControlBytes : Type 0
ControlBytes = (s : Scenario) (run : Run) → IsRun s run → (d : ℕ) → IsHonest s d → NoFaults s run d

-- ---- of one control page: how it ends

-- the agent got all that the broker sent, the broker saw no end before its own, and the domain wasn't dropped
pub record WasAllHeard (run : Run) (d : ℕ) : Type 0 where
  pub all_got : (run.page (Control d)).server.got ≡ (run.page (Control d)).client.sent
  pub unseen : (run.page (Control d)).client.saw ≡ true → ⊥
  pub found : (run.page (Control d)).client.misled ≡ false
  pub kept : is_dropped run.journal d ≡ false

-- the control page of an honest domain is ended by the broker, after all was sent
abbrev pub ControlEnds : Type 0
ControlEnds = (s : Scenario) (run : Run) → IsRun s run → (d : ℕ) → IsHonest s d → WasAllHeard run d

-- ---- of one ordered pair: its ports

-- the ports of the pair's accepted calls, in the journal's order, are its first ones, and no more than it has pages
pub record PortsInOrder (s : Scenario) (run : Run) (f t : ℕ) : Type 0 where
  pub count : ℕ
  pub within : count ≤ pages_between s f t
  pub ports : accepted_ports run.journal f t ≡ numbers (first_port f t) 2 count

-- each ordered pair has its first ports, in order
abbrev pub PortsApart : Type 0
PortsApart = (s : Scenario) (run : Run) → IsRun s run → (f t : ℕ) → is_some (domain_of s f) ≡ true → is_some (domain_of s t) ≡ true → PortsInOrder s run f t

-- ---- of one trigger of an honest domain: what is decided

-- the cause of a line, or the call is accepted; a hostile target may be dropped
abbrev pub IsExpected : Scenario → ℕ → Option ℕ → LineResult → Decision → Type 0
IsExpected s f to (line.Refused line_cause.NoDomain) decision = decision ≡ Refused NoDomain
IsExpected s f to (line.Refused line_cause.SameDomain) decision = decision ≡ Refused SameDomain
IsExpected s f to (line.Refused line_cause.NoService) decision = decision ≡ Refused NoService
IsExpected s f None (line.Done code stdout stderr) decision = ⊥
IsExpected s f (Some to) (line.Done code stdout stderr) decision =
    ((port : ℕ) × (decision ≡ Accepted to port)) ⊎ ((decision ≡ Refused TargetDropped) × (hostile_at s to ≡ true))

-- no call of an honest domain is refused because its ports are spent, or because too many calls are live
abbrev pub LimitsKept : Type 0
LimitsKept =
    (s : Scenario) (run : Run) → IsRun s run → (d : ℕ) → IsHonest s d → (call : CallPlan) → Contains (calls_from s d) call
    → (decision : Decision) → Contains run.journal (record { event = Trigger d call.to call.service (ident_of call.number); decision = decision })
    → IsExpected s d (domain_named s call.to) (by_domain call (domain_named s call.to)) decision

-- ---- of one honest domain: its calls are answered

-- there is exactly one message
abbrev pub IsOne : List Message → Type 0
IsOne [] = ⊥
IsOne (m ∷ []) = Unit {0}
IsOne (m ∷ n ∷ ms) = ⊥

-- the broker heard of all its calls in order, and each has one answer and is reported
pub record AllAnswered (s : Scenario) (run : Run) (d : ℕ) : Type 0 where
  pub asked : filter_map asking (broker_heard run d) ≡ map asking_of (calls_from s d)
  pub answered : Each (λ call. IsOne (replies (ident_of call.number) (agent_heard s run d))) (calls_from s d)
  pub reported : Each (λ c. c.end ≢ Unanswered) (run.calls d)

-- all calls of an honest domain are answered
abbrev pub AnswersAll : Type 0
AnswersAll = (s : Scenario) (run : Run) → IsRun s run → (d : ℕ) → IsHonest s d → AllAnswered s run d

-- ---- of one call between honest domains: it is served

-- the target of the call got its MSG_EXEC_CMDLINE, and served it on this page
pub record WasServed (s : Scenario) (run : Run) (f t port : ℕ) (call : CallPlan) : Type 0 where
  pub place : IsPlace s (Payload f t port)
  pub named : domain_named s call.to ≡ Some t
  pub told : Contains (agent_heard s run t) (message.Exec f port (exec_line call.service (name_at s f)))
  pub done : ServedDone
  pub served : Contains (run.served t) done
  pub from : done.from ≡ f
  pub port_is : done.port ≡ port
  pub owes : ServingOwes (version_at s t) call.service done.outcome done.got (run.page (Payload f t port)).client

-- a call between honest domains that is answered with a port is served there
abbrev pub ServedAll : Type 0
ServedAll =
    (s : Scenario) (run : Run) → IsRun s run → (f t port : ℕ) → IsHonest s f → IsHonest s t → (call : CallPlan) → Contains (calls_from s f) call
    → Contains (agent_heard s run f) (message.Connect t port (ident_of call.number)) → WasServed s run f t port call

-- ---- of a session between honest domains: how it comes out

-- the caller is done, with what the service gives for its input, and the side that served has read all of that
pub record IsEqual (call : CallPlan) (done : CallerDone) (page : Settled) : Type 0 where
  pub owed : List ℕ → Triple
  pub is_service : IsService call.service owed
  pub outcome : done.outcome ≡ Done (owed call.stdin).code
  pub stdout : done.stdout ≡ (owed call.stdin).stdout
  pub stderr : done.stderr ≡ (owed call.stdin).stderr
  pub no_fault : (serving_sees page.client.got).fault ≡ None
  pub input_is : (serving_sees page.client.got).input ≡ call.stdin
  pub input_ended : (serving_sees page.client.got).ended ≡ true

-- `Holds` is true of each session with an honest domain
abbrev pub OfSession : (ℕ → ℕ → CallerDone → Type 0) → Scenario → CallEnd → Type 0
OfSession Holds s (Session port to outcome stdout stderr got) = IsHonest s to → Holds port to (caller_done outcome stdout stderr got)
OfSession Holds s end = Unit {0}

-- each session between honest domains ends with an exit code
abbrev pub OutcomeDone : Type 0
OutcomeDone =
    (s : Scenario) (run : Run) → IsRun s run → (f : ℕ) → IsHonest s f
    → EachPair (λ call c. OfSession (λ port to done. (code : ℤ) × (done.outcome ≡ Done code)) s c.end) (calls_from s f) (run.calls f)

-- each session between honest domains gives what the service gives
abbrev pub ResultEqual : Type 0
ResultEqual =
    (s : Scenario) (run : Run) → IsRun s run → (f : ℕ) → IsHonest s f
    → EachPair (λ call c. OfSession (λ port to done. IsEqual call done (run.page (Payload f to port))) s c.end) (calls_from s f) (run.calls f)

-- ---- there are runs

-- a run whose pages have these orders, and in which the agent of the first domain reports these calls
abbrev pub RunReporting : Orders → List CallDone → Type 0
RunReporting orders calls = (s : Scenario) × (run : Run) × IsRun s run × (s.control ≡ orders) × (s.payload ≡ orders) × (run.calls 1 ≡ calls)

-- whatever the orders of its pages: of a domain without calls, of a call that is refused, and of a call that another honest domain serves
pub record RunsAreThere (orders : Orders) : Type 0 where
  pub without_calls : RunReporting orders []
  pub refused : RunReporting orders (record { number = 1; end = WasRefused } ∷ [])
  pub served : (got : List ℕ) × RunReporting orders (record { number = 1; end = Session 513 2 (Done (pos 0)) [] [] got } ∷ [])
