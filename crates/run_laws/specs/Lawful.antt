-- What holds of the report of a run: a lawful report.
-- Source: this project's own.
use Rattle.std.specs.Prelude.{◌≡◌, ◌≢◌, ◌⊎◌, ℕ, ℤ, nat_lt, ◌==◌, ◌&&◌, ◌||◌, Bool, true, false, List, [], ◌∷◌, map, filter, filter_map, slice_get, is_some, bytes_eq, Contains, AllPairs, IsPermutation, IsSome, Option, Some, None, if◌then◌else◌}
use Rattle.std.specs.List.{flat_map, AllByRecursion as Each, AllZip as EachPair}
use Rattle.vchan_protocol.specs.declared.side.EndedBy.TheVariants.{AllRead, PeerGone}
use Rattle.qrexec_frame.specs.declared.kind.Channel.TheVariants as channel
use Rattle.qrexec_frame.specs.declared.message.Message.{Message}
use Rattle.qrexec_frame.specs.declared.message.Message.TheVariants as message
use Rattle.qrexec_frame.specs.Fronts.{reading}
use Rattle.qrexec_frame.specs.Names.{cleaned_service}
use Rattle.qrexec_frame.specs.Streams.{messages}
use Rattle.service_gate.specs.Triple.{Triple}
use Rattle.service_gate.specs.ServiceResult.{service}
use Rattle.call_broker.specs.declared.event.Event.TheVariants.{Trigger}
use Rattle.call_broker.specs.Domains.{target_of}
use Rattle.end_view.specs.EndView.{EndView, IsUnused}
use Rattle.end_view.specs.Settled.{Settled, IsSettled}
use Rattle.qrexec_data.specs.Seeing.{Exited, caller_sees, serving_sees}
use Rattle.qrexec_data.specs.Sending.{CallerMaySend, ServingMaySend, SentAll}
use Rattle.scenario_file.specs.Scenario.{Plan as Scenario, domain_named, hostile_at, name_at, version_at, is_mixed}
use Rattle.scenario_file.specs.declared.scenario.CallPlan.{CallPlan}
use Rattle.scenario_file.specs.Lines.{lines, without_hostile}
use Rattle.task_duties.specs.declared.place.PagePlace.{PagePlace}
use Rattle.task_duties.specs.declared.place.PagePlace.TheVariants.{Control, Payload}
use Rattle.task_duties.specs.Hearing.{to_agent, to_broker, IsSaid, hears}
use Rattle.task_duties.specs.Words.{ident_of, exec_line, service_of_line}
use Rattle.task_duties.specs.Agent.Sessions.{chunk, IsService}
use Rattle.task_duties.specs.Broker.Outbox.{event_of}
use Rattle.task_duties.specs.Agent.Saying.{asking, asking_of}
use Rattle.task_duties.specs.Hostile.Given.{HostilePlan}
use Rattle.task_duties.specs.Hostile.Trail.{IsTrail}
use Rattle.task_duties.specs.TaskOwes.{before_turned}
use Rattle.run_laws.specs.Laid.{BeganAsSaid, server_of, client_of, laid, calls_from, hostile_plan, hub_of}
use Rattle.run_laws.specs.declared.report.MixedOutcome.{MixedOutcome}
use Rattle.run_laws.specs.declared.report.MixedOutcome.TheVariants.{Done, Refused, Closed, Gone}
use Rattle.run_laws.specs.declared.report.CallResult.{CallResult}
use Rattle.run_laws.specs.declared.report.CallResult.TheVariants.{Done as IsDone, Refused as IsRefused, Mixed as IsMixed}
use Rattle.run_laws.specs.declared.report.CallLine.{CallLine}
use Rattle.run_laws.specs.declared.report.ServedLine.{ServedLine}
use Rattle.run_laws.specs.Report.{SettledPage, Report, plain_line, FitsCaller, FitsServing}

-- ---- the pages

-- the broker isn't a domain, and so it isn't hostile
abbrev pub is_turned : Scenario → ℕ → Bool
is_turned s d = hostile_at s d

-- an end is turned if and only if its domain is hostile
pub record TurnedAsSaid (s : Scenario) (page : SettledPage) : Type 0 where
  pub server : page.settled.server.turned ≡ is_turned s (server_of page.place)
  pub client : page.settled.client.turned ≡ is_turned s (client_of page.place)

-- an end of a hostile domain: it had done nothing when it was given up, and what was done on it since are the acts of the domain
pub record IsActedOn (plan : HostilePlan) (place : PagePlace) (e : EndView) : Type 0 where
  pub unused : IsUnused (before_turned e)
  pub trail : IsTrail plan place e.trail

-- the report has this page at this place
abbrev pub LiesAt : Report → PagePlace → Settled → Type 0
LiesAt r place settled = Contains r.pages (record { place = place; settled = settled })

-- ---- one line for each call

-- the line has the call's number and its names
pub record IsLineOf (s : Scenario) (call : CallPlan) (l : CallLine) : Type 0 where
  pub number : l.number ≡ call.number
  pub from : l.from ≡ name_at s call.from
  pub to : l.to ≡ call.to
  pub service : l.service ≡ call.service

-- ---- what stands of the page of a call

-- the ports of the calls' pages, by the numbers of the calls: one choice for the whole report
abbrev pub Ports : Type 0
Ports = ℕ → Option ℕ

-- two calls of the same two domains that have pages have different ones
abbrev pub AreApart : Scenario → Ports → Type 0
AreApart s ports =
    AllPairs (λ a b. a.from ≡ b.from → domain_named s a.to ≡ domain_named s b.to → IsSome (ports a.number) → ports a.number ≢ ports b.number) s.calls

-- the call was answered on this page, as its target's service answers; each side sent what the version of its domain has it send
pub record IsAnswered (s : Scenario) (call : CallPlan) (to : ℕ) (page : Settled) (code : ℤ) (stdout stderr : List ℕ) : Type 0 where
  pub code_is : (caller_sees page.server.got).verdict ≡ Exited code
  pub stdout_is : (caller_sees page.server.got).stdout ≡ stdout
  pub stderr_is : (caller_sees page.server.got).stderr ≡ stderr
  pub no_fault : (serving_sees page.client.got).fault ≡ None
  pub input_is : (serving_sees page.client.got).input ≡ call.stdin
  pub input_ended : (serving_sees page.client.got).ended ≡ true
  pub asked : CallerMaySend (version_at s call.from) chunk call.stdin page.server.got page.server.sent
  pub owed : List ℕ → Triple
  pub is_service : IsService call.service owed
  pub answered : ServingMaySend (version_at s to) chunk owed page.client.got page.client.sent

-- the state of an end that its outcome implies
abbrev pub EndedAs : MixedOutcome → EndView → Type 0
EndedAs Closed end = (end.ended ≡ Some AllRead) × (end.drained ≡ true)
EndedAs Gone end = end.ended ≡ Some PeerGone
EndedAs outcome end = Unit {0}

-- the target has no such service, or the broker had cause to drop the target
abbrev pub MayRefuse : Scenario → Report → CallPlan → ℕ → Type 0
MayRefuse s r call to =
    (service call.service [] ≡ None)
    ⊎ ((page : Settled) × LiesAt r (Control to) page
    × ((page.client.saw ≡ true) ⊎ (page.client.misled ≡ true) ⊎ IsSome (hears 3 to_broker page.client.got).fault))

-- the state of the caller's end of its page is as the outcome implies, and it sent what a caller may send
abbrev pub MixedOn : Scenario → CallPlan → MixedOutcome → List ℕ → Settled → Type 0
MixedOn s call outcome got page =
    (page.server.got ≡ got) × FitsCaller outcome got × CallerMaySend (version_at s call.from) chunk call.stdin got page.server.sent × EndedAs outcome page.server

-- the result of a call to a domain
abbrev pub ResultStands : Scenario → Report → Ports → CallPlan → ℕ → CallResult → Type 0
ResultStands s r ports call to (IsDone code stdout stderr page) =
    (port : ℕ) × (settled : Settled) × (ports call.number ≡ Some port)
    × (slice_get r.pages page ≡ Some (record { place = Payload call.from to port; settled = settled })) × IsAnswered s call to settled code stdout stderr
ResultStands s r ports call to (IsRefused cause) = Unit {0}
ResultStands s r ports call to (IsMixed Refused got) = (ports call.number ≡ None) × (got ≡ []) × MayRefuse s r call to
ResultStands s r ports call to (IsMixed outcome got) =
    (port : ℕ) × (settled : Settled) × (ports call.number ≡ Some port) × LiesAt r (Payload call.from to port) settled × MixedOn s call outcome got settled

-- whether a result is that of a call to a hostile domain
abbrev pub is_mixed_result : CallResult → Bool
is_mixed_result (IsMixed outcome got) = true
is_mixed_result result = false

-- the line of a call stands: it is mixed if and only if its target is hostile, and its page confirms it
abbrev pub CallStands : Scenario → Report → Ports → CallPlan → CallLine → Type 0
CallStands s r ports call l =
    (is_mixed_result l.result ≡ is_mixed s call) × ((to : ℕ) → domain_named s call.to ≡ Some to → ResultStands s r ports call to l.result)

-- ---- the sessions of hostile callers

-- a MSG_EXEC_CMDLINE that names a hostile domain, with the domain that got it
pub record ExecAt : Type 0 where
  pub from : ℕ
  pub to : ℕ
  pub port : ℕ
  pub line : List ℕ

-- a message as such an Exec, to the domain that got it
abbrev pub exec_at : Scenario → ℕ → Message → Option ExecAt
exec_at s to (message.Exec from port line) = if hostile_at s from then Some (record { from = from; to = to; port = port; line = line }) else None
exec_at s to m = None

-- all messages of a control channel
abbrev pub control_messages : List ℕ → List Message
control_messages got = messages (reading channel.Control got)

-- those that an honest domain got on its control page
abbrev pub execs_on : Scenario → PagePlace → Settled → List ExecAt
execs_on s (Control d) page = if hostile_at s d then [] else filter_map (exec_at s d) (control_messages page.server.got)
execs_on s (Payload from to port) page = []

-- those of all pages of a report
abbrev pub hostile_execs : Scenario → Report → List ExecAt
hostile_execs s r = flat_map (λ p. execs_on s p.place p.settled) r.pages

-- the order of their lines: by the caller's number, the server's number and the port
abbrev pub comes_before : ExecAt → ExecAt → Bool
comes_before a b = nat_lt a.from b.from || (a.from == b.from && (nat_lt a.to b.to || (a.to == b.to && nat_lt a.port b.port)))

-- what the serving end sent, and its state, if its outcome implies one
abbrev pub ServedSent : Scenario → ExecAt → (List ℕ → Triple) → MixedOutcome → EndView → Type 0
ServedSent s x owed (Done code) end =
    (code ≡ (owed (serving_sees end.got).input).code) × SentAll (version_at s x.to) chunk (owed (serving_sees end.got).input) end.got end.sent
ServedSent s x owed Closed end = (end.ended ≡ Some AllRead) ⊎ (end.misled ≡ true)
ServedSent s x owed Gone end = end.ended ≡ Some PeerGone
ServedSent s x owed outcome end = Unit {0}

-- the session of an Exec was asked for: the broker heard a trigger on the caller's page whose target names the domain that serves, and the Exec has the trigger's service, cleaned, and the caller's name
pub record IsAskedFor (s : Scenario) (r : Report) (x : ExecAt) : Type 0 where
  pub page : Settled
  pub lies : LiesAt r (Control x.from) page
  pub target : List ℕ
  pub service : List ℕ
  pub ident : List ℕ
  pub heard : Contains (filter_map (event_of x.from) (hears 3 to_broker page.client.got).messages) (Trigger x.from target service ident)
  pub named : target_of (hub_of s) target ≡ Some x.to
  pub line_is : x.line ≡ exec_line (cleaned_service service) (name_at s x.from)

-- the line of a session with a hostile caller stands: its page confirms it
pub record IsServed (s : Scenario) (r : Report) (x : ExecAt) (l : ServedLine) : Type 0 where
  pub from : l.from ≡ name_at s x.from
  pub to : l.to ≡ name_at s x.to
  pub port : l.port ≡ x.port
  pub page : Settled
  pub lies : LiesAt r (Payload x.from x.to x.port) page
  pub name : List ℕ
  pub named : service_of_line x.line ≡ Some name
  pub owed : List ℕ → Triple
  pub is_service : IsService name owed
  pub got : l.got ≡ page.client.got
  pub fits : FitsServing l.outcome l.got
  pub sent : ServingMaySend (version_at s x.to) chunk owed page.client.got page.client.sent
  pub ended : ServedSent s x owed l.outcome page.client
  pub asked : IsAskedFor s r x

-- ---- the control page of an honest domain

-- whether a message answers the call of an ident
abbrev pub is_reply : List ℕ → Message → Bool
is_reply ident (message.Connect to port i) = bytes_eq i ident
is_reply ident (message.Refused i) = bytes_eq i ident
is_reply ident m = false

-- the answers to the call of an ident
abbrev pub replies : List ℕ → List Message → List Message
replies ident heard = filter (is_reply ident) heard

-- the one answer that a call has
abbrev pub answer_of : Scenario → Ports → CallPlan → Option ℕ → Option ℕ → Message
answer_of s ports call (Some to) (Some port) = message.Connect to port (ident_of call.number)
answer_of s ports call to port = message.Refused (ident_of call.number)

-- nothing on the control page of an honest domain is wrong: each side that sent anything greeted with its own version and then sent whole messages that it may send; the domain asked for its calls in order, and each has exactly one answer
pub record ControlStands (s : Scenario) (ports : Ports) (d : ℕ) (page : Settled) : Type 0 where
  pub left : (hears (version_at s d) to_agent page.server.got).fault ≡ None
  pub right : (hears 3 to_broker page.client.got).fault ≡ None
  pub left_said : List Message
  pub left_says : IsSaid 3 to_agent left_said page.client.sent
  pub right_said : List Message
  pub right_says : IsSaid (version_at s d) to_broker right_said page.server.sent
  pub asked : filter_map asking (control_messages page.client.got) ≡ map asking_of (calls_from s d)
  pub answered : Each (λ call. replies (ident_of call.number) (control_messages page.server.got) ≡ answer_of s ports call (domain_named s call.to) (ports call.number) ∷ []) (calls_from s d)

-- the target of a call that was done got its MSG_EXEC_CMDLINE
abbrev pub ToldAs : Scenario → Report → Ports → CallPlan → ℕ → CallResult → Type 0
ToldAs s r ports call to (IsDone code stdout stderr page) =
    (port : ℕ) × (settled : Settled) × (ports call.number ≡ Some port) × LiesAt r (Control to) settled
    × Contains (control_messages settled.server.got) (message.Exec call.from port (exec_line call.service (name_at s call.from)))
ToldAs s r ports call to result = Unit {0}

-- a call has a page if and only if it isn't refused
abbrev pub has_page : CallResult → Bool
has_page (IsDone code stdout stderr page) = true
has_page (IsRefused cause) = false
has_page (IsMixed Refused got) = false
has_page (IsMixed outcome got) = true

-- ---- the whole

-- a lawful report of a scenario
pub record IsLawful (s : Scenario) (r : Report) : Type 0 where
  pub ports : Ports
  --   the pages are those that are laid, each once, with the orders and the start of the scenario, turned as it says and settled
  pub pages : IsPermutation (map (λ p. p.place) r.pages) (laid s)
  pub begun : Each (λ p. BeganAsSaid s p.place p.settled) r.pages
  pub turned : Each (TurnedAsSaid s) r.pages
  pub settled : Each (λ p. IsSettled p.settled) r.pages
  -- each call has a line
  pub calls : EachPair (IsLineOf s) s.calls r.calls
  --   the lines of calls to domains that aren't hostile are those that the services and names give without the hostile domains
  pub results : filter_map plain_line r.calls ≡ lines (without_hostile s)
  -- each result stands on a page of its own
  pub apart : AreApart s ports
  pub stand : EachPair (CallStands s r ports) s.calls r.calls
  pub paged : EachPair (λ call l. is_some (ports call.number) ≡ has_page l.result) s.calls r.calls
  -- each session with a hostile caller has a line, and they stand in order
  pub execs : List ExecAt
  pub all_execs : IsPermutation execs (hostile_execs s r)
  pub in_order : AllPairs (λ a b. comes_before a b ≡ true) execs
  pub served : EachPair (IsServed s r) execs r.served
  -- the control pages of honest domains stand
  pub control : (d : ℕ) (page : Settled) → LiesAt r (Control d) page → hostile_at s d ≡ false → ControlStands s ports d page
  pub told : EachPair (λ call l. (to : ℕ) → domain_named s call.to ≡ Some to → ToldAs s r ports call to l.result) s.calls r.calls
  -- each turned end was unused before, and did what its domain's acts say
  pub server_acts : (place : PagePlace) (page : Settled) → LiesAt r place page → page.server.turned ≡ true → IsActedOn (hostile_plan s (server_of place)) place page.server
  pub client_acts : (place : PagePlace) (page : Settled) → LiesAt r place page → page.client.turned ≡ true → IsActedOn (hostile_plan s (client_of place)) place page.client
