-- What ties the control page of an honest domain to the journal: what the agent heard is what the broker sent, the triggers in the journal are those
-- of the first few calls of the plan, and one ident is one entry.
use Rattle.std.proofs.Common.{◌≡◌, ℕ, ◌<◌, List, [], ◌∷◌, take, map, refl, ap, ◌∙◌, arith, Option, Some}
use Rattle.std.specs.Prelude.{true, false, Bool, ◌==◌, ◌||◌, filter_map, option_map}
use Rattle.std.proofs.lemmas.Bool.Decides.{nat_tests}
use Rattle.std.specs.List.{AllByRecursion as Each}
use Rattle.list_laws.specs.Lists.{IsPrefixOf, IsPartOf, AreDifferent}
use Rattle.list_laws.proofs.Prefixes.{prefix_trans}
use Rattle.qrexec_frame.specs.declared.message.Message.{Message}
use Rattle.qrexec_frame.specs.declared.message.Message.TheVariants as m
use Rattle.call_broker.specs.declared.decision.Entry.{Entry}
use Rattle.call_broker.specs.declared.event.Event.TheVariants.{Trigger}
use Rattle.call_broker.specs.declared.decision.Decision.TheVariants.{Accepted}
use Rattle.call_broker.specs.Domains.{port_after}
use Rattle.call_broker.specs.Journal.{IsNumbered, accepted_ports}
use Rattle.call_broker.proofs.PortLaws.{ports_apart_lem}
use Rattle.call_broker.proofs.Decided.{accepts_well}
use Rattle.call_broker.specs.Laws.{IsAccepted, AcceptsWell}
use Rattle.scenario_file.specs.Scenario.{Plan as Scenario, version_at}
use Rattle.scenario_file.specs.declared.scenario.CallPlan.{CallPlan}
use Rattle.task_duties.specs.declared.place.PagePlace.TheVariants.{Control, Payload}
use Rattle.task_duties.specs.Words.{ident_of}
use Rattle.task_duties.specs.Hearing.{to_agent, to_broker, hears}
use Rattle.task_duties.specs.Agent.Saying.{Asking, asking, asking_of}
use Rattle.task_duties.specs.Broker.Outbox.{outbox}
use Rattle.task_duties.proofs.ControlLaw.{control_bytes_lem, IsClean, all_heard, agent_on_control, broker_on_control}
use Rattle.task_duties.proofs.Elements.{Has, Comes, has_filter_map_back, has_map, has_prefix, has_part, each_at, each_of, differ_prefix, differ_numbers, one_of}
use Rattle.task_duties.proofs.JournalLaw.{asked_event, asked_in, asked_read, asked_said, asked_first, prefix_map, filter_map_map}
use Rattle.task_duties.proofs.LimitLaw.{asking_event}
use Rattle.task_duties.proofs.OutboxLaw.{PutBy, put_by_entry, outbox_once, part_once, apart_from}
use Rattle.task_duties.proofs.ServedLaw.{AreApart, IsUnusedBy}
use Rattle.run_laws.specs.Laid.{hub_of, calls_from, agent_plan, pages_between}
use Rattle.run_laws.specs.Run.{Run, IsRun, IsHonest, IsPlace}
use Rattle.run_laws.specs.Laws.{agent_heard, broker_heard}
use Rattle.run_laws.proofs.Scenarios.Numbers.{is_domain_lem, version_is}
use Rattle.run_laws.proofs.Scenarios.Names.{target_there, domain_there}
use Rattle.run_laws.proofs.Scenarios.Calls.{idents, calls_differ}
use Rattle.run_laws.proofs.Scenarios.Places.{is_given}
use Rattle.run_laws.proofs.Domains.PortsLaw.{ports_are, pages_are}
use Rattle.run_laws.proofs.Domains.ControlLaws.{own_end, honest_page, control_ends}
use Rattle.run_laws.proofs.Scenarios.Facts.{facts}

-- ---- what was heard

-- the agent heard all that the broker sent
pub heard_is : (s : Scenario) (run : Run) (h : IsRun s run) (d : ℕ) → IsHonest s d → agent_heard s run d ≡ h.broker.said d
heard_is s run h d honest =
    let end = control_ends s run h d honest in
    let spoken = version_is s (facts s run h) d in
    let all = end.all_got in
    ap (λ g. (hears (version_at s d) to_agent g).messages) all ∙ (all_heard (version_at s d) 3 to_agent agent_on_control (h.broker.said d) (run.page (Control d)).client.sent (omega arith) (omega arith) (h.broker.says d (is_domain_lem s d honest.there)))

pub heard_part : (s : Scenario) (run : Run) (h : IsRun s run) (d : ℕ) → IsHonest s d → IsPartOf (agent_heard s run d) (outbox (hub_of s) run.journal d)
heard_part s run h d honest = let is = heard_is s run h d honest in rw is (h.broker.from_journal d (is_domain_lem s d honest.there))

-- the broker heard the first few messages of the agent
pub broker_clean : (s : Scenario) (run : Run) (h : IsRun s run) (d : ℕ) (honest : IsHonest s d) → IsClean (h.agent d honest).said (hears 3 to_broker (run.page (Control d)).client.got)
broker_clean s run h d honest =
    let page = honest_page s run h d honest in
    let agent = h.agent d honest in
    let spoken = version_is s (facts s run h) d in
    let says = rw (own_end run d) at agent.says in
    control_bytes_lem 3 (version_at s d) to_broker broker_on_control agent.said (run.page (Control d)).server.sent (run.page (Control d)).client.got spoken.least (omega (arith, spoken.most)) says page.right.in_order

-- ---- the triggers

pub asked_same : (s : Scenario) (run : Run) (h : IsRun s run) (d : ℕ) → IsHonest s d → asked_in run.journal d ≡ filter_map asking (broker_heard run d)
asked_same s run h d honest =
    asked_read d run.journal ∙ ap (filter_map asking_event) (h.broker.reads d (is_domain_lem s d honest.there)) ∙ asked_said d (broker_heard run d)

pub asked_planned : (s : Scenario) (run : Run) (h : IsRun s run) (d : ℕ) → IsHonest s d → IsPrefixOf (asked_in run.journal d) (map asking_of (calls_from s d))
asked_planned s run h d honest =
    let clean = broker_clean s run h d honest in
    let agent = h.agent d honest in
    let is : asked_in run.journal d ≡ filter_map asking (take clean.count agent.said) = asked_same s run h d honest ∙ ap (filter_map asking) clean.messages in
    rw is (prefix_trans _ (filter_map asking agent.said) _ (asked_first clean.count agent.said) agent.in_order)

-- ---- one ident is one entry, and one call

abbrev pub ident_by : ℕ → Entry → Option (List ℕ)
ident_by d x = option_map (λ a. a.ident) (asked_event d x.event)

map_idents : (calls : List CallPlan) → map (λ a. a.ident) (map asking_of calls) ≡ idents calls
map_idents [] = refl
map_idents (c ∷ calls) = ap (λ r. ident_of c.number ∷ r) (map_idents calls)

pub entries_differ : (s : Scenario) (run : Run) (h : IsRun s run) (d : ℕ) → IsHonest s d → AreDifferent (filter_map (ident_by d) run.journal)
entries_differ s run h d honest =
    let is : filter_map (ident_by d) run.journal ≡ map (λ a. a.ident) (asked_in run.journal d) = filter_map_map (λ a. a.ident) (λ x. asked_event d x.event) run.journal in
    let prefix = prefix_map (λ a. a.ident) (asked_in run.journal d) (map asking_of (calls_from s d)) (asked_planned s run h d honest) in
    let all : AreDifferent (map (λ a. a.ident) (map asking_of (calls_from s d))) = rw (map_idents (calls_from s d)) (calls_differ s (facts s run h) d) in
    rw is (differ_prefix _ _ prefix all)

-- an entry that is a trigger of the domain
abbrev pub IsAsked : ℕ → List ℕ → Entry → Type 0
IsAsked d ident x = (target : List ℕ) × (service : List ℕ) × (x.event ≡ Trigger d target service ident)

asked_is : (d : ℕ) (x : Entry) (target service ident : List ℕ) → x.event ≡ Trigger d target service ident → asked_event d x.event ≡ Some (record { target = target; service = service; ident = ident })
asked_is d x target service ident is = let dd : (d == d) ≡ true = grind (arith, nat_tests) in rw (is, dd) refl

ident_is : (d : ℕ) (x : Entry) (ident : List ℕ) → IsAsked d ident x → ident_by d x ≡ Some ident
ident_is d x ident a = ap (option_map (λ y. y.ident)) (asked_is d x a.0 a.1 ident a.2)

pub one_entry : (s : Scenario) (run : Run) (h : IsRun s run) (d : ℕ) → IsHonest s d → (x y : Entry) (ident : List ℕ) → Has run.journal x → Has run.journal y
    → IsAsked d ident x → IsAsked d ident y → x ≡ y
one_entry s run h d honest x y ident hx hy ax ay =
    one_of (ident_by d) run.journal (entries_differ s run h d honest) x y ident hx hy (ident_is d x ident ax) (ident_is d y ident ay)

pub entry_call : (s : Scenario) (run : Run) (h : IsRun s run) (d : ℕ) → IsHonest s d → (x : Entry) (target service ident : List ℕ) → Has run.journal x → x.event ≡ Trigger d target service ident
    → Comes CallPlan (calls_from s d) (λ c. asking_of c ≡ record { target = target; service = service; ident = ident })
entry_call s run h d honest x target service ident hx is =
    let asks : Asking = record { target = target; service = service; ident = ident } in
    let there : Has (asked_in run.journal d) asks = has_filter_map_back (λ y. asked_event d y.event) run.journal x asks hx (asked_is d x target service ident is) in
    has_map asking_of (calls_from s d) asks (has_prefix (asked_in run.journal d) (map asking_of (calls_from s d)) asks (asked_planned s run h d honest) there)

-- ---- the accepted entries

pub well : (s : Scenario) (run : Run) → IsRun s run → Each (λ x. AcceptsWell (hub_of s) x.event x.decision) run.journal
well s run h = accepts_well (hub_of s) run.journal [] h.broker.decided

pub ports_differ : (s : Scenario) (run : Run) → IsRun s run → (f t : ℕ) → AreDifferent (accepted_ports run.journal f t)
ports_differ s run h f t =
    let p = (ports_apart_lem (hub_of s) f t run.journal h.broker.decided).0 in
    let is = p.ports ∙ ports_are f t 0 p.count in
    rw is (differ_numbers (port_after f t 0) p.count)

pub record IsCalled (s : Scenario) (from : ℕ) (target service : List ℕ) (to port : ℕ) : Type 0 where
  pub accepted : IsAccepted (hub_of s) from target service to port
  pub place : IsPlace s (Payload from to port)

pub is_called : (s : Scenario) (run : Run) → IsRun s run → (x : Entry) → Has run.journal x → (from : ℕ) (target service ident : List ℕ) (to port : ℕ)
    → x.event ≡ Trigger from target service ident → x.decision ≡ Accepted to port → IsCalled s from target service to port
is_called s run h x hx from target service ident to port event decision =
    let w = each_at (λ y. AcceptsWell (hub_of s) y.event y.decision) run.journal x (well s run h) hx in
    let w' : AcceptsWell (hub_of s) (Trigger from target service ident) (Accepted to port) = rw (event, decision) at w in
    let n = each_at (λ y. IsNumbered (hub_of s) y.event) run.journal x h.broker.numbered hx in
    let n' : IsNumbered (hub_of s) (Trigger from target service ident) = rw event at n in
    let f_there = domain_there s from n' in
    let t_there = target_there s target to w'.named in
    let pages = pages_are s from to f_there t_there in
    let within = w'.within in
    record { accepted = w'; place = (w'.apart, f_there, t_there, (w'.call, (let e : w'.call < pages_between s from to = rw (← pages) within in e), w'.port_is)) }

-- ---- the ends that were named

pub heard_apart : (s : Scenario) (run : Run) (h : IsRun s run) (d : ℕ) → IsHonest s d → AreApart d (agent_heard s run d)
heard_apart s run h d honest =
    apart_from d (agent_heard s run d) (part_once d (agent_heard s run d) (outbox (hub_of s) run.journal d) (heard_part s run h d honest)
    (outbox_once (hub_of s) d run.journal (well s run h) (ports_differ s run h)))

heard_one : (s : Scenario) (run : Run) (h : IsRun s run) (d : ℕ) (x : Message) → Comes Entry run.journal (λ y. PutBy (hub_of s) d y.event y.decision x) → IsUnusedBy d (agent_plan s d).places x
heard_one s run h d (m.Exec from port line) c = λ place named.
    let is : Payload from d port ≡ place = cc in
    let called = is_called s run h c.one c.there from c.is.target c.is.service c.is.ident d port c.is.event c.is.accepted in
    let dd : (d == d) ≡ true = grind (arith, nat_tests) in
    let own : (from == d || d == d) ≡ true = rw dd (or-true (from == d)) in
    rw (← is) (is_given s d from d port called.place own)
  where
    or-true : (b : Bool) → (b || true) ≡ true
    or-true true = refl
    or-true false = refl
heard_one s run h d (m.Connect to port ident) c = λ place named.
    let is : Payload d to port ≡ place = cc in
    let called = is_called s run h c.one c.there d c.is.target c.is.service ident to port c.is.event c.is.accepted in
    let dd : (d == d) ≡ true = grind (arith, nat_tests) in
    let own : (d == d || to == d) ≡ true = rw dd refl in
    rw (← is) (is_given s d d to port called.place own)
heard_one s run h d (m.Refused ident) c = λ place named. cc
heard_one s run h d x c = absurd c.is

pub heard_unused : (s : Scenario) (run : Run) (h : IsRun s run) (d : ℕ) → IsHonest s d → Each (IsUnusedBy d (agent_plan s d).places) (agent_heard s run d)
heard_unused s run h d honest =
    each_of (IsUnusedBy d (agent_plan s d).places) (agent_heard s run d)
    (λ x hx. heard_one s run h d x (put_by_entry (hub_of s) run.journal d x (has_part (agent_heard s run d) (outbox (hub_of s) run.journal d) x (heard_part s run h d honest) hx)))
