-- A run there is with a call that is served: one honest domain calls the echo of another.
use Rattle.std.proofs.Common.{◌≡◌, ℕ, ◌+◌, ◌≤◌, suc, zero, List, [], ◌∷◌, refl, ap, sym, ◌∙◌, arith, ◌⊎◌, inl, inr, Option, Some, None, subst}
use Rattle.std.proofs.lemmas.List.Elements.{All-from_recursion}
use Rattle.std.specs.Prelude.{true, false, Bool, codes, nat_le, bytes_eq, ◌==◌, if◌then◌else◌, Contains, filter_map, pos, IsPermutation}
use Rattle.std.specs.List.{flat_map}
use Rattle.std.proofs.lemmas.Bool.Decides.{nat_tests}
use Rattle.std.proofs.lemmas.List.Sorted.{IsPermutation-refl}
use Rattle.ring_words.specs.declared.order.Orders.{Orders}
use Rattle.ring_words.specs.declared.page.Role.{Role}
use Rattle.ring_words.specs.declared.page.Role.TheVariants.{Server, Client}
use Rattle.vchan_protocol.specs.declared.call.EndState.TheVariants.{Shut}
use Rattle.vchan_protocol.specs.declared.side.EndedBy.{EndedBy}
use Rattle.vchan_protocol.specs.declared.side.EndedBy.TheVariants.{AllRead}
use Rattle.qrexec_frame.specs.Messages.{written, IsSpellable, GoesOn}
use Rattle.qrexec_frame.specs.declared.message.Message.{Message}
use Rattle.qrexec_frame.specs.declared.message.Message.TheVariants as m
use Rattle.call_broker.specs.declared.decision.Entry.{Entry}
use Rattle.call_broker.specs.declared.event.Event.TheVariants.{Trigger, Terminated}
use Rattle.call_broker.specs.declared.decision.Decision.TheVariants.{Accepted, Ended}
use Rattle.end_view.specs.EndView.{EndView}
use Rattle.scenario_file.specs.Scenario.{Plan as Scenario, IsScenario, DomainFits, CallFits, hostile_at}
use Rattle.scenario_file.specs.declared.scenario.CallPlan.{CallPlan}
use Rattle.task_duties.specs.Words.{ident_of, exec_line}
use Rattle.task_duties.specs.Hearing.{to_agent, to_broker, IsSaid, hears}
use Rattle.std.proofs.lemmas.List.{append-nil}
use Rattle.list_laws.proofs.Tests.{same_bytes}
use Rattle.list_laws.specs.Lists.{IsPartOf}
use Rattle.qrexec_frame.specs.declared.kind.Channel.TheVariants.{Control as OnControl}
use Rattle.qrexec_frame.specs.Fronts.{front, reading}
use Rattle.qrexec_frame.proofs.StreamLaws.{reads_all}
use Rattle.qrexec_frame.proofs.GrammarLaws.{is_prefix_code}
use Rattle.qrexec_frame.proofs.WrittenLaws.{is_read_again}
use Rattle.end_view.specs.Settled.{Settled, IsSettled}
use Rattle.call_broker.specs.Domains.{is_domain}
use Rattle.task_duties.specs.Agent.Answers.{takes_all, nothing_heard, At}
use Rattle.task_duties.specs.Agent.Owes.{AgentOwes}
use Rattle.task_duties.specs.declared.done.CallDone.{CallDone}
use Rattle.task_duties.specs.declared.done.ControlEnd.TheVariants.{Drained}
use Rattle.task_duties.specs.Broker.Owes.{BrokerOwes, heard_from, awaited_of}
use Rattle.task_duties.proofs.ControlLaw.{all_heard, agent_on_control, broker_on_control}
use Rattle.task_duties.proofs.Elements.{Has, has_from}
use Rattle.run_laws.specs.Laid.{BeganAsSaid, hub_of, awaited_by, agent_plan, server_of, client_of}
use Rattle.run_laws.specs.Run.{Run, IsRun, IsHonest, end_of, broker_end}
use Rattle.run_laws.proofs.Runs.PageSizes.{few_words, some_page}
use Rattle.service_gate.specs.ServiceResult.{service}
use Rattle.call_broker.specs.Journal.{is_dropped}
use Rattle.qrexec_data.specs.declared.outcome.Outcome.TheVariants as outcome
use Rattle.task_duties.specs.declared.place.PagePlace.{PagePlace}
use Rattle.task_duties.specs.declared.place.PagePlace.TheVariants.{Control, Payload}
use Rattle.task_duties.specs.Places.{numbers}
use Rattle.task_duties.specs.Broker.Outbox.{outbox, event_of, read_from, live_calls, answered as answered_by}
use Rattle.task_duties.specs.declared.done.ServedDone.{ServedDone}
use Rattle.task_duties.specs.declared.done.CallEnd.TheVariants.{Session}
use Rattle.run_laws.proofs.Runs.RefusedRun.{ident, ident_is, no_nul_lem, version_on}
use Rattle.run_laws.proofs.Runs.ServedBytes.{calls, serves, caller_owes, serving_owes}

-- ---- what is sent

abbrev trigger : Message
trigger = m.Trigger3 (codes "b") ident (codes "echo")

abbrev over : Message
over = m.Terminated 2 513

abbrev connect : Message
connect = m.Connect 2 513 ident

abbrev exec : Message
exec = m.Exec 1 513 (exec_line (codes "echo") (codes "a"))

trigger_spelled : IsSpellable trigger
trigger_spelled = ((record { within = omega arith; no_nul = no_nul_lem (codes "b") refl }, record { within = omega arith; no_nul = no_nul_lem ident refl }, record { within = omega arith; no_nul = no_nul_lem (codes "echo") refl }), tt)

over_spelled : IsSpellable over
over_spelled = (tt, (omega arith, omega arith))

connect_spelled : IsSpellable connect
connect_spelled = (record { within = omega arith; no_nul = no_nul_lem ident refl }, (omega arith, omega arith))

exec_spelled : IsSpellable exec
exec_spelled = (record { within = omega arith; no_nul = no_nul_lem (exec_line (codes "echo") (codes "a")) refl }, (omega arith, omega arith))

unfoldable pub up : List ℕ
up = flat_map written (m.Hello 3 ∷ m.Trigger3 (codes "b") (codes "call-1") (codes "echo") ∷ m.Terminated 2 513 ∷ [])

unfoldable pub down : List ℕ
down = flat_map written (m.Hello 3 ∷ m.Connect 2 513 (codes "call-1") ∷ [])

unfoldable pub told : List ℕ
told = flat_map written (m.Hello 3 ∷ m.Exec 1 513 (exec_line (codes "echo") (codes "a")) ∷ [])

up_said : IsSaid 3 to_broker (trigger ∷ over ∷ []) up
unfolding up
up_said = record { each = ((refl, trigger_spelled), ((refl, over_spelled), tt)); whole = inr refl }

down_said : IsSaid 3 to_agent (connect ∷ []) down
unfolding down
down_said = record { each = ((refl, connect_spelled), tt); whole = inr refl }

told_said : IsSaid 3 to_agent (exec ∷ []) told
unfolding told
told_said = record { each = ((refl, exec_spelled), tt); whole = inr refl }

up_heard : (hears 3 to_broker up).messages ≡ trigger ∷ over ∷ []
up_heard = all_heard 3 3 to_broker broker_on_control (trigger ∷ over ∷ []) up (omega arith) (omega arith) up_said

down_heard : (hears 3 to_agent down).messages ≡ connect ∷ []
down_heard = all_heard 3 3 to_agent agent_on_control (connect ∷ []) down (omega arith) (omega arith) down_said

told_heard : (hears 3 to_agent told).messages ≡ exec ∷ []
told_heard = all_heard 3 3 to_agent agent_on_control (exec ∷ []) told (omega arith) (omega arith) told_said

down_version : (hears 3 to_agent down).version ≡ Some 3
unfolding down
down_version =
    let all = reads_all (front OnControl) written (λ x. IsSpellable x × GoesOn OnControl x) (is_prefix_code OnControl) (is_read_again OnControl) (m.Hello 3 ∷ connect ∷ []) (((tt, omega arith), refl), ((connect_spelled, refl), tt)) 0 in
    version_on to_agent (connect ∷ []) (reading OnControl down).placed (reading OnControl down).ending all.0

-- ---- the run

abbrev the_call : CallPlan
the_call = record { number = 1; from = 1; to = codes "b"; service = codes "echo"; stdin = [] }

abbrev pub two : Orders → Scenario
two orders = record {
  control = orders;
  payload = orders;
  start = 0;
  domains = record { name = codes "a"; hostile = None; ports = 4; version = 3 } ∷ record { name = codes "b"; hostile = None; ports = 4; version = 3 } ∷ [];
  calls = the_call ∷ [];
}

abbrev end_of_role : Role → List ℕ → List ℕ → Bool → Option EndedBy → Bool → EndView
end_of_role role sent got saw ended drained = record {
  page = some_page;
  role = role;
  state = Shut;
  idle = true;
  sent = sent;
  got = got;
  saw = saw;
  ended = ended;
  drained = drained;
  misled = false;
  retired = true;
  turned = false;
  consumed = 0;
  trail = [];
}

-- the caller of a page has all that its peer sent, and the peer all that it sent
abbrev page_with : Orders → List ℕ → List ℕ → Settled
page_with orders up' down' = record { orders = orders; start = 0; server = end_of_role Server up' down' true (Some AllRead) true; client = end_of_role Client down' up' false None false }

abbrev page_at : Orders → PagePlace → Settled
page_at orders (Control d) = if d == 1 then page_with orders up down else page_with orders [] told
page_at orders (Payload f t port) = page_with orders calls serves

abbrev the_journal : List Entry
the_journal = record { event = Trigger 1 (codes "b") (codes "echo") ident; decision = Accepted 2 513 } ∷ record { event = Terminated 1 2 513; decision = Ended 1 2 513 } ∷ []

abbrev call_done : CallDone
call_done = record { number = 1; end = Session 513 2 (outcome.Done (pos 0)) [] [] serves }

abbrev served_done : ServedDone
served_done = record { from = 1; port = 513; outcome = outcome.Done (pos 0); got = calls }

abbrev pub two_run : Orders → Run
two_run orders = record {
  journal = the_journal;
  page = page_at orders;
  calls = λ d. if d == 1 then call_done ∷ [] else [];
  served = λ d. if d == 2 then served_done ∷ [] else [];
  control = λ d. Drained;
}

settled_with : (orders : Orders) (up' down' : List ℕ) → IsSettled (page_with orders up' down')
settled_with orders up' down' = record {
  server = refl;
  client = refl;
  one_page = refl;
  server_done = record { idle = refl; shut = λ e. refl; told = λ e. refl };
  client_done = record { idle = refl; shut = λ e. refl; told = λ e. refl };
  honest = λ a b. record {
    left = record { in_order = ([], append-nil down'); whole = λ e. refl; over = λ e. refl };
    right = record { in_order = ([], append-nil up'); whole = λ e. refl; over = λ e. cc };
    not_both = λ x y. cc;
    server_found = refl;
    client_found = refl;
  };
  left = λ e. cc;
  right = λ e. cc;
}

page_if : (orders : Orders) (b : Bool) → IsSettled (if b then page_with orders up down else page_with orders [] told)
page_if orders true = settled_with orders up down
page_if orders false = settled_with orders [] told

settled : (orders : Orders) (place : PagePlace) → IsSettled (page_at orders place)
settled orders (Control d) = page_if orders (d == 1)
settled orders (Payload f t port) = settled_with orders calls serves

begun_if : (orders : Orders) (d : ℕ) (b : Bool) → BeganAsSaid (two orders) (Control d) (if b then page_with orders up down else page_with orders [] told)
begun_if orders d true = record { orders = refl; start = refl }
begun_if orders d false = record { orders = refl; start = refl }

begun : (orders : Orders) (place : PagePlace) → BeganAsSaid (two orders) place (page_at orders place)
begun orders (Control d) = begun_if orders d (d == 1)
begun orders (Payload f t port) = record { orders = refl; start = refl }

none_hostile : (orders : Orders) (d : ℕ) → hostile_at (two orders) d ≡ false
none_hostile orders zero = refl
none_hostile orders (suc zero) = refl
none_hostile orders (suc (suc zero)) = refl
none_hostile orders (suc (suc (suc d))) = refl

unturned_if : (orders : Orders) (b : Bool) → ((if b then page_with orders up down else page_with orders [] told).server.turned ≡ false) × ((if b then page_with orders up down else page_with orders [] told).client.turned ≡ false)
unturned_if orders true = (refl, refl)
unturned_if orders false = (refl, refl)

unturned : (orders : Orders) (place : PagePlace) → ((page_at orders place).server.turned ≡ false) × ((page_at orders place).client.turned ≡ false)
unturned orders (Control d) = unturned_if orders (d == 1)
unturned orders (Payload f t port) = (refl, refl)

one_or_two : (orders : Orders) (d : ℕ) → is_domain (hub_of (two orders)) d ≡ true → (d ≡ 1) ⊎ (d ≡ 2)
one_or_two orders zero h = cc
one_or_two orders (suc zero) h = inl refl
one_or_two orders (suc (suc zero)) h = inr refl
one_or_two orders (suc (suc (suc d))) h =
    let big : nat_le (suc (suc (suc d))) 2 ≡ false = grind (arith, nat_tests) in let low : nat_le 1 (suc (suc (suc d))) ≡ true = grind (arith, nat_tests) in let none = rw (low, big) at h in cc

scenario : (orders : Orders) → IsScenario (two orders)
scenario orders = record {
  few_domains = omega arith;
  few_calls = omega arith;
  domains_fit = All-from_recursion DomainFits (two orders).domains (record { name = refl; numbers = (refl, inr refl); acts = tt }, (record { name = refl; numbers = (refl, inr refl); acts = tt }, tt));
  apart = (All-from_recursion (λ x. bytes_eq (codes "a") x.name ≡ false) (record { name = codes "b"; hostile = None; ports = 4; version = 3 } ∷ []) (refl, tt), (All-from_recursion _ [] tt, tt));
  calls_fit = All-from_recursion (CallFits (two orders).domains) (the_call ∷ []) (record { number = omega arith; caller = refl; target = refl; service = refl; stdin = omega arith }, tt);
  rising = (omega arith, tt);
  stdin = omega arith;
  words = omega (arith, few_words orders);
}

abbrev said_to : ℕ → List Message
said_to d = if d == 1 then connect ∷ [] else exec ∷ []

-- a fact of each of the two domains
of_both : (orders : Orders) (P : ℕ → Type 0) → P 1 → P 2 → (d : ℕ) → is_domain (hub_of (two orders)) d ≡ true → P d
of_both orders P a b d there = by_number (one_or_two orders d there)
  where
    by_number : (d ≡ 1) ⊎ (d ≡ 2) → P d
    by_number (inl e) = subst P (sym e) a
    by_number (inr e) = subst P (sym e) b

abbrev ExecOf : ℕ → Type 0
ExecOf f = (t port : ℕ) (i : List ℕ) → Has (said_to f) (m.Connect t port i) → (is_dropped the_journal t ≡ true) ⊎ ((line : List ℕ) × Contains (said_to t) (m.Exec f port line))

exec_of_one : ExecOf 1
exec_of_one t port i (inl e) =
    let t_is : 2 ≡ t = cc in let port_is : 513 ≡ port = cc in
    inr (
      exec_line (codes "echo") (codes "a"),
      subst (λ x. Contains (said_to x) (m.Exec 1 port (exec_line (codes "echo") (codes "a")))) t_is
          (subst (λ p. Contains (exec ∷ []) (m.Exec 1 p (exec_line (codes "echo") (codes "a")))) port_is (0, omega arith, refl)),
    )
exec_of_one t port i (inr h) = absurd h

exec_of_two : ExecOf 2
exec_of_two t port i (inl e) = cc
exec_of_two t port i (inr h) = absurd h

broker : (orders : Orders) → BrokerOwes (hub_of (two orders)) (awaited_by (two orders)) the_journal (broker_end (two_run orders))
unfolding service
broker orders = record {
  decided = (refl, (refl, tt));
  numbered = (refl, (refl, tt));
  reads = of_both orders (λ d. read_from the_journal d ≡ filter_map (event_of d) (heard_from (broker_end (two_run orders)) d).messages) (let heard = up_heard in rw heard refl) refl;
  drops = λ d there gone. cc;
  said = said_to;
  says = of_both orders (λ d. IsSaid 3 to_agent (said_to d) (broker_end (two_run orders) d).sent) down_said told_said;
  from_journal = of_both orders (λ d. IsPartOf (said_to d) (outbox (hub_of (two orders)) the_journal d)) ([], IsPermutation-refl (connect ∷ [])) ([], IsPermutation-refl (exec ∷ []));
  exec_first = λ f t port i there h. of_both orders ExecOf exec_of_one exec_of_two f there t port i (has_from (said_to f) (m.Connect t port i) h);
  settled = λ d there kept. of_both orders (λ d'. awaited_of (awaited_by (two orders)) d' + live_calls (hub_of (two orders)) the_journal (numbers 1 1 2) d' ≤ answered_by the_journal d') (omega arith) (omega arith) d there;
  all_said = λ d there kept some. of_both orders (λ d'. IsPermutation (said_to d') (outbox (hub_of (two orders)) the_journal d')) (IsPermutation-refl (connect ∷ [])) (IsPermutation-refl (exec ∷ [])) d there;
}

-- ---- the agents

same_ident : bytes_eq (ident_of 1) (codes "call-1") ≡ true
same_ident = ap (λ x. bytes_eq x (codes "call-1")) ident_is ∙ same_bytes (codes "call-1")

heard_one : (orders : Orders) (heard : List Message) → heard ≡ connect ∷ []
    → takes_all 1 (nothing_heard (agent_plan (two orders) 1)) heard ≡ record { asked = record { call = the_call; answer = At 2 513 } ∷ []; unused = []; served = [] }
heard_one orders heard is = let same = same_ident in rw (is, same) refl

heard_two : (orders : Orders) (heard : List Message) → heard ≡ exec ∷ []
    → takes_all 2 (nothing_heard (agent_plan (two orders) 2)) heard ≡ record { asked = []; unused = []; served = record { from = 1; port = 513; service = codes "echo" } ∷ [] }
unfolding service
heard_two orders heard is = rw is refl

agent_one : (orders : Orders) → AgentOwes (agent_plan (two orders) 1) (end_of (two_run orders) 1) (call_done ∷ []) [] Drained
agent_one orders =
    let all = heard_one orders (hears 3 to_agent down).messages down_heard in
    record {
      said = trigger ∷ over ∷ [];
      says = up_said;
      in_order = ([], (let i = ident_is in rw i refl));
      of_version = ((3, down_version, refl), (tt, tt));
      greeted = λ e. (let v : None ≡ Some 3 = sym e ∙ down_version in cc);
      keeps = λ target. ((λ e. omega arith), ((λ e. cc), tt));
      told = (tt, (inl (rw all (inl refl)), tt));
      over = (refl, refl);
      reports = rw all ((refl, (refl, refl, caller_owes (end_of_role Server [] [] true (Some AllRead) true))), tt);
      serves = rw all tt;
    }

agent_two : (orders : Orders) → AgentOwes (agent_plan (two orders) 2) (end_of (two_run orders) 2) [] (served_done ∷ []) Drained
agent_two orders =
    let all = heard_two orders (hears 3 to_agent told).messages told_heard in
    record {
      said = [];
      says = record { each = tt; whole = inl (refl, refl) };
      in_order = ([], refl);
      of_version = tt;
      greeted = λ e. refl;
      keeps = λ target. tt;
      told = tt;
      over = (refl, refl);
      reports = rw all tt;
      serves = rw all ((refl, refl, serving_owes (end_of_role Client [] [] false None false)), tt);
    }

agent : (orders : Orders) (d : ℕ) → IsHonest (two orders) d → AgentOwes (agent_plan (two orders) d) (end_of (two_run orders) d) ((two_run orders).calls d) ((two_run orders).served d) Drained
agent orders zero h = let bad = h.there in cc
agent orders (suc zero) h = agent_one orders
agent orders (suc (suc zero)) h = agent_two orders
agent orders (suc (suc (suc d))) h = let bad = h.there in cc

pub there_is_a_run : (orders : Orders) → IsRun (two orders) (two_run orders)
there_is_a_run orders = record {
  scenario = scenario orders;
  settled = λ place there. settled orders place;
  begun = λ place there. begun orders place;
  server_turned = λ place there. (unturned orders place).0 ∙ sym (none_hostile orders (server_of place));
  client_turned = λ place there. (unturned orders place).1 ∙ sym (none_hostile orders (client_of place));
  broker = broker orders;
  agent = agent orders;
  hostile = λ d bad. (let fine = none_hostile orders d in let both : false ≡ true = sym fine ∙ bad in cc);
}
