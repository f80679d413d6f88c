-- A run there is with a call: one honest domain, whose one call names no domain and is refused.
use Rattle.std.proofs.Common.{◌≡◌, ℕ, suc, zero, List, [], ◌∷◌, refl, ap, sym, ◌∙◌, arith, ◌⊎◌, inl, inr, Option, Some, None}
use Rattle.std.proofs.lemmas.List.Elements.{All-from_recursion}
use Rattle.std.specs.Prelude.{true, false, Bool, codes, decimal, nat_le, bytes_eq, ◌==◌, if◌then◌else◌}
use Rattle.std.specs.List.{flat_map, AllZip as EachPair}
use Rattle.std.proofs.lemmas.Bool.Decides.{nat_tests}
use Rattle.std.proofs.lemmas.Fmt.{decimal_digit}
use Rattle.std.proofs.lemmas.List.Sorted.{IsPermutation-refl}
use Rattle.ring_words.specs.declared.order.Orders.{Orders}
use Rattle.ring_words.specs.declared.page.Role.{Role}
use Rattle.ring_words.specs.declared.page.Role.TheVariants.{Server, Client}
use Rattle.vchan_protocol.specs.declared.call.EndState.TheVariants.{Shut}
use Rattle.vchan_protocol.specs.declared.side.EndedBy.{EndedBy}
use Rattle.vchan_protocol.specs.declared.side.EndedBy.TheVariants.{AllRead}
use Rattle.qrexec_frame.specs.Texts.{HasNoNul}
use Rattle.qrexec_frame.specs.Messages.{written, IsSpellable, GoesOn}
use Rattle.qrexec_frame.specs.declared.message.Message.{Message}
use Rattle.qrexec_frame.specs.declared.message.Message.TheVariants as m
use Rattle.call_broker.specs.declared.decision.Entry.{Entry}
use Rattle.call_broker.specs.declared.event.Event.TheVariants.{Trigger}
use Rattle.call_broker.specs.declared.decision.Cause.TheVariants.{NoDomain}
use Rattle.call_broker.specs.declared.decision.Decision.TheVariants.{Refused}
use Rattle.end_view.specs.EndView.{EndView}
use Rattle.scenario_file.specs.Scenario.{Plan as Scenario, IsScenario, DomainFits, CallFits, hostile_at}
use Rattle.scenario_file.specs.declared.scenario.CallPlan.{CallPlan}
use Rattle.task_duties.specs.Words.{ident_of}
use Rattle.task_duties.specs.Hearing.{to_agent, to_broker, IsSaid, hears, hears_on}
use Rattle.std.proofs.lemmas.List.{append-nil}
use Rattle.list_laws.proofs.Tests.{same_bytes}
use Rattle.qrexec_frame.specs.declared.kind.Channel.TheVariants.{Control as OnControl}
use Rattle.qrexec_frame.specs.Grammar.{Fault}
use Rattle.qrexec_frame.specs.Fronts.{front, reading}
use Rattle.qrexec_frame.specs.Streams.{Placed, Ending}
use Rattle.qrexec_frame.proofs.StreamLaws.{reads_all}
use Rattle.qrexec_frame.proofs.GrammarLaws.{is_prefix_code}
use Rattle.qrexec_frame.proofs.WrittenLaws.{is_read_again}
use Rattle.end_view.specs.Settled.{Settled, IsSettled}
use Rattle.call_broker.specs.Domains.{is_domain}
use Rattle.task_duties.specs.Agent.Answers.{takes_all, nothing_heard}
use Rattle.task_duties.specs.Agent.Owes.{AgentOwes, ReportsCall}
use Rattle.task_duties.specs.declared.done.CallEnd.TheVariants.{Refused as WasRefused}
use Rattle.task_duties.specs.declared.done.ControlEnd.TheVariants.{Drained}
use Rattle.task_duties.specs.Broker.Owes.{BrokerOwes}
use Rattle.task_duties.proofs.ControlLaw.{all_heard, agent_on_control, broker_on_control, the_messages}
use Rattle.task_duties.proofs.Elements.{Has, has_from}
use Rattle.task_duties.specs.declared.place.PagePlace.{PagePlace}
use Rattle.task_duties.specs.declared.place.PagePlace.TheVariants.{Control, Payload}
use Rattle.run_laws.specs.Laid.{BeganAsSaid, hub_of, awaited_by, agent_plan, server_of, client_of}
use Rattle.run_laws.specs.Run.{Run, IsRun, IsHonest, end_of, broker_end}
use Rattle.run_laws.proofs.Runs.PageSizes.{few_words, some_page}

abbrev pub ident : List ℕ
ident = codes "call-1"

pub ident_is : ident_of 1 ≡ ident
ident_is = let one : decimal 1 ≡ 49 ∷ [] = decimal_digit 1 (omega arith) in rw one refl

abbrev asked : Message
asked = m.Trigger3 (codes "nobody") ident (codes "echo")

abbrev answer : Message
answer = m.Refused ident

abbrev pub no_zero : List ℕ → Bool
no_zero [] = true
no_zero (b ∷ text) = if b == 0 then false else no_zero text

nul_at : (text : List ℕ) → no_zero text ≡ true → Has text 0 → ⊥
nul_at [] h there = absurd there
nul_at (b ∷ text) h there = by_test (b == 0) refl h there (λ k there'. nul_at text k there')
  where
    by_test : (c : Bool) → (b == 0) ≡ c → (if c then false else no_zero text) ≡ true → (b ≡ 0) ⊎ Has text 0 → (no_zero text ≡ true → Has text 0 → ⊥) → ⊥
    by_test true is k t' more = cc
    by_test false is k (inl e) more = let bad : (b == 0) ≡ true = grind (arith, nat_tests, e) in cc
    by_test false is k (inr later) more = more k later

pub no_nul_lem : (text : List ℕ) → no_zero text ≡ true → HasNoNul text
no_nul_lem text h = record { none = λ c. nul_at text h (has_from text 0 c) }

asked_spelled : IsSpellable asked
asked_spelled = ((record { within = omega arith; no_nul = no_nul_lem (codes "nobody") refl }, record { within = omega arith; no_nul = no_nul_lem ident refl }, record { within = omega arith; no_nul = no_nul_lem (codes "echo") refl }), tt)

answer_spelled : IsSpellable answer
answer_spelled = (record { within = omega arith; no_nul = no_nul_lem ident refl }, tt)

unfoldable pub up : List ℕ
up = flat_map written (m.Hello 3 ∷ m.Trigger3 (codes "nobody") (codes "call-1") (codes "echo") ∷ [])

unfoldable pub down : List ℕ
down = flat_map written (m.Hello 3 ∷ m.Refused (codes "call-1") ∷ [])

up_said : IsSaid 3 to_broker (asked ∷ []) up
unfolding up
up_said = record { each = ((refl, asked_spelled), tt); whole = inr refl }

down_said : IsSaid 3 to_agent (answer ∷ []) down
unfolding down
down_said = record { each = ((refl, answer_spelled), tt); whole = inr refl }

up_heard : (hears 3 to_broker up).messages ≡ asked ∷ []
up_heard = all_heard 3 3 to_broker broker_on_control (asked ∷ []) up (omega arith) (omega arith) up_said

down_heard : (hears 3 to_agent down).messages ≡ answer ∷ []
down_heard = all_heard 3 3 to_agent agent_on_control (answer ∷ []) down (omega arith) (omega arith) down_said

pub version_on : (may : Message → Bool) (said : List Message) (placed : List (Placed Message)) (e : Ending Fault) → the_messages placed ≡ m.Hello 3 ∷ said → (hears_on 3 may placed e).version ≡ Some 3
version_on may said [] e is = cc
version_on may said (p ∷ placed) e is = let a : p.message ≡ m.Hello 3 = cc in rw a refl

down_version : (hears 3 to_agent down).version ≡ Some 3
unfolding down
down_version =
    let all = reads_all (front OnControl) written (λ x. IsSpellable x × GoesOn OnControl x) (is_prefix_code OnControl) (is_read_again OnControl) (m.Hello 3 ∷ answer ∷ []) (((tt, omega arith), refl), ((answer_spelled, refl), tt)) 0 in
    version_on to_agent (answer ∷ []) (reading OnControl down).placed (reading OnControl down).ending all.0

-- ---- the run

abbrev the_call : CallPlan
the_call = record { number = 1; from = 1; to = codes "nobody"; service = codes "echo"; stdin = [] }

abbrev pub one : Orders → Scenario
one orders = record { control = orders; payload = orders; start = 0; domains = record { name = codes "a"; hostile = None; ports = 4; version = 3 } ∷ []; calls = the_call ∷ [] }

abbrev end_with : Role → List ℕ → List ℕ → Bool → Option EndedBy → Bool → EndView
end_with role sent got saw ended drained = record {
  page = some_page;
  role = role;
  state = Shut;
  idle = true;
  sent = sent;
  got = got;
  saw = saw;
  ended = ended;
  drained = drained;
  misled = false;
  retired = true;
  turned = false;
  consumed = 0;
  trail = [];
}

abbrev the_journal : List Entry
the_journal = record { event = Trigger 1 (codes "nobody") (codes "echo") ident; decision = Refused NoDomain } ∷ []

abbrev pub one_run : Orders → Run
one_run orders = record {
  journal = the_journal;
  page = λ place. record { orders = orders; start = 0; server = end_with Server up down true (Some AllRead) true; client = end_with Client down up false None false };
  calls = λ d. record { number = 1; end = WasRefused } ∷ [];
  served = λ d. [];
  control = λ d. Drained;
}

settled : (orders : Orders) (page : Settled) → page ≡ record { orders = orders; start = 0; server = end_with Server up down true (Some AllRead) true; client = end_with Client down up false None false } → IsSettled page
settled orders page is = rw is (record {
  server = refl;
  client = refl;
  one_page = refl;
  server_done = record { idle = refl; shut = λ e. refl; told = λ e. refl };
  client_done = record { idle = refl; shut = λ e. refl; told = λ e. refl };
  honest = λ a b. record {
    left = record { in_order = ([], append-nil down); whole = λ e. refl; over = λ e. refl };
    right = record { in_order = ([], append-nil up); whole = λ e. refl; over = λ e. cc };
    not_both = λ x y. cc;
    server_found = refl;
    client_found = refl;
  };
  left = λ e. cc;
  right = λ e. cc;
})

begun : (orders : Orders) (place : PagePlace) → BeganAsSaid (one orders) place ((one_run orders).page place)
begun orders (Control d) = record { orders = refl; start = refl }
begun orders (Payload from to port) = record { orders = refl; start = refl }

none_hostile : (orders : Orders) (d : ℕ) → hostile_at (one orders) d ≡ false
none_hostile orders zero = refl
none_hostile orders (suc zero) = refl
none_hostile orders (suc (suc d)) = refl

only_one : (orders : Orders) (d : ℕ) → is_domain (hub_of (one orders)) d ≡ true → d ≡ 1
only_one orders zero h = cc
only_one orders (suc zero) h = refl
only_one orders (suc (suc d)) h = let big : nat_le (suc (suc d)) 1 ≡ false = grind (arith, nat_tests) in let low : nat_le 1 (suc (suc d)) ≡ true = grind (arith, nat_tests) in let none = rw (low, big) at h in cc

scenario : (orders : Orders) → IsScenario (one orders)
scenario orders = record {
  few_domains = omega arith;
  few_calls = omega arith;
  domains_fit = All-from_recursion DomainFits (one orders).domains (record { name = refl; numbers = (refl, inr refl); acts = tt }, tt);
  apart = (All-from_recursion _ [] tt, tt);
  calls_fit = All-from_recursion (CallFits (one orders).domains) (the_call ∷ []) (record { number = omega arith; caller = refl; target = refl; service = refl; stdin = omega arith }, tt);
  rising = (omega arith, tt);
  stdin = omega arith;
  words = omega (arith, few_words orders);
}

no_connect : (t port : ℕ) (i : List ℕ) → Has (answer ∷ []) (m.Connect t port i) → ⊥
no_connect t port i (inl e) = cc
no_connect t port i (inr h) = h

broker : (orders : Orders) → BrokerOwes (hub_of (one orders)) (awaited_by (one orders)) the_journal (broker_end (one_run orders))
broker orders = record {
  decided = (refl, tt);
  numbered = (refl, tt);
  reads = λ d there. (let is = only_one orders d there in let heard = up_heard in rw (is, heard) refl);
  drops = λ d there gone. cc;
  said = λ d. answer ∷ [];
  says = λ d there. down_said;
  from_journal = λ d there. (let is = only_one orders d there in rw is ([], IsPermutation-refl (answer ∷ [])));
  exec_first = λ f t port i there h. absurd (no_connect t port i (has_from (answer ∷ []) (m.Connect t port i) h));
  settled = λ d there kept. (let is = only_one orders d there in rw is (omega arith));
  all_said = λ d there kept some. (let is = only_one orders d there in rw is (IsPermutation-refl (answer ∷ [])));
}

reported : (orders : Orders) (heard : List Message) → heard ≡ answer ∷ [] → EachPair (ReportsCall (agent_plan (one orders) 1) (end_of (one_run orders) 1)) (takes_all 1 (nothing_heard (agent_plan (one orders) 1)) heard).asked (record { number = 1; end = WasRefused } ∷ [])
reported orders heard is =
    let same : bytes_eq (ident_of 1) (codes "call-1") ≡ true = ap (λ x. bytes_eq x (codes "call-1")) ident_is ∙ same_bytes (codes "call-1") in
    rw (is, same) ((refl, tt), tt)

served_none : (orders : Orders) (heard : List Message) → heard ≡ answer ∷ [] → (takes_all 1 (nothing_heard (agent_plan (one orders) 1)) heard).served ≡ []
served_none orders heard is = rw is refl

agent : (orders : Orders) (d : ℕ) → IsHonest (one orders) d → AgentOwes (agent_plan (one orders) d) (end_of (one_run orders) d) (record { number = 1; end = WasRefused } ∷ []) [] Drained
agent orders zero h = let bad = h.there in cc
agent orders (suc zero) h = record {
  said = asked ∷ [];
  says = up_said;
  in_order = ([], (let i = ident_is in rw i refl));
  of_version = ((3, down_version, refl), tt);
  greeted = λ e. (let v : None ≡ Some 3 = sym e ∙ down_version in cc);
  keeps = λ target. ((λ e. omega arith), tt);
  told = (tt, tt);
  over = (refl, refl);
  reports = reported orders (hears 3 to_agent down).messages down_heard;
  serves = (let none = served_none orders (hears 3 to_agent down).messages down_heard in rw none tt);
}
agent orders (suc (suc d)) h = let bad = h.there in cc

pub there_is_a_run : (orders : Orders) → IsRun (one orders) (one_run orders)
there_is_a_run orders = record {
  scenario = scenario orders;
  settled = λ place there. settled orders ((one_run orders).page place) refl;
  begun = λ place there. begun orders place;
  server_turned = λ place there. sym (none_hostile orders (server_of place));
  client_turned = λ place there. sym (none_hostile orders (client_of place));
  broker = broker orders;
  agent = agent orders;
  hostile = λ d bad. (let fine = none_hostile orders d in let both : false ≡ true = sym fine ∙ bad in cc);
}
