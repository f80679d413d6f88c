-- A run there is: one honest domain, no calls.
use Rattle.std.proofs.Common.{◌≡◌, ℕ, suc, zero, [], ◌∷◌, refl, sym, ◌∙◌, arith, inl, inr, Option, Some, None}
use Rattle.std.specs.Prelude.{true, false, Bool, codes, nat_le}
use Rattle.std.proofs.lemmas.Bool.Decides.{nat_tests}
use Rattle.std.proofs.lemmas.List.Sorted.{IsPermutation-refl}
use Rattle.std.proofs.lemmas.List.Elements.{All-from_recursion}
use Rattle.ring_words.specs.declared.order.Orders.{Orders}
use Rattle.ring_words.specs.declared.page.Role.{Role}
use Rattle.ring_words.specs.declared.page.Role.TheVariants.{Server, Client}
use Rattle.vchan_protocol.specs.declared.call.EndState.TheVariants.{Shut}
use Rattle.vchan_protocol.specs.declared.side.EndedBy.{EndedBy}
use Rattle.vchan_protocol.specs.declared.side.EndedBy.TheVariants.{AllRead}
use Rattle.end_view.specs.EndView.{EndView}
use Rattle.end_view.specs.Settled.{IsSettled, IsHonestPage}
use Rattle.call_broker.specs.Domains.{is_domain}
use Rattle.scenario_file.specs.Scenario.{Plan as Scenario, IsScenario, DomainFits, CallFits, hostile_at}
use Rattle.task_duties.specs.declared.place.PagePlace.{PagePlace}
use Rattle.task_duties.specs.declared.place.PagePlace.TheVariants.{Control, Payload}
use Rattle.task_duties.specs.Agent.Owes.{AgentOwes}
use Rattle.task_duties.specs.declared.done.ControlEnd.TheVariants.{Drained}
use Rattle.task_duties.specs.Broker.Owes.{BrokerOwes}
use Rattle.run_laws.specs.Laid.{BeganAsSaid, hub_of, awaited_by, agent_plan, server_of, client_of}
use Rattle.run_laws.specs.Run.{Run, IsRun, IsHonest, end_of, broker_end}
use Rattle.run_laws.proofs.Runs.PageSizes.{few_words, some_page}

unfoldable pub tiny : Orders → Scenario
tiny orders = record { control = orders; payload = orders; start = 0; domains = record { name = codes "a"; hostile = None; ports = 4; version = 3 } ∷ []; calls = [] }

unfoldable pub over : Role → Bool → Option EndedBy → Bool → EndView
over role saw ended drained = record {
  page = some_page;
  role = role;
  state = Shut;
  idle = true;
  sent = [];
  got = [];
  saw = saw;
  ended = ended;
  drained = drained;
  misled = false;
  retired = true;
  turned = false;
  consumed = 0;
  trail = [];
}

unfoldable pub tiny_run : Orders → Run
tiny_run orders = record {
  journal = [];
  page = λ place. record { orders = orders; start = 0; server = over Server true (Some AllRead) true; client = over Client false None false };
  calls = λ d. [];
  served = λ d. [];
  control = λ d. Drained;
}

honest_page : (orders : Orders) (place : PagePlace) → IsHonestPage (over Server true (Some AllRead) true) (over Client false None false)
unfolding over
honest_page orders place = record {
  left = record { in_order = ([], refl); whole = λ e. refl; over = λ e. refl };
  right = record { in_order = ([], refl); whole = λ e. refl; over = λ e. cc };
  not_both = λ a b. cc;
  server_found = refl;
  client_found = refl;
}

settled : (orders : Orders) (place : PagePlace) → IsSettled ((tiny_run orders).page place)
unfolding over tiny_run
settled orders place = record {
  server = refl;
  client = refl;
  one_page = refl;
  server_done = record { idle = refl; shut = λ e. refl; told = λ e. refl };
  client_done = record { idle = refl; shut = λ e. refl; told = λ e. refl };
  honest = λ a b. honest_page orders place;
  left = λ e. cc;
  right = λ e. cc;
}

begun : (orders : Orders) (place : PagePlace) → BeganAsSaid (tiny orders) place ((tiny_run orders).page place)
unfolding tiny tiny_run
begun orders (Control d) = record { orders = refl; start = refl }
begun orders (Payload from to port) = record { orders = refl; start = refl }

none_hostile : (orders : Orders) (d : ℕ) → hostile_at (tiny orders) d ≡ false
unfolding tiny
none_hostile orders zero = refl
none_hostile orders (suc zero) = refl
none_hostile orders (suc (suc d)) = refl

only_one : (orders : Orders) (d : ℕ) → is_domain (hub_of (tiny orders)) d ≡ true → d ≡ 1
unfolding tiny
only_one orders zero h = cc
only_one orders (suc zero) h = refl
only_one orders (suc (suc d)) h = let big : nat_le (suc (suc d)) 1 ≡ false = grind (arith, nat_tests) in let one : nat_le 1 (suc (suc d)) ≡ true = grind (arith, nat_tests) in let none = rw (one, big) at h in cc

scenario : (orders : Orders) → IsScenario (tiny orders)
unfolding tiny
scenario orders = record {
  few_domains = omega arith;
  few_calls = omega arith;
  domains_fit = All-from_recursion DomainFits (tiny orders).domains (record { name = refl; numbers = (refl, inr refl); acts = tt }, tt);
  apart = (All-from_recursion _ [] tt, tt);
  calls_fit = All-from_recursion (CallFits (tiny orders).domains) [] tt;
  rising = tt;
  stdin = omega arith;
  words = omega (arith, few_words orders);
}

broker : (orders : Orders) → BrokerOwes (hub_of (tiny orders)) (awaited_by (tiny orders)) [] (broker_end (tiny_run orders))
unfolding tiny tiny_run over
broker orders = record {
  decided = tt;
  numbered = tt;
  reads = λ d there. refl;
  drops = λ d there gone. cc;
  said = λ d. [];
  says = λ d there. record { each = tt; whole = inl (refl, refl) };
  from_journal = λ d there. ([], IsPermutation-refl []);
  exec_first = λ f t port ident there h. absurd (omega (arith, h.1));
  settled = λ d there kept. let one = only_one orders d there in rw one (omega arith);
  all_said = λ d there kept some. IsPermutation-refl [];
}

agent : (orders : Orders) (d : ℕ) → IsHonest (tiny orders) d → AgentOwes (agent_plan (tiny orders) d) (end_of (tiny_run orders) d) [] [] Drained
unfolding tiny tiny_run over
agent orders zero h = let no = h.there in cc
agent orders (suc zero) h = record {
  said = [];
  says = record { each = tt; whole = inl (refl, refl) };
  in_order = ([], refl);
  of_version = tt;
  greeted = λ e. refl;
  keeps = λ target. tt;
  told = tt;
  over = (refl, refl);
  reports = tt;
  serves = tt;
}
agent orders (suc (suc d)) h = let no = h.there in cc

pub there_is_a_run : (orders : Orders) → IsRun (tiny orders) (tiny_run orders)
unfolding tiny tiny_run over
there_is_a_run orders = record {
  scenario = scenario orders;
  settled = λ place there. settled orders place;
  begun = λ place there. begun orders place;
  server_turned = λ place there. sym (none_hostile orders (server_of place));
  client_turned = λ place there. sym (none_hostile orders (client_of place));
  broker = broker orders;
  agent = agent orders;
  hostile = λ d bad. let fine = none_hostile orders d in let both : false ≡ true = sym fine ∙ bad in cc;
}
