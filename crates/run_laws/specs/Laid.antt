-- The pages that are laid for a scenario, and what its tasks are given.
-- Source: this project's own.
use Rattle.std.specs.Prelude.{◌≡◌, ℕ, ◌==◌, ◌&&◌, ◌||◌, Bool, true, false, List, [], ◌++◌, length, map, filter, unwrap_or, if◌then◌else◌}
use Rattle.std.specs.List.{flat_map, count_by}
use Rattle.std.specs.Option.{option_map_or}
use Rattle.ring_words.specs.declared.order.Orders.{Orders}
use Rattle.end_view.specs.Settled.{Settled}
use Rattle.call_broker.specs.Domains.{Domains, first_port}
use Rattle.task_duties.specs.Agent.Given.{AgentPlan}
use Rattle.task_duties.specs.Hostile.Given.{HostilePlan}
use Rattle.task_duties.specs.declared.place.PagePlace.{PagePlace}
use Rattle.task_duties.specs.declared.place.PagePlace.TheVariants.{Control, Payload}
use Rattle.task_duties.specs.Places.{numbers}
use Rattle.scenario_file.specs.Scenario.{Plan as Scenario, domain_of, domain_named, hostile_at, version_at}
use Rattle.scenario_file.specs.declared.scenario.CallPlan.{CallPlan}
use Rattle.scenario_file.specs.declared.acts.Act.{Act}

-- the numbers of all domains
abbrev pub all_domains : Scenario → List ℕ
all_domains s = numbers 1 1 (length s.domains)

-- whether a call is from one domain to another
abbrev pub is_from_to : Scenario → ℕ → ℕ → CallPlan → Bool
is_from_to s from to call = call.from == from && option_map_or (λ d. d == to) (domain_named s call.to) false

-- how many calls the scenario has of an ordered pair
abbrev pub calls_between : Scenario → ℕ → ℕ → ℕ
calls_between s from to = count_by (is_from_to s from to) s.calls

-- the calls of a domain, in order
abbrev pub calls_from : Scenario → ℕ → List CallPlan
calls_from s from = filter (λ call. call.from == from) s.calls

-- how many ports a domain has
abbrev pub ports_at : Scenario → ℕ → ℕ
ports_at s d = option_map_or (λ domain. domain.ports) (domain_of s d) 0

-- how many data pages are laid for an ordered pair: as many as the caller has calls to the target, and for a hostile caller as many as it has ports
abbrev pub pages_between : Scenario → ℕ → ℕ → ℕ
pages_between s from to =
    if from == to then 0
    else if hostile_at s from then ports_at s from
    else calls_between s from to

-- the ports of those pages
abbrev pub ports_between : Scenario → ℕ → ℕ → List ℕ
ports_between s from to = numbers (first_port from to) 2 (pages_between s from to)

-- where those pages lie
abbrev pub laid_between : Scenario → ℕ → ℕ → List PagePlace
laid_between s from to = map (Payload from to) (ports_between s from to)

-- where all pages lie: a control page for each domain, then the data pages in order of caller, target and port
abbrev pub laid : Scenario → List PagePlace
laid s = map Control (all_domains s) ++ flat_map (λ from. flat_map (laid_between s from) (all_domains s)) (all_domains s)

-- the table of pages as the broker has it, the pairs from 1 first
abbrev pub page_table : Scenario → List ℕ
page_table s = flat_map (λ from. map (pages_between s from) (all_domains s)) (all_domains s)

-- the orders of a page
abbrev pub orders_of : Scenario → PagePlace → Orders
orders_of s (Control d) = s.control
orders_of s (Payload from to port) = s.payload

-- a page at this place has the orders of its kind, and all its indices began at the scenario's start
pub record BeganAsSaid (s : Scenario) (place : PagePlace) (page : Settled) : Type 0 where
  pub orders : page.orders ≡ orders_of s place
  pub start : page.start ≡ s.start

-- which domain has the server's end of a page, and which the client's; 0 is the broker
abbrev pub server_of : PagePlace → ℕ
server_of (Control d) = d
server_of (Payload from to port) = from

abbrev pub client_of : PagePlace → ℕ
client_of (Control d) = 0
client_of (Payload from to port) = to

-- whether a domain has an end of the page
abbrev pub is_end_of : ℕ → PagePlace → Bool
is_end_of d (Control domain) = domain == d
is_end_of d (Payload from to port) = from == d || to == d

-- the pages of one domain: its control page, then its data pages
abbrev pub places_of : Scenario → ℕ → List PagePlace
places_of s d = filter (is_end_of d) (laid s)

-- whether a page is a data page
abbrev pub is_data : PagePlace → Bool
is_data (Control d) = false
is_data (Payload from to port) = true

-- ---- what the tasks are given

-- the broker: the names of all domains, and the table of pages
abbrev pub hub_of : Scenario → Domains
hub_of s = record { names = map (λ domain. domain.name) s.domains; pages = page_table s }

-- and how many calls it awaits of each domain
abbrev pub awaited_by : Scenario → List ℕ
awaited_by s = map (λ d. length (calls_from s d)) (all_domains s)

-- the agent of a domain
abbrev pub agent_plan : Scenario → ℕ → AgentPlan
agent_plan s d = record { domain = d; version = version_at s d; calls = calls_from s d; places = filter is_data (places_of s d) }

-- the acts of a domain
abbrev pub acts_at : Scenario → ℕ → List Act
acts_at s d = option_map_or (λ domain. unwrap_or domain.hostile []) (domain_of s d) []

-- the task of a hostile domain
abbrev pub hostile_plan : Scenario → ℕ → HostilePlan
hostile_plan s d = record {
  domain = d;
  names = map (λ domain. domain.name) s.domains;
  acts = acts_at s d;
  control = s.control;
  payload = s.payload;
  places = places_of s d;
}
