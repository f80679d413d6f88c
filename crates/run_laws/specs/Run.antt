-- A run that is over: what each task owes, and what each settled page promises.
-- Source: this project's own.
use Rattle.std.specs.Prelude.{◌≡◌, ◌≢◌, ℕ, ◌<◌, ◌==◌, true, false, List, if◌then◌else◌, is_some}
use Rattle.call_broker.specs.declared.decision.Entry.{Entry}
use Rattle.call_broker.specs.Domains.{port_after}
use Rattle.end_view.specs.EndView.{EndView}
use Rattle.end_view.specs.Settled.{Settled, IsSettled}
use Rattle.scenario_file.specs.Scenario.{Plan as Scenario, IsScenario, domain_of, hostile_at}
use Rattle.task_duties.specs.declared.place.PagePlace.{PagePlace}
use Rattle.task_duties.specs.declared.place.PagePlace.TheVariants.{Control, Payload}
use Rattle.task_duties.specs.declared.done.CallDone.{CallDone}
use Rattle.task_duties.specs.declared.done.ServedDone.{ServedDone}
use Rattle.task_duties.specs.declared.done.ControlEnd.{ControlEnd}
use Rattle.task_duties.specs.Agent.Owes.{AgentOwes}
use Rattle.task_duties.specs.Broker.Owes.{BrokerOwes}
use Rattle.run_laws.specs.Lawful.{IsActedOn}
use Rattle.run_laws.specs.Laid.{BeganAsSaid, server_of, client_of, hub_of, awaited_by, agent_plan, hostile_plan, pages_between, is_end_of}

-- a page lies at this place; `laid` lists all such places
abbrev pub IsPlace : Scenario → PagePlace → Type 0
IsPlace s (Control d) = is_some (domain_of s d) ≡ true
IsPlace s (Payload f t port) =
    (f ≢ t) × (is_some (domain_of s f) ≡ true) × (is_some (domain_of s t) ≡ true)
    × ((k : ℕ) × (k < pages_between s f t) × (port ≡ port_after f t k))

-- a run: the broker's journal, the settled page of each place, and what each agent reports of its calls, of what it served and of its control channel
pub record Run : Type 0 where
  pub journal : List Entry
  pub page : PagePlace → Settled
  pub calls : ℕ → List CallDone
  pub served : ℕ → List ServedDone
  pub control : ℕ → ControlEnd

-- a domain's end of a page that is its own
abbrev pub end_of : Run → ℕ → PagePlace → EndView
end_of run d place = if server_of place == d then (run.page place).server else (run.page place).client

-- the broker's end of the control page of a domain
abbrev pub broker_end : Run → ℕ → EndView
broker_end run d = (run.page (Control d)).client

-- a domain of the scenario that isn't hostile
pub record IsHonest (s : Scenario) (d : ℕ) : Type 0 where
  pub there : is_some (domain_of s d) ≡ true
  pub honest : hostile_at s d ≡ false

-- a run of a scenario: each page is settled and began as the scenario says, the ends of hostile domains, and only they, are turned, and each task has done what it owes
pub record IsRun (s : Scenario) (run : Run) : Type 0 where
  pub scenario : IsScenario s
  pub settled : (place : PagePlace) → IsPlace s place → IsSettled (run.page place)
  pub begun : (place : PagePlace) → IsPlace s place → BeganAsSaid s place (run.page place)
  pub server_turned : (place : PagePlace) → IsPlace s place → (run.page place).server.turned ≡ hostile_at s (server_of place)
  pub client_turned : (place : PagePlace) → IsPlace s place → (run.page place).client.turned ≡ hostile_at s (client_of place)
  pub broker : BrokerOwes (hub_of s) (awaited_by s) run.journal (broker_end run)
  pub agent : (d : ℕ) → IsHonest s d → AgentOwes (agent_plan s d) (end_of run d) (run.calls d) (run.served d) (run.control d)
  pub hostile : (d : ℕ) → hostile_at s d ≡ true → (place : PagePlace) → IsPlace s place → is_end_of d place ≡ true → IsActedOn (hostile_plan s d) place (end_of run d place)
