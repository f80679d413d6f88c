-- What each task owes: what it reports, and that each end that it was given is retired, in the order in which they were given.
-- Source: this project's own.
use Rattle.std.specs.Prelude.{◌≡◌, ℕ, ◌+◌, Bool, true, false, List, [], ◌∷◌, map}
use Rattle.std.specs.List.{AllByRecursion as Each, AllZip as EachPair}
use Rattle.end_view.specs.EndView.{EndView}
use Rattle.call_broker.specs.Brokered.{Brokered}
use Rattle.call_broker.specs.Domains.{Domains}
use Rattle.scenario_file.specs.declared.scenario.CallPlan.{CallPlan}
use Rattle.task_duties.specs.declared.place.PagePlace.{PagePlace}
use Rattle.task_duties.specs.declared.place.PagePlace.TheVariants.{Control}
use Rattle.task_duties.specs.declared.done.CallDone.{CallDone}
use Rattle.task_duties.specs.declared.done.ServedDone.{ServedDone}
use Rattle.task_duties.specs.declared.done.ControlEnd.{ControlEnd}
use Rattle.task_duties.specs.Agent.Given.{AgentPlan}
use Rattle.task_duties.specs.Agent.Owes.{AgentOwes}
use Rattle.task_duties.specs.Broker.Owes.{BrokerOwes}
use Rattle.task_duties.specs.Hostile.Given.{HostilePlan}
use Rattle.task_duties.specs.Hostile.Trail.{IsTrail}

-- ---- what a task is given, and what it answers, as contracts see them

-- an end with its place
pub record EndAt : Type 0 where
  pub place : PagePlace
  pub view : EndView

-- what a task was given: the ends beside the plan of an agent, the domains and awaited calls of the broker, the plan of a hostile domain
pub data TaskGiven : Type 0 where
  Agent : (plan : AgentPlan) (ends : List EndAt) → TaskGiven
  Broker : (hub : Domains) (awaited : List ℕ) (ends : List EndAt) → TaskGiven
  Hostile : (plan : HostilePlan) (ends : List EndAt) → TaskGiven

-- where some ends lie, in order
abbrev pub places_in : List EndAt → List PagePlace
places_in ends = map (λ e. e.place) ends

-- the ends of a domain: that of its control page, then its data ends
abbrev pub all_ends : ℕ → EndView → List EndAt → List EndAt
all_ends domain control payload = record { place = Control domain; view = control } ∷ payload

-- the agent of a domain, with its version, its calls, its control end and its data ends
abbrev pub agent_given : ℕ → ℕ → List CallPlan → EndView → List EndAt → TaskGiven
agent_given domain version calls control payload =
    Agent (record { domain = domain; version = version; calls = calls; places = places_in payload }) (all_ends domain control payload)

-- the ends of the broker: those of the control pages of the domains from this number on
abbrev pub broker_ends : ℕ → List EndView → List EndAt
broker_ends domain [] = []
broker_ends domain (control ∷ controls) = record { place = Control domain; view = control } ∷ broker_ends (domain + 1) controls

-- the task of the broker, with its domains, how many calls of each it awaits, and its ends
abbrev pub broker_given : Domains → List ℕ → List EndView → TaskGiven
broker_given hub awaited controls = Broker hub awaited (broker_ends 1 controls)

-- what an agent answers
pub record AgentReport : Type 0 where
  pub domain : ℕ
  pub calls : List CallDone
  pub served : List ServedDone
  pub control : ControlEnd
  pub ends : List EndAt

-- what a task answers: an agent's report, a broker with its journal, a hostile domain's number; or that memory ran out; each with all its ends
pub data TaskDone : Type 0 where
  AgentDone : (report : AgentReport) → TaskDone
  BrokerDone : (broker : Brokered) (ends : List EndAt) → TaskDone
  HostileDone : (domain : ℕ) (ends : List EndAt) → TaskDone
  NoMemory : (ends : List EndAt) → TaskDone

-- memory didn't run out
abbrev pub IsReport : TaskDone → Type 0
IsReport (NoMemory ends) = ⊥
IsReport done = Unit {0}

-- ---- what it owes of its ends

-- a retired end is the one that was given: it has its place, its page and its role
pub record IsSameEnd (given retired : EndAt) : Type 0 where
  pub place : retired.place ≡ given.place
  pub page : retired.view.page ≡ given.view.page
  pub role : retired.view.role ≡ given.view.role

-- `end` gives each of the ends at its place
abbrev pub AreEnds : (PagePlace → EndView) → List EndAt → Type 0
AreEnds end ends = Each (λ e. e.view ≡ end e.place) ends

-- all ends come back in the order in which they were given, and all of them are turned or none is
pub record AreGivenBack (turned : Bool) (given ends : List EndAt) : Type 0 where
  pub same : EachPair IsSameEnd given ends
  pub turned_are : Each (λ e. e.view.turned ≡ turned) ends

-- all ends come back, and `end` gives each of them at its place
pub record EndsOwed (turned : Bool) (given ends : List EndAt) (end : PagePlace → EndView) : Type 0 where
  pub back : AreGivenBack turned given ends
  pub are : AreEnds end ends

-- an end as it was before it was given up to a hostile user, whose events change its trail alone
abbrev pub before_turned : EndView → EndView
before_turned e = record e { idle = true; turned = false; consumed = 0; trail = [] }

-- a retired end of a hostile domain did nothing of its own since it was given
pub record IsTurnedFrom (given retired : EndAt) : Type 0 where
  pub before : before_turned retired.view ≡ before_turned given.view

-- ---- what it owes

-- what a task owes by what it was given; if memory ran out, its ends alone. Those of a hostile domain are turned once its task was made
abbrev pub TaskOwes : TaskGiven → TaskDone → Type 0
TaskOwes (Agent plan given) (AgentDone report) =
    (end : PagePlace → EndView) × (report.domain ≡ plan.domain) × EndsOwed false given report.ends end
    × AgentOwes plan end report.calls report.served report.control
TaskOwes (Broker hub awaited given) (BrokerDone broker ends) =
    (end : PagePlace → EndView) × (broker.hub ≡ hub) × EndsOwed false given ends end
    × BrokerOwes hub awaited broker.journal (λ d. end (Control d))
TaskOwes (Hostile plan given) (HostileDone domain ends) =
    (end : PagePlace → EndView) × (domain ≡ plan.domain) × EndsOwed true given ends end
    × Each (λ e. IsTrail plan e.place e.view.trail) ends × EachPair IsTurnedFrom given ends
TaskOwes (Agent plan given) (NoMemory ends) = AreGivenBack false given ends
TaskOwes (Broker hub awaited given) (NoMemory ends) = AreGivenBack false given ends
TaskOwes (Hostile plan given) (NoMemory ends) = (turned : Bool) × AreGivenBack turned given ends
TaskOwes _ _ = ⊥
