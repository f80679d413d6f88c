-- A run from what its tasks answered and from its settled pages.
-- Source: this project's own.
use Rattle.std.specs.Prelude.{◌≡◌, ℕ, ◌≤◌, true, false, List, [], ◌∷◌, length, map, slice_index_or, Contains, IsPermutation, AllPairs, if◌then◌else◌}
use Rattle.std.specs.List.{AllByRecursion as Each}
use Rattle.call_broker.specs.declared.decision.Entry.{Entry}
use Rattle.end_view.specs.EndView.{EndView, IsUnused, no_end}
use Rattle.end_view.specs.Settled.{Settled, IsSettled}
use Rattle.scenario_file.specs.Scenario.{Plan as Scenario, IsScenario, hostile_at}
use Rattle.task_duties.specs.declared.place.PagePlace.{PagePlace}
use Rattle.task_duties.specs.declared.place.PagePlace.TheVariants.{Control}
use Rattle.task_duties.specs.declared.done.CallDone.{CallDone}
use Rattle.task_duties.specs.declared.done.ServedDone.{ServedDone}
use Rattle.task_duties.specs.declared.done.ControlEnd.{ControlEnd}
use Rattle.task_duties.specs.declared.done.ControlEnd.TheVariants.{Drained}
use Rattle.task_duties.specs.Places.{is_place}
use Rattle.task_duties.specs.TaskOwes.{EndAt, TaskGiven, Agent, Broker, Hostile, TaskDone, AgentDone, BrokerDone, HostileDone, NoMemory, IsReport, places_in, TaskOwes}
use Rattle.run_laws.specs.Laid.{BeganAsSaid, orders_of, all_domains, laid, places_of, server_of, client_of, hub_of, awaited_by, agent_plan, hostile_plan}
use Rattle.run_laws.specs.declared.report.ServedLine.{ServedLine}
use Rattle.run_laws.specs.Report.{SettledPage, Report}
use Rattle.run_laws.specs.Lawful.{IsLawful}
use Rattle.run_laws.specs.HostileSessions.{HostileSession, hostile_sessions, stands_before, session_line}
use Rattle.run_laws.specs.Run.{Run, IsRun, IsHonest}
use Rattle.run_laws.specs.ReadOff.{page_read, line_read}

-- ---- what the tasks answered: first the broker's task, then those of the domains in order

-- the answer of the task of a number: of a domain, or of the broker, whose number is 0
abbrev pub answer_at : List TaskDone → ℕ → TaskDone
answer_at dones number = slice_index_or dones number (NoMemory [])

-- the ends that a task gave back
abbrev pub ends_of : TaskDone → List EndAt
ends_of (AgentDone report) = report.ends
ends_of (BrokerDone broker ends) = ends
ends_of (HostileDone domain ends) = ends
ends_of (NoMemory ends) = ends

-- the journal of a broker; no entries of any other task
abbrev pub journal_of : TaskDone → List Entry
journal_of (BrokerDone broker ends) = broker.journal
journal_of done = []

-- the calls that an agent reports; none of any other task
abbrev pub calls_of : TaskDone → List CallDone
calls_of (AgentDone report) = report.calls
calls_of done = []

abbrev pub served_of : TaskDone → List ServedDone
served_of (AgentDone report) = report.served
served_of done = []

abbrev pub control_of : TaskDone → ControlEnd
control_of (AgentDone report) = report.control
control_of done = Drained

-- ---- the run

-- the view of the end at a place
abbrev pub view_in : List EndAt → PagePlace → EndView
view_in [] place = no_end
view_in (e ∷ ends) place = if is_place e.place place then e.view else view_in ends place

-- the view of a domain's end at a place, or of the broker's
abbrev pub view_at : List TaskDone → ℕ → PagePlace → EndView
view_at dones number place = view_in (ends_of (answer_at dones number)) place

-- the page at a place, by the ends that were given back
abbrev pub page_at : Scenario → List TaskDone → PagePlace → Settled
page_at s dones place = record { orders = orders_of s place; start = s.start; server = view_at dones (server_of place) place; client = view_at dones (client_of place) place }

-- the run that is made of the tasks' answers
abbrev pub run_of : Scenario → List TaskDone → Run
run_of s dones = record {
  journal = journal_of (answer_at dones 0);
  page = page_at s dones;
  calls = λ d. calls_of (answer_at dones d);
  served = λ d. served_of (answer_at dones d);
  control = λ d. control_of (answer_at dones d);
}

-- ---- when it is one

-- what the task of a number must be given: the ends of its domain's pages, unused where it is hostile, or, for the broker, the ends of all control pages
abbrev pub IsGivenTo : Scenario → ℕ → TaskGiven → Type 0
IsGivenTo s number (Broker hub awaited ends) = (number ≡ 0) × (hub ≡ hub_of s) × (awaited ≡ awaited_by s) × (places_in ends ≡ map Control (all_domains s))
IsGivenTo s number (Agent plan ends) = IsHonest s number × (plan ≡ agent_plan s number) × (places_in ends ≡ places_of s number)
IsGivenTo s number (Hostile plan ends) = (hostile_at s number ≡ true) × (plan ≡ hostile_plan s number) × (places_in ends ≡ places_of s number) × Each (λ e. IsUnused e.view) ends

-- the task of a number was given what it must be given, and answered as it owed
abbrev pub HasAnswered : Scenario → List TaskDone → ℕ → Type 0
HasAnswered s dones number = (given : TaskGiven) × IsGivenTo s number given × IsReport (answer_at dones number) × TaskOwes given (answer_at dones number)

-- a settled page is made of the two ends that its tasks gave back
pub record IsJoined (s : Scenario) (dones : List TaskDone) (page : SettledPage) : Type 0 where
  pub settled : IsSettled page.settled
  pub begun : BeganAsSaid s page.place page.settled
  pub server : Contains (ends_of (answer_at dones (server_of page.place))) (record { place = page.place; view = page.settled.server })
  pub client : Contains (ends_of (answer_at dones (client_of page.place))) (record { place = page.place; view = page.settled.client })

-- all tasks have answered, and all pages are settled, in the order in which they are laid
pub record AreResults (s : Scenario) (dones : List TaskDone) (pages : List SettledPage) : Type 0 where
  pub scenario : IsScenario s
  pub answered : (number : ℕ) → number ≤ length s.domains → HasAnswered s dones number
  pub places : map (λ p. p.place) pages ≡ laid s
  pub joined : Each (IsJoined s dones) pages

-- such results make up a run, with these pages
abbrev pub ResultsAreRuns : Type 0
ResultsAreRuns = (s : Scenario) (dones : List TaskDone) (pages : List SettledPage) → AreResults s dones pages → IsRun s (run_of s dones) × (map (page_read (run_of s dones)) (laid s) ≡ pages)

-- the report of such results: the lines of the calls are read off, and the pages are these
abbrev pub report_by : Scenario → List TaskDone → List SettledPage → List ServedLine → Report
report_by s dones pages served = record { calls = map (line_read s (run_of s dones)) s.calls; served = served; pages = pages }

-- the report of such results is lawful with the lines of all sessions with hostile callers that honest domains report, after they are sorted
abbrev pub ResultsAreLawful : Type 0
ResultsAreLawful =
    (s : Scenario) (dones : List TaskDone) (pages : List SettledPage) → AreResults s dones pages → (sorted : List HostileSession) → IsPermutation (hostile_sessions s (run_of s dones)) sorted
    → AllPairs (λ a b. stands_before b a ≡ false) sorted → IsLawful s (report_by s dones pages (map (session_line s) sorted))
