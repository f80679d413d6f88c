-- The tasks of a run, by the ends that are dealt to them.
-- Source: this project's own.
use Rattle.std.specs.Prelude.{◌≡◌, ℕ, ◌+◌, List, length, slice_get, Some, if◌then◌else◌}
use Rattle.std.specs.List.{AllByRecursion as Each}
use Rattle.ring_words.specs.declared.page.Role.TheVariants.{Server}
use Rattle.vchan_rule.specs.Seated.{SeatedEnd, view}
use Rattle.end_view.specs.EndView.{EndView, IsUnused}
use Rattle.scenario_file.specs.Scenario.{Plan as Scenario, hostile_at}
use Rattle.task_duties.specs.TaskOwes.{TaskGiven, Agent, Hostile, broker_given, places_in}
use Rattle.task_duties.specs.declared.ends.UnmadeEnds.{UnmadeEnds}
use Rattle.task_duties.specs.GivenEnds.{all_given}
use Rattle.broker_task.specs.Given.{IsNewClient}
use Rattle.agent_slots.specs.Slots.{AreApart, IsGiven}
use Rattle.hostile_task.specs.Plan.{AreApart as AreAllApart}
use Rattle.run_laws.specs.Laid.{agent_plan, awaited_by, calls_from, hostile_plan, hub_of}
use Rattle.run_pages.specs.declared.deal.Hand.{Hand}
use Rattle.run_pages.specs.Dealt.{HasOrders, hand_ends}
use Rattle.scenario_run.specs.Turns.{RunState, Waits}

-- how many calls a domain has
abbrev pub awaited_from : Scenario → ℕ → ℕ
awaited_from s d = length (calls_from s d)

-- the ends of the control pages that the broker may be given
pub record AreControlsOf (s : Scenario) (controls : List SeatedEnd) : Type 0 where
  pub count : length controls ≡ length s.domains
  pub unused : Each IsNewClient controls

-- the ends that the task of a domain may be given
pub record IsHandOf (s : Scenario) (d : ℕ) (hand : Hand) : Type 0 where
  pub server : (view hand.control).role ≡ Server
  pub unused : IsUnused (view hand.control)
  pub given : Each (IsGiven d) (all_given hand.payload.items)
  pub apart : AreApart (places_in (all_given hand.payload.items))
  pub all_apart : AreAllApart (places_in (all_given hand.payload.items))
  pub orders : HasOrders s d hand

-- they are given back as they were given, if the task isn't made
abbrev pub AreUnmade : Hand → UnmadeEnds → Type 0
AreUnmade hand ends = (ends.control ≡ hand.control) × (ends.payload ≡ hand.payload)

abbrev pub AreHandsOf : Scenario → List Hand → Type 0
AreHandsOf s hands = (length hands ≡ length s.domains) × ((k : ℕ) (hand : Hand) → slice_get hands k ≡ Some hand → IsHandOf s (k + 1) hand)

-- what the task of a domain is given with this hand
abbrev pub domain_given : Scenario → ℕ → Hand → TaskGiven
domain_given s d hand =
    if hostile_at s d
    then Hostile (record (hostile_plan s d) { places = places_in (hand_ends d hand) }) (hand_ends d hand)
    else Agent (record (agent_plan s d) { places = places_in (all_given hand.payload.items) }) (hand_ends d hand)

-- the tasks wait to be made of the ends of these hands, and that of the broker of the controls
pub record AreTasksOf (s : Scenario) (controls : List EndView) (hands : List Hand) (tasks : List RunState) : Type 0 where
  pub broker : slice_get tasks 0 ≡ Some (Waits (broker_given (hub_of s) (awaited_by s) controls))
  pub domains : (k : ℕ) (hand : Hand) → slice_get hands k ≡ Some hand → slice_get tasks (k + 1) ≡ Some (Waits (domain_given s (k + 1) hand))
  pub count : length tasks ≡ length hands + 1
