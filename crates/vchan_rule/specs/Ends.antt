-- When the parts of an end agree, and the words of its contracts.
use Rattle.std.specs.Prelude.{◌≡◌, ℕ, ◌≤◌, Option, Some, None, List, take, length}
use Rattle.vchan_protocol.specs.declared.call.Call.{Call}
use Rattle.vchan_protocol.specs.declared.side.Side.{Side}
use Rattle.vchan_protocol.specs.Table.Calls.{plan_of, payload_of, IsAllowed}
use Rattle.vchan_protocol.specs.History.Core.{begins, standing_of}
use Rattle.vchan_protocol.specs.OneEnd.OneEndLaw.{OwnLawful}
use Rattle.vchan_core.specs.declared.machine.Machine.{Machine}
use Rattle.vchan_core.specs.OneMachine.Phases.{standing, rest, IsIdle}
use Rattle.vchan_core.specs.Page.StandsFor.{IsMachineOf, HasPayload}
use Rattle.vchan_rule.specs.declared.rule.View.{View}
use Rattle.vchan_rule.specs.declared.rule.View.TheVariants.{One}
use Rattle.vchan_rule.specs.Rule.{nobody}
use Rattle.vchan_rule.specs.Seated.{SeatedEnd}

-- the end that a view shows
abbrev pub end_in : View → Side
end_in (One a) = a
end_in _ = nobody

-- the end as it is inside the call that it has begun
abbrev pub seen_by : Option Call → Side → List ℕ → Side
seen_by begun s payload = elim begun [ None ↦ s | Some call ↦ begins s call (take (payload_of call) payload) ]

-- what a machine and its end agree on when a call was begun and no event made yet
pub record IsPending (call : Call) (m : Machine) (s : Side) : Type 0 where
  pub busy : ¬ IsIdle m
  pub idle : s.call ≡ None
  pub standing_is : standing m ≡ standing_of s
  pub plan : rest m ≡ plan_of (standing m) call
  pub allowed : IsAllowed s.role s.state call

abbrev pub StandsAs : Option Call → Machine → Side → Type 0
StandsAs begun m s = elim begun [ None ↦ IsMachineOf s m | Some call ↦ IsPending call m s ]

-- the machine stands for the end, and the end is an honest one
pub record Agrees (start : ℕ) (begun : Option Call) (m : Machine) (s : Side) : Type 0 where
  pub own : OwnLawful start s
  pub stands : StandsAs begun m s

-- the given bytes are those of the call under way
abbrev pub Pays : Option Call → Side → List ℕ → Type 0
Pays begun s payload = elim begun [ None ↦ HasPayload s payload | Some call ↦ payload_of call ≤ length payload ]

-- an end inside its call
abbrev pub seen : SeatedEnd → List ℕ → Side
seen e payload = seen_by e.begun e.side payload

-- it is the same end of the same page
abbrev pub IsSameEnd : SeatedEnd → SeatedEnd → Type 0
IsSameEnd before now = (now.page ≡ before.page) × (now.side.role ≡ before.side.role) × (now.side.orders ≡ before.side.orders) × (now.start ≡ before.start)
