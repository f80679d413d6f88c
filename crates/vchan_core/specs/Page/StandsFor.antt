-- The pasts that a machine and a plain page stand for.
use Rattle.std.specs.Prelude.{◌≡◌, ℕ, Bool, Option, Some, None, List, length, take}
use Rattle.ring_words.specs.declared.order.Orders.{Orders}
use Rattle.ring_words.specs.declared.page.Role.{Role}
use Rattle.vchan_core.specs.declared.ends.End.{End}
use Rattle.vchan_core.specs.declared.machine.Machine.{Machine}
use Rattle.vchan_core.specs.declared.plain.Plain.{Plain}
use Rattle.vchan_core.specs.declared.totals.Totals.{Totals}
use Rattle.vchan_protocol.specs.declared.op.Op.{Op}
use Rattle.vchan_protocol.specs.declared.side.Side.{Side}
use Rattle.vchan_protocol.specs.declared.side.Begun.{Begun}
use Rattle.vchan_protocol.specs.Table.Plan.{Leads, next_op}
use Rattle.vchan_protocol.specs.Table.Calls.{plan_of, payload_of}
use Rattle.vchan_core.specs.OneMachine.Phases.{standing, rest, IsIdle}
use Rattle.vchan_core.specs.Page.Counts.{capped}
use Rattle.vchan_core.specs.Page.Ends.{end_of, other_end}
use Rattle.vchan_protocol.specs.History.Core.{Core, standing_of, begun_standing, standing_along}

-- ---- the parts of a plain page

abbrev pub machine_of : Plain → Role → Machine
machine_of page who = (end_of page.ends who).machine

abbrev pub other_of : Plain → Role → Machine
other_of page who = (other_end page.ends who).machine

-- how many bytes an end has sent and got
abbrev pub moved_of : Plain → Role → Totals
moved_of page who = (end_of page.ends who).moved

abbrev pub words_of : Plain → List ℕ
words_of page = page.words.list

abbrev pub orders_of : Plain → Orders
orders_of page = page.words.orders

abbrev pub turned_of : Plain → Role → Bool
turned_of page who = (end_of page.ends who).turned

-- the event that comes next at an end
abbrev pub op_of : Plain → Role → Op
op_of page who = next_op (rest (machine_of page who))

-- ---- what they stand for

-- Both are between two calls. Or the machine is in the call that this end has begun, after the events of its trail, and the end stands as these left it
abbrev pub IsInCall : Side → Option Begun → Machine → Type 0
IsInCall s None m = IsIdle m
IsInCall s (Some b) m = (¬ IsIdle m) × Leads (plan_of (begun_standing s b) b.call) s.trail (rest m) ×
    (length s.payload ≡ payload_of b.call) × (standing_along (begun_standing s b) s.trail ≡ standing_of s)

-- the machine stands where this end stands
pub record IsMachineOf (s : Side) (m : Machine) : Type 0 where
  pub standing_is : standing m ≡ standing_of s
  pub in_call : IsInCall s s.call m

-- what a page keeps of an end is of this end
pub record IsEndOf (s : Side) (e : End) : Type 0 where
  pub machine : IsMachineOf s e.machine
  pub sent : e.moved.sent ≡ capped (length s.sent)
  pub got : e.moved.got ≡ capped (length s.got)
  pub turned : e.turned ≡ s.turned

-- the plain page stands for the core state
pub record StandsFor (core : Core) (page : Plain) : Type 0 where
  pub orders : orders_of page ≡ core.orders
  pub words : words_of page ≡ core.words
  pub server : IsEndOf core.server page.ends.server
  pub client : IsEndOf core.client page.ends.client

-- the given bytes begin with the payload of the end's call
abbrev pub HasPayload : Side → List ℕ → Type 0
HasPayload s source = take (length s.payload) source ≡ s.payload
