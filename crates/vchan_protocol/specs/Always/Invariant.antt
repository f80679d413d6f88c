-- What holds of a page at each moment, whether its ends are honest or were turned, and what stands when it ends.
-- The statements are this project's own.
use Rattle.std.specs.Prelude.{◌≡◌, ◌≢◌, ℕ, ◌^◌, ◌<◌, true, false, IsSome, List, if◌then◌else◌}
use Rattle.list_laws.specs.Lists.{IsPrefixOf}
use Rattle.ring_words.specs.Rings.{size}
use Rattle.ring_words.specs.declared.order.Orders.{Orders}
use Rattle.ring_words.specs.declared.page.Role.{Role}
use Rattle.vchan_protocol.specs.declared.op.Op.{Op}
use Rattle.vchan_protocol.specs.declared.call.Call.{Call}
use Rattle.vchan_protocol.specs.declared.call.EndState.{EndState}
use Rattle.vchan_protocol.specs.declared.call.EndState.TheVariants.{Shut}
use Rattle.vchan_protocol.specs.declared.side.Side.{Side}
use Rattle.vchan_protocol.specs.Table.Plan.{GoesOn}
use Rattle.vchan_protocol.specs.Table.Ends.{own_gone}
use Rattle.vchan_protocol.specs.History.Core.{Core, opened, begun, event, side_of, plan_left, op_next, sets_gone, retired_after}
use Rattle.vchan_protocol.specs.History.WholeCall.{called}
use Rattle.vchan_protocol.specs.Hostile.Turned.{strayed}
use Rattle.vchan_protocol.specs.Honest.LifeLaw.{SaysOrders, TellsGone}
use Rattle.vchan_protocol.specs.Honest.Lawful.{Lawful, Honest}
use Rattle.vchan_protocol.specs.History.Peer.{held}
use Rattle.vchan_protocol.specs.Honest.Reached.{MayBegin}
use Rattle.vchan_protocol.specs.Signals.SignalLaw.{NoLostSignal}
use Rattle.vchan_protocol.specs.Hostile.TurnedLaw.{TurnedLawful, ConsumedLawful, turned_core}

-- what holds of a page at each moment: while both ends are honest, it is lawful and no signal is lost
pub record Invariant (core : Core) : Type 0 where
  pub lawful : Honest core → Lawful core
  pub signals : Honest core → NoLostSignal core
  pub turned : TurnedLawful core

-- ---- all that may happen

-- A page is opened. Then, in any order, honest ends begin calls and make the events of these, ends are turned, and hostile users make any events.
pub data MayCome : Core → Type 0 where
  opens : (orders : Orders) (start : ℕ) (said : ℕ × ℕ) (state : EndState) → start < 2 ^ 32 → said.0 < 2 ^ 16 → said.1 < 2 ^ 16 → state ≢ Shut → MayCome (opened orders start said state)
  begins_call : (core : Core) (who : Role) (call : Call) (payload : List ℕ) → MayCome core → (side_of core who).turned ≡ false → MayBegin who (side_of core who) call payload → MayCome (begun core who call payload)
  makes_event : (core : Core) (who : Role) → MayCome core → (side_of core who).turned ≡ false → GoesOn (plan_left (side_of core who)) → MayCome (event core who)
  is_turned : (core : Core) (who : Role) → MayCome core → MayCome (turned_core core who)
  strays : (core : Core) (who : Role) (op : Op) → MayCome core → MayCome (strayed core who op)

-- ---- the laws of each step

abbrev pub OpeningHasInvariant : Type 0
OpeningHasInvariant =
    (orders : Orders) (start : ℕ) (said : ℕ × ℕ) (state : EndState) → start < 2 ^ 32 → said.0 < 2 ^ 16 → said.1 < 2 ^ 16 → state ≢ Shut →
    Invariant (opened orders start said state)

abbrev pub BeginKeepsInvariant : Type 0
BeginKeepsInvariant =
    (core : Core) (who : Role) (call : Call) (payload : List ℕ) → Invariant core → (side_of core who).turned ≡ false → MayBegin who (side_of core who) call payload →
    Invariant (begun core who call payload)

abbrev pub EventKeepsInvariant : Type 0
EventKeepsInvariant = (core : Core) (who : Role) → Invariant core → (side_of core who).turned ≡ false → GoesOn (plan_left (side_of core who)) → Invariant (event core who)

-- a whole call of an honest end, while the other end makes no event
abbrev pub CallKeepsInvariant : Type 0
CallKeepsInvariant =
    (core : Core) (who : Role) (call : Call) (payload : List ℕ) → Invariant core → (side_of core who).turned ≡ false → MayBegin who (side_of core who) call payload →
    Invariant (called core who call payload)

-- an end is turned
abbrev pub TurnKeepsInvariant : Type 0
TurnKeepsInvariant = (core : Core) (who : Role) → Invariant core → Invariant (turned_core core who)

-- a hostile user makes any event
abbrev pub StrayKeepsInvariant : Type 0
StrayKeepsInvariant = (core : Core) (who : Role) (op : Op) → Invariant core → Invariant (strayed core who op)

-- between honest ends a gone word is 1 after the event that stores to it, and every other event leaves it as it is
abbrev pub GoneIsSetOnce : Type 0
GoneIsSetOnce =
    (core : Core) (who whose : Role) → Invariant core → Honest core → GoesOn (plan_left (side_of core who)) →
    held (event core who) (own_gone whose) ≡ (if sets_gone (op_next (side_of core who)) whose then 1 else held core (own_gone whose))

-- between honest ends a gone word is 1 if and only if its end is retired, and otherwise 0; a retired end is shut
abbrev pub GoneTellsRetired : Type 0
GoneTellsRetired = (core : Core) (who : Role) → Invariant core → Honest core → TellsGone (held core (own_gone who)) (side_of core who).retired (side_of core who).state

-- an end is retired by its own store to its gone word, and by nothing else that may happen: a begin of a call, a turning and a hostile user's events
-- don't change whether it is retired
pub record RetiredIsSetOnce (core : Core) (who : Role) : Type 0 where
  pub event : (side_of (event core who) who).retired ≡ retired_after (op_next (side_of core who)) (side_of core who)
  pub begin : (call : Call) (payload : List ℕ) → (side_of (begun core who call payload) who).retired ≡ (side_of core who).retired
  pub turn : (side_of (turned_core core who) who).retired ≡ (side_of core who).retired
  pub stray : (op : Op) → (side_of (strayed core who op) who).retired ≡ (side_of core who).retired

abbrev pub EachRetiresOnce : Type 0
EachRetiresOnce = (core : Core) (who : Role) → RetiredIsSetOnce core who

-- so it holds whatever happens
abbrev pub EachHasInvariant : Type 0
EachHasInvariant = (core : Core) → MayCome core → Invariant core

-- ---- the end of a page

-- what holds of a ring. Between two honest ends what was got begins what was sent; if the ring is drained, all is got and its writer is shut,
-- and it is drained if its reader has ended. If the writer was turned, its honest reader keeps what it had then.
pub record StreamSettled (size : ℕ) (writer reader : Side) : Type 0 where
  pub prefix : writer.turned ≡ false → reader.turned ≡ false → IsPrefixOf reader.got writer.sent
  pub all : writer.turned ≡ false → reader.turned ≡ false → reader.drained ≡ true → reader.got ≡ writer.sent
  pub shut : writer.turned ≡ false → reader.turned ≡ false → reader.drained ≡ true → writer.state ≡ Shut
  pub ended : writer.turned ≡ false → reader.turned ≡ false → IsSome reader.ended → reader.drained ≡ true
  pub consumed : writer.turned ≡ true → reader.turned ≡ false → ConsumedLawful size writer reader

-- what holds of a page: what holds of its rings; and if both ends are honest, not each saw the other shut, and none was misled if the order words
-- of the start were the page's orders
pub record PageSettled (orders : Orders) (said : ℕ × ℕ) (server client : Side) : Type 0 where
  pub left : StreamSettled (size orders.left) client server
  pub right : StreamSettled (size orders.right) server client
  pub not_both_saw : server.turned ≡ false → client.turned ≡ false → ¬ ((server.saw ≡ true) × (client.saw ≡ true))
  pub none_misled : server.turned ≡ false → client.turned ≡ false → SaysOrders said orders → (server.misled ≡ false) × (client.misled ≡ false)

-- it holds at each moment, and so at the end of a page, when both ends are retired
abbrev pub InvariantSettles : Type 0
InvariantSettles = (core : Core) → Invariant core → PageSettled core.orders core.said core.server core.client
