-- The laws of a page between two honest ends: each step keeps it lawful.
use Rattle.std.specs.Prelude.{◌≢◌, ℕ, ◌^◌, ◌<◌, List}
use Rattle.ring_words.specs.declared.order.Orders.{Orders}
use Rattle.ring_words.specs.declared.page.Role.{Role}
use Rattle.vchan_protocol.specs.declared.call.Call.{Call}
use Rattle.vchan_protocol.specs.declared.call.EndState.{EndState}
use Rattle.vchan_protocol.specs.declared.call.EndState.TheVariants.{Shut}
use Rattle.vchan_protocol.specs.Table.Plan.{GoesOn}
use Rattle.vchan_protocol.specs.History.Core.{Core, opened, side_of, begun, event, plan_left}
use Rattle.vchan_protocol.specs.History.WholeCall.{called}
use Rattle.vchan_protocol.specs.Honest.Lawful.{Lawful, Honest}
use Rattle.vchan_protocol.specs.Honest.Reached.{IsReached, MayBegin}

-- a page is lawful when it is opened
abbrev pub OpeningIsLawful : Type 0
OpeningIsLawful =
    (orders : Orders) (start : ℕ) (said : ℕ × ℕ) (state : EndState) → start < 2 ^ 32 → said.0 < 2 ^ 16 → said.1 < 2 ^ 16 → state ≢ Shut →
    Lawful (opened orders start said state)

-- an end that is between two calls begins one that it may begin
abbrev pub BeginIsLawful : Type 0
BeginIsLawful =
    (core : Core) (who : Role) (call : Call) (payload : List ℕ) → Lawful core → Honest core → MayBegin who (side_of core who) call payload → Lawful (begun core who call payload)

-- the next event of either end leads from a lawful core state to one that is lawful
abbrev pub EventIsLawful : Type 0
EventIsLawful = (core : Core) (who : Role) → Lawful core → Honest core → GoesOn (plan_left (side_of core who)) → Lawful (event core who)

-- so does a whole call of either end, while the other makes no event
abbrev pub CallIsLawful : Type 0
CallIsLawful =
    (core : Core) (who : Role) (call : Call) (payload : List ℕ) → Lawful core → Honest core → MayBegin who (side_of core who) call payload → Lawful (called core who call payload)

-- whatever two honest ends do, in any order of their events, the page stays lawful
abbrev pub ReachedIsLawful : Type 0
ReachedIsLawful = (core : Core) → IsReached core → Lawful core

-- a whole call is one way to go on
abbrev pub CallIsReached : Type 0
CallIsReached =
    (core : Core) (who : Role) (call : Call) (payload : List ℕ) → IsReached core → MayBegin who (side_of core who) call payload → IsReached (called core who call payload)
