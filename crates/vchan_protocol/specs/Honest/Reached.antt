-- The core states that two honest ends reach.
use Rattle.std.specs.Prelude.{◌≡◌, ◌≢◌, ℕ, ◌^◌, ◌<◌, None, List, length}
use Rattle.std.specs.List.{All}
use Rattle.ring_words.specs.declared.order.Orders.{Orders}
use Rattle.ring_words.specs.declared.page.Role.{Role}
use Rattle.vchan_protocol.specs.declared.call.Call.{Call}
use Rattle.vchan_protocol.specs.declared.call.EndState.{EndState}
use Rattle.vchan_protocol.specs.declared.call.EndState.TheVariants.{Shut}
use Rattle.vchan_protocol.specs.declared.side.Side.{Side}
use Rattle.vchan_protocol.specs.Table.Plan.{GoesOn}
use Rattle.vchan_protocol.specs.Table.Calls.{payload_of, IsAllowed}
use Rattle.vchan_protocol.specs.History.Core.{Core, side_of, plan_left, opened, begun, event}

-- an end between two calls begins one that its state allows, with a payload of the call's length
pub record MayBegin (who : Role) (s : Side) (call : Call) (payload : List ℕ) : Type 0 where
  pub idle : s.call ≡ None
  pub allowed : IsAllowed who s.state call
  pub pays : length payload ≡ payload_of call
  pub bytes : All (λ byte. byte < 256) payload

-- A page is opened, and then the ends begin calls and make the events of these, in any order of the two.
pub data IsReached : Core → Type 0 where
  opens : (orders : Orders) (start : ℕ) (said : ℕ × ℕ) (state : EndState) → start < 2 ^ 32 → said.0 < 2 ^ 16 → said.1 < 2 ^ 16 → state ≢ Shut → IsReached (opened orders start said state)
  begins_call : (core : Core) (who : Role) (call : Call) (payload : List ℕ) → IsReached core → MayBegin who (side_of core who) call payload → IsReached (begun core who call payload)
  makes_event : (core : Core) (who : Role) → IsReached core → GoesOn (plan_left (side_of core who)) → IsReached (event core who)
