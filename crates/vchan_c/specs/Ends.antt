-- An end that a C caller holds as 32 bytes of numbers, and what its three calls do.
use Rattle.std.specs.Prelude.{◌≡◌, ◌≢◌, ◌≤◌, ◌==◌, if◌then◌else◌, ℕ, Bool, true, false, Option, Some, None}
use Rattle.ring_words.specs.declared.page.Role.{Role}
use Rattle.ring_words.specs.declared.page.Role.TheVariants.{Server, Client}
use Rattle.ring_words.specs.Choice.{AreBadOrders}
use Rattle.ring_words.specs.Rings.{number_of}
use Rattle.vchan_protocol.specs.declared.call.Call.{Call}
use Rattle.vchan_protocol.specs.declared.call.Call.TheVariants.{Write, Send, Read, Recv, Drain, DataReady, BufferSpace, Connect, Close, TakeEvent}
use Rattle.vchan_protocol.specs.Table.Plan.{Plan}
use Rattle.vchan_protocol.specs.Table.Ends.{Standing, peer_live}
use Rattle.vchan_protocol.specs.Table.Calls.{plan_of, payload_of, loaded_most}
use Rattle.vchan_core.specs.declared.machine.Machine.{Machine}
use Rattle.vchan_core.specs.declared.kept.Kept.{Kept}
use Rattle.vchan_core.specs.declared.phase.Refusal.{Refusal}
use Rattle.vchan_core.specs.declared.phase.Refusal.TheVariants.{Busy, Shut, Unconnected, Connected, NoBytes}
use Rattle.vchan_core.specs.OneMachine.Phases.{standing, IsIdle, Allows, payload_needed, buffer_needed}
use Rattle.vchan_core.specs.OneMachine.Refusals.{refusal_of}
use Rattle.vchan_core.specs.OneMachine.Keeping.{kept_of, IsShort, role_number, state_number}
use Rattle.vchan_c.specs.declared.stretch.Stretch.{Stretch}
use Rattle.vchan_c.specs.declared.step.Step.{Step}
use Rattle.vchan_c.specs.Stretches.{IsStretch, MovesWithin, plan_behind}
use Rattle.vchan_c.specs.Steps.{offset_of, step_of}

-- the call that a number and a length name
abbrev pub call_told : ℕ → ℕ → Option Call
call_told number len =
    if number == 1 then Some (Write len) else (
    if number == 2 then Some (Send len) else (
    if number == 3 then Some (Read len) else (
    if number == 4 then Some (Recv len) else (
    if number == 5 then Some (Drain len) else (
    if number == 6 then Some DataReady else (
    if number == 7 then Some BufferSpace else (
    if number == 8 then Some Connect else (
    if number == 9 then Some Close else (
    if number == 10 then Some TakeEvent else (
    None))))))))))

abbrev pub number_of_refusal : Refusal → ℕ
number_of_refusal Busy = 1
number_of_refusal Shut = 2
number_of_refusal Unconnected = 3
number_of_refusal Connected = 4
number_of_refusal NoBytes = 5

abbrev pub number_of_refused : Option Refusal → ℕ
number_of_refused None = 0
number_of_refused (Some refusal) = number_of_refusal refusal

-- what an end answers to the begin of a call
abbrev pub answer_to_call : Machine → Option Call → ℕ
answer_to_call m None = 6
answer_to_call m (Some call) = number_of_refused (refusal_of m call)

abbrev pub answer_to : Machine → ℕ → ℕ → ℕ
answer_to m number len = answer_to_call m (call_told number len)

-- where the byte lies that tells an end whether its peer is there
abbrev pub live_offset_of : Role → ℕ
live_offset_of role = offset_of (peer_live role)

-- What that byte tells: 0 a peer that has closed, 1 one that is there, 2 a client that may still come. A server that
-- persists always has a peer. Source: libxenvchan_is_open in Xen's tools/libs/vchan/io.c.
abbrev pub open_number : Role → Bool → ℕ → ℕ
open_number Server true live = 1
open_number Server false live = if live == 0 then 0 else (if live == 2 then 2 else 1)
open_number Client persists live = if live == 0 then 0 else 1

-- the numbers are those of an end: a role, a state that it may be in, and two orders that a page may have
pub record AreEndNumbers (role state left right : ℕ) : Type 0 where
  pub role_is : role ≤ 1
  pub state_is : state ≤ 2
  pub joined : role ≡ 0 → state ≢ 0
  pub orders : ¬ AreBadOrders left right

pub record IsStanding (role state left right prod cons : ℕ) (e : Standing) : Type 0 where
  pub role_is : role_number e.role ≡ role
  pub state_is : state_number e.state ≡ state
  pub left_is : number_of e.orders.left ≡ left
  pub right_is : number_of e.orders.right ≡ right
  pub prod_is : e.prod ≡ prod
  pub cons_is : e.cons ≡ cons

-- these are the bytes of a machine, and of no other one
pub record IsKept (kept : Kept) (m : Machine) : Type 0 where
  pub same : kept_of m ≡ kept
  pub alone : (other : Machine) → IsShort other → kept_of other ≡ kept → other ≡ m

-- these are the bytes of no machine
abbrev pub IsNoEnd : Kept → Type 0
IsNoEnd kept = (m : Machine) → kept_of m ≢ kept

-- an end that was made from these numbers is between two calls
pub record Made (role state left right prod cons : ℕ) (new : Kept) : Type 0 where
  pub machine : Machine
  pub kept : IsKept new machine
  pub short : IsShort machine
  pub idle : IsIdle machine
  pub standing : IsStanding role state left right prod cons (standing machine)

-- The step tells what an end with this standing does next of the plan; the bytes are those of the machine that it leaves.
-- What it still needs of the caller's payload and buffer is never more than before, and its bytes lie within that.
pub record Tells (plan : Plan) (e : Standing) (payload buffer : ℕ) (new : Kept) (step : Step) : Type 0 where
  pub now : Machine
  pub stretch : Stretch
  pub kept : IsKept new now
  pub short : IsShort now
  pub step_is : step ≡ step_of stretch
  pub does : IsStretch plan e stretch now
  pub payload_left : payload_needed now ≤ payload
  pub buffer_left : buffer_needed now ≤ buffer
  pub within : MovesWithin e payload buffer stretch.moves

-- the end may begin the call, and tells the first step of it
pub record Begins (old : Kept) (number len : ℕ) (new : Kept) (step : Step) : Type 0 where
  pub machine : Machine
  pub call : Call
  pub kept : IsKept old machine
  pub names : call_told number len ≡ Some call
  pub allows : Allows machine call
  pub tells : Tells (plan_of (standing machine) call) (standing machine) (payload_of call) (loaded_most (standing machine) call) new step

-- the end goes on after what it awaited, and after the look that came with that
pub record Goes (old : Kept) (value look : ℕ) (new : Kept) (step : Step) : Type 0 where
  pub machine : Machine
  pub kept : IsKept old machine
  pub busy : ¬ IsIdle machine
  pub tells : Tells (plan_behind machine value look) (standing machine) (payload_needed machine) (buffer_needed machine) new step
