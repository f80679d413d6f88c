-- Events of an end inside its call, whatever call that is.
use Rattle.std.specs.Prelude.{◌≡◌, ℕ, ◌≤◌, Option, Some, None, IsSome, List, length, take}
use Rattle.vchan_protocol.specs.declared.call.Answer.{Answer}
use Rattle.vchan_protocol.specs.declared.call.Call.{Call}
use Rattle.vchan_protocol.specs.declared.side.Side.{Side}
use Rattle.vchan_protocol.specs.Table.Calls.{payload_of, loaded_most}
use Rattle.vchan_protocol.specs.History.Core.{standing_of}
use Rattle.vchan_protocol.specs.OneEnd.OneCall.{OnWay, IsOver, IsThen}
use Rattle.vchan_core.specs.OneMachine.Phases.{IsIdle, payload_needed, buffer_needed}
use Rattle.vchan_rule.specs.Seated.{SeatedEnd}
use Rattle.vchan_rule.specs.Ends.{Agrees, Pays, IsSameEnd, seen}

-- the end is inside a call, with the bytes and the room that the rest of it needs
pub record IsReady (e : SeatedEnd) (payload buffer : List ℕ) : Type 0 where
  pub agrees : Agrees e.start e.begun e.machine e.side
  pub busy : ¬ IsIdle e.machine
  pub out : payload_needed e.machine ≤ length payload
  pub into : buffer_needed e.machine ≤ length buffer
  pub pays : Pays e.begun e.side payload

-- Some events of an end: whatever call it was on the way of, it still is if they gave no answer, and that call is over if they gave one.
pub record Goes (e : SeatedEnd) (payload buffer : List ℕ) (result : Option Answer) (e' : SeatedEnd) (buffer' : List ℕ) : Type 0 where
  pub same : IsSameEnd e e'
  pub agrees : Agrees e'.start e'.begun e'.machine e'.side
  pub long : length buffer' ≡ length buffer
  pub way : (was : Side) (call : Call) (given start : List ℕ) → loaded_most (standing_of was) call ≤ length start → OnWay was call given start (seen e payload) buffer → IsThen was call given start (seen e' payload) buffer' result
  pub ready : result ≡ None → IsReady e' payload buffer'
  pub over : IsSome result → IsIdle e'.machine × (e'.begun ≡ None)

-- An end that was as `was` when it began this call, with these bytes and this buffer, is on its way.
pub record InCalls (was : SeatedEnd) (call : Call) (payload start : List ℕ) (e : SeatedEnd) (buffer : List ℕ) : Type 0 where
  pub same : IsSameEnd was e
  pub busy : ¬ IsIdle e.machine
  pub out : payload_needed e.machine ≤ length payload
  pub into : buffer_needed e.machine ≤ length buffer
  pub long : length buffer ≡ length start
  pub enough : loaded_most (standing_of was.side) call ≤ length start
  pub pays : Pays e.begun e.side payload
  pub way : OnWay was.side call (take (payload_of call) payload) start (seen e payload) buffer

-- The call was begun, with some events made: it is on its way, or over with this answer.
pub record Starts (was : SeatedEnd) (call : Call) (payload start : List ℕ) (result : Option Answer) (e : SeatedEnd) (buffer : List ℕ) : Type 0 where
  pub same : IsSameEnd was e
  pub long : length buffer ≡ length start
  pub on : result ≡ None → InCalls was call payload start e buffer
  pub over : (answer : Answer) → result ≡ Some answer → IsOver was.side call (take (payload_of call) payload) start e.side buffer answer × IsIdle e.machine × (e.begun ≡ None)
