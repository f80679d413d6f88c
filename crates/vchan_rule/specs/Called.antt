-- A whole call of an end: when it may be made, and what it leaves.
use Rattle.std.specs.Prelude.{◌≡◌, ◌≤◌, ◌||◌, ℕ, None, List, length, take, min}
use Rattle.vchan_protocol.specs.declared.call.Answer.{Answer}
use Rattle.vchan_protocol.specs.declared.call.Call.{Call}
use Rattle.vchan_protocol.specs.Table.Ends.{write_size, read_size}
use Rattle.vchan_protocol.specs.Table.Calls.{payload_of, loaded_most}
use Rattle.vchan_protocol.specs.History.Core.{standing_of, count_stored, bytes_loaded}
use Rattle.vchan_protocol.specs.OneEnd.OneCall.{bytes_out, bytes_in, IsOver, MadeOneCall, OverTells}
use Rattle.vchan_protocol.specs.OneEnd.EndingLaw.{has_noticed}
use Rattle.vchan_core.specs.OneMachine.Phases.{IsIdle}
use Rattle.end_view.specs.AfterCall.{MayCall, answered_view, SeesAsTold}
use Rattle.vchan_rule.specs.Seated.{SeatedEnd, view}
use Rattle.vchan_rule.specs.Ends.{IsSameEnd}

-- the end may make this call now, with these bytes and a buffer that has room for all that it may load
pub record MayMake (e : SeatedEnd) (call : Call) (payload buffer : List ℕ) : Type 0 where
  pub allowed : MayCall (view e) call
  pub pays : payload_of call ≤ length payload
  pub room : loaded_most (standing_of e.side) call ≤ length buffer

-- A whole call of the end `was`, with these bytes and this buffer, gave this answer, and left this end and this buffer. The end made no other call. Its events are the end's trail,
-- and the lists grow as its answer tells. It stores and loads at most as many ring bytes as the ring holds, leaves the
-- buffer as it was if it got none, and the end has seen its peer's end if it had before,
-- or if an event of this call showed it.
pub record HasCalled (was : SeatedEnd) (call : Call) (payload start : List ℕ) (e : SeatedEnd) (buffer : List ℕ) (answer : Answer) : Type 0 where
  pub same : IsSameEnd was e
  pub idle : IsIdle e.machine × (e.begun ≡ None)
  pub over : IsOver was.side call (take (payload_of call) payload) start e.side buffer answer
  pub once : MadeOneCall was.side call e.side answer
  pub tells : OverTells was.side (take (payload_of call) payload) e.side buffer answer
  pub view : view e ≡ answered_view (view was) call (take (payload_of call) payload) buffer answer e.side.saw
  pub saw : SeesAsTold call answer was.side.saw e.side.saw
  pub noticed : e.side.saw ≡ (was.side.saw || has_noticed (standing_of was.side) e.side.trail)
  pub moved : (bytes_out answer ≤ payload_of call) × (bytes_in answer ≤ loaded_most (standing_of was.side) call)
  pub stored : count_stored e.side.trail ≤ write_size (standing_of was.side)
  pub loaded : length (bytes_loaded e.side.trail) ≤ read_size (standing_of was.side)
  pub kept : bytes_in answer ≡ 0 → buffer ≡ start
  pub long : length buffer ≡ length start

-- what one call asks for at most: as many bytes as are given, within 32 bits
abbrev pub most_asked : List ℕ → ℕ
most_asked bytes = min (length bytes) 4294967295
