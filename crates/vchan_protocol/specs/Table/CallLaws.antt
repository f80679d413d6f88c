-- Laws of every call, whatever values its events take.
use Rattle.std.specs.Prelude.{◌≤◌, List, length}
use Rattle.vchan_protocol.specs.declared.op.PastEvent.{PastEvent}
use Rattle.vchan_protocol.specs.declared.call.Call.{Call}
use Rattle.vchan_protocol.specs.Table.Plan.{Plan, Leads, EndsWithin, EachDoes}
use Rattle.vchan_protocol.specs.Table.Ends.{Standing}
use Rattle.vchan_protocol.specs.Table.Calls.{plan_of, most_events, stored_most, loaded_most}
use Rattle.vchan_protocol.specs.Table.Apply.{Fits}
use Rattle.vchan_protocol.specs.History.Core.{count_stored, bytes_loaded}

-- a call ends within its number of events
abbrev pub EachCallEnds : Type 0
EachCallEnds = (e : Standing) (call : Call) → EndsWithin (most_events e call) (plan_of e call)

-- each event of a call is on a word of the page, and each byte that it moves is one of the bytes that the call may move
abbrev pub EachCallFits : Type 0
EachCallFits = (e : Standing) (call : Call) → EachDoes (Fits e.orders (stored_most e call) (loaded_most e call)) (plan_of e call)

-- at no moment has a call moved more bytes than it may
abbrev pub EachCallMovesAtMost : Type 0
EachCallMovesAtMost =
    (e : Standing) (call : Call) (events : List PastEvent) (rest : Plan) → Leads (plan_of e call) events rest →
    (count_stored events ≤ stored_most e call) × (length (bytes_loaded events) ≤ loaded_most e call)
