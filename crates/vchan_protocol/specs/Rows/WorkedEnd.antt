-- A worked row of how a stream ends: a client writes a byte and closes after a server's drain has looked twice. The drain still finds the byte,
-- and the next one tells that all was read. Then the client retires.
use Rattle.std.specs.Prelude.{◌≡◌, false, true, Some, None, [], ◌∷◌}
use Rattle.ring_words.specs.Rings.{number_of}
use Rattle.ring_words.specs.declared.order.Orders.{Orders}
use Rattle.ring_words.specs.declared.page.Role.TheVariants.{Server, Client}
use Rattle.ring_words.specs.declared.page.WordName.TheVariants.{CliLive, CliGone}
use Rattle.vchan_protocol.specs.declared.call.Call.TheVariants.{Write, Drain, Close, Retire}
use Rattle.vchan_protocol.specs.declared.call.EndState.TheVariants.{Open, Shut}
use Rattle.vchan_protocol.specs.declared.side.EndedBy.TheVariants.{AllRead}
use Rattle.vchan_protocol.specs.History.Core.{Core, opened, begun}
use Rattle.vchan_protocol.specs.History.WholeCall.{called}
use Rattle.vchan_protocol.specs.History.Peer.{held}
use Rattle.vchan_protocol.specs.Honest.LifeLaw.{has_seen}
use Rattle.vchan_protocol.specs.Rows.WorkedRow.{events_of}

-- an open page whose server is in a drain that has looked, asked and looked again
abbrev pub looked_twice : Orders → Core
looked_twice orders = events_of Server 3 (begun (opened orders 0 (10, 11) Open) Server (Drain 1) [])

-- then the client writes a byte and closes
abbrev pub closed_since : Orders → Core
closed_since orders = called (called (looked_twice orders) Client (Write 1) (104 ∷ [])) Client Close []

-- then the drain loads the live byte, looks further, and takes the byte
abbrev pub found_more : Orders → Core
found_more orders = events_of Server 5 (closed_since orders)

-- then the server drains again, and the client retires
abbrev pub drained_again : Orders → Core
drained_again orders = called (found_more orders) Server (Drain 1) []

abbrev pub retired_then : Orders → Core
retired_then orders = called (drained_again orders) Client Retire []

-- and again, since a retired end may begin to retire
abbrev pub retired_again : Orders → Core
retired_again orders = called (retired_then orders) Client Retire []

-- what each of these comes to
pub record IsWorkedEnd (orders : Orders) : Type 0 where
  pub left : number_of orders.left ≡ 10
  pub right : number_of orders.right ≡ 11
  -- the drain has seen nothing yet
  pub unseen : has_seen Server (closed_since orders).server.trail ≡ false
  pub closed : held (closed_since orders) CliLive ≡ 0
  pub shut : (closed_since orders).client.state ≡ Shut
  -- it has seen the peer's end, and got the byte all the same
  pub seen : has_seen Server (found_more orders).server.trail ≡ true
  pub saw : (found_more orders).server.saw ≡ true
  pub got : (found_more orders).server.got ≡ 104 ∷ []
  pub idle : (found_more orders).server.call ≡ None
  pub goes_on : (found_more orders).server.drained ≡ false
  -- nothing is left
  pub drained : (drained_again orders).server.drained ≡ true
  pub ended : (drained_again orders).server.ended ≡ Some AllRead
  pub here : held (drained_again orders) CliGone ≡ 0
  -- the client has retired
  pub gone : held (retired_then orders) CliGone ≡ 1
  pub stays : (drained_again orders).client.retired ≡ false
  pub retires : (retired_then orders).client.retired ≡ true
  pub peer_stays : (retired_then orders).server.retired ≡ false
  pub once : held (retired_again orders) CliGone ≡ 1
  pub for_good : (retired_again orders).client.retired ≡ true

abbrev pub EndIsAsWorked : Type 0
EndIsAsWorked = (orders : Orders) × IsWorkedEnd orders
