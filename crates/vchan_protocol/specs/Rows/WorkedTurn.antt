-- A worked row of an end that is turned: a client writes three bytes, the server reads two, and the client is turned. Its hostile user stores another producer index,
-- and the server reads on.
use Rattle.std.specs.Prelude.{◌≡◌, true, false, [], ◌∷◌}
use Rattle.ring_words.specs.Rings.{size, number_of}
use Rattle.ring_words.specs.declared.order.Orders.{Orders}
use Rattle.ring_words.specs.declared.page.Role.TheVariants.{Server, Client}
use Rattle.ring_words.specs.declared.page.WordName.TheVariants.{LeftProd, LeftCons}
use Rattle.vchan_protocol.specs.declared.call.Answer.TheVariants.{Got}
use Rattle.vchan_protocol.specs.declared.call.Call.TheVariants.{Write, Read}
use Rattle.vchan_protocol.specs.declared.call.EndState.TheVariants.{Open}
use Rattle.vchan_protocol.specs.History.Core.{Core, opened}
use Rattle.vchan_protocol.specs.History.WholeCall.{called, call_answer}
use Rattle.vchan_protocol.specs.History.Peer.{held}
use Rattle.vchan_protocol.specs.Hostile.Turned.{poked}
use Rattle.vchan_protocol.specs.Hostile.TurnedLaw.{turned_core, ConsumedLawful}

-- three bytes are sent, and two got
abbrev pub two_of_three : Orders → Core
two_of_three orders = called (called (opened orders 0 (10, 11) Open) Client (Write 3) (104 ∷ 101 ∷ 108 ∷ [])) Server (Read 2) []

abbrev pub client_turned : Orders → Core
client_turned orders = turned_core (two_of_three orders) Client

-- the hostile user shows five bytes, of which two were never sent, and overwrites the server's own index
abbrev pub overwritten : Orders → Core
overwritten orders = poked (poked (client_turned orders) Client LeftProd 5) Client LeftCons 77

abbrev pub read_on : Orders → Core
read_on orders = called (overwritten orders) Server (Read 8) []

-- what each of these comes to
pub record IsWorkedTurn (orders : Orders) : Type 0 where
  pub left : number_of orders.left ≡ 10
  pub right : number_of orders.right ≡ 11
  pub sent : (two_of_three orders).client.sent ≡ 104 ∷ 101 ∷ 108 ∷ []
  pub got : (two_of_three orders).server.got ≡ 104 ∷ 101 ∷ []
  -- the turned end's lists stay as they are, and `consumed` is how much its reader had got
  pub turned : (client_turned orders).client.turned ≡ true
  pub consumed : (client_turned orders).client.consumed ≡ 2
  pub stands : (client_turned orders).client.sent ≡ 104 ∷ 101 ∷ 108 ∷ []
  pub honest : (client_turned orders).server.turned ≡ false
  -- the server reads on from its own count
  pub index : held (overwritten orders) LeftCons ≡ 77
  pub answer : call_answer (overwritten orders) Server (Read 8) [] ≡ Got 3
  pub own : (read_on orders).server.cons ≡ 5
  pub restored : held (read_on orders) LeftCons ≡ 5
  pub all_got : (read_on orders).server.got ≡ 104 ∷ 101 ∷ 108 ∷ 0 ∷ 0 ∷ []
  -- what it had got when the client was turned is the beginning of what was sent
  pub stays : (read_on orders).client.consumed ≡ 2
  pub begins : ConsumedLawful (size (read_on orders).orders.left) (read_on orders).client (read_on orders).server

abbrev pub TurnIsAsWorked : Type 0
TurnIsAsWorked = (orders : Orders) × IsWorkedTurn orders
