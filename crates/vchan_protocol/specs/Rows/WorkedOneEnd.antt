-- A worked row of one end by itself: the client's part in its write of three bytes, and the server's in its read of them, follow from their own events alone.
use Rattle.std.specs.Prelude.{◌≡◌, ℕ, None, List, [], ◌∷◌}
use Rattle.ring_words.specs.Rings.{number_of}
use Rattle.ring_words.specs.declared.order.Orders.{Orders}
use Rattle.ring_words.specs.declared.page.Role.TheVariants.{Server, Client}
use Rattle.vchan_protocol.specs.declared.call.Answer.TheVariants.{Wrote, Got}
use Rattle.vchan_protocol.specs.declared.call.Call.TheVariants.{Write, Read}
use Rattle.vchan_protocol.specs.declared.call.EndState.TheVariants.{Open}
use Rattle.vchan_protocol.specs.declared.side.Side.{Side}
use Rattle.vchan_protocol.specs.History.Core.{new_side, begins, side_after, op_next}
use Rattle.vchan_protocol.specs.OneEnd.OneCall.{side_along, side_called, bytes_out, bytes_in, landed}
use Rattle.vchan_protocol.specs.Rows.WorkedRow.{writing_three, reading_five}

-- the two ends of a page whose indices begin at 2 ^ 32 - 1
abbrev pub new_client : Orders → Side
new_client orders = new_side Client orders 4294967295 Open

abbrev pub new_server : Orders → Side
new_server orders = new_side Server orders 4294967295 Open

abbrev pub three : List ℕ
three = 104 ∷ 101 ∷ 108 ∷ []

-- what each of these comes to
pub record IsWorkedOneEnd (orders : Orders) : Type 0 where
  pub left : number_of orders.left ≡ 10
  pub right : number_of orders.right ≡ 11
  -- the client within its write, after its looks and two bytes, and after one more byte, whose store takes 0
  pub writes : side_along (begins (new_client orders) (Write 3) three) (writing_three orders 4).client.trail ≡ (writing_three orders 4).client
  pub goes_on : side_after (writing_three orders 4).client 0 ≡ (writing_three orders 5).client
  -- the whole write, and what the whole read got
  pub wrote : side_called (new_client orders) (Write 3) three (writing_three orders 8).client.trail (Wrote 3) ≡ (writing_three orders 8).client
  pub sent : (writing_three orders 8).client.sent ≡ three
  pub out : bytes_out (Wrote 3) ≡ 3
  pub got : (side_called (new_server orders) (Read 5) [] (reading_five orders 8).server.trail (Got 3)).got ≡ three
  pub into : bytes_in (Got 3) ≡ 3
  pub idle : (reading_five orders 8).server.call ≡ None
  -- the server's last byte lands in its buffer by its low 8 bits
  pub lands : landed (op_next (reading_five orders 5).server) 364 (104 ∷ 101 ∷ 0 ∷ 0 ∷ 0 ∷ []) ≡ 104 ∷ 101 ∷ 108 ∷ 0 ∷ 0 ∷ []

abbrev pub OneEndIsAsWorked : Type 0
OneEndIsAsWorked = (orders : Orders) × IsWorkedOneEnd orders
