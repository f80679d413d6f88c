-- A worked row of what calls load and move, on the events of the other rows: a write, a read that asks between two looks, and two drains around a close.
-- Then a drain and a write beside a hostile peer.
use Rattle.std.specs.Prelude.{◌≡◌, true, Some, [], ◌∷◌}
use Rattle.ring_words.specs.Rings.{number_of}
use Rattle.ring_words.specs.declared.order.Orders.{Orders}
use Rattle.ring_words.specs.declared.page.Role.TheVariants.{Server, Client}
use Rattle.ring_words.specs.declared.page.WordName.TheVariants.{LeftProd, LeftCons, CliLive}
use Rattle.vchan_protocol.specs.declared.op.Op.TheVariants.{Store}
use Rattle.vchan_protocol.specs.declared.call.Answer.TheVariants.{Full, NotYet}
use Rattle.vchan_protocol.specs.declared.call.Call.TheVariants.{Write, Drain}
use Rattle.vchan_protocol.specs.declared.call.EndState.TheVariants.{Open}
use Rattle.vchan_protocol.specs.History.Core.{Core, opened, standing_of}
use Rattle.vchan_protocol.specs.History.WholeCall.{called, call_answer}
use Rattle.vchan_protocol.specs.Hostile.Turned.{poked}
use Rattle.vchan_protocol.specs.Answering.Loads.{nothing_loaded, loads_of}
use Rattle.vchan_protocol.specs.Answering.AnswerLaw.{transfer_of, no_transfer}
use Rattle.vchan_protocol.specs.Rows.WorkedRow.{writing_three, reading_five}
use Rattle.vchan_protocol.specs.Rows.WorkedEnd.{looked_twice, found_more, drained_again}

-- a hostile client shows an index that lies further ahead than its ring is large, and shows itself closed
abbrev pub far_ahead : Orders → Core
far_ahead orders = poked (poked (opened orders 0 (10, 11) Open) Client LeftProd 5000) Client CliLive 0

-- a hostile server releases the places of bytes that were never written
abbrev pub never_written : Orders → Core
never_written orders = poked (opened orders 0 (10, 11) Open) Server LeftCons 5

-- what each call has loaded and moved, and how its end stood before it
pub record IsWorkedAnswer (orders : Orders) : Type 0 where
  pub left : number_of orders.left ≡ 10
  pub right : number_of orders.right ≡ 11
  -- a write of three bytes, at the own count 2 ^ 32 - 1: it finds its peer alive and the ring empty
  pub write_loads : loads_of (standing_of (writing_three orders 0).client) (writing_three orders 8).client.trail
      ≡ record nothing_loaded { live = Some 1; pairs = record { prod = 4294967295; cons = 4294967295 } ∷ []; next_pair = Some (record { prod = 4294967295; cons = 4294967295 }) }
  pub write_moves : transfer_of (writing_three orders 8).client.trail ≡ record { stored = 3; loaded = 0; others = Store LeftProd 2 ∷ [] }
  -- a read of at most five: two looks find three, and no live byte is loaded
  pub read_loads : loads_of (standing_of (reading_five orders 0).server) (reading_five orders 8).server.trail
      ≡ record nothing_loaded { pairs = record { prod = 2; cons = 4294967295 } ∷ record { prod = 2; cons = 4294967295 } ∷ [] }
  pub read_moves : transfer_of (reading_five orders 8).server.trail ≡ record { stored = 0; loaded = 3; others = Store LeftCons 2 ∷ [] }
  -- a drain whose peer wrote and closed after its first two looks: the next pair shows the byte
  pub found_loads : loads_of (standing_of (looked_twice orders).server) (found_more orders).server.trail
      ≡ record nothing_loaded {
        pairs = record { prod = 1; cons = 0 } ∷ record { prod = 0; cons = 0 } ∷ record { prod = 0; cons = 0 } ∷ [];
        next_pair = Some (record { prod = 1; cons = 0 });
        live = Some 0;
      }
  pub found_moves : transfer_of (found_more orders).server.trail ≡ record { stored = 0; loaded = 1; others = Store LeftCons 1 ∷ [] }
  -- a drain after it: the next pair is equal, and all was read
  pub drained_loads : loads_of (standing_of (found_more orders).server) (drained_again orders).server.trail
      ≡ record nothing_loaded {
        pairs = record { prod = 1; cons = 1 } ∷ record { prod = 1; cons = 1 } ∷ record { prod = 1; cons = 1 } ∷ [];
        next_pair = Some (record { prod = 1; cons = 1 });
        live = Some 0;
      }
  pub drained_moves : transfer_of (drained_again orders).server.trail ≡ no_transfer
  -- a drain that finds nothing, while the indices of the next pair differ: not all was read
  pub far_answer : call_answer (far_ahead orders) Server (Drain 1) [] ≡ NotYet 5000 0
  pub far_loads : loads_of (standing_of (far_ahead orders).server) (called (far_ahead orders) Server (Drain 1) []).server.trail
      ≡ record nothing_loaded {
        pairs = record { prod = 5000; cons = 0 } ∷ record { prod = 5000; cons = 0 } ∷ record { prod = 5000; cons = 0 } ∷ [];
        next_pair = Some (record { prod = 5000; cons = 0 });
        live = Some 0;
        gone = Some 0;
      }
  pub far_saw : (called (far_ahead orders) Server (Drain 1) []).server.saw ≡ true
  -- a write that finds no room in an empty ring
  pub full_answer : call_answer (never_written orders) Client (Write 1) (104 ∷ []) ≡ Full 0 5
  pub full_moves : transfer_of (called (never_written orders) Client (Write 1) (104 ∷ [])).client.trail ≡ no_transfer

abbrev pub AnswerIsAsWorked : Type 0
AnswerIsAsWorked = (orders : Orders) × IsWorkedAnswer orders
