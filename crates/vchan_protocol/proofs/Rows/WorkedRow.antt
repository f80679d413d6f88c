-- The worked row, by computing.
use Rattle.std.proofs.Common.{refl, arith}
use Rattle.ring_words.specs.Rings.{size, place, room, ready, diff}
use Rattle.ring_words.specs.declared.order.Orders.{Orders}
use Rattle.vchan_protocol.specs.History.Core.{event}
use Rattle.vchan_protocol.specs.Table.Calls.{write, write_open, write_looked, read, read_looked}
use Rattle.vchan_protocol.specs.Rows.WorkedRow.{writing_three, reading_five, IsHalfWritten, IsWritten, IsHalfRead, IsRead, RowIsAsWorked}

-- rings of 1,024 and of 2,048 bytes
unfoldable pub small : Orders
small = record { left = record { number = 10; in_range = (omega arith, omega arith) }; right = record { number = 11; in_range = (omega arith, omega arith) }; distinct = λ e. absurd (omega (arith, e)) }

half_written : IsHalfWritten (writing_three small 4)
unfolding event size place room ready diff write write_open write_looked small
half_written = record {
  did = refl;
  puts = record { begun = _; is = refl; then_does = _; rest_is = refl };
  stored = refl;
  last_place = refl;
  first_place = refl;
  index = refl;
  sent = refl;
}

written : IsWritten (writing_three small 8)
unfolding event size place room ready diff write write_open write_looked small
written = record { idle = refl; index = refl; own = refl; sent = refl; unshown = refl }

half_read : IsHalfRead (reading_five small 5)
unfolding event size place room ready diff write write_open write_looked read read_looked small
half_read = record { did = refl; takes = record { begun = _; is = refl; then_does = _; rest_is = refl }; got = refl }

all_read : IsRead (reading_five small 8)
unfolding event size place room ready diff write write_open write_looked read read_looked small
all_read = record { idle = refl; index = refl; got = refl; released = refl; before = refl }

pub worked_row : RowIsAsWorked
unfolding small
worked_row = (small, record { left = refl; right = refl; half_written = half_written; written = written; half_read = half_read; read = all_read })
