-- The worked row of one end by itself, by computing.
use Rattle.std.proofs.Common.{refl}
use Rattle.ring_words.specs.Rings.{size, place, room, ready, diff}
use Rattle.vchan_protocol.specs.History.Core.{event}
use Rattle.vchan_protocol.specs.Table.Calls.{write, write_open, write_looked, read, read_looked}
use Rattle.vchan_protocol.specs.Rows.WorkedOneEnd.{OneEndIsAsWorked}
use Rattle.vchan_protocol.proofs.Rows.WorkedRow.{small}

pub worked_one_end : OneEndIsAsWorked
unfolding event size place room ready diff write write_open write_looked read read_looked small
worked_one_end = (
  small,
  record {
    left = refl;
    right = refl;
    writes = refl;
    goes_on = refl;
    wrote = refl;
    sent = refl;
    out = refl;
    got = refl;
    into = refl;
    idle = refl;
    lands = refl;
  },
)
