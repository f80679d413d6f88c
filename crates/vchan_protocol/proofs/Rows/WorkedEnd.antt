-- The worked row of how a stream ends, by computing.
use Rattle.std.proofs.Common.{refl}
use Rattle.ring_words.specs.Rings.{size, place, room, ready, diff}
use Rattle.vchan_protocol.specs.History.Core.{event}
use Rattle.vchan_protocol.specs.History.WholeCall.{alone}
use Rattle.vchan_protocol.specs.Table.Calls.{write, write_open, write_looked, drain, drain_second, drain_live, drain_further}
use Rattle.vchan_protocol.specs.Rows.WorkedEnd.{EndIsAsWorked}
use Rattle.vchan_protocol.proofs.Rows.WorkedRow.{small}

pub worked_end : EndIsAsWorked
unfolding event alone size place room ready diff write write_open write_looked drain drain_second drain_live drain_further small
worked_end = (
  small,
  record {
    left = refl;
    right = refl;
    unseen = refl;
    closed = refl;
    shut = refl;
    seen = refl;
    saw = refl;
    got = refl;
    idle = refl;
    goes_on = refl;
    drained = refl;
    ended = refl;
    here = refl;
    gone = refl;
    stays = refl;
    retires = refl;
    peer_stays = refl;
    once = refl;
    for_good = refl;
  },
)
