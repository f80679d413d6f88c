-- The worked row of signals, by computing.
use Rattle.std.proofs.Common.{List, [], ◌∷◌, ◌++◌, refl, arith}
use Rattle.ring_words.specs.Rings.{size, place, room, ready, diff}
use Rattle.ring_words.specs.declared.page.Ring.TheVariants.{Left}
use Rattle.ring_words.specs.declared.page.WordName.TheVariants.{LeftCons, LeftProd, SrvLive, RingByte}
use Rattle.vchan_protocol.specs.declared.op.Op.TheVariants.{Load, Store, StoreByte}
use Rattle.vchan_protocol.specs.declared.op.PastEvent.{PastEvent}
use Rattle.vchan_protocol.specs.Table.Plan.{past}
use Rattle.vchan_protocol.specs.History.Core.{event}
use Rattle.vchan_protocol.specs.History.WholeCall.{alone}
use Rattle.vchan_protocol.specs.Table.Calls.{write, write_open, write_looked, read, read_looked, read_live}
use Rattle.vchan_protocol.specs.Rows.WorkedSignals.{SignalIsAsWorked}
use Rattle.vchan_protocol.proofs.Rows.WorkedRow.{small}

-- the first three events of a client's write of a byte
abbrev byte_stored : List PastEvent
byte_stored = past (Load SrvLive) 1 ∷ past (Load LeftCons) 0 ∷ past (StoreByte (RingByte Left 0) 0) 0 ∷ []

pub worked_signal : SignalIsAsWorked
unfolding event alone size place room ready diff write write_open write_looked read read_looked read_live small
worked_signal = (
  small,
  record {
    left = refl;
    right = refl;
    answer = refl;
    since = refl;
    seen = refl;
    live = refl;
    bit = refl;
    tries = refl;
    stays_noted = refl;
    index = refl;
    test_owed = (1, (byte_stored, 0, refl), refl);
    cleared = refl;
    signal_owed = ((byte_stored ++ past (Store LeftProd 1) 0 ∷ [], 1, refl), refl);
    woken = λ is. absurd (omega (arith, is));
    event = refl;
    taken = refl;
    noted = refl;
    closed = refl;
    close_owed = (([], 0, refl), refl);
    stays = refl;
    gone_noted = refl;
    unwoken = refl;
    gone = refl;
    gone_owed = (([], 0, refl), refl);
  },
)
