-- The worked row of a turned end, by computing.
use Rattle.std.proofs.Common.{[], ◌∷◌, refl, arith}
use Rattle.ring_words.specs.Rings.{size, place, room, ready, diff}
use Rattle.vchan_protocol.specs.History.Core.{event}
use Rattle.vchan_protocol.specs.History.WholeCall.{alone}
use Rattle.vchan_protocol.specs.Table.Calls.{write, write_open, write_looked, read, read_looked}
use Rattle.vchan_protocol.specs.Rows.WorkedTurn.{TurnIsAsWorked}
use Rattle.vchan_protocol.proofs.Rows.WorkedRow.{small}

pub worked_turn : TurnIsAsWorked
unfolding event alone size place room ready diff write write_open write_looked read read_looked small
worked_turn = (
  small,
  record {
    left = refl;
    right = refl;
    sent = refl;
    got = refl;
    turned = refl;
    consumed = refl;
    stands = refl;
    honest = refl;
    index = refl;
    answer = refl;
    own = refl;
    restored = refl;
    all_got = refl;
    stays = refl;
    begins = record { within = omega arith; fits = omega arith; begins = (108 ∷ [], refl) };
  },
)
