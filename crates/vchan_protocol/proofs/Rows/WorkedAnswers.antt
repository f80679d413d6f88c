-- The worked row of what calls load and move, by computing.
use Rattle.std.proofs.Common.{refl}
use Rattle.ring_words.specs.Rings.{size, place, room, ready, diff}
use Rattle.vchan_protocol.specs.History.Core.{event}
use Rattle.vchan_protocol.specs.History.WholeCall.{alone}
use Rattle.vchan_protocol.specs.Table.Ends.{standing_after}
use Rattle.vchan_protocol.specs.Table.Calls.{write, write_open, write_looked, read, read_looked, drain, drain_second, drain_live, drain_further, drain_gone}
use Rattle.vchan_protocol.specs.Rows.WorkedAnswers.{AnswerIsAsWorked}
use Rattle.vchan_protocol.proofs.Rows.WorkedRow.{small}

pub worked_answer : AnswerIsAsWorked
unfolding event alone standing_after size place room ready diff write write_open write_looked read read_looked drain drain_second drain_live drain_further drain_gone small
worked_answer = (
  small,
  record {
    left = refl;
    right = refl;
    write_loads = refl;
    write_moves = refl;
    read_loads = refl;
    read_moves = refl;
    found_loads = refl;
    found_moves = refl;
    drained_loads = refl;
    drained_moves = refl;
    far_answer = refl;
    far_loads = refl;
    far_saw = refl;
    full_answer = refl;
    full_moves = refl;
  },
)
