use Rattle.vchan_protocol.specs.declared.op.Op.TheVariants.{Nothing}
use Rattle.vchan_rule.specs.Ends.{end_in}
use Rattle.vchan_rule.proofs.end_seat.EndSeat.turn.Given as goal

abbrev pub ghosts-give_up : goal.ghosts-give_up
ghosts-give_up a = record { before = end_in a.seat.now.me.0; op = Nothing }
