use Rattle.vchan_protocol.specs.declared.op.Op.TheVariants.{Nothing}
use Rattle.vchan_rule.specs.Ends.{seen_by, end_in}
use Rattle.vchan_rule.proofs.end_seat.EndSeat.event.Given as goal

abbrev pub ghosts-perform : goal.ghosts-perform
ghosts-perform a = record { before = seen_by a.begun.now.value (end_in a.seat.now.me.0) a.payload.now; op = Nothing }
