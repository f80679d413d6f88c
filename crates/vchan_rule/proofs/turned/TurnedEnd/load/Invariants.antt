use Rattle.vchan_protocol.specs.declared.op.Op.TheVariants.{Load}
use Rattle.vchan_rule.specs.Ends.{end_in}
use Rattle.vchan_rule.proofs.turned.TurnedEnd.load.Given as goal

abbrev pub ghosts-stray_load : goal.ghosts-stray_load
ghosts-stray_load a = record { before = end_in a.seat.now.me.0; op = Load a.word }
