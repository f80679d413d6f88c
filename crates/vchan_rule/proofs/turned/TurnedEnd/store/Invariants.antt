use Rattle.vchan_protocol.specs.declared.op.Op.TheVariants.{Store}
use Rattle.vchan_rule.specs.Ends.{end_in}
use Rattle.vchan_rule.proofs.turned.TurnedEnd.store.Given as goal

abbrev pub ghosts-stray_store : goal.ghosts-stray_store
ghosts-stray_store a = record { before = end_in a.seat.now.me.0; op = Store a.word a.value }
