use Rattle.vchan_core.proofs.WholeCall.AdvanceLaws.{InAdvance}
use Rattle.vchan_core.proofs.plain.Plain.advance.Given as goal

abbrev pub invariant-events : goal.invariant-events
invariant-events l = InAdvance l.fn.self l.who l.most l.payload l.initial.buf l.left l.self l.phase l.buf

abbrev pub decreases-events : goal.decreases-events
decreases-events l = l.left
