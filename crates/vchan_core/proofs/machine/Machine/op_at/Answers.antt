use Rattle.vchan_core.proofs.machine.Machine.op_at.Goals as goal

pub returns-in-Put-clause-fits : goal.returns-in-Put-clause-fits
returns-in-Put-clause-fits c = rw c.in-Put.is (c.put_event.ensures.fits 0)

pub returns-in-Take-clause-fits : goal.returns-in-Take-clause-fits
returns-in-Take-clause-fits c = rw c.in-Take.is (c.take_event.ensures.fits 0)
