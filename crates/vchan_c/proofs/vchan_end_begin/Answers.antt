use Rattle.vchan_c.proofs.vchan_end_begin.Goals as goal

pub returns-in-0-eq1-clause-begun : goal.returns-in-0-eq1-clause-begun
returns-in-0-eq1-clause-begun c = rw c.in-0-eq1.is-1 c.begin_in.ensures.begun

pub returns-in-0-eq2-clause-begun : goal.returns-in-0-eq2-clause-begun
returns-in-0-eq2-clause-begun c = rw c.in-0-eq2.is-1 c.begin_in-in-0-eq2.ensures.begun

pub returns-in-0-eq3-clause-begun : goal.returns-in-0-eq3-clause-begun
returns-in-0-eq3-clause-begun c = rw c.in-0-eq3.is-1 c.begin_in-in-0-eq3.ensures.begun

pub returns-in-0-eq4-clause-begun : goal.returns-in-0-eq4-clause-begun
returns-in-0-eq4-clause-begun c = rw c.in-0-eq4.is-1 c.begin_in-in-0-eq4.ensures.begun
