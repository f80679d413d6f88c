use Rattle.std.proofs.Common.{arith}
use Rattle.vchan_core.proofs.totals.Totals.stays.Goals as goal
use Rattle.vchan_protocol.proofs.History.EventLaws.{diff_same}

pub returns-clause-sent : goal.returns-clause-sent
returns-clause-sent c = λ prod. omega (arith, diff_same prod, c.sent-sent.ensures)

pub returns-clause-got : goal.returns-clause-got
returns-clause-got c = λ cons. omega (arith, diff_same cons, c.got-got.ensures)
