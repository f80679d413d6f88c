use Rattle.std.proofs.Common.{lit<}
use Rattle.service_gate.specs.ServiceResult.{service}
use Rattle.service_gate.proofs.Numbers.{number_of_decimal, unnamed}
use Rattle.service_gate.proofs.naming.services_by_name.Goals as goal

pub returns-clause-first : goal.returns-clause-first
unfolding service
returns-clause-first c n input le = rw (number_of_decimal 1048576 n (lit< tt) le)

pub returns-clause-exit : goal.returns-clause-exit
unfolding service
returns-clause-exit c n input le = rw (number_of_decimal 255 n (lit< tt) le)

pub returns-clause-others : goal.returns-clause-others
returns-clause-others c name input other = unnamed name input other
