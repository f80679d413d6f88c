use Rattle.std.proofs.Common.{arith}
use Rattle.vchan_persist.proofs.ListLaws.{no_clients}
use Rattle.vchan_persist.proofs.lines.ClientList.new.Goals as goal

pub returns-clause-list : goal.returns-clause-list
returns-clause-list c =
    let none = no_clients c.new.result.items c.new.ensures.items in
    record { lines = omega arith; clients = none.0; bytes = none.1; few = omega arith }
