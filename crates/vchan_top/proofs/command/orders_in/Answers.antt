use Rattle.std.proofs.Common.{refl}
use Rattle.step_script.proofs.Language.OrdersLaws.{orders_of_checked}
use Rattle.vchan_top.proofs.command.orders_in.Goals as goal

pub returns-in-Ok : goal.returns-in-Ok
returns-in-Ok c = rw (orders_of_checked c.args.left c.args.right c.in-Ok.orders c.in-Ok.ensures.ok.0 c.in-Ok.ensures.ok.1) refl
