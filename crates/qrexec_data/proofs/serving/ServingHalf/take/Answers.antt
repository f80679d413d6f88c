use Rattle.std.proofs.Common.{sym, ◌∙◌, ap}
use Rattle.std.specs.Prelude.{is_some}
use Rattle.qrexec_data.proofs.ServingLaws.{serves_take}
use Rattle.qrexec_data.proofs.serving.ServingHalf.take.Goals as goal

pub returns-in-Ok-clause-stands : goal.returns-in-Ok-clause-stands
returns-in-Ok-clause-stands g c = λ owed sent stands.
    let t = serves_take g.S.Service.owes owed c.args.self.now _ c.read_on.new.self c.take.new.self sent c.args.piece.now c.self.view_is
    (ap is_some (sym c.outcome.ensures) ∙ sym c.is_some.ensures ∙ c.if-is_some.false) c.in_ok-take.ensures.ok c.in-Ok.ensures.same.1 stands in
    t.1 (c.in-Ok.ensures.read owed sent t.0)
