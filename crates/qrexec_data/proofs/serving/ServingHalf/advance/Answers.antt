use Rattle.qrexec_data.proofs.PackLaws.{stands_gone}
use Rattle.qrexec_data.proofs.serving.ServingHalf.advance.Goals as goal

pub returns-clause-stands : goal.returns-clause-stands
returns-clause-stands g c = λ owed sent stands.
    stands_gone g.S.Service.owes owed c.args.self.now _ c.advance.new.self sent c.args.count c.self.view_is c.advance.ensures stands
