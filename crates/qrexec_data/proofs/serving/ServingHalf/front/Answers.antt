use Rattle.std.proofs.Common.{refl, sym, ◌∙◌, ap}
use Rattle.std.specs.Prelude.{is_some}
use Rattle.qrexec_data.proofs.PackLaws.{lends_answers, lends_nothing}
use Rattle.qrexec_data.proofs.serving.ServingHalf.front.Goals as goal

pub returns : goal.returns
returns g c =
    let undecided = ap is_some (sym c.outcome.ensures) ∙ sym c.is_some.ensures ∙ c.if-is_some.false in
    let lent = lends_answers g.S.Service.owes c.args.self.now _ c.pack.new.self c.waiting.result.now c.self.view_is undecided c.in_ok-pack.ensures c.waiting.ensures in (
      (refl, λ _. tt, lent),
      record {
        after = tt;
        nothing = λ owed sent stands.
            lends_nothing g.S.Service.owes owed c.args.self.now _ c.pack.new.self c.waiting.result.now sent c.self.view_is undecided c.in_ok-pack.ensures c.waiting.ensures stands;
      },
    )
