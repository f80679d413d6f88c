use Rattle.std.proofs.Common.{refl, sym, ◌∙◌, ap}
use Rattle.std.specs.Prelude.{is_some}
use Rattle.qrexec_data.proofs.CallerLaws.{lends_inside}
use Rattle.qrexec_data.proofs.caller.CallerHalf.front.Goals as goal

pub returns : goal.returns
returns c =
    let l = lends_inside c.args.self.now _ c.pack.new.self c.version-version.result c.waiting.result.now c.self.view_is
    (ap is_some (sym c.outcome.ensures) ∙ sym c.is_some.ensures ∙ c.if-is_some.false) c.version-version.ensures c.in_ok-pack.ensures c.waiting.ensures in
    ((refl, λ _. tt, l.0), record { after = tt; nothing = l.1 })
