use Rattle.std.proofs.Common.{refl}
use Rattle.std.proofs.lemmas.Result.{on_ok_weaker}
use Rattle.qrexec_data.proofs.AnsweringLaws.{fed_on}
use Rattle.qrexec_data.proofs.answering.Answering.feed.Goals as goal

pub returns-clause-ok : goal.returns-clause-ok
returns-clause-ok g c =
    let i = c.self.inside in
    on_ok_weaker c.feed.result (λ f. fed_on g.S.Service.owes c.args.bytes.now c.args.self.now _ c.feed.new.self i.out.items c.feed.new.out.items i.err.items c.feed.new.err.items i.out_packed i.err_packed
    c.self.view_is refl refl c.self.invariant.4 c.self.invariant.5 f) c.feed.ensures.ok
