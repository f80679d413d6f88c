use Rattle.std.proofs.Common.{◌≡◌, ◌+◌, ◌-◌}
use Rattle.broker_task.specs.Letters.{IsAt}
use Rattle.broker_task.proofs.PostLaws.{on_ok}
use Rattle.broker_task.proofs.HearingSteps.{at_domain}
use Rattle.broker_task.proofs.ReleaseSteps.{same_one}
use Rattle.broker_task.proofs.RoundSteps.{listened}
use Rattle.broker_task.proofs.KeepingSteps.{keeps_one}
use Rattle.broker_task.proofs.MovingLaws.{listens_moves}
use Rattle.broker_task.proofs.switchboard.Switchboard.listen.Goals.{After-listen}
use Rattle.broker_task.proofs.switchboard.Switchboard.listen.Goals as goal

here : (c : After-listen) → IsAt c.args.self.now.daemons.items (c.args.domain - 1) c.index_mut.result.now × (c.args.domain - 1 + 1 ≡ c.args.domain)
here c = at_domain c.args.self.now.broker.hub c.args.self.now.daemons.items c.args.domain c.index_mut.result.now c.requires.number c.requires.ready.posting.count c.index_mut.ensures.value

pub returns-clause-kept : goal.returns-clause-kept
returns-clause-kept c = keeps_one _ (c.args.domain - 1) c.index_mut.result.now c.listen.new.self (here (goal.at.returns-clause-kept c).After-listen).0 c.listen.ensures.kept

pub returns-clause-listened : goal.returns-clause-listened
returns-clause-listened c =
    let s = c.args.self.now in
    let ready = c.requires.ready in
    let at = here (goal.at.returns-clause-listened c).After-listen in
    let x = c.index_mut.result.now in
    listened s.broker.hub c.args.domain s.broker.journal s.daemons.items (c.args.domain - 1) x c.listen.new.self c.listen.result at.0 at.1 ready.posting ready.read (c.requires.up (c.args.domain - 1) x at.0 at.1)
    c.listen.ensures.port c.listen.ensures.line c.listen.ensures.up (λ said h. c.listen.ensures.said said h) (λ events h. c.listen.ensures.read events h) c.listen.ensures.«open» c.listen.ensures.cause ready.holds

pub returns-clause-same : goal.returns-clause-same
returns-clause-same c = on_ok c.listen.result c.listen.ensures.same (λ same. same_one _ (c.args.domain - 1) c.index_mut.result.now c.listen.new.self (here (goal.at.returns-clause-same c).After-listen).0 same)

pub returns-clause-steps : goal.returns-clause-steps
returns-clause-steps c =
    let at = here (goal.at.returns-clause-steps c).After-listen in
    listens_moves c.listen.result c.args.domain _ (c.args.domain - 1) c.index_mut.result.now c.listen.new.self at.0 at.1 c.listen.ensures.listens
