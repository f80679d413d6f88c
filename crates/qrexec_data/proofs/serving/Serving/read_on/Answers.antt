use Rattle.qrexec_data.proofs.ServingLaws.{serves_on, keeps_serving, waits_then, step_waits}
use Rattle.qrexec_data.proofs.serving.Serving.read_on.Goals as goal

pub returns-then-not-branch-clause-read : goal.returns-then-not-branch-clause-read
returns-then-not-branch-clause-read g c = λ owed sent h.
    let e = c.in_ok-read_one.ensures in
    (serves_on g.S.Service.owes owed c.loop.self c.read_one.new.self c.in_ok-read_one.field-0 sent e.at (c.loop.invariant.0.serves owed sent h) e.step).1 c.if-not-branch.true

pub loop-preserved : goal.loop-preserved
loop-preserved g c =
    let e = c.in_ok-read_one.ensures in (
      keeps_serving g.S.Service.owes c.args.self.now c.loop.self c.read_one.new.self c.in_ok-read_one.field-0 c.loop.invariant.0 e.got e.same.0 e.same.1 e.at e.step c.if-not-branch.false,
      λ h. e.bytes (c.loop.invariant.1 h),
    )

pub returns-then-not-branch-clause-waits : goal.returns-then-not-branch-clause-waits
returns-then-not-branch-clause-waits g c =
    waits_then c.args.self.now.answering c.loop.self.answering c.read_one.new.self.answering c.loop.invariant.0.waits
    (step_waits g.S.Service.owes c.loop.self c.read_one.new.self c.in_ok-read_one.field-0 c.in_ok-read_one.ensures.step)
