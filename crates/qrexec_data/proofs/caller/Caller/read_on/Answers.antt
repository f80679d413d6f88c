use Rattle.qrexec_data.proofs.CallerLaws.{reads_on, keeps_on}
use Rattle.qrexec_data.proofs.caller.Caller.read_on.Goals as goal

pub returns-then-not-branch-clause-read : goal.returns-then-not-branch-clause-read
returns-then-not-branch-clause-read c = λ h.
    let e = c.in_ok-read_one.ensures in
    (reads_on c.loop.self c.read_one.new.self c.in_ok-read_one.field-0 e.at (c.loop.invariant.0.reads h) e.step).1 c.if-not-branch.true

pub loop-preserved : goal.loop-preserved
loop-preserved c =
    let e = c.in_ok-read_one.ensures in (
      keeps_on c.args.self.now c.loop.self c.read_one.new.self c.in_ok-read_one.field-0 c.loop.invariant.0 e.got e.same.0 e.same.1 e.version e.at e.step c.if-not-branch.false,
      λ h. e.bytes (c.loop.invariant.1 h),
    )
