use Rattle.std.proofs.Common.{ℕ, ◌+◌, ◌-◌, arith}
use Rattle.scenario_file.proofs.GeneratedLaws.{generated_done, generated_more}
use Rattle.scenario_file.proofs.generator.generated_calls.Goals as goal

pub loop-number-preserved : goal.loop-number-preserved
loop-number-preserved c =
    let l = c.loop-number in
    let left : ℕ = c.args.count - l.number in (
      c.in_ok-call.ensures.within,
      rw c.in_ok-push.ensures.items
          (generated_more l.calls.items c.in_ok-call.call (l.number + 1) l.x c.in_ok-call.last left (c.args.count - (l.number + 1)) _
          (omega arith) (omega arith) c.in_ok-call.ensures.call c.in_ok-call.ensures.last l.invariant.1),
    )

pub returns : goal.returns
returns c =
    let l = c.loop-number in
    generated_done l.calls.items (l.number + 1) l.x (c.args.count - l.number) _ (omega arith) l.invariant.1
