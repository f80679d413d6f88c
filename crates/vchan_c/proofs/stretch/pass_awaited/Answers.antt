use Rattle.std.proofs.Common.{◌≡◌, ◌∙◌, ap, rules, true}
use Rattle.vchan_protocol.specs.Table.Plan.{Plan, next_op, after}
use Rattle.vchan_core.specs.OneMachine.Phases.{standing, rest}
use Rattle.vchan_c.specs.Stretches.{awaits}
use Rattle.vchan_c.proofs.StretchLaws.{awaited_stands}
use Rattle.vchan_c.proofs.stretch.pass_awaited.Goals as goal

pub returns-in_default-clause-standing : goal.returns-in_default-clause-standing
returns-in_default-clause-standing c = c.took.ensures.standing ∙ awaited_stands (standing c.args.machine.now) (next_op (rest c.args.machine.now)) (search rules)

pub returns-in_default-2-clause-standing : goal.returns-in_default-2-clause-standing
returns-in_default-2-clause-standing c = c.took.ensures.standing ∙ awaited_stands (standing c.args.machine.now) (next_op (rest c.args.machine.now)) (search rules)

pub returns-in-None-clause-standing : goal.returns-in-None-clause-standing
returns-in-None-clause-standing c =
    let first = c.took.ensures.standing ∙ awaited_stands (standing c.args.machine.now) (next_op (rest c.args.machine.now)) (search rules) in
    let behind : rest c.took.new.self ≡ after (rest c.args.machine.now) c.args.value = search rules in
    let second : awaits (next_op (rest c.took.new.self)) ≡ true = ap (λ (p : Plan). awaits (next_op p)) behind ∙ c.looks_behind-looks.ensures.awaited (search rules) in
    c.took-in-None.ensures.standing ∙ (awaited_stands (standing c.took.new.self) (next_op (rest c.took.new.self)) second ∙ first)
