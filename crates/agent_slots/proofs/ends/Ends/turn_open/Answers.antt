use Rattle.std.proofs.Common.{◌+◌, refl, subst, get_or, drop, arith}
use Rattle.std.specs.Prelude.{if◌then◌else◌}
use Rattle.agent_slots.specs.Whole.{TakesFrom}
use Rattle.agent_slots.specs.Sessions.{sessions_in}
use Rattle.agent_slots.proofs.TurnLaws.{turned_not, turning_on}
use Rattle.agent_slots.proofs.SessionLaws.{turning_first, turning_one, turning_all, none_left}
use Rattle.agent_slots.proofs.ends.Ends.turn_open.Goals as goal

pub loop-next-init : goal.loop-next-init
loop-next-init c = (
  record { turned = turned_not c.args.self.now c.args.over.now.items c.requires.whole; same = (refl, refl, refl); retire = c.requires.retire },
  turning_first c.args.self.now.slots.items c.args.self.now.busy.items c.requires.whole.are_open,
)

pub loop-next-preserved : goal.loop-next-preserved
loop-next-preserved c = (
  turning_on c.args.self.now c.loop-next.self c.turn_one.new.self c.args.over.now.items c.loop-next.over.items c.turn_one.new.over.items c.loop-next.invariant.0
      c.in_ok-turn_one.ensures.turned c.turn_one.ensures.same c.turn_one.ensures.retire,
  turning_one (sessions_in c.args.self.now.slots.items) (sessions_in c.loop-next.self.slots.items) (sessions_in c.turn_one.new.self.slots.items) (drop c.loop-next.next c.loop-next.self.busy.items)
      (drop (c.loop-next.next + 1) c.turn_one.new.self.busy.items) (get_or c.loop-next.self.busy.items c.loop-next.next 0) c.loop-next.invariant.1 c.in_ok-turn_one.ensures.turns
      (subst (λ b. TakesFrom (get_or c.loop-next.self.busy.items c.loop-next.next 0) (drop c.loop-next.next c.loop-next.self.busy.items) (drop (if b then c.loop-next.next else c.loop-next.next + 1) c.turn_one.new.self.busy.items))
      c.if-branch.false c.in_ok-turn_one.ensures.ahead),
)

pub loop-next-preserved-then-branch : goal.loop-next-preserved-then-branch
loop-next-preserved-then-branch c = (
  turning_on c.args.self.now c.loop-next.self c.turn_one.new.self c.args.over.now.items c.loop-next.over.items c.turn_one.new.over.items c.loop-next.invariant.0
      c.in_ok-turn_one.ensures.turned c.turn_one.ensures.same c.turn_one.ensures.retire,
  turning_one (sessions_in c.args.self.now.slots.items) (sessions_in c.loop-next.self.slots.items) (sessions_in c.turn_one.new.self.slots.items) (drop c.loop-next.next c.loop-next.self.busy.items)
      (drop (c.loop-next.next) c.turn_one.new.self.busy.items) (get_or c.loop-next.self.busy.items c.loop-next.next 0) c.loop-next.invariant.1 c.in_ok-turn_one.ensures.turns
      (subst (λ b. TakesFrom (get_or c.loop-next.self.busy.items c.loop-next.next 0) (drop c.loop-next.next c.loop-next.self.busy.items) (drop (if b then c.loop-next.next else c.loop-next.next + 1) c.turn_one.new.self.busy.items))
      c.if-branch.true c.in_ok-turn_one.ensures.ahead),
)

pub returns-clause-turns : goal.returns-clause-turns
returns-clause-turns c =
    turning_all (sessions_in c.args.self.now.slots.items) (sessions_in c.loop-next.self.slots.items) (drop c.loop-next.next c.loop-next.self.busy.items) (none_left c.loop-next.self.busy.items c.loop-next.next (omega (arith, c.loop-next-test.false, c.len.ensures, c.loop-next.self.busy.ok.0)))
    c.loop-next.invariant.1
