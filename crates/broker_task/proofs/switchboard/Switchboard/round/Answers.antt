use Rattle.broker_task.proofs.RoundSteps.{goes_nowhere, goes_then}
use Rattle.std.proofs.Common.{◌≡◌, ◌+◌, ℕ, subst, arith}
use Rattle.broker_task.specs.Posting.{EachMoves}
use Rattle.broker_task.specs.Letters.{IsAt}
use Rattle.broker_task.specs.Moving.{Steps, Turns}
use Rattle.broker_task.proofs.MovingLaws.{turns_none, turns_next, turns_all}
use Rattle.broker_task.proofs.KeepingSteps.{keeps_all, keeps_daemons}
use Rattle.broker_task.proofs.switchboard.Switchboard.round.Goals as goal

pub returns-in_err-attend-clause-kept : goal.returns-in_err-attend-clause-kept
returns-in_err-attend-clause-kept c =
    keeps_all c.args.self.now.daemons.items c.loop-at.self.daemons.items c.attend.new.self.daemons.items (keeps_daemons c.args.self.now.daemons.items c.loop-at.self.daemons.items c.loop-at.invariant.goes.same) c.attend.ensures.kept

pub returns-clause-kept : goal.returns-clause-kept
returns-clause-kept c = keeps_daemons c.args.self.now.daemons.items c.loop-at.self.daemons.items c.loop-at.invariant.goes.same

pub loop-at-init : goal.loop-at-init
loop-at-init c = record { goes = goes_nowhere c.args.self.now c.requires.ready; turns = turns_none c.args.self.now.daemons.items }

pub loop-at-preserved : goal.loop-at-preserved
loop-at-preserved c =
    let ds = c.loop-at.self.daemons.items in
    let x = c.index.result.now in
    let there : IsAt ds c.loop-at.at x = record { within = omega arith; is = c.index.ensures } in
    let number : x.domain ≡ c.loop-at.at + 1 = (c.loop-at.invariant.goes.ready.posting.lines c.loop-at.at x there).number in
    record {
      goes = goes_then c.args.self.now c.loop-at.self c.attend.new.self c.loop-at.invariant.goes c.in_ok-attend.ensures.goes;
      turns = turns_next c.loop-at.at c.args.self.now.daemons.items ds c.attend.new.self.daemons.items c.loop-at.invariant.turns
          (subst (λ (d : ℕ). EachMoves (Steps d Turns) ds c.attend.new.self.daemons.items) number c.in_ok-attend.ensures.turns);
    }

pub returns-clause-turns : goal.returns-clause-turns
returns-clause-turns c = turns_all c.loop-at.at c.args.self.now.daemons.items c.loop-at.self.daemons.items c.loop-at.invariant.turns (omega arith)
