use Rattle.std.proofs.Common.{◌≡◌, ◌∙◌, refl, subst, inl, inr, Bool, true, false}
use Rattle.broker_task.specs.Posting.{EachMoves}
use Rattle.broker_task.specs.Moving.{Steps, SendsAsTold, SendsSoFar, SendsMore, SendsOrNot}
use Rattle.broker_task.proofs.MovingLaws.{steps_self, steps_then, sends_on, sends_out}
use Rattle.broker_task.specs.Lines.{IsSameDaemon}
use Rattle.broker_task.proofs.PostLaws.{moves_none}
use Rattle.broker_task.proofs.ReleaseSteps.{same_daemon, same_moves}
use Rattle.broker_task.proofs.KeepingSteps.{keeps_all, keeps_daemons}
use Rattle.broker_task.proofs.switchboard.Switchboard.send.Goals as goal

pub returns-in_err-send_one-clause-kept : goal.returns-in_err-send_one-clause-kept
returns-in_err-send_one-clause-kept c =
    keeps_all c.args.self.now.daemons.items c.letters.self.daemons.items c.send_one.new.self.daemons.items (keeps_daemons c.args.self.now.daemons.items c.letters.self.daemons.items c.letters.invariant.same) c.send_one.ensures.kept

pub returns-clause-kept : goal.returns-clause-kept
returns-clause-kept c =
    keeps_all c.args.self.now.daemons.items c.letters.self.daemons.items c.send_one.new.self.daemons.items (keeps_daemons c.args.self.now.daemons.items c.letters.self.daemons.items c.letters.invariant.same) c.send_one.ensures.kept

pub letters-init : goal.letters-init
letters-init c = record { broker = refl; sending = c.requires.sending; holds = c.requires.holds; same = moves_none (λ d. IsSameDaemon) c.args.self.now.daemons.items (λ d x. same_daemon x); steps = steps_self c.args.domain SendsSoFar c.args.self.now.daemons.items (λ i x at here. inl refl) }

pub letters-preserved : goal.letters-preserved
letters-preserved c = let more : c.in_ok-send_one.field-0 ≡ true = cc in record {
  broker = c.send_one.ensures.broker ∙ c.letters.invariant.broker;
  sending = c.in_ok-send_one.ensures.sending;
  holds = c.in_ok-send_one.ensures.holds;
  same = same_moves c.args.self.now.daemons.items c.letters.self.daemons.items c.send_one.new.self.daemons.items c.letters.invariant.same c.in_ok-send_one.ensures.same;
  steps = steps_then c.args.domain SendsSoFar SendsMore SendsSoFar c.args.self.now.daemons.items c.letters.self.daemons.items c.send_one.new.self.daemons.items (λ a b z s m. inr (sends_on a b z s m)) c.letters.invariant.steps
      (subst (λ (b : Bool). EachMoves (Steps c.args.domain (SendsAsTold b)) c.letters.self.daemons.items c.send_one.new.self.daemons.items) more c.in_ok-send_one.ensures.steps);
}

pub returns-clause-same : goal.returns-clause-same
returns-clause-same c = same_moves c.args.self.now.daemons.items c.letters.self.daemons.items c.send_one.new.self.daemons.items c.letters.invariant.same c.in_ok-send_one.ensures.same

pub returns-clause-steps : goal.returns-clause-steps
returns-clause-steps c =
    let none : c.in_ok-send_one.field-0 ≡ false = cc in
    steps_then c.args.domain SendsSoFar SendsOrNot SendsOrNot c.args.self.now.daemons.items c.letters.self.daemons.items c.send_one.new.self.daemons.items (λ a b z s m. sends_out a b z s m) c.letters.invariant.steps
    (subst (λ (b : Bool). EachMoves (Steps c.args.domain (SendsAsTold b)) c.letters.self.daemons.items c.send_one.new.self.daemons.items) none c.in_ok-send_one.ensures.steps)
