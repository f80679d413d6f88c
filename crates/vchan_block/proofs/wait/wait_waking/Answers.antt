-- Each try is one more.
use Rattle.std.proofs.Common.{Bool, subst, ◌∙◌, arith}
use Rattle.std.proofs.lemmas.Grind.{common_steps}
use Rattle.vchan_block.specs.Rounds.{IsTry, Takes, TriesAgain}
use Rattle.vchan_block.proofs.wait.wait_waking.Goals as goal

pub returns-then-take_event-clause-waits : goal.returns-then-take_event-clause-waits
returns-then-take_event-clause-waits g c =
    c.tries.invariant.goes_on c.take_event.new.end
    (Takes (subst (λ (was : Bool). IsTry was c.tries.end c.take_event.new.end) c.if-take_event.true (record { view_is = c.take_event.ensures.view; once = c.take_event.ensures.once; trail = c.take_event.ensures.trail })))

pub tries-preserved : goal.tries-preserved
tries-preserved g c = record {
  same = grind (arith, common_steps);
  open_is = c.take_event.ensures.open;
  view_is = c.take_event.ensures.view ∙ c.tries.invariant.view_is;
  goes_on = λ new rest. c.tries.invariant.goes_on new
      (TriesAgain c.take_event.new.end (subst (λ (was : Bool). IsTry was c.tries.end c.take_event.new.end) c.if-take_event.false (record { view_is = c.take_event.ensures.view; once = c.take_event.ensures.once; trail = c.take_event.ensures.trail })) rest);
}
