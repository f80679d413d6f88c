use Rattle.std.proofs.Common.{arith, subst, sym}
use Rattle.vchan_core.specs.OneMachine.Phases.{standing, payload_needed, buffer_needed}
use Rattle.vchan_c.specs.declared.stretch.Moves.{Moves}
use Rattle.vchan_c.specs.Stretches.{MovesWithin}
use Rattle.vchan_c.proofs.telling.tell_behind.Goals as goal

pub returns : goal.returns
returns g c = λ before passed. record {
  now = c.after_bytes-stretch.new.machine;
  stretch = c.after_bytes-stretch.result;
  kept = c.tell.ensures.kept;
  short = c.tell.ensures.short;
  step_is = c.tell.ensures.step;
  does = c.after_bytes-stretch.ensures.stretch before passed;
  payload_left = omega (arith, c.after_bytes-stretch.ensures.payload_left, passed.payload_left);
  buffer_left = omega (arith, c.after_bytes-stretch.ensures.buffer_left, passed.buffer_left);
  within = subst (λ (m : Moves). MovesWithin (standing before) (payload_needed before) (buffer_needed before) m) (sym c.after_bytes-stretch.ensures.moves) passed.within;
}
