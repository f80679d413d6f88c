use Rattle.std.proofs.Common.{rules}
use Rattle.vchan_c.proofs.StretchLaws.{tells_before}
use Rattle.vchan_c.proofs.telling.tell_after.Goals as goal

pub returns-in-Some : goal.returns-in-Some
returns-in-Some g c = record {
  now = c.pass_awaited.new.machine;
  stretch = c.answered.result;
  kept = c.tell.ensures.kept;
  short = c.tell.ensures.short;
  step_is = c.tell.ensures.step;
  does = search rules;
  payload_left = c.in-Some.ensures.payload_left;
  buffer_left = c.in-Some.ensures.buffer_left;
  within = search rules;
}

pub returns-in-None : goal.returns-in-None
returns-in-None g c = tells_before _ _ _ _ _ _ _ _ _ _ c.in-None.ensures.rest c.in-None.ensures.standing c.in-None.ensures.payload_left c.in-None.ensures.buffer_left c.tell_next.ensures
