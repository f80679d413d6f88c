use Rattle.vchan_c.proofs.telling.tell_next.Goals as goal

pub returns-in-Nothing : goal.returns-in-Nothing
returns-in-Nothing g c = c.tell_behind.ensures c.args.machine.now (record {
  leads = c.pass_bytes-moves.ensures.events;
  stands = c.pass_bytes-moves.ensures.standing;
  payload_left = c.pass_bytes-moves.ensures.payload_left;
  buffer_left = c.pass_bytes-moves.ensures.buffer_left;
  within = c.pass_bytes-moves.ensures.within;
  none = c.pass_bytes-moves.ensures.none;
})
