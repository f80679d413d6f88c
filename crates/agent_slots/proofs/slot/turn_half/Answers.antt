use Rattle.vchan_rule.specs.Seated.{view}
use Rattle.channel_session.proofs.KeepingLaws.{keeps_all, turn_keeps}
use Rattle.agent_slots.proofs.SessionLaws.{said_of}
use Rattle.agent_slots.proofs.slot.turn_half.Goals as goal

pub returns-clause-turns : goal.returns-clause-turns
returns-clause-turns g c = said_of c.outcome-2.result _ (c.in_ok-turn.field-0, c.in_ok-turn.ensures.turned)

pub returns-in-Some-clause-kept : goal.returns-in-Some-clause-kept
returns-in-Some-clause-kept g c = keeps_all (view c.args.session.now.end)

pub returns-clause-kept : goal.returns-clause-kept
returns-clause-kept g c = turn_keeps g.S.Half.half c.in_ok-turn.field-0 c.args.session.now c.turn.new.self c.in_ok-turn.ensures.turned
