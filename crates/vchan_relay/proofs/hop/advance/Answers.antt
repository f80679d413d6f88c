use Rattle.vchan_relay.specs.Turns.{once, twice}
use Rattle.vchan_relay.proofs.hop.advance.Goals as goal

pub returns-in-Took-clause-advances : goal.returns-in-Took-clause-advances
returns-in-Took-clause-advances c = twice c.in-Took.count c.turn-turn.new.self c.turn.result c.in-Took.ensures.turned c.turn.ensures.turned

pub returns-in_default-clause-advances : goal.returns-in_default-clause-advances
returns-in_default-clause-advances c = once c.turn-turn.result c.in_default.not-Took c.turn-turn.ensures.turned
