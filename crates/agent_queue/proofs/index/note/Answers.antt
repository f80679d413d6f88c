use Rattle.agent_queue.proofs.IndexLaws.{place_noted}
use Rattle.agent_queue.proofs.index.note.Goals as goal

pub returns-clause-notes : goal.returns-clause-notes
returns-clause-notes c = place_noted c.args.index.now c.insert.new.self c.args.number c.args.place c.ranges.number.fits c.in_ok-insert.ensures.updates.0
