use Rattle.vchan_rule.specs.Seated.{driven}
use Rattle.vchan_rule.proofs.GoingLaws.{goes_one}
use Rattle.vchan_rule.proofs.end_seat.EndSeat.next_event.Goals as goal

pub returns-clause-goes : goal.returns-clause-goes
returns-clause-goes c =
    let e = c.event.ensures in
    goes_one (driven c.args.words.now.key.start c.args.self.now c.args.machine.now) c.args.payload.now c.args.buf.now c.event.result (driven c.args.words.now.key.start c.event.new.self c.event.new.machine) c.event.new.buf c.requires.ready e.goes_on e.event e.same e.agrees e.begun e.payload e.idle e.out e.into
