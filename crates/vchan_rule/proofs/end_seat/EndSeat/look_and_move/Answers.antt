use Rattle.std.proofs.Common.{refl}
use Rattle.vchan_rule.specs.Seated.{driven}
use Rattle.vchan_rule.proofs.GoingLaws.{goes_along, goes_then}
use Rattle.vchan_rule.proofs.end_seat.EndSeat.look_and_move.Goals as goal

pub returns-clause-goes : goal.returns-clause-goes
returns-clause-goes g c =
    let was = driven c.args.words.now.key.start c.args.self.now c.args.machine.now in
    let one = driven c.args.words.now.key.start c.next_event.new.self c.next_event.new.machine in
    let two = driven c.args.words.now.key.start c.move_bytes.new.self c.move_bytes.new.machine in
    let three = driven c.args.words.now.key.start c.three_events.new.self c.three_events.new.machine in
    let m = c.move_bytes.ensures in
    let ready = c.in_default.ensures.goes.ready refl in
    let along = goes_along one c.args.payload.now c.next_event.new.buf two c.move_bytes.new.buf ready c.next_event.ensures.begun m.along m.same m.agrees m.busy m.begun m.payload m.out m.into in
    goes_then was c.args.payload.now c.args.buf.now one c.next_event.new.buf c.three_events.result three c.three_events.new.buf c.in_default.ensures.goes
    (goes_then one c.args.payload.now c.next_event.new.buf two c.move_bytes.new.buf c.three_events.result three c.three_events.new.buf along c.three_events.ensures.goes)
