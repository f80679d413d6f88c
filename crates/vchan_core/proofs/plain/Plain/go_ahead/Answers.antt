use Rattle.std.proofs.Common.{◌+◌, arith}
use Rattle.vchan_core.specs.OneMachine.Phases.{at_phase}
use Rattle.vchan_core.specs.Page.StandsFor.{machine_of, orders_of, words_of}
use Rattle.vchan_core.proofs.WholeCall.LookLaws.{makes_all, needs_less}
use Rattle.vchan_core.proofs.plain.Plain.go_ahead.Goals as goal

pub move_few-moved-requires-clause-payload : goal.move_few-moved-requires-clause-payload
move_few-moved-requires-clause-payload c =
    let m = machine_of c.args.self.now c.args.who in
    let list = words_of c.args.self.now in
    let less = needs_less c.look_few-looks.result.0 (orders_of c.args.self.now) c.args.payload.now (at_phase m c.args.phase) list c.args.buf.now (at_phase m c.look_few-looks.result.1) list c.args.buf.now (c.look_few-looks.ensures.events c.args.payload.now c.args.buf.now) in
    omega (arith, less.0, c.requires.payload)

pub move_few-moved-requires-clause-buf : goal.move_few-moved-requires-clause-buf
move_few-moved-requires-clause-buf c =
    let m = machine_of c.args.self.now c.args.who in
    let list = words_of c.args.self.now in
    let less = needs_less c.look_few-looks.result.0 (orders_of c.args.self.now) c.args.payload.now (at_phase m c.args.phase) list c.args.buf.now (at_phase m c.look_few-looks.result.1) list c.args.buf.now (c.look_few-looks.ensures.events c.args.payload.now c.args.buf.now) in
    omega (arith, less.1, c.requires.buf)

pub returns-clause-events : goal.returns-clause-events
returns-clause-events c =
    let m = machine_of c.args.self.now c.args.who in
    let list = words_of c.args.self.now in
    makes_all c.look_few-looks.result.0 c.move_few-moved.result.0 (orders_of c.args.self.now) c.args.payload.now (at_phase m c.args.phase) list c.args.buf.now (at_phase m c.look_few-looks.result.1) list c.args.buf.now
    (at_phase m c.move_few-moved.result.1) (words_of c.move_few-moved.new.self) c.move_few-moved.new.buf (c.look_few-looks.ensures.events c.args.payload.now c.args.buf.now) c.move_few-moved.ensures.events

pub returns-clause-payload_left : goal.returns-clause-payload_left
returns-clause-payload_left c =
    let m = machine_of c.args.self.now c.args.who in
    (needs_less (c.look_few-looks.result.0 + c.move_few-moved.result.0) (orders_of c.args.self.now) c.args.payload.now (at_phase m c.args.phase) (words_of c.args.self.now) c.args.buf.now (at_phase m c.move_few-moved.result.1) (words_of c.move_few-moved.new.self) c.move_few-moved.new.buf
    (returns-clause-events c)).0

pub returns-clause-buffer_left : goal.returns-clause-buffer_left
returns-clause-buffer_left c =
    let m = machine_of c.args.self.now c.args.who in
    (needs_less (c.look_few-looks.result.0 + c.move_few-moved.result.0) (orders_of c.args.self.now) c.args.payload.now (at_phase m c.args.phase) (words_of c.args.self.now) c.args.buf.now (at_phase m c.move_few-moved.result.1) (words_of c.move_few-moved.new.self) c.move_few-moved.new.buf
    (returns-clause-events c)).1
