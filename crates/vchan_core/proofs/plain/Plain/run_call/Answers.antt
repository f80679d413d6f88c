use Rattle.std.proofs.Common.{ℕ, ◌<◌, ◌+◌, arith, subst}
use Rattle.std.proofs.lemmas.List.Elements.{All-from_get_or}
use Rattle.vchan_core.specs.declared.phase.Phase.{Phase}
use Rattle.vchan_core.specs.declared.phase.Next.TheVariants.{To, Done}
use Rattle.vchan_core.specs.declared.phase.Phase.TheVariants.{Notify}
use Rattle.vchan_core.specs.WholeCall.AtPhase.{page_at}
use Rattle.vchan_core.proofs.WholeCall.LoopLaws.{InLoop, MovesAt, IsEnded, loop_first, loop_seen, loop_moved, loop_payload, loop_buffer, loop_to, loop_done, loop_short}
use Rattle.vchan_core.proofs.Page.PlainLaws.{invariant_call}
use Rattle.vchan_core.proofs.Page.PlainLaws.{page_follows_lists}
use Rattle.vchan_core.proofs.plain.Plain.run_call.Given.{Over}
use Rattle.vchan_core.proofs.plain.Plain.run_call.Goals as goal

pub events-init : goal.events-init
events-init g c = (
  0,
  loop_first c.args.self.now c.args.who c.args.call c.args.payload.now c.args.buf.now c.first-phase.result c.requires.payload c.requires.buf
      c.first-phase.ensures.stands c.first-phase.ensures.plan c.first-phase.ensures.payload_left c.first-phase.ensures.buffer_left,
  c.requires.allowed.0,
  omega arith,
)

-- ---- the loop after the looks are made, and after a piece is moved

pub move_piece-moved-requires-clause-payload : goal.move_piece-moved-requires-clause-payload
move_piece-moved-requires-clause-payload g c =
    loop_payload c.args.self.now c.args.who c.args.call c.args.payload.now c.args.buf.now c.events.self c.look_ahead-looks.result.1 c.events.buf _
    (loop_seen c.args.self.now c.args.who c.args.call c.args.payload.now c.args.buf.now c.requires.payload c.look_ahead-looks.result.0 c.events.self c.events.phase c.look_ahead-looks.result.1 c.events.buf c.events.invariant.0
    c.events.invariant.1 c.look_ahead-looks.ensures.low (c.look_ahead-looks.ensures.events c.args.payload.now c.events.buf))

pub move_piece-moved-requires-clause-buf : goal.move_piece-moved-requires-clause-buf
move_piece-moved-requires-clause-buf g c =
    loop_buffer c.args.self.now c.args.who c.args.call c.args.payload.now c.args.buf.now c.events.self c.look_ahead-looks.result.1 c.events.buf _
    (loop_seen c.args.self.now c.args.who c.args.call c.args.payload.now c.args.buf.now c.requires.payload c.look_ahead-looks.result.0 c.events.self c.events.phase c.look_ahead-looks.result.1 c.events.buf c.events.invariant.0
    c.events.invariant.1 c.look_ahead-looks.ensures.low (c.look_ahead-looks.ensures.events c.args.payload.now c.events.buf))

pub event-requires-clause-payload : goal.event-requires-clause-payload
event-requires-clause-payload g c =
    loop_payload c.args.self.now c.args.who c.args.call c.args.payload.now c.args.buf.now c.move_piece-moved.new.self c.move_piece-moved.result.1 c.move_piece-moved.new.buf _
    (loop_moved c.args.self.now c.args.who c.args.call c.args.payload.now c.args.buf.now c.requires.payload c.move_piece-moved.result.0 c.events.self c.move_piece-moved.new.self c.look_ahead-looks.result.1 c.move_piece-moved.result.1 c.events.buf c.move_piece-moved.new.buf _
    (loop_seen c.args.self.now c.args.who c.args.call c.args.payload.now c.args.buf.now c.requires.payload c.look_ahead-looks.result.0 c.events.self c.events.phase c.look_ahead-looks.result.1 c.events.buf c.events.invariant.0
    c.events.invariant.1 c.look_ahead-looks.ensures.low (c.look_ahead-looks.ensures.events c.args.payload.now c.events.buf)) c.move_piece-moved.ensures.low c.move_piece-moved.ensures.page c.move_piece-moved.ensures.machine c.move_piece-moved.ensures.events)

pub event-requires-clause-buf : goal.event-requires-clause-buf
event-requires-clause-buf g c =
    loop_buffer c.args.self.now c.args.who c.args.call c.args.payload.now c.args.buf.now c.move_piece-moved.new.self c.move_piece-moved.result.1 c.move_piece-moved.new.buf _
    (loop_moved c.args.self.now c.args.who c.args.call c.args.payload.now c.args.buf.now c.requires.payload c.move_piece-moved.result.0 c.events.self c.move_piece-moved.new.self c.look_ahead-looks.result.1 c.move_piece-moved.result.1 c.events.buf c.move_piece-moved.new.buf _
    (loop_seen c.args.self.now c.args.who c.args.call c.args.payload.now c.args.buf.now c.requires.payload c.look_ahead-looks.result.0 c.events.self c.events.phase c.look_ahead-looks.result.1 c.events.buf c.events.invariant.0
    c.events.invariant.1 c.look_ahead-looks.ensures.low (c.look_ahead-looks.ensures.events c.args.payload.now c.events.buf)) c.move_piece-moved.ensures.low c.move_piece-moved.ensures.page c.move_piece-moved.ensures.machine c.move_piece-moved.ensures.events)

-- ---- an index and the look at the peer's bit, which moves on

on_moved : (g : Over) (c : goal.In-To-event g) → InLoop c.args.self.now c.args.who c.args.call c.args.payload.now c.args.buf.now (page_at c.move_piece-moved.new.self c.args.who c.move_piece-moved.result.1) c.move_piece-moved.new.buf (c.events.invariant.0 + c.look_ahead-looks.result.0 + c.move_piece-moved.result.0)
on_moved g c =
    loop_moved c.args.self.now c.args.who c.args.call c.args.payload.now c.args.buf.now c.requires.payload c.move_piece-moved.result.0 c.events.self c.move_piece-moved.new.self c.look_ahead-looks.result.1 c.move_piece-moved.result.1 c.events.buf c.move_piece-moved.new.buf _
    (loop_seen c.args.self.now c.args.who c.args.call c.args.payload.now c.args.buf.now c.requires.payload c.look_ahead-looks.result.0 c.events.self c.events.phase c.look_ahead-looks.result.1 c.events.buf c.events.invariant.0
    c.events.invariant.1 c.look_ahead-looks.ensures.low (c.look_ahead-looks.ensures.events c.args.payload.now c.events.buf)) c.move_piece-moved.ensures.low c.move_piece-moved.ensures.page c.move_piece-moved.ensures.machine c.move_piece-moved.ensures.events

on_shown : (g : Over) (c : goal.In-To-event g) → MovesAt c.args.who c.args.payload.now c.move_piece-moved.new.self c.event.new.self c.move_piece-moved.result.1 (To c.in-To-Notify.field-0) c.move_piece-moved.new.buf c.event.new.buf
on_shown g c = record {
  stands = c.in-To-Notify.ensures.stands;
  footprint = c.event.ensures.footprint;
  buffers = c.event.ensures.buffer;
  leads = c.in-To-Notify.ensures.rest;
  idle = c.event.ensures.idle;
  payload_left = c.in-To-Notify.ensures.payload_left;
  buffer_left = c.in-To-Notify.ensures.buffer_left;
  other = c.event.ensures.other;
}

on_noted : (g : Over) (c : goal.In-To-event g) → InLoop c.args.self.now c.args.who c.args.call c.args.payload.now c.args.buf.now (page_at c.event.new.self c.args.who (Notify c.in-To-Notify.bit c.in-To-Notify.answer)) c.event.new.buf (c.events.invariant.0 + c.look_ahead-looks.result.0 + c.move_piece-moved.result.0 + 1)
on_noted g c =
    subst (λ (phase : Phase). InLoop c.args.self.now c.args.who c.args.call c.args.payload.now c.args.buf.now (page_at c.event.new.self c.args.who phase) c.event.new.buf (c.events.invariant.0 + c.look_ahead-looks.result.0 + c.move_piece-moved.result.0 + 1)) c.in-To-Notify.field-0-is
    (loop_to c.args.self.now c.args.who c.args.call c.args.payload.now c.args.buf.now c.requires.payload c.move_piece-moved.new.self c.event.new.self c.move_piece-moved.result.1 c.in-To-Notify.field-0 c.move_piece-moved.new.buf c.event.new.buf _ (on_moved g c) (on_shown g c))

on_made : (g : Over) (c : goal.In-To-event g) → MovesAt c.args.who c.args.payload.now c.event.new.self c.event-in-To-Notify.new.self (Notify c.in-To-Notify.bit c.in-To-Notify.answer) (To c.in-To-event.next) c.event.new.buf c.event-in-To-Notify.new.buf
on_made g c = record {
  stands = c.in-To-event.ensures.stands;
  footprint = c.event-in-To-Notify.ensures.footprint;
  buffers = c.event-in-To-Notify.ensures.buffer;
  leads = c.in-To-event.ensures.rest;
  idle = c.event-in-To-Notify.ensures.idle;
  payload_left = c.in-To-event.ensures.payload_left;
  buffer_left = c.in-To-event.ensures.buffer_left;
  other = c.event-in-To-Notify.ensures.other;
}

pub events-smaller-in-To-event : goal.events-smaller-in-To-event
events-smaller-in-To-event g c =
    let short = loop_short c.args.self.now c.args.who c.args.call c.args.payload.now c.args.buf.now c.requires.payload (page_at c.event.new.self c.args.who (Notify c.in-To-Notify.bit c.in-To-Notify.answer)) c.event.new.buf _ (on_noted g c) in
    omega (arith, short, c.events.invariant.3, c.add.ensures, c.add-in-events.ensures, c.tick.ensures, c.tick-in-To-Notify.ensures)

pub events-preserved-in-To-event : goal.events-preserved-in-To-event
events-preserved-in-To-event g c = (
  c.events.invariant.0 + c.look_ahead-looks.result.0 + c.move_piece-moved.result.0 + 1 + 1,
  loop_to c.args.self.now c.args.who c.args.call c.args.payload.now c.args.buf.now c.requires.payload c.event.new.self c.event-in-To-Notify.new.self (Notify c.in-To-Notify.bit c.in-To-Notify.answer) c.in-To-event.next c.event.new.buf c.event-in-To-Notify.new.buf _ (on_noted g c) (on_made g c),
  c.event-in-To-Notify.ensures.idle,
  omega (arith, c.events.invariant.3, c.add.ensures, c.add-in-events.ensures, c.tick.ensures, c.tick-in-To-Notify.ensures),
)

-- ---- and which gives the answer

told_moved : (g : Over) (c : goal.In-Done-event g) → InLoop c.args.self.now c.args.who c.args.call c.args.payload.now c.args.buf.now (page_at c.move_piece-moved.new.self c.args.who c.move_piece-moved.result.1) c.move_piece-moved.new.buf (c.events.invariant.0 + c.look_ahead-looks.result.0 + c.move_piece-moved.result.0)
told_moved g c =
    loop_moved c.args.self.now c.args.who c.args.call c.args.payload.now c.args.buf.now c.requires.payload c.move_piece-moved.result.0 c.events.self c.move_piece-moved.new.self c.look_ahead-looks.result.1 c.move_piece-moved.result.1 c.events.buf c.move_piece-moved.new.buf _
    (loop_seen c.args.self.now c.args.who c.args.call c.args.payload.now c.args.buf.now c.requires.payload c.look_ahead-looks.result.0 c.events.self c.events.phase c.look_ahead-looks.result.1 c.events.buf c.events.invariant.0
    c.events.invariant.1 c.look_ahead-looks.ensures.low (c.look_ahead-looks.ensures.events c.args.payload.now c.events.buf)) c.move_piece-moved.ensures.low c.move_piece-moved.ensures.page c.move_piece-moved.ensures.machine c.move_piece-moved.ensures.events

told_shown : (g : Over) (c : goal.In-Done-event g) → MovesAt c.args.who c.args.payload.now c.move_piece-moved.new.self c.event.new.self c.move_piece-moved.result.1 (To c.in-To-Notify.field-0) c.move_piece-moved.new.buf c.event.new.buf
told_shown g c = record {
  stands = c.in-To-Notify.ensures.stands;
  footprint = c.event.ensures.footprint;
  buffers = c.event.ensures.buffer;
  leads = c.in-To-Notify.ensures.rest;
  idle = c.event.ensures.idle;
  payload_left = c.in-To-Notify.ensures.payload_left;
  buffer_left = c.in-To-Notify.ensures.buffer_left;
  other = c.event.ensures.other;
}

told_noted : (g : Over) (c : goal.In-Done-event g) → InLoop c.args.self.now c.args.who c.args.call c.args.payload.now c.args.buf.now (page_at c.event.new.self c.args.who (Notify c.in-To-Notify.bit c.in-To-Notify.answer)) c.event.new.buf (c.events.invariant.0 + c.look_ahead-looks.result.0 + c.move_piece-moved.result.0 + 1)
told_noted g c =
    subst (λ (phase : Phase). InLoop c.args.self.now c.args.who c.args.call c.args.payload.now c.args.buf.now (page_at c.event.new.self c.args.who phase) c.event.new.buf (c.events.invariant.0 + c.look_ahead-looks.result.0 + c.move_piece-moved.result.0 + 1)) c.in-To-Notify.field-0-is
    (loop_to c.args.self.now c.args.who c.args.call c.args.payload.now c.args.buf.now c.requires.payload c.move_piece-moved.new.self c.event.new.self c.move_piece-moved.result.1 c.in-To-Notify.field-0 c.move_piece-moved.new.buf c.event.new.buf _ (told_moved g c) (told_shown g c))

told_made : (g : Over) (c : goal.In-Done-event g) → MovesAt c.args.who c.args.payload.now c.event.new.self c.event-in-To-Notify.new.self (Notify c.in-To-Notify.bit c.in-To-Notify.answer) (Done c.in-Done-event.answer) c.event.new.buf c.event-in-To-Notify.new.buf
told_made g c = record {
  stands = c.in-Done-event.ensures.stands;
  footprint = c.event-in-To-Notify.ensures.footprint;
  buffers = c.event-in-To-Notify.ensures.buffer;
  leads = c.in-Done-event.ensures.rest;
  idle = c.event-in-To-Notify.ensures.idle;
  payload_left = c.in-Done-event.ensures.payload_left;
  buffer_left = c.in-Done-event.ensures.buffer_left;
  other = c.event-in-To-Notify.ensures.other;
}

told_ended : (g : Over) (c : goal.In-Done-event g) → IsEnded c.args.self.now c.args.who c.args.call c.args.payload.now c.args.buf.now c.event-in-To-Notify.new.self c.event-in-To-Notify.new.buf (c.events.invariant.0 + c.look_ahead-looks.result.0 + c.move_piece-moved.result.0 + 1 + 1) c.in-Done-event.answer
told_ended g c =
    loop_done c.args.self.now c.args.who c.args.call c.args.payload.now c.args.buf.now c.requires.payload c.event.new.self c.event-in-To-Notify.new.self (Notify c.in-To-Notify.bit c.in-To-Notify.answer) c.in-Done-event.answer c.event.new.buf c.event-in-To-Notify.new.buf _ (told_noted g c) (told_made g c)

pub returns-in-Done-event-clause-stands : goal.returns-in-Done-event-clause-stands
returns-in-Done-event-clause-stands g c = (told_ended g c).stands

pub returns-in-Done-event-clause-answer : goal.returns-in-Done-event-clause-answer
returns-in-Done-event-clause-answer g c = (told_ended g c).answers

pub returns-in-Done-event-clause-buffer : goal.returns-in-Done-event-clause-buffer
returns-in-Done-event-clause-buffer g c = (told_ended g c).fills

pub returns-in-Done-event-clause-other : goal.returns-in-Done-event-clause-other
returns-in-Done-event-clause-other g c = (told_ended g c).other

pub returns-in-Done-event-clause-bound : goal.returns-in-Done-event-clause-bound
returns-in-Done-event-clause-bound g c = let ended = told_ended g c in
    omega (arith, ended.short, c.events.invariant.3, c.add.ensures, c.add-in-events.ensures, c.tick.ensures, c.tick-in-To-Notify.ensures)

pub returns-in-Done-event-clause-trace : goal.returns-in-Done-event-clause-trace
returns-in-Done-event-clause-trace g c = let t = (told_ended g c).trace in
    (t.0, t.1, omega (arith, t.2, c.events.invariant.3, c.add.ensures, c.add-in-events.ensures, c.tick.ensures, c.tick-in-To-Notify.ensures), t.3)

pub returns-in-Done-event-clause-invariant : goal.returns-in-Done-event-clause-invariant
returns-in-Done-event-clause-invariant g c = λ core h kept.
    invariant_call core c.args.self.now c.args.who c.args.call c.args.payload.now h c.requires.honest c.requires.allowed c.requires.payload (λ k. omega (arith, c.type_inv.payload k)) kept

pub returns-in-Done-event-clause-lists : goal.returns-in-Done-event-clause-lists
returns-in-Done-event-clause-lists g c = λ core h lawful.
    page_follows_lists core c.args.self.now c.args.who c.args.call c.args.payload.now c.requires.allowed c.requires.payload
    (All-from_get_or (λ (byte : ℕ). byte < 256) c.args.payload.now 0 (λ i within. let low = c.type_inv.payload i in omega (arith, low))) h lawful

-- ---- another event, which moves on

then_moved : (g : Over) (c : goal.In-To g) → InLoop c.args.self.now c.args.who c.args.call c.args.payload.now c.args.buf.now (page_at c.move_piece-moved.new.self c.args.who c.move_piece-moved.result.1) c.move_piece-moved.new.buf (c.events.invariant.0 + c.look_ahead-looks.result.0 + c.move_piece-moved.result.0)
then_moved g c =
    loop_moved c.args.self.now c.args.who c.args.call c.args.payload.now c.args.buf.now c.requires.payload c.move_piece-moved.result.0 c.events.self c.move_piece-moved.new.self c.look_ahead-looks.result.1 c.move_piece-moved.result.1 c.events.buf c.move_piece-moved.new.buf _
    (loop_seen c.args.self.now c.args.who c.args.call c.args.payload.now c.args.buf.now c.requires.payload c.look_ahead-looks.result.0 c.events.self c.events.phase c.look_ahead-looks.result.1 c.events.buf c.events.invariant.0
    c.events.invariant.1 c.look_ahead-looks.ensures.low (c.look_ahead-looks.ensures.events c.args.payload.now c.events.buf)) c.move_piece-moved.ensures.low c.move_piece-moved.ensures.page c.move_piece-moved.ensures.machine c.move_piece-moved.ensures.events

then_made : (g : Over) (c : goal.In-To g) → MovesAt c.args.who c.args.payload.now c.move_piece-moved.new.self c.event.new.self c.move_piece-moved.result.1 (To c.in-To.next) c.move_piece-moved.new.buf c.event.new.buf
then_made g c = record {
  stands = c.in-To.ensures.stands;
  footprint = c.event.ensures.footprint;
  buffers = c.event.ensures.buffer;
  leads = c.in-To.ensures.rest;
  idle = c.event.ensures.idle;
  payload_left = c.in-To.ensures.payload_left;
  buffer_left = c.in-To.ensures.buffer_left;
  other = c.event.ensures.other;
}

pub events-smaller : goal.events-smaller
events-smaller g c =
    let short = loop_short c.args.self.now c.args.who c.args.call c.args.payload.now c.args.buf.now c.requires.payload (page_at c.move_piece-moved.new.self c.args.who c.move_piece-moved.result.1) c.move_piece-moved.new.buf _ (then_moved g c) in
    omega (arith, short, c.events.invariant.3, c.add.ensures, c.add-in-events.ensures, c.tick.ensures)

pub events-preserved : goal.events-preserved
events-preserved g c = (
  c.events.invariant.0 + c.look_ahead-looks.result.0 + c.move_piece-moved.result.0 + 1,
  loop_to c.args.self.now c.args.who c.args.call c.args.payload.now c.args.buf.now c.requires.payload c.move_piece-moved.new.self c.event.new.self c.move_piece-moved.result.1 c.in-To.next c.move_piece-moved.new.buf c.event.new.buf _ (then_moved g c) (then_made g c),
  c.event.ensures.idle,
  omega (arith, c.events.invariant.3, c.add.ensures, c.add-in-events.ensures, c.tick.ensures),
)

-- ---- and which gives the answer

last_moved : (g : Over) (c : goal.In-Done g) → InLoop c.args.self.now c.args.who c.args.call c.args.payload.now c.args.buf.now (page_at c.move_piece-moved.new.self c.args.who c.move_piece-moved.result.1) c.move_piece-moved.new.buf (c.events.invariant.0 + c.look_ahead-looks.result.0 + c.move_piece-moved.result.0)
last_moved g c =
    loop_moved c.args.self.now c.args.who c.args.call c.args.payload.now c.args.buf.now c.requires.payload c.move_piece-moved.result.0 c.events.self c.move_piece-moved.new.self c.look_ahead-looks.result.1 c.move_piece-moved.result.1 c.events.buf c.move_piece-moved.new.buf _
    (loop_seen c.args.self.now c.args.who c.args.call c.args.payload.now c.args.buf.now c.requires.payload c.look_ahead-looks.result.0 c.events.self c.events.phase c.look_ahead-looks.result.1 c.events.buf c.events.invariant.0
    c.events.invariant.1 c.look_ahead-looks.ensures.low (c.look_ahead-looks.ensures.events c.args.payload.now c.events.buf)) c.move_piece-moved.ensures.low c.move_piece-moved.ensures.page c.move_piece-moved.ensures.machine c.move_piece-moved.ensures.events

last_made : (g : Over) (c : goal.In-Done g) → MovesAt c.args.who c.args.payload.now c.move_piece-moved.new.self c.event.new.self c.move_piece-moved.result.1 (Done c.in-Done.answer) c.move_piece-moved.new.buf c.event.new.buf
last_made g c = record {
  stands = c.in-Done.ensures.stands;
  footprint = c.event.ensures.footprint;
  buffers = c.event.ensures.buffer;
  leads = c.in-Done.ensures.rest;
  idle = c.event.ensures.idle;
  payload_left = c.in-Done.ensures.payload_left;
  buffer_left = c.in-Done.ensures.buffer_left;
  other = c.event.ensures.other;
}

last_ended : (g : Over) (c : goal.In-Done g) → IsEnded c.args.self.now c.args.who c.args.call c.args.payload.now c.args.buf.now c.event.new.self c.event.new.buf (c.events.invariant.0 + c.look_ahead-looks.result.0 + c.move_piece-moved.result.0 + 1) c.in-Done.answer
last_ended g c =
    loop_done c.args.self.now c.args.who c.args.call c.args.payload.now c.args.buf.now c.requires.payload c.move_piece-moved.new.self c.event.new.self c.move_piece-moved.result.1 c.in-Done.answer c.move_piece-moved.new.buf c.event.new.buf _ (last_moved g c) (last_made g c)

pub returns-in-Done-clause-stands : goal.returns-in-Done-clause-stands
returns-in-Done-clause-stands g c = (last_ended g c).stands

pub returns-in-Done-clause-answer : goal.returns-in-Done-clause-answer
returns-in-Done-clause-answer g c = (last_ended g c).answers

pub returns-in-Done-clause-buffer : goal.returns-in-Done-clause-buffer
returns-in-Done-clause-buffer g c = (last_ended g c).fills

pub returns-in-Done-clause-other : goal.returns-in-Done-clause-other
returns-in-Done-clause-other g c = (last_ended g c).other

pub returns-in-Done-clause-bound : goal.returns-in-Done-clause-bound
returns-in-Done-clause-bound g c = let ended = last_ended g c in
    omega (arith, ended.short, c.events.invariant.3, c.add.ensures, c.add-in-events.ensures, c.tick.ensures)

pub returns-in-Done-clause-trace : goal.returns-in-Done-clause-trace
returns-in-Done-clause-trace g c = let t = (last_ended g c).trace in
    (t.0, t.1, omega (arith, t.2, c.events.invariant.3, c.add.ensures, c.add-in-events.ensures, c.tick.ensures), t.3)

pub returns-in-Done-clause-invariant : goal.returns-in-Done-clause-invariant
returns-in-Done-clause-invariant g c = λ core h kept.
    invariant_call core c.args.self.now c.args.who c.args.call c.args.payload.now h c.requires.honest c.requires.allowed c.requires.payload (λ k. omega (arith, c.type_inv.payload k)) kept

pub returns-in-Done-clause-lists : goal.returns-in-Done-clause-lists
returns-in-Done-clause-lists g c = λ core h lawful.
    page_follows_lists core c.args.self.now c.args.who c.args.call c.args.payload.now c.requires.allowed c.requires.payload
    (All-from_get_or (λ (byte : ℕ). byte < 256) c.args.payload.now 0 (λ i within. let low = c.type_inv.payload i in omega (arith, low))) h lawful
