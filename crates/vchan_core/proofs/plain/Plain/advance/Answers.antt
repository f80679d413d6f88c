use Rattle.std.proofs.Common.{◌≡◌, ℕ, ◌-◌, List, sym, subst, arith}
use Rattle.vchan_core.specs.declared.plain.Plain.{Plain}
use Rattle.vchan_core.specs.declared.phase.Phase.{Phase}
use Rattle.vchan_core.specs.declared.phase.Next.TheVariants.{To, Done}
use Rattle.vchan_core.proofs.WholeCall.AdvanceLaws.{InAdvance, advance_done, advance_first, advance_moved, advance_stop, advance_to}
use Rattle.vchan_core.proofs.WholeCall.LoopLaws.{MovesAt}
use Rattle.vchan_core.proofs.plain.Plain.advance.Goals as goal
use Rattle.vchan_core.proofs.plain.Plain.advance.Goals.{else-events-test, then-events-test+then-left-eq0}

pub events-init : goal.events-init
events-init c =
    advance_first c.args.self.now c.args.who c.args.most c.args.payload.now c.args.buf.now c.take_phase-phase.new.self c.take_phase-phase.result
    c.take_phase-phase.ensures.idle c.take_phase-phase.ensures.page c.take_phase-phase.ensures.words c.take_phase-phase.ensures.phase

pub returns-in-Done-clause-advances : goal.returns-in-Done-clause-advances
returns-in-Done-clause-advances c = λ core h has.
    let before = advance_moved c.args.self.now c.args.who c.args.most c.args.payload.now c.args.buf.now c.go_ahead-made.result.0 c.events.left c.events.self c.go_ahead-made.new.self c.events.phase c.go_ahead-made.result.1 c.events.buf c.go_ahead-made.new.buf
    c.go_ahead-made.ensures.within c.go_ahead-made.ensures.low c.go_ahead-made.ensures.page c.go_ahead-made.ensures.machine c.go_ahead-made.ensures.payload_left c.go_ahead-made.ensures.buffer_left c.go_ahead-made.auto.buf c.go_ahead-made.ensures.events c.events.invariant in
    let made : MovesAt c.args.who c.args.payload.now c.go_ahead-made.new.self c.event.new.self c.go_ahead-made.result.1 (Done c.in-Done.answer) c.go_ahead-made.new.buf c.event.new.buf = record {
      stands = c.in-Done.ensures.stands;
      footprint = c.event.ensures.footprint;
      buffers = c.event.ensures.buffer;
      leads = c.in-Done.ensures.rest;
      idle = c.event.ensures.idle;
      payload_left = c.in-Done.ensures.payload_left;
      buffer_left = c.in-Done.ensures.buffer_left;
      other = c.event.ensures.other;
    } in
    advance_done c.args.self.now c.args.who c.args.most c.args.payload.now c.args.buf.now (c.events.left - c.go_ahead-made.result.0) c.go_ahead-made.new.self c.event.new.self c.go_ahead-made.result.1 c.in-Done.answer c.go_ahead-made.new.buf c.event.new.buf
    (omega (arith, c.if-left-eq0.false)) made before core h has

pub events-preserved : goal.events-preserved
events-preserved c =
    let before = advance_moved c.args.self.now c.args.who c.args.most c.args.payload.now c.args.buf.now c.go_ahead-made.result.0 c.events.left c.events.self c.go_ahead-made.new.self c.events.phase c.go_ahead-made.result.1 c.events.buf c.go_ahead-made.new.buf
    c.go_ahead-made.ensures.within c.go_ahead-made.ensures.low c.go_ahead-made.ensures.page c.go_ahead-made.ensures.machine c.go_ahead-made.ensures.payload_left c.go_ahead-made.ensures.buffer_left c.go_ahead-made.auto.buf c.go_ahead-made.ensures.events c.events.invariant in
    let made : MovesAt c.args.who c.args.payload.now c.go_ahead-made.new.self c.event.new.self c.go_ahead-made.result.1 (To c.in-To.next) c.go_ahead-made.new.buf c.event.new.buf = record {
      stands = c.in-To.ensures.stands;
      footprint = c.event.ensures.footprint;
      buffers = c.event.ensures.buffer;
      leads = c.in-To.ensures.rest;
      idle = c.event.ensures.idle;
      payload_left = c.in-To.ensures.payload_left;
      buffer_left = c.in-To.ensures.buffer_left;
      other = c.event.ensures.other;
    } in
    advance_to c.args.self.now c.args.who c.args.most c.args.payload.now c.args.buf.now (c.events.left - c.go_ahead-made.result.0) c.go_ahead-made.new.self c.event.new.self c.go_ahead-made.result.1 c.in-To.next c.go_ahead-made.new.buf c.event.new.buf
    (omega (arith, c.if-left-eq0.false)) c.event.auto.buf made before

-- the loop, when no event is left
same_loop : (c : goal.After-set_phase) (left : ℕ) (page : Plain) (phase : Phase) (buffer : List ℕ) → c.events-test.self ≡ page → c.events-test.buf ≡ buffer → c.events-test.phase ≡ phase →
    InAdvance c.args.self.now c.args.who c.args.most c.args.payload.now c.args.buf.now left page phase buffer → InAdvance c.args.self.now c.args.who c.args.most c.args.payload.now c.args.buf.now left c.events-test.self c.events-test.phase c.events-test.buf
same_loop c left page phase buffer page_is buffer_is phase_is l =
    subst (λ (x : Plain). InAdvance c.args.self.now c.args.who c.args.most c.args.payload.now c.args.buf.now left x c.events-test.phase c.events-test.buf) (sym page_is)
    (subst (λ (x : Phase). InAdvance c.args.self.now c.args.who c.args.most c.args.payload.now c.args.buf.now left page x c.events-test.buf) (sym phase_is)
    (subst (λ (x : List ℕ). InAdvance c.args.self.now c.args.who c.args.most c.args.payload.now c.args.buf.now left page phase x) (sym buffer_is) l))

over : (c : goal.After-set_phase) → (left : ℕ) × (left ≡ 0) × InAdvance c.args.self.now c.args.who c.args.most c.args.payload.now c.args.buf.now left c.events-test.self c.events-test.phase c.events-test.buf
over c =
    elim c.events-test.branch [
      | else-events-test w ↦ (c.events.left, omega (arith, w.events-test.false), same_loop c c.events.left c.events.self c.events.phase c.events.buf w.self-is w.buf-is w.phase-is c.events.invariant)
      | then-events-test+then-left-eq0 w ↦ (
        c.events.left - w.go_ahead-made.result.0,
        omega (arith, w.if-left-eq0.true),
        same_loop c (c.events.left - w.go_ahead-made.result.0) w.go_ahead-made.new.self w.go_ahead-made.result.1 w.go_ahead-made.new.buf w.self-is w.buf-is w.phase-is
            (advance_moved c.args.self.now c.args.who c.args.most c.args.payload.now c.args.buf.now w.go_ahead-made.result.0 c.events.left c.events.self w.go_ahead-made.new.self c.events.phase w.go_ahead-made.result.1 c.events.buf w.go_ahead-made.new.buf
            w.go_ahead-made.ensures.within w.go_ahead-made.ensures.low w.go_ahead-made.ensures.page w.go_ahead-made.ensures.machine w.go_ahead-made.ensures.payload_left w.go_ahead-made.ensures.buffer_left w.go_ahead-made.auto.buf w.go_ahead-made.ensures.events c.events.invariant),
      )
    ]

pub returns-clause-advances : goal.returns-clause-advances
returns-clause-advances c = λ core h has.
    let l = over c in
    advance_stop c.args.self.now c.args.who c.args.most c.args.payload.now c.args.buf.now l.0 c.events-test.self c.set_phase.new.self c.events-test.phase c.events-test.buf l.1 c.set_phase.ensures.page c.set_phase.ensures.words c.set_phase.ensures.phase l.2 core h has
