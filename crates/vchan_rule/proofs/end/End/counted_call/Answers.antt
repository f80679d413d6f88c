use Rattle.std.proofs.Common.{◌≡◌, Option, IsSome, length, refl, ap, sym, ◌∙◌, subst, arith}
use Rattle.std.proofs.lemmas.Bool.{false≢true}
use Rattle.vchan_protocol.specs.declared.call.Answer.{Answer}
use Rattle.vchan_protocol.specs.declared.call.Call.{Call}
use Rattle.vchan_protocol.specs.declared.side.Side.{Side}
use Rattle.vchan_core.specs.OneMachine.Phases.{IsIdle}
use Rattle.vchan_rule.specs.Ends.{seen, seen_by, IsSameEnd}
use Rattle.vchan_rule.proofs.CallLaws.{few_left, call_over, call_on, made_long, one_longer, seen_now, MakesOne, has_called}
use Rattle.vchan_rule.proofs.GoingLaws.{starts_in}
use Rattle.vchan_rule.proofs.end.End.counted_call.Goals as goal

pub events-init : goal.events-init
events-init g c =
    let b = c.begin.ensures in
    let none : length (seen c.begin.new.self c.args.payload.now).trail ≡ 0 = ap (λ (k : Option Call). length (seen_by k c.begin.new.self.side c.args.payload.now).trail) b.begun in (
      starts_in c.args.self.now c.args.call c.args.payload.now c.args.buf.now c.begin.new.self b.same.0.0 b.same.0.3 b.same.1 b.begun b.busy b.out b.into c.requires.pays c.requires.room,
      omega (arith, none),
    )

pub events-smaller : goal.events-smaller
events-smaller g c =
    let few = few_left _ _ _ _ c.events.self c.events.buf c.events.invariant.0 c.step.ensures.goes_on in
    let longer = one_longer c.events.self c.args.payload.now c.events.buf c.step.new.self c.step.new.buf c.step.result c.step.ensures.event in
    let now : length (seen c.step.new.self c.args.payload.now).trail ≡ length c.step.new.self.side.trail = ap (λ (s : Side). length s.trail) (seen_now c.step.new.self c.args.payload.now c.step.ensures.begun) in
    omega (arith, few, longer, now)

pub events-preserved : goal.events-preserved
events-preserved g c =
    let e = c.step.ensures in
    let none = c.in_default.is in
    let made_one = subst (λ (r : Option Answer). MakesOne c.events.self c.args.payload.now c.events.buf c.step.new.self c.step.new.buf r) none e.event in
    let busy : ¬ IsIdle c.step.new.self.machine = λ quiet. false≢true (subst (λ (r : Option Answer). IsSome r) none (e.idle.1 quiet)) in
    let longer = one_longer c.events.self c.args.payload.now c.events.buf c.step.new.self c.step.new.buf c.step.result e.event in
    let now : length (seen c.step.new.self c.args.payload.now).trail ≡ length c.step.new.self.side.trail = ap (λ (s : Side). length s.trail) (seen_now c.step.new.self c.args.payload.now e.begun) in (
      call_on _ _ _ _ c.events.self c.events.buf c.step.new.self c.step.new.buf c.events.invariant.0 e.goes_on made_one e.same busy e.out e.into e.begun e.payload,
      omega (arith, longer, now, c.tick.ensures, c.events.invariant.1),
    )

pub returns-in-Some-clause-steps : goal.returns-in-Some-clause-steps
returns-in-Some-clause-steps g c =
    let longer = one_longer c.events.self c.args.payload.now c.events.buf c.step.new.self c.step.new.buf c.step.result c.step.ensures.event in
    omega (arith, longer, c.tick.ensures, c.events.invariant.1)

pub returns-in-Some-clause-called : goal.returns-in-Some-clause-called
returns-in-Some-clause-called g c =
    let i = c.events.invariant.0 in
    let m = c.in-Some.ensures in
    let e = c.step.ensures in
    let honest = ap (λ (s : Side). s.turned) (sym c.begin.ensures.same.1) ∙ c.begin.ensures.own.honest in
    let over = call_over _ _ _ _ c.events.self c.events.buf c.step.new.self c.step.new.buf c.in-Some.answer i e.goes_on m.event in
    let same : IsSameEnd c.args.self.now c.step.new.self = (e.same.0 ∙ i.same.0, e.same.1 ∙ i.same.1, e.same.2 ∙ i.same.2, e.same.3 ∙ i.same.3) in
    let long = made_long c.events.self c.args.payload.now c.events.buf c.step.new.self c.step.new.buf c.step.result e.event ∙ i.long in
    has_called c.args.self.now c.step.new.self c.args.call c.args.payload.now c.args.buf.now c.step.new.buf c.in-Some.answer honest c.requires.allowed same (m.idle.0 refl) e.begun long over
