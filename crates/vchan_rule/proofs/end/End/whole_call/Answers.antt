use Rattle.vchan_core.specs.OneMachine.Phases.{IsIdle}
use Rattle.std.proofs.Common.{◌≡◌, Option, None, IsSome, length, refl, ap, ◌∙◌, subst, arith}
use Rattle.std.proofs.lemmas.Bool.{false≢true}
use Rattle.vchan_protocol.specs.declared.call.Answer.{Answer}
use Rattle.vchan_protocol.specs.declared.side.Side.{Side}
use Rattle.vchan_rule.specs.Ends.{seen, IsSameEnd}
use Rattle.vchan_rule.proofs.CallLaws.{few_left, call_over, call_on, call_along, made_long, one_longer, seen_now, MakesOne, has_called}
use Rattle.vchan_rule.proofs.end.End.whole_call.Goals as goal

pub events-init : goal.events-init
events-init g c = c.in_default.ensures.starts.on refl

pub move_bytes-requires-clause-busy : goal.move_bytes-requires-clause-busy
move_bytes-requires-clause-busy g c = λ quiet. false≢true (subst (λ (r : Option Answer). IsSome r) c.in_default-step.is (c.step.ensures.idle.1 quiet))

pub move_bytes-requires-clause-out : goal.move_bytes-requires-clause-out
move_bytes-requires-clause-out g c = let i = c.events.invariant in omega (arith, c.step.ensures.out, i.out)

pub move_bytes-requires-clause-into : goal.move_bytes-requires-clause-into
move_bytes-requires-clause-into g c =
    let made_one = subst (λ (r : Option Answer). MakesOne c.events.self c.args.payload.now c.events.buf c.step.new.self c.step.new.buf r) c.in_default-step.is c.step.ensures.event in
    let long = made_long c.events.self c.args.payload.now c.events.buf c.step.new.self c.step.new.buf None made_one in
    let i = c.events.invariant in
    omega (arith, c.step.ensures.into, i.into, long)

pub events-smaller : goal.events-smaller
events-smaller g c =
    let few = few_left _ _ _ _ c.events.self c.events.buf c.events.invariant c.step.ensures.goes_on in
    let longer = one_longer c.events.self c.args.payload.now c.events.buf c.step.new.self c.step.new.buf c.step.result c.step.ensures.event in
    let now : length (seen c.move_bytes.new.self c.args.payload.now).trail ≡ length c.move_bytes.new.self.side.trail = ap (λ (s : Side). length s.trail) (seen_now c.move_bytes.new.self c.args.payload.now c.move_bytes.ensures.begun) in
    let along = c.move_bytes.ensures.along.longer in
    omega (arith, few, longer, now, along)

pub events-preserved : goal.events-preserved
events-preserved g c =
    let e = c.step.ensures in
    let m = c.move_bytes.ensures in
    let none = c.in_default-step.is in
    let made_one = subst (λ (r : Option Answer). MakesOne c.events.self c.args.payload.now c.events.buf c.step.new.self c.step.new.buf r) none e.event in
    let busy : ¬ IsIdle c.step.new.self.machine = λ quiet. false≢true (subst (λ (r : Option Answer). IsSome r) none (e.idle.1 quiet)) in
    let mid = call_on _ _ _ _ c.events.self c.events.buf c.step.new.self c.step.new.buf c.events.invariant e.goes_on made_one e.same busy e.out e.into e.begun e.payload in
    call_along _ _ _ _ c.step.new.self c.step.new.buf c.move_bytes.new.self c.move_bytes.new.buf mid e.begun m.along m.same m.busy m.out m.into m.begun m.payload

pub returns-in-Some : goal.returns-in-Some
returns-in-Some g c =
    let s = c.in-Some.ensures.starts in
    let o = s.over c.in-Some.answer refl in
    has_called c.args.self.now c.start.new.self c.args.call c.args.payload.now c.args.buf.now c.start.new.buf c.in-Some.answer c.start.ensures.honest c.requires.allowed s.same o.1 o.2 s.long o.0

pub returns-in-Some-step : goal.returns-in-Some-step
returns-in-Some-step g c =
    let i = c.events.invariant in
    let m = c.in-Some-step.ensures in
    let e = c.step.ensures in
    let over = call_over _ _ _ _ c.events.self c.events.buf c.step.new.self c.step.new.buf c.in-Some-step.answer i e.goes_on m.event in
    let same : IsSameEnd c.args.self.now c.step.new.self = (e.same.0 ∙ i.same.0, e.same.1 ∙ i.same.1, e.same.2 ∙ i.same.2, e.same.3 ∙ i.same.3) in
    let long = made_long c.events.self c.args.payload.now c.events.buf c.step.new.self c.step.new.buf c.step.result e.event ∙ i.long in
    has_called c.args.self.now c.step.new.self c.args.call c.args.payload.now c.args.buf.now c.step.new.buf c.in-Some-step.answer c.start.ensures.honest c.requires.allowed same (m.idle.0 refl) e.begun long over
