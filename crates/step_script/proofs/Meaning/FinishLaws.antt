-- The events of a call up to its answer are the rest of its plan.
use Rattle.std.proofs.Common.{◌≡◌, ℕ, suc, zero, ◌≤◌, Option, Some, None, List, [], ◌∷◌, ◌++◌, refl, subst, sym, ap, ◌∙◌, arith}
use Rattle.ring_words.specs.declared.page.Role.{Role}
use Rattle.ring_words.proofs.RingLaws.{size_within}
use Rattle.vchan_protocol.specs.declared.op.PastEvent.{PastEvent}
use Rattle.vchan_protocol.specs.declared.call.Answer.{Answer}
use Rattle.vchan_protocol.specs.declared.call.Answer.TheVariants.{Done}
use Rattle.vchan_protocol.specs.declared.call.Call.{Call}
use Rattle.vchan_protocol.specs.declared.call.Call.TheVariants.{Write, Send, Read, Recv, Drain, DataReady, BufferSpace, Connect, Close, TakeEvent, PeerGone, Retire}
use Rattle.vchan_protocol.specs.declared.side.Begun.{Begun}
use Rattle.vchan_protocol.specs.declared.side.Side.{Side}
use Rattle.vchan_core.specs.declared.machine.Machine.{Machine}
use Rattle.vchan_protocol.specs.History.WholeCall.{alone}
use Rattle.vchan_protocol.specs.Table.Apply.{value_taken}
use Rattle.vchan_protocol.specs.Table.Calls.{most_events, plan_of}
use Rattle.vchan_protocol.specs.History.Core.{Core, side_of, with_side, event, begun_standing, carried_out, answered, plan_left, plan_next, answer_in, made}
use Rattle.vchan_protocol.specs.Table.Ends.{Standing, read_order, write_order}
use Rattle.vchan_core.specs.Page.StandsFor.{IsMachineOf}
use Rattle.vchan_core.specs.OneMachine.Phases.{IsIdle}
use Rattle.vchan_protocol.specs.Table.Plan.{EndsWithin, GoesOn, Plan, answers, does, next_op, after, rest_after, past}
use Rattle.vchan_protocol.proofs.Table.Bounds.{ends_call, more_time}
use Rattle.vchan_core.proofs.OneMachine.PhaseLaws.{GoesOn_machine}
use Rattle.vchan_protocol.proofs.History.WholeCallLaws.{alone_after, alone_answers}
use Rattle.vchan_protocol.proofs.History.EventLaws.{event_by_answers, event_by_on, side_of_with_side}
use Rattle.vchan_core.proofs.Page.StepLaws.{InCall, in_call, plan_left_is}
use Rattle.vchan_protocol.proofs.History.EventLaws.{event_by}
use Rattle.vchan_core.specs.WholeCall.Stepped.{stepped, unless_answered}

-- ---- how many events are left

few_events : (e : Standing) (call : Call) → most_events e call ≤ 4294967295
few_events e (Write n) = omega (arith, (size_within (write_order e)).1)
few_events e (Send n) = omega (arith, (size_within (write_order e)).1)
few_events e (Read n) = omega (arith, (size_within (read_order e)).1)
few_events e (Recv n) = omega (arith, (size_within (read_order e)).1)
few_events e (Drain n) = omega (arith, (size_within (read_order e)).1)
few_events e DataReady = omega arith
few_events e BufferSpace = omega arith
few_events e Connect = omega arith
few_events e Close = omega arith
few_events e TakeEvent = omega arith
few_events e PeerGone = omega arith
few_events e Retire = omega arith

ends_left : (plan : Plan) (events : List PastEvent) (most : ℕ) → EndsWithin most plan → EndsWithin most (rest_after plan events)
unfolding EndsWithin
ends_left plan [] most w = w
ends_left (answers answer) (event ∷ events) most w = tt
ends_left (does op next) (event ∷ events) zero w = absurd w
ends_left (does op next) (event ∷ events) (suc most) w =
    more_time most (suc most) (rest_after (next event.taken) events) (omega arith) (ends_left (next event.taken) events most (w event.taken))

ends_next : (most : ℕ) (plan : Plan) (value : ℕ) → GoesOn plan → EndsWithin (suc most) plan → EndsWithin most (after plan value)
unfolding EndsWithin
ends_next most (answers answer) value more w = absurd more
ends_next most (does op next) value more w = w value

ends_never : (plan : Plan) → GoesOn plan → EndsWithin 0 plan → ⊥
unfolding EndsWithin
ends_never (answers answer) more w = more
ends_never (does op next) more w = w

-- ---- one event of a plan

rest_after_push : (plan : Plan) (events : List PastEvent) (event : PastEvent) → rest_after plan (events ++ event ∷ []) ≡ after (rest_after plan events) event.taken
rest_after_push (answers answer) [] event = refl
rest_after_push (does op next) [] event = refl
rest_after_push (answers answer) (first ∷ events) event = refl
rest_after_push (does op next) (first ∷ events) event = rest_after_push (next first.taken) events event

-- this end is inside this call, of which this plan is left
record IsInside (s : Side) (b : Begun) (plan : Plan) : Type 0 where
  call : s.call ≡ Some b
  left : rest_after (plan_of (begun_standing s b) b.call) s.trail ≡ plan

plan_inside : (s : Side) (b : Begun) (plan : Plan) → IsInside s b plan → plan_left s ≡ plan
plan_inside s b plan i =
    ap (λ (c : Option Begun). elim c [ None ↦ answers Done | Some x ↦ rest_after (plan_of (begun_standing s x) x.call) s.trail ]) i.call ∙ i.left

inside_on : (core : Core) (who : Role) (b : Begun) (plan : Plan) → IsInside (side_of core who) b plan →
    IsInside (side_of (carried_out core who (next_op plan)) who) b (after plan (value_taken core.orders core.words (next_op plan)))
inside_on core who b plan i =
    let s : Side = side_of core who in
    let value : ℕ = value_taken core.orders core.words (next_op plan) in
    subst (λ (x : Side). IsInside x b (after plan value)) (sym (side_of_with_side _ who (made s (next_op plan) value)))
    (record {
      call = i.call;
      left = rest_after_push (plan_of (begun_standing s b) b.call) s.trail (past (next_op plan) value) ∙ ap (λ (p : Plan). after p value) i.left;
    })

event_inside : (core : Core) (who : Role) (b : Begun) (plan : Plan) → IsInside (side_of core who) b plan → event core who ≡ event_by core who plan
unfolding event
event_inside core who b plan i = ap (λ (p : Plan). event_by core who p) (plan_inside (side_of core who) b plan i)

-- ---- all events of a plan

abbrev with_answer : Core × Answer → Core × Option Answer
with_answer p = (p.0, Some p.1)

next_answer : (core : Core) (who : Role) (b : Begun) (plan : Plan) → IsInside (side_of core who) b plan → (answer : Option Answer) →
    answer_in (after plan (value_taken core.orders core.words (next_op plan))) ≡ answer → answer_in (plan_next core who) ≡ answer
next_answer core who b plan i answer is =
    ap (λ (p : Plan). answer_in (after p (value_taken core.orders core.words (next_op p)))) (plan_inside (side_of core who) b plan i) ∙ is

-- one event more, after which this plan is left
stepped_next : (most : ℕ) (core : Core) (who : Role) (b : Begun) (plan : Plan) → IsInside (side_of core who) b plan → GoesOn plan → (behind : Plan) →
    after plan (value_taken core.orders core.words (next_op plan)) ≡ behind →
    (GoesOn behind → stepped most (carried_out core who (next_op plan)) who ≡ with_answer (alone (carried_out core who (next_op plan)) who behind)) →
    stepped (suc most) core who ≡ with_answer (alone core who plan)
unfolding stepped
stepped_next most core who b plan i more (answers answer) is later =
    let there : event core who ≡ with_side (carried_out core who (next_op plan)) who (answered (side_of (carried_out core who (next_op plan)) who) answer) =
    event_inside core who b plan i ∙ event_by_answers core who plan answer is in
    ap (λ (r : Option Answer). unless_answered r (event core who) (stepped most (event core who) who)) (next_answer core who b plan i (Some answer) (ap answer_in is))
    ∙ ap (λ (k : Core). with_answer (k, answer)) there ∙ sym (ap with_answer (alone_answers (carried_out core who (next_op plan)) who answer))
    ∙ sym (ap (λ (p : Plan). with_answer (alone (carried_out core who (next_op plan)) who p)) is) ∙ ap with_answer (alone_after core who plan more)
stepped_next most core who b plan i more (does op next) is later =
    let there : event core who ≡ carried_out core who (next_op plan) = event_inside core who b plan i ∙ event_by_on core who plan (subst GoesOn (sym is) tt) in
    ap (λ (r : Option Answer). unless_answered r (event core who) (stepped most (event core who) who)) (next_answer core who b plan i None (ap answer_in is))
    ∙ ap (λ (k : Core). stepped most k who) there ∙ later tt
    ∙ sym (ap (λ (p : Plan). with_answer (alone (carried_out core who (next_op plan)) who p)) is) ∙ ap with_answer (alone_after core who plan more)

stepped_alone : (most : ℕ) (core : Core) (who : Role) (b : Begun) (plan : Plan) → IsInside (side_of core who) b plan → EndsWithin most plan → GoesOn plan →
    stepped most core who ≡ with_answer (alone core who plan)
stepped_alone zero core who b plan i w more = absurd (ends_never plan more w)
stepped_alone (suc most) core who b plan i w more =
    let value : ℕ = value_taken core.orders core.words (next_op plan) in
    stepped_next most core who b plan i more (after plan value) refl
    (stepped_alone most (carried_out core who (next_op plan)) who b (after plan value) (inside_on core who b plan i) (ends_next most plan value more w))

-- an end that is inside a call comes to its answer
pub stepped_out : (core : Core) (who : Role) (m : Machine) → IsMachineOf (side_of core who) m → ¬ IsIdle m →
    stepped 4294967295 core who ≡ ((alone core who (plan_left (side_of core who))).0, Some (alone core who (plan_left (side_of core who))).1)
stepped_out core who m h busy =
    let s : Side = side_of core who in
    let c : InCall s m = in_call s m h busy in
    let e : Standing = begun_standing s c.begun in
    let plan : Plan = rest_after (plan_of e c.begun.call) s.trail in
    let left : plan_left s ≡ plan = plan_inside s c.begun plan (record { call = c.is; left = refl }) in
    let more : GoesOn plan = subst GoesOn (sym (plan_left_is s m c) ∙ left) (GoesOn_machine m busy) in
    let ends : EndsWithin 4294967295 plan =
    more_time (most_events e c.begun.call) 4294967295 plan (few_events e c.begun.call) (ends_left (plan_of e c.begun.call) s.trail (most_events e c.begun.call) (ends_call e c.begun.call)) in
    stepped_alone 4294967295 core who c.begun plan (record { call = c.is; left = refl }) ends more ∙ sym (ap (λ (p : Plan). with_answer (alone core who p)) left)
