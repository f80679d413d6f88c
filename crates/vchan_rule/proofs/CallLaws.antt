-- A call of an end, one event at a time, whatever its peer does between them.
use Rattle.std.proofs.Common.{◌≡◌, ℕ, ◌+◌, ◌<◌, ◌≤◌, ◌||◌, Bool, false, not, Option, Some, None, List, [], ◌∷◌, ◌++◌, length, take, refl, subst, sym, ap, ◌∙◌, arith}
use Rattle.std.proofs.lemmas.List.{length-append}
use Rattle.std.proofs.Math.Bool.{or-false}
use Rattle.vchan_protocol.specs.declared.op.PastEvent.{PastEvent}
use Rattle.vchan_protocol.specs.declared.call.Answer.{Answer}
use Rattle.vchan_protocol.specs.declared.call.Call.{Call}
use Rattle.vchan_protocol.specs.declared.call.Call.TheVariants.{Write, Send, Read, Recv, Drain}
use Rattle.vchan_protocol.specs.declared.side.Side.{Side}
use Rattle.vchan_protocol.specs.Table.Plan.{answers, after, past, GoesOn}
use Rattle.vchan_protocol.specs.Table.Ends.{Standing, standing_after, write_size, read_size}
use Rattle.vchan_protocol.specs.Table.Apply.{filled}
use Rattle.vchan_protocol.specs.Table.Calls.{payload_of, stored_most, loaded_most, most_events}
use Rattle.vchan_protocol.specs.History.Core.{begins, standing_of, plan_left, op_next, made, side_after, answer_in, bytes_loaded}
use Rattle.vchan_protocol.specs.OneEnd.EndingLaw.{notices, has_noticed}
use Rattle.vchan_protocol.specs.OneEnd.OneCall.{landed, side_along, OnWay, IsOver, IsThen}
use Rattle.vchan_protocol.proofs.OneEnd.OneCallBytes.{answers_tell}
use Rattle.vchan_protocol.proofs.OneEnd.OneCallWay.{way_goes_on, landed_length, over_tells, over_once}
use Rattle.vchan_protocol.proofs.Table.Counted.{counts_within}
use Rattle.vchan_protocol.proofs.Honest.LifeTrails.{or_assoc}
use Rattle.vchan_protocol.proofs.History.EventLaws.{settled_trail}
use Rattle.vchan_protocol.proofs.OneEnd.EndingSteps.{saw_after_lem}
use Rattle.vchan_core.specs.OneMachine.Phases.{IsIdle, payload_needed, buffer_needed}
use Rattle.vchan_core.specs.Page.StandsFor.{HasPayload}
use Rattle.end_view.specs.EndView.{view_of}
use Rattle.end_view.specs.AfterCall.{MayCall, answered_view, SeesAsTold}
use Rattle.end_view.proofs.ViewLaws.{view_after}
use Rattle.vchan_rule.specs.Seated.{SeatedEnd, view}
use Rattle.vchan_rule.specs.Ends.{seen, seen_by, Pays, IsSameEnd}
use Rattle.vchan_rule.specs.Along.{GoesAlong}
use Rattle.vchan_rule.specs.Going.{InCalls}
use Rattle.vchan_rule.specs.Called.{HasCalled}

-- ---- one event of a call

-- an event that took this value: its answer, and what it leaves of the end and of the buffer
pub way_on : (was : Side) (call : Call) (payload start : List ℕ) (s : Side) (buffer : List ℕ) (taken : ℕ) → loaded_most (standing_of was) call ≤ length start → OnWay was call payload start s buffer → GoesOn (plan_left s) →
    (result : Option Answer) (now : Side) (buffer' : List ℕ) → result ≡ answer_in (after (plan_left s) taken) → now ≡ side_after s taken → buffer' ≡ landed (op_next s) taken buffer → IsThen was call payload start now buffer' result
way_on was call payload start s buffer taken long w more result now buffer' answers_it stands lands =
    subst (λ (z : Option Answer × (Side × List ℕ)). IsThen was call payload start z.1.0 z.1.1 z.0) (λ i. (sym answers_it i, (sym stands i, sym lands i))) ((way_goes_on was call payload start s buffer long w more).next taken)

-- ---- the loop over the events of a call

abbrev pub MakesOne : SeatedEnd → List ℕ → List ℕ → SeatedEnd → List ℕ → Option Answer → Type 0
MakesOne e payload buffer e' buffer' result =
    (taken : ℕ) × (e'.side ≡ side_after (seen e payload) taken) × (result ≡ answer_in (after (plan_left (seen e payload)) taken)) × (buffer' ≡ landed (op_next (seen e payload)) taken buffer)

pub few_left : (was : SeatedEnd) (call : Call) (payload start : List ℕ) (e : SeatedEnd) (buffer : List ℕ) → InCalls was call payload start e buffer → GoesOn (plan_left (seen e payload)) →
    length (seen e payload).trail < most_events (standing_of was.side) call
few_left was call payload start e buffer i more =
    let few = (way_goes_on was.side call (take (payload_of call) payload) start (seen e payload) buffer i.enough i.way more).few in
    omega (arith, few)

pub call_over : (was : SeatedEnd) (call : Call) (payload start : List ℕ) (e : SeatedEnd) (buffer : List ℕ) (e' : SeatedEnd) (buffer' : List ℕ) (answer : Answer) → InCalls was call payload start e buffer → GoesOn (plan_left (seen e payload)) →
    MakesOne e payload buffer e' buffer' (Some answer) → IsOver was.side call (take (payload_of call) payload) start e'.side buffer' answer
call_over was call payload start e buffer e' buffer' answer i more m =
    way_on was.side call (take (payload_of call) payload) start (seen e payload) buffer m.0 i.enough i.way more (Some answer) e'.side buffer' m.2 m.1 m.3

pub one_longer : (e : SeatedEnd) (payload buffer : List ℕ) (e' : SeatedEnd) (buffer' : List ℕ) (result : Option Answer) → MakesOne e payload buffer e' buffer' result → length e'.side.trail ≡ length (seen e payload).trail + 1
one_longer e payload buffer e' buffer' result m =
    let s = seen e payload in
    let same : e'.side.trail ≡ s.trail ++ past (op_next s) m.0 ∷ [] = ap (λ (z : Side). z.trail) m.1 ∙ settled_trail (made s (op_next s) m.0) (after (plan_left s) m.0) in
    ap (λ (xs : List PastEvent). length xs) same ∙ omega (arith, length-append s.trail (past (op_next s) m.0 ∷ []))

pub seen_now : (e : SeatedEnd) (payload : List ℕ) → e.begun ≡ None → seen e payload ≡ e.side
seen_now e payload none = ap (λ (b : Option Call). seen_by b e.side payload) none

pub call_on : (was : SeatedEnd) (call : Call) (payload start : List ℕ) (e : SeatedEnd) (buffer : List ℕ) (e' : SeatedEnd) (buffer' : List ℕ) → InCalls was call payload start e buffer → GoesOn (plan_left (seen e payload)) →
    MakesOne e payload buffer e' buffer' None → IsSameEnd e e' → ¬ IsIdle e'.machine → payload_needed e'.machine ≤ payload_needed e.machine → buffer_needed e'.machine ≤ buffer_needed e.machine → e'.begun ≡ None → HasPayload e'.side payload →
    InCalls was call payload start e' buffer'
call_on was call payload start e buffer e' buffer' i more m same busy out into none has =
    let long : length buffer' ≡ length buffer = ap (λ (xs : List ℕ). length xs) m.3 ∙ landed_length (op_next (seen e payload)) m.0 buffer in
    record {
      same = (same.0 ∙ i.same.0, same.1 ∙ i.same.1, same.2 ∙ i.same.2, same.3 ∙ i.same.3);
      busy = busy;
      out = omega (arith, out, i.out);
      into = omega (arith, into, i.into, long);
      long = long ∙ i.long;
      enough = i.enough;
      pays = subst (λ (b : Option Call). Pays b e'.side payload) (sym none) has;
      way = subst (λ (s : Side). OnWay was.side call (take (payload_of call) payload) start s buffer') (sym (seen_now e' payload none))
          (way_on was.side call (take (payload_of call) payload) start (seen e payload) buffer m.0 i.enough i.way more None e'.side buffer' m.2 m.1 m.3);
    }

pub made_long : (e : SeatedEnd) (payload buffer : List ℕ) (e' : SeatedEnd) (buffer' : List ℕ) (result : Option Answer) → MakesOne e payload buffer e' buffer' result → length buffer' ≡ length buffer
made_long e payload buffer e' buffer' result m = ap (λ (xs : List ℕ). length xs) m.3 ∙ landed_length (op_next (seen e payload)) m.0 buffer

-- the same after more events that give no answer
pub call_along : (was : SeatedEnd) (call : Call) (payload start : List ℕ) (e : SeatedEnd) (buffer : List ℕ) (e' : SeatedEnd) (buffer' : List ℕ) → InCalls was call payload start e buffer → e.begun ≡ None →
    GoesAlong e.side buffer e'.side buffer' → IsSameEnd e e' → ¬ IsIdle e'.machine → payload_needed e'.machine ≤ payload_needed e.machine → buffer_needed e'.machine ≤ buffer_needed e.machine → e'.begun ≡ None → HasPayload e'.side payload →
    InCalls was call payload start e' buffer'
call_along was call payload start e buffer e' buffer' i quiet along same busy out into none has =
    record {
      same = (same.0 ∙ i.same.0, same.1 ∙ i.same.1, same.2 ∙ i.same.2, same.3 ∙ i.same.3);
      busy = busy;
      out = omega (arith, out, i.out);
      into = omega (arith, into, i.into, along.long);
      long = along.long ∙ i.long;
      enough = i.enough;
      pays = subst (λ (b : Option Call). Pays b e'.side payload) (sym none) has;
      way = subst (λ (s : Side). OnWay was.side call (take (payload_of call) payload) start s buffer') (sym (seen_now e' payload none))
          (along.way was.side call (take (payload_of call) payload) start i.enough (subst (λ (s : Side). OnWay was.side call (take (payload_of call) payload) start s buffer) (seen_now e payload quiet) i.way));
    }

-- ---- what a whole call makes of the view of its end

pub called_view : (was e : SeatedEnd) (call : Call) (payload start buffer : List ℕ) (answer : Answer) → was.side.turned ≡ false → MayCall (view was) call → e.page ≡ was.page → IsIdle e.machine → IsOver was.side call payload start e.side buffer answer →
    view e ≡ answered_view (view was) call payload buffer answer e.side.saw
called_view was e call payload start buffer answer honest may page idle over =
    let told = (view_after was.page was.side call payload start e.side buffer answer honest may.1 over).view in
    (λ i. view_of (page i) (ap not idle i) e.side) ∙ told ∙ ap (λ (b : Bool). answered_view (view_of was.page b was.side) call payload buffer answer e.side.saw) (sym may.0)

pub called_saw : (was e : SeatedEnd) (call : Call) (payload start buffer : List ℕ) (answer : Answer) → was.side.turned ≡ false → MayCall (view was) call → IsOver was.side call payload start e.side buffer answer → SeesAsTold call answer was.side.saw e.side.saw
called_saw was e call payload start buffer answer honest may over = (view_after was.page was.side call payload start e.side buffer answer honest may.1 over).saw

-- no call may store or load more than the ring holds
stored_ring : (e : Standing) (call : Call) → stored_most e call ≤ write_size e
stored_ring e (Write n) = omega arith
stored_ring e (Send n) = omega arith
stored_ring e _ = omega arith

loaded_ring : (e : Standing) (call : Call) → loaded_most e call ≤ read_size e
loaded_ring e (Read n) = omega arith
loaded_ring e (Recv n) = omega arith
loaded_ring e (Drain n) = omega arith
loaded_ring e _ = omega arith

-- a buffer in whose front nothing was put is as it was
none_filled : (start bytes : List ℕ) → length bytes ≡ 0 → filled start bytes ≡ start
none_filled start [] none = refl
none_filled start (byte ∷ bytes) none = let never : ⊥ = omega (arith, none) in absurd never

along_saw : (s : Side) (events : List PastEvent) → (side_along s events).saw ≡ (s.saw || has_noticed (standing_of s) events)
unfolding standing_after
along_saw s [] = sym (or-false s.saw)
along_saw s (event ∷ events) =
    along_saw (made s event.op event.taken) events
    ∙ ap (λ (b : Bool). b || has_noticed (standing_after (standing_of s) event.op) events) (saw_after_lem s event.op event.taken)
    ∙ or_assoc s.saw (notices (standing_of s) event.op event.taken) (has_noticed (standing_after (standing_of s) event.op) events)

-- a call that is over, with all that its contract states
pub has_called : (was e : SeatedEnd) (call : Call) (payload start buffer : List ℕ) (answer : Answer) → was.side.turned ≡ false → MayCall (view was) call → IsSameEnd was e → IsIdle e.machine → e.begun ≡ None → length buffer ≡ length start →
    IsOver was.side call (take (payload_of call) payload) start e.side buffer answer → HasCalled was call payload start e buffer answer
has_called was e call payload start buffer answer honest may same idle none long over =
    let given = take (payload_of call) payload in
    let moved = answers_tell was.side call given e.side.trail answer over.trace in
    let within = counts_within (standing_of was.side) call e.side.trail (answers answer) over.trace in
    record {
      same = same;
      idle = (idle, none);
      over = over;
      once = over_once was.side call given start e.side buffer answer over;
      tells = over_tells was.side call given start e.side buffer answer over;
      view = called_view was e call given start buffer answer honest may same.0 idle over;
      saw = called_saw was e call given start buffer answer honest may over;
      noticed = ap (λ (z : Side). z.saw) over.is ∙ along_saw (begins was.side call given) e.side.trail;
      moved = (moved.pays, moved.takes);
      stored = omega (arith, within.0, stored_ring (standing_of was.side) call);
      loaded = omega (arith, within.1, loaded_ring (standing_of was.side) call);
      kept = λ none. over.fills ∙ none_filled start (bytes_loaded e.side.trail) (moved.loaded ∙ none);
      long = long;
    }
