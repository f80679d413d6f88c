-- A call of one end, one event at a time, whatever its peer does between them.
use Rattle.std.proofs.Common.{◌≡◌, ℕ, ◌+◌, ◌%◌, ◌<◌, ◌≤◌, Bool, ◌||◌, Option, Some, None, List, [], ◌∷◌, ◌++◌, length, take, drop, slice_set, refl, subst, sym, ap, ◌∙◌, arith, append-nil}
use Rattle.std.proofs.lemmas.List.{length-set, take_all, take-append-le}
use Rattle.vchan_protocol.specs.declared.op.Op.{Op}
use Rattle.vchan_protocol.specs.declared.op.Op.TheVariants.{Load, LoadByte, Store, StoreByte, Or, And, Swap, Nothing}
use Rattle.vchan_protocol.specs.declared.op.PastEvent.{PastEvent}
use Rattle.vchan_protocol.specs.declared.call.Answer.{Answer}
use Rattle.vchan_protocol.specs.declared.call.Answer.TheVariants.{Done}
use Rattle.vchan_protocol.specs.declared.call.Call.{Call}
use Rattle.vchan_protocol.specs.declared.side.Side.{Side}
use Rattle.vchan_protocol.specs.declared.side.Begun.{Begun}
use Rattle.vchan_protocol.specs.declared.side.EndedBy.{EndedBy}
use Rattle.vchan_protocol.specs.Table.Plan.{Plan, answers, does, after, rest_after, past, Leads, GoesOn}
use Rattle.vchan_protocol.specs.Table.Ends.{Standing}
use Rattle.vchan_protocol.specs.Table.Calls.{plan_of, stored_most, loaded_most, most_events}
use Rattle.vchan_protocol.specs.Table.Apply.{filled}
use Rattle.vchan_protocol.specs.History.Core.{begun_by, begins, begun_standing, standing_of, standing_along, plan_left, op_next, made, settled, side_after, ended_call, answered, answer_in, loaded_by, count_stored, bytes_loaded, drains, first_ended, ending, misleads}
use Rattle.vchan_protocol.specs.OneEnd.OneCall.{side_along, side_called, bytes_out, bytes_in, landed, OnWay, IsOver, MadeOneCall, IsThen, WayGoesOn, OverTells}
use Rattle.vchan_protocol.proofs.Table.PlanLaws.{Leads_more, rest_after_Leads}
use Rattle.vchan_protocol.proofs.Table.Counted.{Counted, Owes, counted_call, Counted_Leads}
use Rattle.vchan_protocol.proofs.Table.Bounds.{ends_call, length_Leads, length_Leads_more}
use Rattle.vchan_protocol.proofs.History.EventLaws.{owes_next}
use Rattle.vchan_protocol.proofs.History.WholeCallLaws.{bytes_loaded_push, set_next}
use Rattle.vchan_protocol.proofs.OneEnd.OneCallBytes.{answers_tell, along_trail}

-- ---- an end along its own events

side_along_push : (s : Side) (events : List PastEvent) (op : Op) (taken : ℕ) → side_along s (events ++ past op taken ∷ []) ≡ made (side_along s events) op taken
side_along_push s [] op taken = refl
side_along_push s (event ∷ events) op taken = side_along_push (made s event.op event.taken) events op taken

along_call : (s : Side) (events : List PastEvent) → (side_along s events).call ≡ s.call
along_call s [] = refl
along_call s (event ∷ events) = along_call (made s event.op event.taken) events

pub along_role : (s : Side) (events : List PastEvent) → (side_along s events).role ≡ s.role
along_role s [] = refl
along_role s (event ∷ events) = along_role (made s event.op event.taken) events

along_orders : (s : Side) (events : List PastEvent) → (side_along s events).orders ≡ s.orders
along_orders s [] = refl
along_orders s (event ∷ events) = along_orders (made s event.op event.taken) events

-- ---- on the way of a call

pub way_begins : (was : Side) (call : Call) (payload start : List ℕ) → OnWay was call payload start (begins was call payload) start
way_begins was call payload start = record { is = refl; led = refl; fills = refl }

-- what is left of a call of an end is what its trail leads to
left_is : (was : Side) (call : Call) (payload : List ℕ) (s : Side) (plan : Plan) → s ≡ side_along (begins was call payload) s.trail → Leads (plan_of (standing_of was) call) s.trail plan → plan_left s ≡ plan
left_is was call payload s plan is led =
    let began = begins was call payload in
    let calls : s.call ≡ Some (begun_by was call) = ap (λ (z : Side). z.call) is ∙ along_call began s.trail in
    let role : s.role ≡ was.role = ap (λ (z : Side). z.role) is ∙ along_role began s.trail in
    let orders : s.orders ≡ was.orders = ap (λ (z : Side). z.orders) is ∙ along_orders began s.trail in
    let stood : begun_standing s (begun_by was call) ≡ standing_of was = λ i. record { role = role i; orders = orders i; state = was.state; prod = was.prod; cons = was.cons } in
    subst (λ (c : Option Begun). elim c [ None ↦ answers Done | Some b ↦ rest_after (plan_of (begun_standing s b) b.call) s.trail ] ≡ plan) (sym calls)
    (ap (λ (e : Standing). rest_after (plan_of e call) s.trail) stood ∙ rest_after_Leads (plan_of (standing_of was) call) s.trail plan led)

lands_on : (e now : Standing) (out into s : ℕ) (bytes start : List ℕ) (op : Op) (taken : ℕ) → Owes e out into now s (length bytes) op → into ≤ length start → landed op taken (filled start bytes) ≡ filled start (bytes ++ loaded_by op taken)
lands_on e now out into s bytes start (LoadByte word at) taken owes long =
    ap (λ (n : ℕ). slice_set (filled start bytes) n (taken % 256)) owes.0 ∙ set_next bytes start (taken % 256) (omega (arith, owes.0, owes.1, long))
lands_on e now out into s bytes start (Load word) taken owes long = ap (λ (xs : List ℕ). filled start xs) (sym (append-nil bytes))
lands_on e now out into s bytes start (Store word value) taken owes long = ap (λ (xs : List ℕ). filled start xs) (sym (append-nil bytes))
lands_on e now out into s bytes start (StoreByte word at) taken owes long = ap (λ (xs : List ℕ). filled start xs) (sym (append-nil bytes))
lands_on e now out into s bytes start (Or word bits) taken owes long = ap (λ (xs : List ℕ). filled start xs) (sym (append-nil bytes))
lands_on e now out into s bytes start (And word bits) taken owes long = ap (λ (xs : List ℕ). filled start xs) (sym (append-nil bytes))
lands_on e now out into s bytes start (Swap word value) taken owes long = ap (λ (xs : List ℕ). filled start xs) (sym (append-nil bytes))
lands_on e now out into s bytes start Nothing taken owes long = ap (λ (xs : List ℕ). filled start xs) (sym (append-nil bytes))

-- how an answer settles an end
abbrev SettlesAs : Side → Plan → Option Answer → Type 0
SettlesAs s plan None = settled s plan ≡ s
SettlesAs s plan (Some answer) = (plan ≡ answers answer) × (settled s plan ≡ answered s answer)

-- one more event
module _ (was : Side) (call : Call) (payload start : List ℕ) (s : Side) (buffer : List ℕ) (taken : ℕ) (long : loaded_most (standing_of was) call ≤ length start) (w : OnWay was call payload start s buffer) (more : GoesOn (plan_left s)) where
  op : Op
  op = op_next s

  trail : List PastEvent
  trail = s.trail ++ past (op_next s) taken ∷ []

  then_led : Leads (plan_of (standing_of was) call) (s.trail ++ past (op_next s) taken ∷ []) (after (plan_left s) taken)
  then_led = Leads_more (plan_of (standing_of was) call) s.trail (plan_left s) taken more w.led

  then_made : made s (op_next s) taken ≡ side_along (begins was call payload) (s.trail ++ past (op_next s) taken ∷ [])
  then_made = ap (λ (z : Side). made z (op_next s) taken) w.is ∙ sym (side_along_push (begins was call payload) s.trail (op_next s) taken)

  owed : Owes (standing_of was) (stored_most (standing_of was) call) (loaded_most (standing_of was) call) (standing_along (standing_of was) s.trail) (0 + count_stored s.trail) (length (bytes_loaded s.trail)) (op_next s)
  owed =
      let e = standing_of was in
      let out = stored_most e call in
      let into = loaded_most e call in
      let there = Counted_Leads e out into e 0 0 (plan_of e call) s.trail (plan_left s) (counted_call e call) w.led in
      let same : 0 + length (bytes_loaded s.trail) ≡ length (bytes_loaded s.trail) = omega arith in
      owes_next e out into (standing_along e s.trail) (0 + count_stored s.trail) (length (bytes_loaded s.trail)) (plan_left s)
      (subst (λ (n : ℕ). Counted e out into (standing_along e s.trail) (0 + count_stored s.trail) n (plan_left s)) same there) more

  then_fills : landed (op_next s) taken buffer ≡ filled start (bytes_loaded (s.trail ++ past (op_next s) taken ∷ []))
  then_fills =
      ap (λ (b : List ℕ). landed (op_next s) taken b) w.fills
      ∙ lands_on (standing_of was) _ _ (loaded_most (standing_of was) call) _ (bytes_loaded s.trail) start (op_next s) taken owed long
      ∙ ap (λ (xs : List ℕ). filled start xs) (sym (bytes_loaded_push s.trail (op_next s) taken))

  settles_as : (plan : Plan) (result : Option Answer) → result ≡ answer_in plan → SettlesAs (made s (op_next s) taken) plan result
  settles_as (answers answer) result is = subst (λ (r : Option Answer). SettlesAs (made s (op_next s) taken) (answers answer) r) (sym is) (refl, refl)
  settles_as (does next_does next) result is = subst (λ (r : Option Answer). SettlesAs (made s (op_next s) taken) (does next_does next) r) (sym is) refl

  pub way_on : (result : Option Answer) (now : Side) (buffer' : List ℕ) → result ≡ answer_in (after (plan_left s) taken) → now ≡ side_after s taken → buffer' ≡ landed (op_next s) taken buffer →
      IsThen was call payload start now buffer' result
  way_on None now buffer' is stands lands =
      let same : now ≡ made s (op_next s) taken = stands ∙ settles_as (after (plan_left s) taken) None is in
      let along : now ≡ side_along (begins was call payload) now.trail = same ∙ then_made ∙ ap (λ (z : Side). side_along (begins was call payload) z.trail) (sym same) in
      let led : Leads (plan_of (standing_of was) call) now.trail (after (plan_left s) taken) = subst (λ (z : Side). Leads (plan_of (standing_of was) call) z.trail (after (plan_left s) taken)) (sym same) then_led in
      record {
        is = along;
        led = subst (λ (p : Plan). Leads (plan_of (standing_of was) call) now.trail p) (sym (left_is was call payload now (after (plan_left s) taken) along led)) led;
        fills = lands ∙ then_fills ∙ ap (λ (z : Side). filled start (bytes_loaded z.trail)) (sym same);
      }
  way_on (Some answer) now buffer' is stands lands =
      let both = settles_as (after (plan_left s) taken) (Some answer) is in
      let same : now ≡ answered (made s (op_next s) taken) answer = stands ∙ both.1 in
      record {
        is = same ∙ ap (λ (z : Side). answered z answer) then_made ∙ ap (λ (z : Side). side_called was call payload z.trail answer) (sym same);
        trace = subst (λ (z : Side). Leads (plan_of (standing_of was) call) z.trail (answers answer)) (sym same) (subst (λ (p : Plan). Leads (plan_of (standing_of was) call) (s.trail ++ past (op_next s) taken ∷ []) p) both.0 then_led);
        fills = lands ∙ then_fills ∙ ap (λ (z : Side). filled start (bytes_loaded z.trail)) (sym same);
      }

pub way_goes_on : (was : Side) (call : Call) (payload start : List ℕ) (s : Side) (buffer : List ℕ) → loaded_most (standing_of was) call ≤ length start → OnWay was call payload start s buffer → GoesOn (plan_left s) →
    WayGoesOn was call payload start s buffer
way_goes_on was call payload start s buffer long w more =
    let e = standing_of was in
    let few : length s.trail < most_events e call = length_Leads_more (plan_of e call) s.trail (plan_left s) (most_events e call) (ends_call e call) w.led more in
    record {
      few = omega (arith, few);
      next = λ taken. way_on was call payload start s buffer taken long w more (answer_in (after (plan_left s) taken)) (side_after s taken) (landed (op_next s) taken buffer) refl refl refl;
    }

-- ---- what an event leaves

pub landed_length : (op : Op) (taken : ℕ) (buffer : List ℕ) → length (landed op taken buffer) ≡ length buffer
landed_length (LoadByte word at) taken buffer = length-set buffer at (taken % 256)
landed_length (Load word) taken buffer = refl
landed_length (Store word value) taken buffer = refl
landed_length (StoreByte word at) taken buffer = refl
landed_length (Or word bits) taken buffer = refl
landed_length (And word bits) taken buffer = refl
landed_length (Swap word value) taken buffer = refl
landed_length Nothing taken buffer = refl

-- ---- what a call that is over tells

pub over_sent : (was : Side) (call : Call) (payload start : List ℕ) (s : Side) (buffer : List ℕ) (answer : Answer) → IsOver was call payload start s buffer answer → s.sent ≡ was.sent ++ take (bytes_out answer) payload
over_sent was call payload start s buffer answer o = ap (λ (z : Side). z.sent) o.is ∙ (answers_tell was call payload s.trail answer o.trace).sent

pub over_got : (was : Side) (call : Call) (payload start : List ℕ) (s : Side) (buffer : List ℕ) (answer : Answer) → IsOver was call payload start s buffer answer → s.got ≡ was.got ++ take (bytes_in answer) buffer
over_got was call payload start s buffer answer o =
    let t = answers_tell was call payload s.trail answer o.trace in
    let bytes = bytes_loaded s.trail in
    ap (λ (z : Side). z.got) o.is ∙ t.got ∙ ap (λ (xs : List ℕ). was.got ++ xs)
    (sym (take-append-le (length bytes) bytes (drop (length bytes) start) (omega arith) ∙ take_all (length bytes) bytes (omega arith)) ∙ ap (λ (xs : List ℕ). take (length bytes) xs) (sym o.fills) ∙ ap (λ (n : ℕ). take n buffer) t.loaded)

along_drained : (s : Side) (events : List PastEvent) → (side_along s events).drained ≡ s.drained
along_drained s [] = refl
along_drained s (event ∷ events) = along_drained (made s event.op event.taken) events

along_ended : (s : Side) (events : List PastEvent) → (side_along s events).ended ≡ s.ended
along_ended s [] = refl
along_ended s (event ∷ events) = along_ended (made s event.op event.taken) events

along_misled : (s : Side) (events : List PastEvent) → (side_along s events).misled ≡ s.misled
along_misled s [] = refl
along_misled s (event ∷ events) = along_misled (made s event.op event.taken) events

pub over_drained : (was : Side) (call : Call) (payload start : List ℕ) (s : Side) (buffer : List ℕ) (answer : Answer) → IsOver was call payload start s buffer answer → s.drained ≡ (was.drained || drains answer)
over_drained was call payload start s buffer answer o = ap (λ (z : Side). z.drained) o.is ∙ ap (λ (b : Bool). b || drains answer) (along_drained (begins was call payload) s.trail)

pub over_ended : (was : Side) (call : Call) (payload start : List ℕ) (s : Side) (buffer : List ℕ) (answer : Answer) → IsOver was call payload start s buffer answer → s.ended ≡ first_ended was.ended (ending answer)
over_ended was call payload start s buffer answer o = ap (λ (z : Side). z.ended) o.is ∙ ap (λ (e : Option EndedBy). first_ended e (ending answer)) (along_ended (begins was call payload) s.trail)

pub over_misled : (was : Side) (call : Call) (payload start : List ℕ) (s : Side) (buffer : List ℕ) (answer : Answer) → IsOver was call payload start s buffer answer → s.misled ≡ (was.misled || misleads answer)
over_misled was call payload start s buffer answer o = ap (λ (z : Side). z.misled) o.is ∙ ap (λ (b : Bool). b || misleads answer) (along_misled (begins was call payload) s.trail)

along_turned : (s : Side) (events : List PastEvent) → (side_along s events).turned ≡ s.turned
along_turned s [] = refl
along_turned s (event ∷ events) = along_turned (made s event.op event.taken) events

along_calls : (s : Side) (events : List PastEvent) → (side_along s events).calls ≡ s.calls
along_calls s [] = refl
along_calls s (event ∷ events) = along_calls (made s event.op event.taken) events

-- the call is the only one that the end has made since
pub over_once : (was : Side) (call : Call) (payload start : List ℕ) (s : Side) (buffer : List ℕ) (answer : Answer) → IsOver was call payload start s buffer answer → MadeOneCall was call s answer
over_once was call payload start s buffer answer o =
    let began = begins was call payload in
    record {
      calls = ap (λ (z : Side). z.calls) o.is ∙ (λ i. along_calls began s.trail i ++ ended_call (along_call began s.trail i) (along_trail began s.trail i) answer);
      bound = length_Leads (plan_of (standing_of was) call) s.trail (answers answer) (most_events (standing_of was) call) (ends_call (standing_of was) call) o.trace;
    }

pub over_tells : (was : Side) (call : Call) (payload start : List ℕ) (s : Side) (buffer : List ℕ) (answer : Answer) → IsOver was call payload start s buffer answer → OverTells was payload s buffer answer
over_tells was call payload start s buffer answer o = record {
  sent = over_sent was call payload start s buffer answer o;
  got = over_got was call payload start s buffer answer o;
  drained = over_drained was call payload start s buffer answer o;
  ended = over_ended was call payload start s buffer answer o;
  misled = over_misled was call payload start s buffer answer o;
  turned = ap (λ (z : Side). z.turned) o.is ∙ along_turned (begins was call payload) s.trail;
  idle = ap (λ (z : Side). z.call) o.is;
}
