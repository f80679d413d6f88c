-- The answers of a connect and of a drain, and the events of a close and of a retire.
use Rattle.std.proofs.Common.{◌≡◌, ◌↔◌, ℕ, suc, zero, ◌+◌, ◌≤◌, ◌==◌, ◌||◌, bit_and, if◌then◌else◌, Bool, true, false, not, Result, Ok, Err, List, [], ◌∷◌, ◌++◌, refl, sym, ap, ◌∙◌, subst, arith, append-nil}
use Rattle.std.proofs.Math.Bool.{or-false, or-true}
use Rattle.vchan_protocol.specs.declared.op.Op.{Op}
use Rattle.vchan_protocol.specs.declared.op.Op.TheVariants.{Store, Or}
use Rattle.vchan_protocol.specs.declared.op.PastEvent.{PastEvent}
use Rattle.vchan_protocol.specs.declared.call.Answer.{Answer}
use Rattle.vchan_protocol.specs.declared.call.Answer.TheVariants.{Got, Done, BadOrders as Refuses}
use Rattle.vchan_protocol.specs.declared.call.Call.{Call}
use Rattle.vchan_protocol.specs.declared.call.Call.TheVariants.{Connect, Drain, Close, Retire}
use Rattle.vchan_protocol.specs.declared.call.Bit.TheVariants.{Written, Consumed}
use Rattle.vchan_protocol.specs.declared.call.EndState.{EndState}
use Rattle.vchan_protocol.specs.declared.call.EndState.TheVariants.{Fresh, Open, Shut}
use Rattle.vchan_protocol.specs.Table.Plan.{Plan, does, answers, Leads}
use Rattle.vchan_protocol.specs.Table.Ends.{Standing, own_live, own_gone, peer_pending, ask_word, mask, ready_at, low32}
use Rattle.vchan_protocol.specs.Table.Calls.{Trace, close, retire, retire_shut, drain, ask, signal, notify, take, take_bytes, take_index}
use Rattle.vchan_protocol.specs.Answering.Causes.{DrainCause, drain_got, drain_all_read, drain_not_yet, drain_peer_gone, ConnectCause, connect_agrees, connect_refused}
use Rattle.vchan_protocol.specs.Answering.Loads.{loads_of}
use Rattle.vchan_protocol.specs.OneEnd.EndingLaw.{tells_end}
use Rattle.vchan_core.specs.OneMachine.Phases.{IsIdle}
use Rattle.end_view.specs.EndView.{EndView, view_of}
use Rattle.end_view.specs.AfterCall.{answered_view, state_told, retires, SeesAsTold}
use Rattle.end_view.proofs.QuietLaws.{ended_no}
use Rattle.vchan_rule.specs.Seated.{SeatedEnd, SeatedSide, view, last_view}
use Rattle.vchan_protocol.proofs.Answering.AnswerLaws.{has_cause, each_cause}
use Rattle.vchan_lifecycle.specs.declared.BadOrders.{BadOrders}
use Rattle.vchan_lifecycle.specs.declared.DrainAnswer.{DrainAnswer}
use Rattle.vchan_lifecycle.specs.declared.DrainAnswer.TheVariants.{More, NotYet as IsNotYet, AllRead as IsAllRead, PeerGone as IsPeerGone}
use Rattle.vchan_lifecycle.specs.Lifecycle.{AnswersDrain, AnswersConnect, drain_told, connect_told, ops, close_ops, retire_ops, shut, retired_view, asks, has_asked, found_none_first}

-- ---- a drain

drain_ends : (e : Standing) (n : ℕ) (events : List PastEvent) (answer : Answer) → DrainCause e n (loads_of e events) answer → AnswersDrain answer
drain_ends e n events answer (drain_got last older at none going some is) = subst AnswersDrain (sym is) tt
drain_ends e n events answer (drain_all_read all is) = subst AnswersDrain (sym is) tt
drain_ends e n events answer (drain_not_yet last at none going here is) = subst AnswersDrain (sym is) tt
drain_ends e n events answer (drain_peer_gone last at none going gone is) = subst AnswersDrain (sym is) tt

pub drain_answers : (e : Standing) (n : ℕ) (events : List PastEvent) (answer : Answer) → Trace e (Drain n) events answer → AnswersDrain answer
drain_answers e n events answer trace = drain_ends e n events answer (has_cause e (Drain n) events answer trace)

same_drain : (a b : DrainAnswer) → drain_told a ≡ drain_told b → a ≡ b
same_drain (More k) (More l) is = cc
same_drain (More k) (IsNotYet p c) is = cc
same_drain (More k) IsAllRead is = cc
same_drain (More k) (IsPeerGone p c) is = cc
same_drain (IsNotYet p c) (More l) is = cc
same_drain (IsNotYet p c) (IsNotYet q d) is = cc
same_drain (IsNotYet p c) IsAllRead is = cc
same_drain (IsNotYet p c) (IsPeerGone q d) is = cc
same_drain IsAllRead (More l) is = cc
same_drain IsAllRead (IsNotYet q d) is = cc
same_drain IsAllRead IsAllRead is = refl
same_drain IsAllRead (IsPeerGone q d) is = cc
same_drain (IsPeerGone p c) (More l) is = cc
same_drain (IsPeerGone p c) (IsNotYet q d) is = cc
same_drain (IsPeerGone p c) IsAllRead is = cc
same_drain (IsPeerGone p c) (IsPeerGone q d) is = cc

pub drain_cause : (e : Standing) (n : ℕ) (events : List PastEvent) (result : DrainAnswer) → Trace e (Drain n) events (drain_told result) → (other : DrainAnswer) → (result ≡ other) ↔ DrainCause e n (loads_of e events) (drain_told other)
drain_cause e n events result trace other =
    let each = each_cause e (Drain n) events (drain_told result) trace (drain_told other) in
    (λ is. each.0 (ap drain_told is), λ cause. same_drain result other (each.1 cause))

-- what was got is at least one byte, if at least one was asked for
abbrev GotSome : Answer → Type 0
GotSome (Got count) = 1 ≤ count
GotSome _ = Unit {0}

got_some : (e : Standing) (n : ℕ) (events : List PastEvent) (answer : Answer) → 1 ≤ n → DrainCause e n (loads_of e events) answer → GotSome answer
got_some e n events answer asks (drain_got last older at none going some is) = subst GotSome (sym is) (omega (arith, asks, some))
got_some e n events answer asks (drain_all_read all is) = subst GotSome (sym is) tt
got_some e n events answer asks (drain_not_yet last at none going here is) = subst GotSome (sym is) tt
got_some e n events answer asks (drain_peer_gone last at none going gone is) = subst GotSome (sym is) tt

pub drain_some : (e : Standing) (n : ℕ) (events : List PastEvent) (result : DrainAnswer) → 1 ≤ n → Trace e (Drain n) events (drain_told result) → (count : ℕ) → result ≡ More count → 1 ≤ count
drain_some e n events result asks trace count is = subst (λ (a : DrainAnswer). GotSome (drain_told a)) is (got_some e n events (drain_told result) asks (has_cause e (Drain n) events (drain_told result) trace))

-- ---- a connect

connect_ends : (e : Standing) (events : List PastEvent) (answer : Answer) → ConnectCause e (loads_of e events) answer → AnswersConnect answer
connect_ends e events answer (connect_agrees left right at to says is) = subst AnswersConnect (sym is) tt
connect_ends e events answer (connect_refused left right at to says is) = subst AnswersConnect (sym is) tt

pub connect_answers : (e : Standing) (events : List PastEvent) (answer : Answer) → Trace e Connect events answer → AnswersConnect answer
connect_answers e events answer trace = connect_ends e events answer (has_cause e Connect events answer trace)

same_orders : (a b : BadOrders) → Refuses a.left a.right ≡ Refuses b.left b.right → a ≡ b
same_orders a b is = let left : a.left ≡ b.left = cc in let right : a.right ≡ b.right = cc in λ i. record { left = left i; right = right i }

same_connect : (a b : Result (Unit {0}) BadOrders) → connect_told a ≡ connect_told b → a ≡ b
same_connect (Ok x) (Ok y) is = refl
same_connect (Ok x) (Err b) is = cc
same_connect (Err a) (Ok y) is = cc
same_connect (Err a) (Err b) is = ap Err (same_orders a b is)

pub connect_cause : (e : Standing) (events : List PastEvent) (result : Result (Unit {0}) BadOrders) → Trace e Connect events (connect_told result) → (other : Result (Unit {0}) BadOrders) → (result ≡ other) ↔ ConnectCause e (loads_of e events) (connect_told other)
connect_cause e events result trace other =
    let each = each_cause e Connect events (connect_told result) trace (connect_told other) in
    (λ is. each.0 (ap connect_told is), λ cause. same_connect result other (each.1 cause))

-- ---- the events of a close and a retire

-- the first event, if the plan has one left
record First (op : Op) (next : ℕ → Plan) (events : List PastEvent) (answer : Answer) : Type 0 where
  taken : ℕ
  later : List PastEvent
  ops_are : ops events ≡ op ∷ ops later
  led : Leads (next taken) later (answers answer)

no_answer : (op : Op) (next : ℕ → Plan) (answer : Answer) → does op next ≡ answers answer → ⊥
no_answer op next answer is = cc

first : (op : Op) (next : ℕ → Plan) (events : List PastEvent) (answer : Answer) → Leads (does op next) events (answers answer) → First op next events answer
first op next [] answer led = absurd (no_answer op next answer led)
first op next (event ∷ events) answer led = record { taken = event.taken; later = events; ops_are = ap (λ (o : Op). o ∷ ops events) led.0; led = led.1 }

last : (done : Answer) (events : List PastEvent) (answer : Answer) → Leads (answers done) events (answers answer) → ops events ≡ []
last done [] answer led = refl
last done (event ∷ events) answer led = absurd led

-- two stores, and what comes later
two : (one other : Op) (next : Plan) (events : List PastEvent) (answer : Answer) → Leads (does one (λ _. does other (λ _. next))) events (answers answer) →
    (later : List PastEvent) × (ops events ≡ one ∷ other ∷ ops later) × Leads next later (answers answer)
two one other next events answer led =
    let a = first one (λ _. does other (λ _. next)) events answer led in
    let b = first other (λ _. next) a.later answer a.led in
    (b.later, a.ops_are ∙ ap (λ (xs : List Op). one ∷ xs) b.ops_are, b.led)

pub close_events : (e : Standing) (events : List PastEvent) (answer : Answer) → Trace e Close events answer → ops events ≡ close_ops e.role
close_events e events answer trace =
    let t = two (Store (own_live e.role) 0) (Store (peer_pending e.role) 1) (answers Done) events answer trace in
    t.1 ∙ ap (λ (xs : List Op). Store (own_live e.role) 0 ∷ Store (peer_pending e.role) 1 ∷ xs) (last Done t.0 answer t.2)

shut_events : (e : Standing) (events : List PastEvent) (answer : Answer) → Leads (retire_shut e) events (answers answer) → ops events ≡ Store (own_gone e.role) 1 ∷ Store (peer_pending e.role) 1 ∷ []
shut_events e events answer led =
    let t = two (Store (own_gone e.role) 1) (Store (peer_pending e.role) 1) (answers Done) events answer led in
    t.1 ∙ ap (λ (xs : List Op). Store (own_gone e.role) 1 ∷ Store (peer_pending e.role) 1 ∷ xs) (last Done t.0 answer t.2)

going_events : (e : Standing) (events : List PastEvent) (answer : Answer) → Leads (close e (retire_shut e)) events (answers answer) → ops events ≡ close_ops e.role ++ Store (own_gone e.role) 1 ∷ Store (peer_pending e.role) 1 ∷ []
going_events e events answer led =
    let t = two (Store (own_live e.role) 0) (Store (peer_pending e.role) 1) (retire_shut e) events answer led in
    t.1 ∙ ap (λ (xs : List Op). Store (own_live e.role) 0 ∷ Store (peer_pending e.role) 1 ∷ xs) (shut_events e t.0 answer t.2)

pub retire_events : (e : Standing) (events : List PastEvent) (answer : Answer) → Trace e Retire events answer → ops events ≡ retire_ops e.role e.state
retire_events e events answer trace = go e.state trace
  where
    go : (state : EndState) → Leads (retire e state) events (answers answer) → ops events ≡ retire_ops e.role state
    go Fresh led = going_events e events answer led
    go Open led = going_events e events answer led
    go Shut led = shut_events e events answer led

-- ---- what a drain asks for

-- no event of what is left of a call asks for a signal
abbrev IsQuiet : Plan → Answer → Type 0
IsQuiet plan answer = (events : List PastEvent) → Leads plan events (answers answer) → has_asked (ops events) ≡ false

quiet_answer : (done answer : Answer) → IsQuiet (answers done) answer
quiet_answer done answer events led = ap has_asked (last done events answer led)

quiet_event : (op : Op) (next : ℕ → Plan) (answer : Answer) → asks op ≡ false → ((taken : ℕ) → IsQuiet (next taken) answer) → IsQuiet (does op next) answer
quiet_event op next answer quiet later events led =
    let f = first op next events answer led in
    ap has_asked f.ops_are ∙ (λ i. quiet i || has_asked (ops f.later)) ∙ later f.taken f.later f.led

quiet_if : (test : Bool) (one other : Plan) (answer : Answer) → IsQuiet one answer → IsQuiet other answer → IsQuiet (if test then one else other) answer
quiet_if true one other answer a b = a
quiet_if false one other answer a b = b

quiet_bytes : (e : Standing) (i k : ℕ) (next : Plan) (answer : Answer) → IsQuiet next answer → IsQuiet (take_bytes e i k next) answer
quiet_bytes e i zero next answer quiet = quiet
quiet_bytes e i (suc k) next answer quiet = quiet_event _ (λ _. take_bytes e (i + 1) k next) answer refl (λ taken. quiet_bytes e (i + 1) k next answer quiet)

quiet_take : (e : Standing) (k : ℕ) (done answer : Answer) → IsQuiet (take e k (answers done)) answer
quiet_take e k done answer =
    let over = quiet_answer done answer in
    let signals = quiet_event (Store (peer_pending e.role) 1) (λ _. answers done) answer refl (λ taken. over) in
    let notifies = quiet_event _ (λ old. if bit_and old (mask Consumed) == 0 then answers done else signal e (answers done)) answer refl (λ old. quiet_if (bit_and old (mask Consumed) == 0) _ _ answer over signals) in
    quiet_bytes e 0 k (take_index e k (answers done)) answer (quiet_event _ (λ _. notify e Consumed (answers done)) answer refl (λ taken. notifies))

-- if no byte was found the next event asks, and else none does
asks_next : (e : Standing) (k : ℕ) (none : Bool) (next : Plan) (done answer : Answer) (events : List PastEvent) → Leads (if none then ask e Written next else take e k (answers done)) events (answers answer) → has_asked (ops events) ≡ none
asks_next e k true next done answer events led = ap has_asked (first (Or (ask_word e.role) (mask Written)) (λ _. next) events answer led).ops_are
asks_next e k false next done answer events led = quiet_take e k done answer events led

pub drain_asks : (e : Standing) (n : ℕ) (events : List PastEvent) (answer : Answer) → Trace e (Drain n) events answer → has_asked (ops events) ≡ found_none_first e events
unfolding drain
drain_asks e n [] answer trace = absurd (no_answer _ _ answer trace)
drain_asks e n (event ∷ later) answer trace =
    (λ i. asks (trace.0 i) || has_asked (ops later)) ∙ asks_next e _ (ready_at e (low32 event.taken) == 0) _ _ answer later trace.1

-- a close and a retire answer that they are done
pub close_done : (e : Standing) (events : List PastEvent) (answer : Answer) → Trace e Close events answer → answer ≡ Done
close_done e events answer trace = has_cause e Close events answer trace

pub retire_done : (e : Standing) (events : List PastEvent) (answer : Answer) → Trace e Retire events answer → answer ≡ Done
retire_done e events answer trace = has_cause e Retire events answer trace

-- ---- the views after a close and a retire

-- a call that is done and shuts its end
closed_view : (e : EndView) (call : Call) (payload buffer : List ℕ) (answer : Answer) (saw gone : Bool) → answer ≡ Done → state_told call Done e.state ≡ Shut → (e.retired || retires call) ≡ gone → saw ≡ (e.saw || tells_end answer) →
    answered_view e call payload buffer answer saw ≡ record e { state = Shut; retired = gone }
closed_view e call payload buffer answer saw gone done shuts goes sees =
    ap (λ (a : Answer). answered_view e call payload buffer a saw) done ∙ (λ i. record {
      page = e.page;
      role = e.role;
      state = shuts i;
      idle = e.idle;
      sent = append-nil e.sent i;
      got = append-nil e.got i;
      saw = (sees ∙ ap (λ (a : Answer). e.saw || tells_end a) done ∙ or-false e.saw) i;
      ended = ended_no e.ended i;
      drained = or-false e.drained i;
      misled = or-false e.misled i;
      retired = goes i;
      turned = e.turned;
      consumed = e.consumed;
      trail = e.trail;
    })

pub close_view : (e : EndView) (payload buffer : List ℕ) (answer : Answer) (saw : Bool) → answer ≡ Done → SeesAsTold Close answer e.saw saw → answered_view e Close payload buffer answer saw ≡ shut e
close_view e payload buffer answer saw done told = closed_view e Close payload buffer answer saw e.retired done refl (or-false e.retired) told

pub retire_view : (e : EndView) (payload buffer : List ℕ) (answer : Answer) (saw : Bool) → answer ≡ Done → SeesAsTold Retire answer e.saw saw → answered_view e Retire payload buffer answer saw ≡ retired_view e
retire_view e payload buffer answer saw done told = closed_view e Retire payload buffer answer saw true done refl (or-true e.retired) told

-- an end that is done is seen as it was between two calls
pub rest_view : (before : SeatedEnd) (after_rest : SeatedSide) → after_rest.page ≡ before.page → after_rest.side ≡ before.side → IsIdle before.machine → last_view after_rest ≡ view before
rest_view before after_rest page side idle = λ i. view_of (page i) (sym (ap not idle) i) (side i)
