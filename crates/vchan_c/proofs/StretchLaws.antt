-- A stretch of events is what a plan leads through.
use Rattle.std.proofs.Common.{◌≡◌, ℕ, Option, Some, None, suc, zero, ◌+◌, ◌-◌, ◌*◌, ◌/◌, ◌%◌, ◌<◌, ◌≤◌, Bool, true, false, List, [], ◌∷◌, ◌++◌, ◌⊎◌, inl, inr, refl, subst, sym, ap, ◌∙◌, arith}
use Rattle.std.specs.Prelude.{if◌then◌else◌, bit_and, ◌==◌, ◌≢◌}
use Rattle.std.proofs.lemmas.Nat.{mod-mul-add, div-add-mod'}
use Rattle.std.proofs.lemmas.Bool.{cases_lt}
use Rattle.std.proofs.lemmas.Bool.Decides.{nat_tests}
use Rattle.ring_words.specs.declared.order.Order.{Order}
use Rattle.ring_words.specs.declared.order.Orders.{Orders}
use Rattle.ring_words.specs.Page.{order_of}
use Rattle.ring_words.specs.declared.page.Role.{Role}
use Rattle.ring_words.specs.declared.page.Role.TheVariants.{Server, Client}
use Rattle.ring_words.specs.declared.page.WordName.{WordName}
use Rattle.ring_words.specs.declared.page.WordName.TheVariants.{RingByte}
use Rattle.ring_words.specs.Rings.{place, size}
use Rattle.ring_words.proofs.RingLaws.{place_on, size_within}
use Rattle.std.proofs.lemmas.Bool.{false≢true}
use Rattle.vchan_protocol.specs.declared.op.Op.{Op}
use Rattle.vchan_protocol.specs.declared.op.Op.TheVariants.{Load, LoadByte, Store, StoreByte, Or, And, Swap, Nothing}
use Rattle.vchan_protocol.specs.declared.op.PastEvent.{PastEvent}
use Rattle.vchan_protocol.specs.declared.call.Answer.{Answer}
use Rattle.vchan_protocol.specs.Table.Plan.{Plan, answers, does, Leads, past, next_op}
use Rattle.vchan_protocol.specs.Table.Ends.{Standing, standing_after, prod_after, cons_after, peer_pending, mask, written_ring, read_ring, write_order, read_order}
use Rattle.vchan_core.specs.declared.machine.Machine.{Machine}
use Rattle.vchan_core.specs.declared.machine.ahead.Span.{Span}
use Rattle.vchan_protocol.specs.Table.Calls.{signal}
use Rattle.vchan_protocol.proofs.Honest.LifeTrails.{shut_signal}
use Rattle.vchan_core.specs.OneMachine.Phases.{standing, rest, rest_or_answer, IsIdle}
use Rattle.vchan_core.specs.OneMachine.Ahead.{IsPut, IsTake, IsOnByte, put_at, take_at}
use Rattle.vchan_core.proofs.WholeCall.PieceLaws.{at_put, at_take, put_plan, take_plan, put_place, take_place}
use Rattle.vchan_c.specs.declared.stretch.Bytes.{Bytes}
use Rattle.vchan_c.specs.declared.stretch.Moves.{Moves}
use Rattle.vchan_c.specs.declared.stretch.Moves.TheVariants.{Nothing as NoBytes, Puts, Takes}
use Rattle.vchan_c.specs.declared.stretch.Stored.{Stored}
use Rattle.vchan_c.specs.declared.stretch.Last.{Last}
use Rattle.vchan_c.specs.declared.stretch.Last.TheVariants.{Answer as Answered, Event, Notify, Further}
use Rattle.vchan_core.specs.declared.kept.Kept.{Kept}
use Rattle.vchan_c.specs.declared.step.Step.{Step}
use Rattle.vchan_c.specs.Ends.{Tells}
use Rattle.vchan_c.specs.Stretches.{AreBytes, IsWithin, MovesWithin, IsStretch, IsLast, awaits, byte_place, puts_told, takes_told, moved, stored, standing_stored, signalled, notified, told, left, IsStoreNone, IsPassed}

-- ---- the places of a span's bytes

-- after the ring's end comes its front
place_front : (n j : ℕ) (order : Order) → place n order + j ≡ size order → place (n + j) order ≡ 0
unfolding place
place_front n j order h =
    let apart : n + j ≡ (n / size order + 1) * size order + 0 = omega (arith, div-add-mod' n (size order), h) in
    ap (λ (k : ℕ). k % size order) apart ∙ mod-mul-add (n / size order + 1) (size order) 0 (omega (arith, (size_within order).0))

place_round : (n j k : ℕ) (order : Order) → place n order + j ≡ size order → k < size order → place (n + (j + k)) order ≡ k
place_round n j k order h within =
    let front = place_front n j order h in
    let same : n + (j + k) ≡ (n + j) + k = omega arith in
    ap (λ (i : ℕ). place i order) same ∙ (place_on (n + j) k order (omega (arith, front, within)) ∙ omega (arith, front))

-- where each byte of a span lies
span_place : (span : Span) (bytes : Bytes) → AreBytes span bytes → (k : ℕ) → k < bytes.first + bytes.second → place (span.index + span.at + k) span.order ≡ byte_place bytes k
span_place span bytes are k less = go (cases_lt k bytes.first)
  where
    n : ℕ
    n = span.index + span.at

    go : (k < bytes.first) ⊎ (bytes.first ≤ k) → place (n + k) span.order ≡ byte_place bytes k
    go (inl here) =
        let on : place (n + k) span.order ≡ place n span.order + k = place_on n k span.order (omega (arith, are.place, are.within.ring, here)) in
        let is : byte_place bytes k ≡ bytes.place + k = grind (arith, nat_tests) in
        on ∙ (ap (λ (p : ℕ). p + k) (sym are.place) ∙ sym is)
    go (inr behind) =
        let whole : place n span.order + bytes.first ≡ size span.order = ap (λ (p : ℕ). p + bytes.first) (sym are.place) ∙ are.within.wraps (omega (arith, less, behind)) in
        let same : bytes.first + (k - bytes.first) ≡ k = omega (arith, behind) in
        let is : byte_place bytes k ≡ k - bytes.first = grind (arith, nat_tests) in
        let here : place (n + (bytes.first + (k - bytes.first))) span.order ≡ k - bytes.first = place_round n bytes.first (k - bytes.first) span.order whole (omega (arith, less, behind, are.within.front, are.within.ring, are.within.some)) in
        ap (λ (i : ℕ). place (n + i) span.order) (sym same) ∙ (here ∙ sym is)

-- ---- a put and a take

puts_on : (m : Machine) (bytes : Bytes) (count : ℕ) (answer : Answer) (i k n : ℕ) → bytes.ring ≡ written_ring m.role → i ≡ bytes.at + k → i + n ≤ count
    → ((j : ℕ) → j < k + n → put_place m (bytes.at + j) ≡ byte_place bytes j)
    → Leads (rest (at_put m i count answer)) (puts_told bytes k n) (rest (at_put m (i + n) count answer))
puts_on m bytes count answer i k zero ring here enough places = ap (λ (x : ℕ). rest (at_put m x count answer)) (omega arith)
puts_on m bytes count answer i k (suc n) ring here enough places =
    let plan = put_plan m i count answer (omega (arith, enough)) in
    let at : put_place m i ≡ byte_place bytes k = ap (λ (x : ℕ). put_place m x) here ∙ places k (omega arith) in
    let op : StoreByte (RingByte bytes.ring (byte_place bytes k)) (bytes.at + k) ≡ StoreByte (RingByte (written_ring m.role) (put_place m i)) i =
    rw ring (rw at (rw here refl)) in
    let on : i + 1 + n ≡ i + suc n = omega arith in
    let later : Leads (rest (at_put m (i + 1) count answer)) (puts_told bytes (k + 1) n) (rest (at_put m (i + 1 + n) count answer)) =
    puts_on m bytes count answer (i + 1) (k + 1) n ring (omega (arith, here)) (omega (arith, enough)) (λ j less. places j (omega (arith, less))) in
    subst (λ (p : Plan). Leads p (puts_told bytes k (suc n)) (rest (at_put m (i + suc n) count answer))) (sym plan)
    (op, subst (λ (x : ℕ). Leads (rest (at_put m (i + 1) count answer)) (puts_told bytes (k + 1) n) (rest (at_put m x count answer))) on later)

takes_on : (values : ℕ → ℕ) (m : Machine) (bytes : Bytes) (count : ℕ) (answer : Answer) (i k n : ℕ) → bytes.ring ≡ read_ring m.role → i ≡ bytes.at + k → i + n ≤ count
    → ((j : ℕ) → j < k + n → take_place m (bytes.at + j) ≡ byte_place bytes j)
    → Leads (rest (at_take m i count answer)) (takes_told values bytes k n) (rest (at_take m (i + n) count answer))
takes_on values m bytes count answer i k zero ring here enough places = ap (λ (x : ℕ). rest (at_take m x count answer)) (omega arith)
takes_on values m bytes count answer i k (suc n) ring here enough places =
    let plan = take_plan m i count answer (omega (arith, enough)) in
    let at : take_place m i ≡ byte_place bytes k = ap (λ (x : ℕ). take_place m x) here ∙ places k (omega arith) in
    let op : LoadByte (RingByte bytes.ring (byte_place bytes k)) (bytes.at + k) ≡ LoadByte (RingByte (read_ring m.role) (take_place m i)) i =
    rw ring (rw at (rw here refl)) in
    let on : i + 1 + n ≡ i + suc n = omega arith in
    let later : Leads (rest (at_take m (i + 1) count answer)) (takes_told values bytes (k + 1) n) (rest (at_take m (i + 1 + n) count answer)) =
    takes_on values m bytes count answer (i + 1) (k + 1) n ring (omega (arith, here)) (omega (arith, enough)) (λ j less. places j (omega (arith, less))) in
    subst (λ (p : Plan). Leads p (takes_told values bytes k (suc n)) (rest (at_take m (i + suc n) count answer))) (sym plan)
    (op, subst (λ (x : ℕ). Leads (rest (at_take m (i + 1) count answer)) (takes_told values bytes (k + 1) n) (rest (at_take m x count answer))) on later)

-- the bytes of a span that are put, and those that are taken
pub puts_lead : (m now : Machine) (span : Span) (bytes : Bytes) → IsPut m span → AreBytes span bytes → now ≡ put_at m span (span.at + (bytes.first + bytes.second))
    → Leads (rest m) (puts_told bytes 0 (bytes.first + bytes.second)) (rest now)
puts_lead m now span bytes put are is =
    subst (λ (x : Machine). Leads (rest m) (puts_told bytes 0 (bytes.first + bytes.second)) (rest x)) (sym is) (subst (λ (x : Machine). Leads (rest x) (puts_told bytes 0 (bytes.first + bytes.second)) (rest (put_at m span (span.at + (bytes.first + bytes.second))))) (sym put.here)
    (puts_on m bytes span.count span.answer span.at 0 (bytes.first + bytes.second) (are.ring ∙ put.ring) (sym are.at ∙ omega arith) (omega (arith, are.within.caller, are.at))
    (λ j less. ap (λ (o : Order). place (m.prod + (bytes.at + j)) o) (sym put.order)
    ∙ (ap (λ (x : ℕ). place x span.order) (omega (arith, put.index, are.at)) ∙ span_place span bytes are j (omega (arith, less))))))

pub takes_lead : (values : ℕ → ℕ) (m now : Machine) (span : Span) (bytes : Bytes) → IsTake m span → AreBytes span bytes → now ≡ take_at m span (span.at + (bytes.first + bytes.second))
    → Leads (rest m) (takes_told values bytes 0 (bytes.first + bytes.second)) (rest now)
takes_lead values m now span bytes take are is =
    subst (λ (x : Machine). Leads (rest m) (takes_told values bytes 0 (bytes.first + bytes.second)) (rest x)) (sym is) (subst (λ (x : Machine). Leads (rest x) (takes_told values bytes 0 (bytes.first + bytes.second)) (rest (take_at m span (span.at + (bytes.first + bytes.second))))) (sym take.here)
    (takes_on values m bytes span.count span.answer span.at 0 (bytes.first + bytes.second) (are.ring ∙ take.ring) (sym are.at ∙ omega arith) (omega (arith, are.within.caller, are.at))
    (λ j less. ap (λ (o : Order). place (m.cons + (bytes.at + j)) o) (sym take.order)
    ∙ (ap (λ (x : ℕ). place x span.order) (omega (arith, take.index, are.at)) ∙ span_place span bytes are j (omega (arith, less))))))

-- ---- stretches

-- two lists of events, one after the other
pub Leads_join : (p : Plan) (xs ys : List PastEvent) (q r : Plan) → Leads p xs q → Leads q ys r → Leads p (xs ++ ys) r
Leads_join p [] ys q r one two = subst (λ (x : Plan). Leads x ys r) (sym one) two
Leads_join (answers answer) (x ∷ xs) ys q r one two = absurd one
Leads_join (does op next) (x ∷ xs) ys q r one two = (one.0, Leads_join (next x.taken) xs ys q r one.1 two)

signal_prod : (role : Role) (count : ℕ) → prod_after (Store (peer_pending role) 1) role count ≡ count
signal_prod Server count = refl
signal_prod Client count = refl

signal_cons : (role : Role) (count : ℕ) → cons_after (Store (peer_pending role) 1) role count ≡ count
signal_cons Server count = refl
signal_cons Client count = refl

pub signal_stands : (e : Standing) → standing_after e (Store (peer_pending e.role) 1) ≡ e
unfolding standing_after
signal_stands e = rw (shut_signal e.role e.state) (rw (signal_prod e.role e.prod) (rw (signal_cons e.role e.cons) refl))

-- what a store leaves of an end's standing
stored_role : (store : Option Stored) (e : Standing) → (standing_stored store e).role ≡ e.role
unfolding standing_after
stored_role None e = refl
stored_role (Some s) e = refl

-- a signal goes by the end's role
signalled_as : (e f : Standing) (signals : Bool) → e.role ≡ f.role → signalled e signals ≡ signalled f signals
signalled_as e f false is = refl
signalled_as e f true is = ap (λ (role : Role). let signal : List PastEvent = past (Store (peer_pending role) 1) 0 ∷ [] in signal) is

-- what comes after a stretch goes by the end's role
notified_as : (e f : Standing) (last : Last) (value : ℕ) → e.role ≡ f.role → notified e last value ≡ notified f last value
notified_as e f (Answered answer) value is = refl
notified_as e f (Event op look) value is = refl
notified_as e f Further value is = refl
notified_as e f (Notify last) value is = ap (λ (role : Role). let events : List PastEvent = past (And last.word (18446744073709551615 - mask last.bit)) value ∷ (if bit_and value (mask last.bit) == 0 then [] else past (Store (peer_pending role) 1) 0 ∷ []) in events) is

-- bytes, a store, a signal and what comes after, one after the other
module _ (m mid late end now : Machine) (moves : Moves) (store : Option Stored) (signals : Bool) (last : Last) (moves_lead : (values : ℕ → ℕ) → Leads (rest m) (moved values moves) (rest mid)) (moves_stand : standing mid ≡ standing m) (store_leads : Leads (rest mid) (stored store) (rest late)) (store_stands : standing late ≡ standing_stored store (standing mid)) (signal_leads : Leads (rest late) (signalled (standing late) signals) (rest end)) (signal_stays : standing end ≡ standing late) (last_leads : (value : ℕ) → Leads (rest end) (notified (standing end) last value) (left last now)) (last_stays : standing now ≡ standing end) where
  late_stands : standing late ≡ standing_stored store (standing m)
  late_stands = store_stands ∙ ap (λ (e : Standing). standing_stored store e) moves_stand

  late_role : late.role ≡ m.role
  late_role = ap (λ (e : Standing). e.role) late_stands ∙ stored_role store (standing m)

  signal_here : Leads (rest late) (signalled (standing m) signals) (rest end)
  signal_here = subst (λ (events : List PastEvent). Leads (rest late) events (rest end)) (signalled_as (standing late) (standing m) signals late_role) signal_leads

  last_here : (value : ℕ) → Leads (rest end) (notified (standing m) last value) (left last now)
  last_here value = subst (λ (events : List PastEvent). Leads (rest end) events (left last now)) (notified_as (standing end) (standing m) last value (ap (λ (e : Standing). e.role) signal_stays ∙ late_role)) (last_leads value)

  pub stretched : IsLast last now → (last ≡ Further → (values : ℕ → ℕ) → (value : ℕ) → told values value (standing m) (record { moves = moves; store = store; signals = signals; last = last }) ≢ [])
      → IsStretch (rest m) (standing m) (record { moves = moves; store = store; signals = signals; last = last }) now
  stretched last_is some = record {
    leads = λ values value. Leads_join (rest m) (moved values moves) (stored store ++ (signalled (standing m) signals ++ notified (standing m) last value)) (rest mid) (left last now) (moves_lead values)
        (Leads_join (rest mid) (stored store) (signalled (standing m) signals ++ notified (standing m) last value) (rest late) (left last now) store_leads
        (Leads_join (rest late) (signalled (standing m) signals) (notified (standing m) last value) (rest end) (left last now) signal_here (last_here value)));
    stands = last_stays ∙ (signal_stays ∙ late_stands);
    last_is = last_is;
    some = some;
  }

-- ---- a stretch after which nothing is awaited has an event

-- an event that is on no byte, no store, no signal and not awaited is none
no_event : (signal : WordName) (op : Op) → ¬ IsOnByte op → IsStoreNone signal op → op ≢ Store signal 1 → IsPassed op → ⊥
no_event signal (LoadByte word at) byte store other passed = byte tt
no_event signal (StoreByte word at) byte store other passed = byte tt
no_event signal (Store word value) byte store other passed = other (rw store.0 (rw store.1 refl))
no_event signal (Load word) byte store other passed = passed
no_event signal (Or word bits) byte store other passed = passed
no_event signal (And word bits) byte store other passed = passed
no_event signal (Swap word value) byte store other passed = passed
no_event signal Nothing byte store other passed = passed

cons_some : (x : PastEvent) (xs : List PastEvent) → x ∷ xs ≢ []
cons_some x xs = λ is. cc

puts_some : (bytes : Bytes) (n : ℕ) (more : List PastEvent) → 0 < n → puts_told bytes 0 n ++ more ≢ []
puts_some bytes zero more h = absurd (omega (arith, h))
puts_some bytes (suc n) more h = cons_some _ _

takes_some : (values : ℕ → ℕ) (bytes : Bytes) (n : ℕ) (more : List PastEvent) → 0 < n → takes_told values bytes 0 n ++ more ≢ []
takes_some values bytes zero more h = absurd (omega (arith, h))
takes_some values bytes (suc n) more h = cons_some _ _

pub told_some : (m mid late end : Machine) (moves : Moves) (store : Option Stored) (signals : Bool) (last : Last) (payload buffer : ℕ)
    → ((values : ℕ → ℕ) → Leads (rest m) (moved values moves) (rest mid)) → MovesWithin (standing m) payload buffer moves → (moves ≡ NoBytes → ¬ IsOnByte (next_op (rest m)))
    → Leads (rest mid) (stored store) (rest late) → standing mid ≡ standing m → (store ≡ None → IsStoreNone (peer_pending mid.role) (next_op (rest mid)))
    → Leads (rest late) (signalled (standing late) signals) (rest end) → standing late ≡ standing_stored store (standing mid) → (signals ≡ false → next_op (rest late) ≢ Store (peer_pending late.role) 1)
    → IsPassed (next_op (rest end))
    → (values : ℕ → ℕ) (value : ℕ) → told values value (standing m) (record { moves = moves; store = store; signals = signals; last = last }) ≢ []
told_some m mid late end (Puts bytes) store signals last payload buffer moves_lead within moves_none store_leads mid_stands store_none signal_leads late_stands signal_none passed values value =
    puts_some bytes (bytes.first + bytes.second) _ (omega (arith, within.some))
told_some m mid late end (Takes bytes) store signals last payload buffer moves_lead within moves_none store_leads mid_stands store_none signal_leads late_stands signal_none passed values value =
    takes_some values bytes (bytes.first + bytes.second) _ (omega (arith, within.some))
told_some m mid late end NoBytes (Some store) signals last payload buffer moves_lead within moves_none store_leads mid_stands store_none signal_leads late_stands signal_none passed values value = cons_some _ _
told_some m mid late end NoBytes None true last payload buffer moves_lead within moves_none store_leads mid_stands store_none signal_leads late_stands signal_none passed values value = cons_some _ _
told_some m mid late end NoBytes None false last payload buffer moves_lead within moves_none store_leads mid_stands store_none signal_leads late_stands signal_none passed values value =
    let to_mid : rest m ≡ rest mid = moves_lead values in
    let to_late : rest mid ≡ rest late = store_leads in
    let to_end : rest late ≡ rest end = signal_leads in
    let role : late.role ≡ mid.role = ap (λ (e : Standing). e.role) late_stands in
    let op = next_op (rest late) in
    let no_byte : ¬ IsOnByte op = subst (λ (p : Plan). ¬ IsOnByte (next_op p)) (to_mid ∙ to_late) (moves_none refl) in
    let no_store : IsStoreNone (peer_pending late.role) op = subst (λ (p : Plan). IsStoreNone (peer_pending late.role) (next_op p)) to_late (subst (λ (r : Role). IsStoreNone (peer_pending r) (next_op (rest mid))) (sym role) (store_none refl)) in
    let is_passed : IsPassed op = subst (λ (p : Plan). IsPassed (next_op p)) (sym to_end) passed in
    absurd (no_event (peer_pending late.role) op no_byte no_store (signal_none refl) is_passed)

-- the store gives the answer
pub store_answers : (m mid now : Machine) (moves : Moves) (store : Option Stored) (told : Option Answer) (answer : Answer)
    → ((values : ℕ → ℕ) → Leads (rest m) (moved values moves) (rest mid)) → standing mid ≡ standing m
    → Leads (rest mid) (stored store) (rest_or_answer told now) → standing now ≡ standing_stored store (standing mid)
    → told ≡ Some answer → IsIdle now
    → IsStretch (rest m) (standing m) (record { moves = moves; store = store; signals = false; last = Answered answer }) now
store_answers m mid now moves store told answer moves_lead moves_stand store_leads store_stands is idle = record {
  leads = λ values value. Leads_join (rest m) (moved values moves) (stored store ++ []) (rest mid) (answers answer) (moves_lead values)
      (Leads_join (rest mid) (stored store) [] (answers answer) (answers answer) (subst (λ (o : Option Answer). Leads (rest mid) (stored store) (rest_or_answer o now)) is store_leads) refl);
  stands = store_stands ∙ ap (λ (e : Standing). standing_stored store e) moves_stand;
  last_is = idle;
  some = λ is. absurd (answered_further answer is);
}
  where
    answered_further : (answer : Answer) → Answered answer ≡ Further → ⊥
    answered_further answer is = cc

-- the signal gives the answer
pub signal_answers : (m mid late now : Machine) (moves : Moves) (store : Option Stored) (signals : Bool) (told : Option Answer) (answer : Answer)
    → ((values : ℕ → ℕ) → Leads (rest m) (moved values moves) (rest mid)) → standing mid ≡ standing m
    → Leads (rest mid) (stored store) (rest late) → standing late ≡ standing_stored store (standing mid)
    → Leads (rest late) (signalled (standing late) signals) (rest_or_answer told now) → standing now ≡ standing late
    → told ≡ Some answer → IsIdle now
    → IsStretch (rest m) (standing m) (record { moves = moves; store = store; signals = signals; last = Answered answer }) now
signal_answers m mid late now moves store signals told answer moves_lead moves_stand store_leads store_stands signal_leads signal_stays is idle =
    let here : standing late ≡ standing_stored store (standing m) = store_stands ∙ ap (λ (e : Standing). standing_stored store e) moves_stand in
    let role : late.role ≡ m.role = ap (λ (e : Standing). e.role) here ∙ stored_role store (standing m) in
    let signal_here : Leads (rest late) (signalled (standing m) signals) (answers answer) =
    subst (λ (events : List PastEvent). Leads (rest late) events (answers answer)) (signalled_as (standing late) (standing m) signals role)
    (subst (λ (o : Option Answer). Leads (rest late) (signalled (standing late) signals) (rest_or_answer o now)) is signal_leads) in
    record {
      leads = λ values value. Leads_join (rest m) (moved values moves) (stored store ++ (signalled (standing m) signals ++ [])) (rest mid) (answers answer) (moves_lead values)
          (Leads_join (rest mid) (stored store) (signalled (standing m) signals ++ []) (rest late) (answers answer) store_leads
          (Leads_join (rest late) (signalled (standing m) signals) [] (answers answer) (answers answer) signal_here refl));
      stands = signal_stays ∙ here;
      last_is = idle;
      some = λ is. absurd (answered_further is);
    }
  where
    answered_further : Answered answer ≡ Further → ⊥
    answered_further is = cc

pub left_rest : (told : Option Answer) (p : Plan) (events : List PastEvent) (now : Machine) → told ≡ None → Leads p events (rest_or_answer told now) → Leads p events (rest now)
left_rest told p events now is leads = subst (λ (o : Option Answer). Leads p events (rest_or_answer o now)) is leads

-- ---- bounds

-- the bytes lie within what was needed before
within_more : (order order' : Order) (most most' : ℕ) (bytes : Bytes) → order ≡ order' → most ≤ most' → IsWithin order most bytes → IsWithin order' most' bytes
within_more order order' most most' bytes is less h = record {
  some = h.some;
  ring = subst (λ (o : Order). bytes.place + bytes.first ≤ size o) is h.ring;
  front = h.front;
  wraps = λ more. h.wraps more ∙ ap size is;
  caller = omega (arith, h.caller, less);
}

pub moves_more : (e f : Standing) (payload payload' buffer buffer' : ℕ) (moves : Moves) → e.role ≡ f.role → e.orders ≡ f.orders → payload ≤ payload' → buffer ≤ buffer'
    → MovesWithin e payload buffer moves → MovesWithin f payload' buffer' moves
moves_more e f payload payload' buffer buffer' NoBytes role orders p b h = tt
moves_more e f payload payload' buffer buffer' (Puts bytes) role orders p b h =
    within_more (write_order e) (write_order f) payload payload' bytes (ap (λ (o : Orders). order_of o (written_ring e.role)) orders ∙ ap (λ (r : Role). order_of f.orders (written_ring r)) role) p h
moves_more e f payload payload' buffer buffer' (Takes bytes) role orders p b h =
    within_more (read_order e) (read_order f) buffer buffer' bytes (ap (λ (o : Orders). order_of o (read_ring e.role)) orders ∙ ap (λ (r : Role). order_of f.orders (read_ring r)) role) b h

-- what is told of an end is told of one with the same plan and standing, which needed no less
pub tells_before : (plan plan' : Plan) (e e' : Standing) (payload payload' buffer buffer' : ℕ) (new : Kept) (step : Step) → plan ≡ plan' → e ≡ e' → payload ≤ payload' → buffer ≤ buffer'
    → Tells plan e payload buffer new step → Tells plan' e' payload' buffer' new step
tells_before plan plan' e e' payload payload' buffer buffer' new step plan_is stands p b h = record {
  now = h.now;
  stretch = h.stretch;
  kept = h.kept;
  short = h.short;
  step_is = h.step_is;
  does = subst (λ (q : Plan). IsStretch q e' h.stretch h.now) plan_is (subst (λ (f : Standing). IsStretch plan f h.stretch h.now) stands h.does);
  payload_left = omega (arith, h.payload_left, p);
  buffer_left = omega (arith, h.buffer_left, b);
  within = moves_more e e' payload payload' buffer buffer' h.stretch.moves (ap (λ (f : Standing). f.role) stands) (ap (λ (f : Standing). f.orders) stands) p b h.within;
}

-- ---- an event that is awaited

-- it leaves an end's standing
pub awaited_stands : (e : Standing) (op : Op) → awaits op ≡ true → standing_after e op ≡ e
unfolding standing_after
awaited_stands e (Load word) is = refl
awaited_stands e (Or word bits) is = refl
awaited_stands e (Swap word value) is = refl
awaited_stands e (And word bits) is = absurd (false≢true is)
awaited_stands e (LoadByte word at) is = absurd (false≢true is)
awaited_stands e (Store word value) is = absurd (false≢true is)
awaited_stands e (StoreByte word at) is = absurd (false≢true is)
awaited_stands e Nothing is = absurd (false≢true is)

-- ---- a machine that was read

pub alone : (m other : Machine) → Some m ≡ Some other → other ≡ m
alone m other is = cc
