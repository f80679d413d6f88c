-- A machine's event is the event of each end that it stands for.
use Rattle.std.proofs.Common.{◌≡◌, ℕ, ◌+◌, ◌-◌, ◌%◌, ◌^◌, ◌<◌, ◌≤◌, ◌↔◌, min, Option, Some, None, IsSome, List, [], ◌∷◌, ◌++◌, length, take, slice_index, slice_set, refl, subst, sym, ap, ◌∙◌, arith}
use Rattle.std.proofs.lemmas.List.{length-take, length-append}
use Rattle.std.proofs.lemmas.Bool.{false≢true}
use Rattle.std.proofs.lemmas.Bool.Decides.{nat_tests}
use Rattle.ring_words.specs.Rings.{diff}
use Rattle.ring_words.proofs.RingLaws.{diff_wraps}
use Rattle.ring_words.specs.declared.order.Orders.{Orders}
use Rattle.ring_words.specs.declared.page.Role.{Role}
use Rattle.ring_words.specs.declared.page.Role.TheVariants.{Server, Client}
use Rattle.ring_words.specs.declared.page.WordName.{WordName}
use Rattle.ring_words.specs.declared.page.WordName.TheVariants.{LeftCons, LeftProd, RightCons, RightProd}
use Rattle.vchan_protocol.specs.declared.op.Op.{Op}
use Rattle.vchan_protocol.specs.declared.op.Op.TheVariants.{Load, LoadByte, Store, StoreByte, Or, And, Swap, Nothing}
use Rattle.vchan_protocol.specs.declared.op.PastEvent.{PastEvent}
use Rattle.vchan_protocol.specs.declared.call.Answer.{Answer}
use Rattle.vchan_protocol.specs.declared.call.Answer.TheVariants.{Done}
use Rattle.vchan_protocol.specs.declared.side.Side.{Side}
use Rattle.vchan_protocol.specs.declared.side.Begun.{Begun}
use Rattle.vchan_core.specs.declared.ends.End.{End}
use Rattle.vchan_core.specs.declared.machine.Machine.{Machine}
use Rattle.vchan_core.specs.declared.totals.Totals.{Totals}
use Rattle.vchan_core.specs.declared.phase.Phase.{Phase}
use Rattle.vchan_core.specs.declared.phase.Next.{Next}
use Rattle.vchan_core.specs.declared.phase.Next.TheVariants.{To, Done as Ended}
use Rattle.vchan_core.specs.declared.plain.Plain.{Plain}
use Rattle.vchan_protocol.specs.Table.Plan.{Plan, answers, does, next_op, after, rest_after, past, Leads, GoesOn}
use Rattle.vchan_protocol.specs.Table.Ends.{Standing, standing_after, prod_stored, cons_stored, prod_after, cons_after}
use Rattle.vchan_protocol.specs.Table.Calls.{plan_of, payload_of, stored_most, loaded_most}
use Rattle.vchan_protocol.specs.Table.Apply.{words_after, word_of, value_taken}
use Rattle.vchan_core.specs.OneMachine.Phases.{standing, at_phase, rest, rest_at, plan_at, rest_or_answer, IsIdle}
use Rattle.vchan_protocol.specs.History.Core.{Core, side_of, event, plan_next, begun_standing, standing_of, standing_along, plan_left, made, settled, answered, answer_in, count_stored, bytes_loaded, sent_stored, sent_after, got_stored, got_after}
use Rattle.vchan_core.specs.Page.Counts.{capped}
use Rattle.vchan_core.specs.Page.Ends.{end_of, other_end}
use Rattle.vchan_core.specs.WholeCall.AtPhase.{page_at, page_to}
use Rattle.vchan_core.specs.WholeCall.EventAt.{sent_on, got_on}
use Rattle.vchan_core.specs.Page.StandsFor.{IsEndOf, IsInCall, IsMachineOf, HasPayload, StandsFor, machine_of, moved_of, orders_of, turned_of, words_of}
use Rattle.vchan_protocol.proofs.Table.PlanLaws.{Leads_more, rest_after_Leads}
use Rattle.vchan_core.proofs.OneMachine.PhaseLaws.{GoesOn_machine}
use Rattle.vchan_protocol.proofs.Table.Counted.{Counted, OwesIndex, counted_call, counts_within, Counted_Leads}
use Rattle.vchan_protocol.proofs.History.EventLaws.{owes_next, leaves_same, stored_most_payload, most_small, OwesNext, settled_on, settled_sent, settled_got, settled_turned, standing_of_made, standing_along_push, prod_after_lem, cons_after_lem, side_by, event_by, diff_same}

-- the call that a busy machine is in, as a record
pub record InCall (s : Side) (m : Machine) : Type 0 where
  pub begun : Begun
  pub is : s.call ≡ Some begun
  pub led : Leads (plan_of (begun_standing s begun) begun.call) s.trail (rest m)
  pub pays : length s.payload ≡ payload_of begun.call
  pub stands : standing_along (begun_standing s begun) s.trail ≡ standing_of s

pub in_call : (s : Side) (m : Machine) → IsMachineOf s m → ¬ IsIdle m → InCall s m
in_call s m h busy = go s.call refl h.in_call
  where
    go : (call : Option Begun) → s.call ≡ call → IsInCall s call m → InCall s m
    go None e idle = absurd (busy idle)
    go (Some b) e inside = record { begun = b; is = e; led = inside.1; pays = inside.2; stands = inside.3 }

-- what is left of the end's call is what the machine has left
pub plan_left_is : (s : Side) (m : Machine) → InCall s m → plan_left s ≡ rest m
plan_left_is s m c =
    subst (λ (call : Option Begun). elim call [ None ↦ answers Done | Some b ↦ rest_after (plan_of (begun_standing s b) b.call) s.trail ] ≡ rest m) (sym c.is)
    (rest_after_Leads (plan_of (begun_standing s c.begun) c.begun.call) s.trail (rest m) c.led)

-- ---- the next event, counted

pub owed : (s : Side) (m : Machine) (c : InCall s m) → ¬ IsIdle m → OwesNext s c.begun (next_op (rest m))
owed s m c busy =
    let e = begun_standing s c.begun in
    let out = stored_most e c.begun.call in
    let into = loaded_most e c.begun.call in
    let stored : 0 + count_stored s.trail ≡ count_stored s.trail = omega arith in
    let loaded : 0 + length (bytes_loaded s.trail) ≡ length (bytes_loaded s.trail) = omega arith in
    let there = Counted_Leads e out into e 0 0 (plan_of e c.begun.call) s.trail (rest m) (counted_call e c.begun.call) c.led in
    let one = subst (λ (x : ℕ). Counted e out into (standing_along e s.trail) x (0 + length (bytes_loaded s.trail)) (rest m)) stored there in
    let two = subst (λ (x : ℕ). Counted e out into (standing_along e s.trail) (count_stored s.trail) x (rest m)) loaded one in
    let here = subst (λ (x : Standing). Counted e out into x (count_stored s.trail) (length (bytes_loaded s.trail)) (rest m)) c.stands two in
    owes_next e out into (standing_of s) (count_stored s.trail) (length (bytes_loaded s.trail)) (rest m) here (GoesOn_machine m busy)

-- ---- the words

-- the bytes that an end stores are those of its payload
pub words_same : (s : Side) (b : Begun) (orders : Orders) (words source : List ℕ) (op : Op) → length s.payload ≡ payload_of b.call → HasPayload s source → OwesNext s b op →
    words_after orders words source op ≡ words_after orders words s.payload op
words_same s b orders words source op pays has owes =
    sym (ap (λ (value : ℕ). slice_set words (word_of orders op) value) (leaves_same s b source op pays has owes (slice_index words (word_of orders op))))

-- ---- the machine and its end

-- the machine's event is one of the end: it stands for the end with that event, and with the answer that came
pub made_stands : (s : Side) (m m' : Machine) (result : Option Answer) (taken : ℕ) → IsMachineOf s m → ¬ IsIdle m →
    rest_or_answer result m' ≡ after (rest m) taken → (IsSome result ↔ IsIdle m') → standing m' ≡ standing_after (standing m) (next_op (rest m)) →
    IsMachineOf (settled (made s (next_op (rest m)) taken) (after (rest m) taken)) m'
made_stands s m m' result taken h busy leads idle stands = go result leads idle
  where
    op : Op
    op = next_op (rest m)

    c : InCall s m
    c = in_call s m h busy

    now : standing m' ≡ standing_of (made s (next_op (rest m)) taken)
    now = stands ∙ ap (λ (e : Standing). standing_after e (next_op (rest m))) h.standing_is ∙ sym (standing_of_made s (next_op (rest m)) taken)

    trail_leads : Leads (plan_of (begun_standing s c.begun) c.begun.call) (s.trail ++ past (next_op (rest m)) taken ∷ []) (after (rest m) taken)
    trail_leads = Leads_more (plan_of (begun_standing s c.begun) c.begun.call) s.trail (rest m) taken (GoesOn_machine m busy) c.led

    along : standing_along (begun_standing s c.begun) (s.trail ++ past (next_op (rest m)) taken ∷ []) ≡ standing_of (made s (next_op (rest m)) taken)
    along =
        standing_along_push (begun_standing s c.begun) s.trail (past (next_op (rest m)) taken) ∙ ap (λ (e : Standing). standing_after e (next_op (rest m))) c.stands
        ∙ sym (standing_of_made s (next_op (rest m)) taken)

    go : (r : Option Answer) → rest_or_answer r m' ≡ after (rest m) taken → (IsSome r ↔ IsIdle m') → IsMachineOf (settled (made s (next_op (rest m)) taken) (after (rest m) taken)) m'
    go None same iff =
        let awake : ¬ IsIdle m' = λ quiet. false≢true (iff.1 quiet) in
        let on : GoesOn (after (rest m) taken) = subst GoesOn same (GoesOn_machine m' awake) in
        let inside : IsInCall (made s (next_op (rest m)) taken) (Some c.begun) m' =
        (awake, subst (λ (p : Plan). Leads (plan_of (begun_standing s c.begun) c.begun.call) (s.trail ++ past (next_op (rest m)) taken ∷ []) p) (sym same) trail_leads, c.pays, along) in
        let there : IsMachineOf (made s (next_op (rest m)) taken) m' =
        record { standing_is = now; in_call = subst (λ (call : Option Begun). IsInCall (made s (next_op (rest m)) taken) call m') (sym c.is) inside } in
        subst (λ (x : Side). IsMachineOf x m') (sym (settled_on (made s (next_op (rest m)) taken) (after (rest m) taken) on)) there
    go (Some answer) same iff =
        let there : IsMachineOf (answered (made s (next_op (rest m)) taken) answer) m' = record { standing_is = now; in_call = iff.0 refl } in
        subst (λ (p : Plan). IsMachineOf (settled (made s (next_op (rest m)) taken) p) m') same there

-- ---- the counts

-- an own index that moves on by this many bytes
moves_on : (start count value : ℕ) → start < 2 ^ 32 → count < 2 ^ 32 → value ≡ (start + count) % 2 ^ 32 → diff (value % 2 ^ 32) start ≡ count
unfolding diff
moves_on start count value low few is = rw is (grind (arith, nat_tests))

stays : (list : List ℕ) (count : ℕ) → capped (capped (length list) + diff count count) ≡ capped (length list)
stays list count = ap (λ (d : ℕ). capped (capped (length list) + d)) (diff_same count) ∙ omega arith

grows : (list more : List ℕ) (start value : ℕ) → start < 2 ^ 32 → length more < 2 ^ 32 → value ≡ (start + length more) % 2 ^ 32 →
    capped (capped (length list) + diff (value % 2 ^ 32) start) ≡ capped (length (list ++ more))
grows list more start value low few is =
    ap (λ (d : ℕ). capped (capped (length list) + d)) (moves_on start (length more) value low few is) ∙ omega (arith, length-append list more)

-- when the end stores a word, its counts and its lists grow alike
sent_grows : (word : WordName) (role : Role) (now : Standing) (trail : List PastEvent) (payload sent : List ℕ) (l value : ℕ) → now.prod < 2 ^ 32 → count_stored trail ≤ length payload → count_stored trail < 2 ^ 32 →
    OwesIndex word role now (count_stored trail) l value →
    capped (capped (length sent) + diff (prod_stored word role value now.prod) now.prod) ≡ capped (length (sent_stored word role trail payload sent))
sent_grows LeftProd Client now trail payload sent l value low has few owes =
    let all : length (take (count_stored trail) payload) ≡ count_stored trail = omega (arith, length-take (count_stored trail) payload) in
    grows sent (take (count_stored trail) payload) now.prod value low (omega (arith, all)) (owes ∙ ap (λ (n : ℕ). (now.prod + n) % 2 ^ 32) (sym all))
sent_grows RightProd Server now trail payload sent l value low has few owes =
    let all : length (take (count_stored trail) payload) ≡ count_stored trail = omega (arith, length-take (count_stored trail) payload) in
    grows sent (take (count_stored trail) payload) now.prod value low (omega (arith, all)) (owes ∙ ap (λ (n : ℕ). (now.prod + n) % 2 ^ 32) (sym all))
sent_grows _ _ now trail payload sent l value low has few owes = stays sent now.prod

got_grows : (word : WordName) (role : Role) (now : Standing) (trail : List PastEvent) (got : List ℕ) (s value : ℕ) → now.cons < 2 ^ 32 → length (bytes_loaded trail) < 2 ^ 32 →
    OwesIndex word role now s (length (bytes_loaded trail)) value →
    capped (capped (length got) + diff (cons_stored word role value now.cons) now.cons) ≡ capped (length (got_stored word role trail got))
got_grows LeftCons Server now trail got s value low few owes = grows got (bytes_loaded trail) now.cons value low few owes
got_grows RightCons Client now trail got s value low few owes = grows got (bytes_loaded trail) now.cons value low few owes
got_grows _ _ now trail got s value low few owes = stays got now.cons

-- ---- an event of a page

-- what the code of one event does: to the machine, to the words, and to what the end has moved
pub record DoesEvent (orders : Orders) (words source : List ℕ) (m m' : Machine) (result : Option Answer) (words' : List ℕ) (moved moved' : Totals) : Type 0 where
  pub busy : ¬ IsIdle m
  pub leads : rest_or_answer result m' ≡ after (rest m) (value_taken orders words (next_op (rest m)))
  pub idle : IsSome result ↔ IsIdle m'
  pub stands : standing m' ≡ standing_after (standing m) (next_op (rest m))
  pub words_are : words' ≡ words_after orders words source (next_op (rest m))
  pub sent_is : moved'.sent ≡ sent_on moved m m'
  pub got_is : moved'.got ≡ got_on moved m m'
  pub low : ((standing m).prod < 2 ^ 32) × ((standing m).cons < 2 ^ 32)

-- fewer than 2 ^ 32 bytes are moved, and no more than the payload has
few_moved : (s : Side) (m : Machine) (c : InCall s m) → (count_stored s.trail ≤ length s.payload) × (count_stored s.trail < 2 ^ 32) × (length (bytes_loaded s.trail) < 2 ^ 32)
few_moved s m c =
    let e = begun_standing s c.begun in
    let moved = counts_within e c.begun.call s.trail (rest m) c.led in
    let small = most_small e c.begun.call in
    (omega (arith, moved.0, c.pays, stored_most_payload e c.begun.call), omega (arith, moved.0, small.0), omega (arith, moved.1, small.1))

pub side_steps : (orders : Orders) (words source : List ℕ) (s : Side) (m m' : Machine) (result : Option Answer) (words' : List ℕ) (moved moved' : Totals) →
    IsMachineOf s m → DoesEvent orders words source m m' result words' moved moved' → IsMachineOf (side_by orders words s (rest m)) m'
side_steps orders words source s m m' result words' moved moved' h d =
    made_stands s m m' result (value_taken orders words (next_op (rest m))) h d.busy d.leads d.idle d.stands

pub words_step : (orders : Orders) (words source : List ℕ) (s : Side) (m m' : Machine) (result : Option Answer) (words' : List ℕ) (moved moved' : Totals) →
    IsMachineOf s m → HasPayload s source → DoesEvent orders words source m m' result words' moved moved' → words' ≡ words_after orders words s.payload (next_op (rest m))
words_step orders words source s m m' result words' moved moved' h has d =
    let c = in_call s m h d.busy in
    d.words_are ∙ words_same s c.begun orders words source (next_op (rest m)) c.pays has (owed s m c d.busy)

sent_of : (s : Side) (b : Begun) (op : Op) → OwesNext s b op → s.prod < 2 ^ 32 → count_stored s.trail ≤ length s.payload → count_stored s.trail < 2 ^ 32 →
    capped (capped (length s.sent) + diff (prod_after op s.role s.prod) s.prod) ≡ capped (length (sent_after op s))
sent_of s b (Store word value) owes low has few = sent_grows word s.role (standing_of s) s.trail s.payload s.sent (length (bytes_loaded s.trail)) value low has few owes.0
sent_of s b (Load word) owes low has few = stays s.sent s.prod
sent_of s b (LoadByte word at) owes low has few = stays s.sent s.prod
sent_of s b (StoreByte word at) owes low has few = stays s.sent s.prod
sent_of s b (Or word bits) owes low has few = stays s.sent s.prod
sent_of s b (And word bits) owes low has few = stays s.sent s.prod
sent_of s b (Swap word value) owes low has few = stays s.sent s.prod
sent_of s b Nothing owes low has few = stays s.sent s.prod

got_of : (s : Side) (b : Begun) (op : Op) → OwesNext s b op → s.cons < 2 ^ 32 → length (bytes_loaded s.trail) < 2 ^ 32 →
    capped (capped (length s.got) + diff (cons_after op s.role s.cons) s.cons) ≡ capped (length (got_after op s))
got_of s b (Store word value) owes low few = got_grows word s.role (standing_of s) s.trail s.got (count_stored s.trail) value low few owes.0
got_of s b (Load word) owes low few = stays s.got s.cons
got_of s b (LoadByte word at) owes low few = stays s.got s.cons
got_of s b (StoreByte word at) owes low few = stays s.got s.cons
got_of s b (Or word bits) owes low few = stays s.got s.cons
got_of s b (And word bits) owes low few = stays s.got s.cons
got_of s b (Swap word value) owes low few = stays s.got s.cons
got_of s b Nothing owes low few = stays s.got s.cons

pub sent_step : (orders : Orders) (words source : List ℕ) (s : Side) (m m' : Machine) (result : Option Answer) (words' : List ℕ) (moved moved' : Totals) →
    IsMachineOf s m → DoesEvent orders words source m m' result words' moved moved' → moved.sent ≡ capped (length s.sent) →
    moved'.sent ≡ capped (length (side_by orders words s (rest m)).sent)
sent_step orders words source s m m' result words' moved moved' h d was =
    let c = in_call s m h d.busy in
    let op = next_op (rest m) in
    let few = few_moved s m c in
    let same : standing m ≡ standing_of s = h.standing_is in
    let low : s.prod < 2 ^ 32 = subst (λ (e : Standing). e.prod < 2 ^ 32) same d.low.0 in
    let then_prod : (standing m').prod ≡ prod_after op s.role s.prod = ap (λ (e : Standing). e.prod) d.stands ∙ ap (λ (e : Standing). (standing_after e op).prod) same ∙ prod_after_lem (standing_of s) op in
    d.sent_is
    ∙ ap (λ (n : ℕ). capped (n + diff (standing m').prod (standing m).prod)) was
    ∙ ap (λ (n : ℕ). capped (capped (length s.sent) + diff n (standing m).prod)) then_prod
    ∙ ap (λ (e : Standing). capped (capped (length s.sent) + diff (prod_after op s.role s.prod) e.prod)) same
    ∙ sent_of s c.begun op (owed s m c d.busy) low few.0 few.1
    ∙ ap (λ (xs : List ℕ). capped (length xs)) (sym (settled_sent (made s op (value_taken orders words op)) (after (rest m) (value_taken orders words op))))

pub got_step : (orders : Orders) (words source : List ℕ) (s : Side) (m m' : Machine) (result : Option Answer) (words' : List ℕ) (moved moved' : Totals) →
    IsMachineOf s m → DoesEvent orders words source m m' result words' moved moved' → moved.got ≡ capped (length s.got) →
    moved'.got ≡ capped (length (side_by orders words s (rest m)).got)
got_step orders words source s m m' result words' moved moved' h d was =
    let c = in_call s m h d.busy in
    let op = next_op (rest m) in
    let few = few_moved s m c in
    let same : standing m ≡ standing_of s = h.standing_is in
    let low : s.cons < 2 ^ 32 = subst (λ (e : Standing). e.cons < 2 ^ 32) same d.low.1 in
    let then_cons : (standing m').cons ≡ cons_after op s.role s.cons = ap (λ (e : Standing). e.cons) d.stands ∙ ap (λ (e : Standing). (standing_after e op).cons) same ∙ cons_after_lem (standing_of s) op in
    d.got_is
    ∙ ap (λ (n : ℕ). capped (n + diff (standing m').cons (standing m).cons)) was
    ∙ ap (λ (n : ℕ). capped (capped (length s.got) + diff n (standing m).cons)) then_cons
    ∙ ap (λ (e : Standing). capped (capped (length s.got) + diff (cons_after op s.role s.cons) e.cons)) same
    ∙ got_of s c.begun op (owed s m c d.busy) low few.2
    ∙ ap (λ (xs : List ℕ). capped (length xs)) (sym (settled_got (made s op (value_taken orders words op)) (after (rest m) (value_taken orders words op))))

-- ---- the page after an event of an end

pub event_by_lem : (core : Core) (who : Role) (m : Machine) → InCall (side_of core who) m → event core who ≡ event_by core who (rest m)
unfolding event
event_by_lem core who m c = ap (λ (plan : Plan). event_by core who plan) (plan_left_is (side_of core who) m c)

-- the end after its event
end_steps : (core : Core) (s : Side) (e e' : End) (source : List ℕ) (result : Option Answer) (words' : List ℕ) → IsEndOf s e → DoesEvent core.orders core.words source e.machine e'.machine result words' e.moved e'.moved → e'.turned ≡ e.turned →
    IsEndOf (side_by core.orders core.words s (rest e.machine)) e'
end_steps core s e e' source result words' h d turned = record {
  machine = side_steps core.orders core.words source s e.machine e'.machine result words' e.moved e'.moved h.machine d;
  sent = sent_step core.orders core.words source s e.machine e'.machine result words' e.moved e'.moved h.machine d h.sent;
  got = got_step core.orders core.words source s e.machine e'.machine result words' e.moved e'.moved h.machine d h.got;
  turned = turned ∙ h.turned ∙ sym (settled_turned (made s (next_op (rest e.machine)) (value_taken core.orders core.words (next_op (rest e.machine)))) (after (rest e.machine) (value_taken core.orders core.words (next_op (rest e.machine)))));
}

pub end_stands : (core : Core) (page : Plain) (who : Role) → StandsFor core page → IsEndOf (side_of core who) (end_of page.ends who)
end_stands core page Server h = h.server
end_stands core page Client h = h.client

pub stands_on : (core : Core) (who : Role) (page page' : Plain) (source : List ℕ) (result : Option Answer) → StandsFor core page → HasPayload (side_of core who) source →
    DoesEvent (orders_of page) (words_of page) source (machine_of page who) (machine_of page' who) result (words_of page') (moved_of page who) (moved_of page' who) →
    orders_of page' ≡ orders_of page → turned_of page' who ≡ turned_of page who → other_end page'.ends who ≡ other_end page.ends who →
    StandsFor (event core who) page'
stands_on core who page page' source result h has d orders turned other =
    let e = end_of page.ends who in
    let e' = end_of page'.ends who in
    let s = side_of core who in
    let is = end_stands core page who h in
    let here : DoesEvent core.orders core.words source e.machine e'.machine result (words_of page') e.moved e'.moved =
    subst (λ (o : Orders). DoesEvent o core.words source e.machine e'.machine result (words_of page') e.moved e'.moved) h.orders
    (subst (λ (w : List ℕ). DoesEvent (orders_of page) w source e.machine e'.machine result (words_of page') e.moved e'.moved) h.words d) in
    subst (λ (k : Core). StandsFor k page') (sym (event_by_lem core who e.machine (in_call s e.machine is.machine d.busy)))
    (stands_by core who page page' e.machine (orders ∙ h.orders)
    (words_step core.orders core.words source s e.machine e'.machine result (words_of page') e.moved e'.moved is.machine has here)
    (end_steps core s e e' source result (words_of page') is here turned) h other)
  where
    stands_by : (core : Core) (who : Role) (page page' : Plain) (m : Machine) → orders_of page' ≡ core.orders → words_of page' ≡ words_after core.orders core.words (side_of core who).payload (next_op (rest m)) →
        IsEndOf (side_by core.orders core.words (side_of core who) (rest m)) (end_of page'.ends who) → StandsFor core page → other_end page'.ends who ≡ other_end page.ends who → StandsFor (event_by core who (rest m)) page'
    stands_by core Server page page' m orders words is h other = record { orders = orders; words = words; server = is; client = subst (λ (e : End). IsEndOf core.client e) (sym other) h.client }
    stands_by core Client page page' m orders words is h other = record { orders = orders; words = words; server = subst (λ (e : End). IsEndOf core.server e) (sym other) h.server; client = is }

-- the answer of a step is what is left of the end's call
pub answer_in_rest : (m' : Machine) (result : Option Answer) → (IsSome result ↔ IsIdle m') → answer_in (rest_or_answer result m') ≡ result
answer_in_rest m' (Some answer) idle = refl
answer_in_rest m' None idle = quiet (rest m') (GoesOn_machine m' (λ q. false≢true (idle.1 q)))
  where
    quiet : (plan : Plan) → GoesOn plan → answer_in plan ≡ None
    quiet (answers answer) more = absurd more
    quiet (does op next) more = refl

pub answer_is : (core : Core) (who : Role) (orders : Orders) (words : List ℕ) (m m' : Machine) (result : Option Answer) → IsMachineOf (side_of core who) m → orders ≡ core.orders → words ≡ core.words → ¬ IsIdle m →
    rest_or_answer result m' ≡ after (rest m) (value_taken orders words (next_op (rest m))) → (IsSome result ↔ IsIdle m') → result ≡ answer_in (plan_next core who)
answer_is core who orders words m m' result h same_orders same_words busy leads idle =
    let there : rest_or_answer result m' ≡ after (rest m) (value_taken core.orders core.words (next_op (rest m))) =
    leads ∙ ap (λ (o : Orders). after (rest m) (value_taken o words (next_op (rest m)))) same_orders ∙ ap (λ (w : List ℕ). after (rest m) (value_taken core.orders w (next_op (rest m)))) same_words in
    sym (answer_in_rest m' result idle) ∙ ap answer_in there
    ∙ ap (λ (plan : Plan). answer_in (after plan (value_taken core.orders core.words (next_op plan)))) (sym (plan_left_is (side_of core who) m (in_call (side_of core who) m h busy)))

-- ---- for the code

-- a count that is raised by what the code subtracts with wrapping
pub counts_on : (result was from x y before then_after : ℕ) → x ≡ then_after → y ≡ before → x < 2 ^ 32 → y < 2 ^ 32 → from ≡ (x + (4294967296 - y)) % 4294967296 → result ≡ min (was + from) 18446744073709551615 →
    result ≡ capped (was + diff then_after before)
counts_on result was from x y before then_after xs ys low_x low_y from_is is =
    is ∙ ap (λ (n : ℕ). min (was + n) 18446744073709551615) (from_is ∙ diff_wraps x y low_x low_y ∙ ap (λ (n : ℕ). diff n y) xs ∙ ap (λ (n : ℕ). diff then_after n) ys)

-- what a machine does at a phase that its page doesn't know of
pub record DoesAt (orders : Orders) (words source : List ℕ) (m m' : Machine) (phase : Phase) (move : Next) (words' : List ℕ) (moved moved' : Totals) : Type 0 where
  pub leads : plan_at (standing m') move ≡ after (rest_at (standing m) phase) (value_taken orders words (next_op (rest_at (standing m) phase)))
  pub idle : IsIdle m'
  pub stands : standing m' ≡ standing_after (standing m) (next_op (rest_at (standing m) phase))
  pub words_are : words' ≡ words_after orders words source (next_op (rest_at (standing m) phase))
  pub sent_is : moved'.sent ≡ sent_on moved m m'
  pub got_is : moved'.got ≡ got_on moved m m'
  pub low : ((standing m).prod < 2 ^ 32) × ((standing m).cons < 2 ^ 32)

does_to : (orders : Orders) (words source : List ℕ) (m m' : Machine) (phase next : Phase) (words' : List ℕ) (moved moved' : Totals) →
    DoesAt orders words source m m' phase (To next) words' moved moved' → DoesEvent orders words source (at_phase m phase) (at_phase m' next) None words' moved moved'
does_to orders words source m m' phase next words' moved moved' d = record {
  busy = λ idle. false≢true (sym idle);
  leads = d.leads;
  idle = (λ some. absurd (false≢true some), λ quiet. absurd (false≢true (sym quiet)));
  stands = d.stands;
  words_are = d.words_are;
  sent_is = d.sent_is;
  got_is = d.got_is;
  low = d.low;
}

does_last : (orders : Orders) (words source : List ℕ) (m m' : Machine) (phase : Phase) (answer : Answer) (words' : List ℕ) (moved moved' : Totals) →
    DoesAt orders words source m m' phase (Ended answer) words' moved moved' → DoesEvent orders words source (at_phase m phase) m' (Some answer) words' moved moved'
does_last orders words source m m' phase answer words' moved moved' d = record {
  busy = λ idle. false≢true (sym idle);
  leads = d.leads;
  idle = (λ some. d.idle, λ quiet. refl);
  stands = d.stands;
  words_are = d.words_are;
  sent_is = d.sent_is;
  got_is = d.got_is;
  low = d.low;
}

pub stands_at : (core : Core) (who : Role) (page page' : Plain) (source : List ℕ) (phase : Phase) (move : Next) → StandsFor core (page_at page who phase) → HasPayload (side_of core who) source →
    DoesAt (orders_of page) (words_of page) source (machine_of page who) (machine_of page' who) phase move (words_of page') (moved_of page who) (moved_of page' who) →
    orders_of page' ≡ orders_of page → turned_of page' who ≡ turned_of page who → other_end page'.ends who ≡ other_end page.ends who →
    StandsFor (event core who) (page_to page' who move)
stands_at core Server page page' source phase (To next) h has d orders turned other =
    stands_on core Server (page_at page Server phase) (page_at page' Server next) source None h has
    (does_to (orders_of page) (words_of page) source (machine_of page Server) (machine_of page' Server) phase next (words_of page') (moved_of page Server) (moved_of page' Server) d) orders turned other
stands_at core Client page page' source phase (To next) h has d orders turned other =
    stands_on core Client (page_at page Client phase) (page_at page' Client next) source None h has
    (does_to (orders_of page) (words_of page) source (machine_of page Client) (machine_of page' Client) phase next (words_of page') (moved_of page Client) (moved_of page' Client) d) orders turned other
stands_at core Server page page' source phase (Ended answer) h has d orders turned other =
    stands_on core Server (page_at page Server phase) page' source (Some answer) h has
    (does_last (orders_of page) (words_of page) source (machine_of page Server) (machine_of page' Server) phase answer (words_of page') (moved_of page Server) (moved_of page' Server) d) orders turned other
stands_at core Client page page' source phase (Ended answer) h has d orders turned other =
    stands_on core Client (page_at page Client phase) page' source (Some answer) h has
    (does_last (orders_of page) (words_of page) source (machine_of page Client) (machine_of page' Client) phase answer (words_of page') (moved_of page Client) (moved_of page' Client) d) orders turned other

pub keeps_orders : (m m' : Machine) (op : Op) → standing m' ≡ standing_after (standing m) op → m'.orders ≡ m.orders
unfolding standing_after
keeps_orders m m' op is = ap (λ (e : Standing). e.orders) is

pub keeps_role : (m m' : Machine) (op : Op) → standing m' ≡ standing_after (standing m) op → m'.role ≡ m.role
unfolding standing_after
keeps_role m m' op is = ap (λ (e : Standing). e.role) is
