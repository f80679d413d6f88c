-- The loop of a whole call, when it makes several events at once.
use Rattle.std.proofs.Common.{◌≡◌, ℕ, suc, zero, ◌+◌, ◌^◌, ◌<◌, ◌≤◌, Some, None, List, [], ◌∷◌, ◌++◌, length, take, refl, subst, sym, ap, ◌∙◌, arith}
use Rattle.std.proofs.lemmas.List.{length_push, length-set}
use Rattle.std.proofs.lemmas.Bool.{false≢true}
use Rattle.ring_words.specs.Rings.{diff}
use Rattle.ring_words.specs.declared.order.Orders.{Orders}
use Rattle.ring_words.specs.declared.page.Role.{Role}
use Rattle.ring_words.specs.declared.page.Role.TheVariants.{Server, Client}
use Rattle.vchan_protocol.specs.declared.op.Op.{Op}
use Rattle.vchan_protocol.specs.declared.op.Op.TheVariants.{Load, LoadByte, Store, StoreByte, Or, And, Swap, Nothing}
use Rattle.vchan_protocol.specs.declared.op.PastEvent.{PastEvent}
use Rattle.vchan_protocol.specs.declared.call.Answer.{Answer}
use Rattle.vchan_protocol.specs.declared.call.Call.{Call}
use Rattle.vchan_protocol.specs.declared.side.Side.{Side}
use Rattle.vchan_core.specs.declared.ends.End.{End}
use Rattle.vchan_core.specs.declared.machine.Machine.{Machine}
use Rattle.vchan_core.specs.declared.totals.Totals.{Totals}
use Rattle.vchan_core.specs.declared.plain.Plain.{Plain}
use Rattle.vchan_core.specs.declared.phase.Phase.{Phase}
use Rattle.vchan_core.specs.declared.phase.Next.{Next}
use Rattle.vchan_core.specs.declared.phase.Next.TheVariants.{To, Done}
use Rattle.vchan_protocol.specs.Table.Plan.{Plan, past, Leads, next_op, after}
use Rattle.vchan_protocol.specs.Table.Ends.{Standing, read_size}
use Rattle.vchan_protocol.specs.Table.Calls.{plan_of, payload_of, loaded_most, most_events, Trace}
use Rattle.vchan_protocol.specs.Table.Apply.{Fits, value_taken, buffer_after, filled}
use Rattle.vchan_core.specs.OneMachine.Phases.{standing, at_phase, rest, rest_at, plan_at, IsIdle, payload_needed, buffer_needed, payload_at, buffer_at, payload_next, buffer_next, Stands}
use Rattle.vchan_core.specs.Page.Counts.{capped}
use Rattle.vchan_protocol.specs.History.Core.{Core, side_of, begun, event, bytes_loaded}
use Rattle.vchan_protocol.specs.History.WholeCall.{alone, whole_call, called, call_answer}
use Rattle.vchan_core.specs.Page.Ends.{with_end}
use Rattle.vchan_core.specs.Page.StandsFor.{IsEndOf, IsMachineOf, HasPayload, StandsFor, machine_of, moved_of, other_of, words_of, orders_of, op_of}
use Rattle.vchan_core.specs.WholeCall.EventsMade.{MakesEvent, MakesEvents}
use Rattle.vchan_core.specs.WholeCall.Beside.{IsBeside}
use Rattle.vchan_core.specs.WholeCall.AtPhase.{page_at, page_to}
use Rattle.vchan_core.proofs.OneMachine.PhaseLaws.{GoesOn_machine}
use Rattle.vchan_protocol.proofs.Table.PlanLaws.{Leads_more}
use Rattle.vchan_core.proofs.Page.StepLaws.{DoesEvent, end_stands, stands_on}
use Rattle.vchan_core.proofs.WholeCall.RunLaws.{IsRunning, IsStep, runs_begun, runs_on, runs_out, then_stands, then_fills, then_trail}
use Rattle.vchan_protocol.proofs.History.WholeCallLaws.{length_payload}
use Rattle.vchan_protocol.proofs.History.EventLaws.{diff_same}
use Rattle.vchan_core.proofs.OneMachine.PhaseLaws.{length_Stands}

-- ---- an event on a ring byte as a step

-- a count that an event leaves alone
unmoved : (moved count now before : ℕ) → moved ≡ capped count → now ≡ before → moved ≡ capped (moved + diff now before)
unmoved moved count now before is same =
    let none : diff now before ≡ 0 = ap (λ (n : ℕ). diff n before) same ∙ diff_same before in
    omega (arith, none, is)

does_event : (orders : Orders) (source buffer : List ℕ) (m m' : Machine) (list list' buffer' : List ℕ) (moved moved' : Totals) (sent got : ℕ) →
    ((standing m).prod < 2 ^ 32) × ((standing m).cons < 2 ^ 32) → MakesEvent orders source m list buffer m' list' buffer' → moved' ≡ moved → moved.sent ≡ capped sent → moved.got ≡ capped got →
    DoesEvent orders list source m m' None list' moved moved'
does_event orders source buffer m m' list list' buffer' moved moved' sent got low d same sent_is got_is = record {
  busy = d.busy;
  leads = d.leads;
  idle = (λ some. absurd (false≢true some), λ quiet. absurd (d.awake quiet));
  stands = d.stands;
  words_are = d.words;
  sent_is = ap (λ (w : Totals). w.sent) same ∙ unmoved moved.sent sent (standing m').prod (standing m).prod sent_is (ap (λ (e : Standing). e.prod) d.same);
  got_is = ap (λ (w : Totals). w.got) same ∙ unmoved moved.got got (standing m').cons (standing m).cons got_is (ap (λ (e : Standing). e.cons) d.same);
  low = low;
}

-- an event of this end on its page
abbrev pub EventOn : Role → List ℕ → Plain → List ℕ → Plain → List ℕ → Type 0
EventOn who source page buffer page' buffer' = MakesEvent (orders_of page) source (machine_of page who) (words_of page) buffer (machine_of page' who) (words_of page') buffer'

abbrev pub IsLow : Machine → Type 0
IsLow m = ((standing m).prod < 2 ^ 32) × ((standing m).cons < 2 ^ 32)

pub stands_event : (who : Role) (source buffer buffer' : List ℕ) (page page' : Plain) → IsLow (machine_of page who) → IsBeside who page page' → EventOn who source page buffer page' buffer' →
    (core : Core) → StandsFor core page → HasPayload (side_of core who) source → StandsFor (event core who) page'
stands_event who source buffer buffer' page page' low beside d core h has =
    let s = side_of core who in
    let is = end_stands core page who h in
    stands_on core who page page' source None h has
    (does_event (orders_of page) source buffer (machine_of page who) (machine_of page' who) (words_of page) (words_of page') buffer' (moved_of page who) (moved_of page' who) (length s.sent) (length s.got) low d beside.moved is.sent is.got)
    beside.orders beside.turned beside.other

pub is_step : (who : Role) (source buffer buffer' : List ℕ) (page page' : Plain) → IsLow (machine_of page who) → IsBeside who page page' → EventOn who source page buffer page' buffer' → IsStep who source page page' None buffer buffer'
is_step who source buffer buffer' page page' low beside d = record {
  busy = d.busy;
  stands = stands_event who source buffer buffer' page page' low beside d;
  footprint = d.fits;
  buffers = d.buffers;
  leads = d.leads;
  idle = (λ some. absurd (false≢true some), λ quiet. absurd (d.awake quiet));
}

-- ---- what the loop keeps

pub length_buffer_after : (orders : Orders) (words buffer : List ℕ) (op : Op) → length (buffer_after orders words buffer op) ≡ length buffer
length_buffer_after orders words buffer (LoadByte word at) = length-set buffer at _
length_buffer_after orders words buffer (Load word) = refl
length_buffer_after orders words buffer (Store word value) = refl
length_buffer_after orders words buffer (StoreByte word at) = refl
length_buffer_after orders words buffer (Or word bits) = refl
length_buffer_after orders words buffer (And word bits) = refl
length_buffer_after orders words buffer (Swap word value) = refl
length_buffer_after orders words buffer Nothing = refl

-- after this many events of a call that began on this page with this buffer
pub record InLoop (first : Plain) (who : Role) (call : Call) (source start : List ℕ) (page : Plain) (buffer : List ℕ) (count : ℕ) : Type 0 where
  pub busy : ¬ IsIdle (machine_of page who)
  pub payload_left : payload_needed (machine_of page who) ≤ length source
  pub buffer_left : buffer_needed (machine_of page who) ≤ length buffer
  pub long : length buffer ≡ length start
  pub other : other_of page who ≡ other_of first who
  pub trace : (events : List PastEvent) × Stands (standing (machine_of first who)) call events (machine_of page who) × (count ≡ length events)
  pub running : (core : Core) → StandsFor core first → IsRunning core who call (take (payload_of call) source) start page buffer trace.0

module _ (first : Plain) (who : Role) (call : Call) (source start : List ℕ) (enough : payload_of call ≤ length source) where
  -- one more event, which gave no answer
  pub loop_step : (page page' : Plain) (buffer buffer' : List ℕ) (count : ℕ) → InLoop first who call source start page buffer count → IsStep who source page page' None buffer buffer' →
      payload_needed (machine_of page' who) ≤ payload_needed (machine_of page who) → buffer_needed (machine_of page' who) ≤ buffer_needed (machine_of page who) → other_of page' who ≡ other_of page who →
      InLoop first who call source start page' buffer' (count + 1)
  loop_step page page' buffer buffer' count l d out into other =
      let value = value_taken (orders_of page) (words_of page) (op_of page who) in
      let more : PastEvent = past (op_of page who) value in
      let kept : length buffer' ≡ length buffer = ap length d.buffers ∙ length_buffer_after (orders_of page) (words_of page) buffer (op_of page who) in
      let plan = plan_of (standing (machine_of first who)) call in
      let led = Leads_more plan l.trace.0 (rest (machine_of page who)) value (GoesOn_machine (machine_of page who) d.busy) l.trace.1 in
      record {
        busy = λ quiet. false≢true (d.idle.1 quiet);
        payload_left = omega (arith, out, l.payload_left);
        buffer_left = omega (arith, into, l.buffer_left, kept);
        long = kept ∙ l.long;
        other = other ∙ l.other;
        trace = (l.trace.0 ++ more ∷ [], subst (λ (p : Plan). Leads plan (l.trace.0 ++ more ∷ []) p) (sym d.leads) led, omega (arith, l.trace.2, length_push l.trace.0 more));
        running = λ core h. runs_on core who call source start buffer buffer' l.trace.0 page page' None enough l.long (l.running core h) d refl;
      }

  -- one more event on a ring byte
  loop_on : (page page' : Plain) (buffer buffer' : List ℕ) (count : ℕ) → InLoop first who call source start page buffer count → IsLow (machine_of page who) → IsBeside who page page' →
      EventOn who source page buffer page' buffer' → InLoop first who call source start page' buffer' (count + 1)
  loop_on page page' buffer buffer' count l low beside d =
      loop_step page page' buffer buffer' count l (is_step who source buffer buffer' page page' low beside d) d.payload_left d.buffer_left (ap (λ (e : End). e.machine) beside.other)

  -- a call has made fewer events than it may
  pub loop_short : (page : Plain) (buffer : List ℕ) (count : ℕ) → InLoop first who call source start page buffer count → count < most_events (standing (machine_of first who)) call
  loop_short page buffer count l =
      omega (arith, l.trace.2, length_Stands (standing (machine_of first who)) call l.trace.0 (machine_of page who) l.trace.1 l.busy)

  -- the last event, with its answer
  module _ (page page' : Plain) (buffer buffer' : List ℕ) (count : ℕ) (answer : Answer) (l : InLoop first who call source start page buffer count) (d : IsStep who source page page' (Some answer) buffer buffer') where
    ends : (core : Core) (h : StandsFor core first) → (event (l.running core h).now who, answer) ≡ whole_call core who call (take (payload_of call) source)
    ends core h = runs_out core who call source start buffer buffer' l.trace.0 page page' (Some answer) enough l.long (l.running core h) d answer refl

    ends_trail : (core : Core) → StandsFor core first → l.trace.0 ++ past (op_of page who) (value_taken (orders_of page) (words_of page) (op_of page who)) ∷ [] ≡ (side_of (called core who call (take (payload_of call) source)) who).trail
    ends_trail core h =
        sym (then_trail core who call source start buffer buffer' l.trace.0 page page' (Some answer) enough l.long (l.running core h) d)
        ∙ ap (λ (p : Core × Answer). (side_of p.0 who).trail) (ends core h)

    pub ends_trace : (events : List PastEvent) × Trace (standing (machine_of first who)) call events answer × (count + 1 ≡ length events) × ((core : Core) → StandsFor core first → events ≡ (side_of (called core who call (take (payload_of call) source)) who).trail)
    ends_trace =
        let value = value_taken (orders_of page) (words_of page) (op_of page who) in
        let more : PastEvent = past (op_of page who) value in
        let plan = plan_of (standing (machine_of first who)) call in
        let led = Leads_more plan l.trace.0 (rest (machine_of page who)) value (GoesOn_machine (machine_of page who) d.busy) l.trace.1 in
        (l.trace.0 ++ more ∷ [], subst (λ (p : Plan). Leads plan (l.trace.0 ++ more ∷ []) p) (sym d.leads) led, omega (arith, l.trace.2, length_push l.trace.0 more), ends_trail)

    pub ends_stands : (core : Core) → StandsFor core first → StandsFor (called core who call (take (payload_of call) source)) page'
    ends_stands core h =
        subst (λ (k : Core). StandsFor k page') (ap (λ (p : Core × Answer). p.0) (ends core h))
        (then_stands core who call source start buffer buffer' l.trace.0 page page' (Some answer) enough l.long (l.running core h) d)

    pub ends_answer : (core : Core) → StandsFor core first → answer ≡ call_answer core who call (take (payload_of call) source)
    ends_answer core h = ap (λ (p : Core × Answer). p.1) (ends core h)

    pub ends_buffer : (core : Core) → StandsFor core first → buffer' ≡ filled start (bytes_loaded (side_of (called core who call (take (payload_of call) source)) who).trail)
    ends_buffer core h =
        then_fills core who call source start buffer buffer' l.trace.0 page page' (Some answer) enough l.long (l.running core h) d
        ∙ ap (λ (p : Core × Answer). filled start (bytes_loaded (side_of p.0 who).trail)) (ends core h)

-- ---- pages between

-- the page with this machine at an end, and these words
page_on : (page : Plain) (who : Role) (m : Machine) (list : List ℕ) → standing m ≡ standing (machine_of page who) → Plain
page_on page Server m list same = record page {
  words = record page.words { list = list };
  ends = with_end page.ends Server (record page.ends.server { machine = m });
  server_orders = ap (λ (e : Standing). e.orders) same ∙ page.server_orders;
  client_orders = page.client_orders;
  server_role = ap (λ (e : Standing). e.role) same ∙ page.server_role;
  client_role = page.client_role;
}
page_on page Client m list same = record page {
  words = record page.words { list = list };
  ends = with_end page.ends Client (record page.ends.client { machine = m });
  server_orders = page.server_orders;
  client_orders = ap (λ (e : Standing). e.orders) same ∙ page.client_orders;
  server_role = page.server_role;
  client_role = ap (λ (e : Standing). e.role) same ∙ page.client_role;
}

-- it has them, and all else is the same
record HasOn (page : Plain) (who : Role) (m : Machine) (list : List ℕ) (page' : Plain) : Type 0 where
  machine : machine_of page' who ≡ m
  words : words_of page' ≡ list
  beside : IsBeside who page page'

page_on_has : (page : Plain) (who : Role) (m : Machine) (list : List ℕ) (same : standing m ≡ standing (machine_of page who)) → HasOn page who m list (page_on page who m list same)
unfolding page_on
page_on_has page Server m list same = record {
  machine = refl;
  words = refl;
  beside = record { same = same; orders = refl; moved = refl; turned = refl; other = refl };
}
page_on_has page Client m list same = record {
  machine = refl;
  words = refl;
  beside = record { same = same; orders = refl; moved = refl; turned = refl; other = refl };
}

beside_both : (who : Role) (one two three : Plain) → IsBeside who one two → IsBeside who one three → IsBeside who two three
beside_both who one two three a b = record {
  same = b.same ∙ sym a.same;
  orders = b.orders ∙ sym a.orders;
  moved = b.moved ∙ sym a.moved;
  turned = b.turned ∙ sym a.turned;
  other = b.other ∙ sym a.other;
}

-- the end that has the same parts is of the same side
end_same : (s : Side) (e e' : End) → IsEndOf s e → e'.machine ≡ e.machine → e'.moved ≡ e.moved → e'.turned ≡ e.turned → IsEndOf s e'
end_same s e e' h machine moved turned = record {
  machine = subst (λ (m : Machine). IsMachineOf s m) (sym machine) h.machine;
  sent = ap (λ (w : Totals). w.sent) moved ∙ h.sent;
  got = ap (λ (w : Totals). w.got) moved ∙ h.got;
  turned = turned ∙ h.turned;
}

-- a page that has the same parts stands for the same core states
pub stands_same : (who : Role) (page page' : Plain) → IsBeside who page page' → machine_of page' who ≡ machine_of page who → words_of page' ≡ words_of page → (core : Core) → StandsFor core page → StandsFor core page'
stands_same Server page page' b machine words core h = record {
  orders = b.orders ∙ h.orders;
  words = words ∙ h.words;
  server = end_same core.server page.ends.server page'.ends.server h.server machine b.moved b.turned;
  client = subst (λ (e : End). IsEndOf core.client e) (sym b.other) h.client;
}
stands_same Client page page' b machine words core h = record {
  orders = b.orders ∙ h.orders;
  words = words ∙ h.words;
  server = subst (λ (e : End). IsEndOf core.server e) (sym b.other) h.server;
  client = end_same core.client page.ends.client page'.ends.client h.client machine b.moved b.turned;
}

loop_same : (first : Plain) (who : Role) (call : Call) (source start : List ℕ) (page page' : Plain) (buffer buffer' : List ℕ) (count : ℕ) → InLoop first who call source start page buffer count →
    IsBeside who page page' → machine_of page' who ≡ machine_of page who → words_of page' ≡ words_of page → buffer' ≡ buffer → InLoop first who call source start page' buffer' count
loop_same first who call source start page page' buffer buffer' count l b machine words filled = record {
  busy = subst (λ (m : Machine). ¬ IsIdle m) (sym machine) l.busy;
  payload_left = subst (λ (m : Machine). payload_needed m ≤ length source) (sym machine) l.payload_left;
  buffer_left = subst (λ (m : Machine). buffer_needed m ≤ length buffer') (sym machine) (omega (arith, l.buffer_left, ap (λ (b : List ℕ). length b) filled));
  long = ap (λ (b : List ℕ). length b) filled ∙ l.long;
  other = ap (λ (e : End). e.machine) b.other ∙ l.other;
  trace = (l.trace.0, subst (λ (m : Machine). Stands (standing (machine_of first who)) call l.trace.0 m) (sym machine) l.trace.1, l.trace.2);
  running = λ core h. (let r = l.running core h in
      record {
        now = r.now;
        stands = stands_same who page page' b machine words r.now r.stands;
        pays = r.pays;
        on = subst (λ (m : Machine). alone r.now who (rest m) ≡ whole_call core who call (take (payload_of call) source)) (sym machine) r.on;
        fills = filled ∙ r.fills;
        trail = r.trail;
      });
}

-- the first of several such events, and the page between it and the others
pub record FirstEvent (who : Role) (source : List ℕ) (n : ℕ) (page page' : Plain) (buffer buffer' : List ℕ) : Type 0 where
  pub mid : Plain
  pub filled : List ℕ
  pub beside : IsBeside who page mid
  pub one : EventOn who source page buffer mid filled
  pub low : IsLow (machine_of mid who)
  pub then_beside : IsBeside who mid page'
  pub more : MakesEvents n (orders_of mid) source (machine_of mid who) (words_of mid) filled (machine_of page' who) (words_of page') buffer'

pub first_event : (who : Role) (source : List ℕ) (n : ℕ) (page page' : Plain) (buffer buffer' : List ℕ) → IsLow (machine_of page who) → IsBeside who page page' →
    MakesEvents (suc n) (orders_of page) source (machine_of page who) (words_of page) buffer (machine_of page' who) (words_of page') buffer' → FirstEvent who source n page page' buffer buffer'
first_event who source n page page' buffer buffer' low beside d =
    let m = d.0 in
    let list = d.1 in
    let filled = d.2 in
    let one = d.3 in
    let more = d.4 in
    let mid = page_on page who m list one.same in
    let has = page_on_has page who m list one.same in
    record {
      mid = mid;
      filled = filled;
      beside = has.beside;
      one = subst (λ (w : List ℕ). MakesEvent (orders_of page) source (machine_of page who) (words_of page) buffer (machine_of mid who) w filled) (sym has.words)
          (subst (λ (x : Machine). MakesEvent (orders_of page) source (machine_of page who) (words_of page) buffer x list filled) (sym has.machine) one);
      low = subst (λ (e : Standing). (e.prod < 2 ^ 32) × (e.cons < 2 ^ 32)) (sym has.beside.same) low;
      then_beside = beside_both who page mid page' has.beside beside;
      more = subst (λ (o : Orders). MakesEvents n o source (machine_of mid who) (words_of mid) filled (machine_of page' who) (words_of page') buffer') (sym has.beside.orders)
          (subst (λ (w : List ℕ). MakesEvents n (orders_of page) source (machine_of mid who) w filled (machine_of page' who) (words_of page') buffer') (sym has.words)
          (subst (λ (x : Machine). MakesEvents n (orders_of page) source x list filled (machine_of page' who) (words_of page') buffer') (sym has.machine) more));
    }

-- this many events on ring bytes at once
pub loop_along : (first : Plain) (who : Role) (call : Call) (source start : List ℕ) → payload_of call ≤ length source → (n : ℕ) (page page' : Plain) (buffer buffer' : List ℕ) (count : ℕ) →
    InLoop first who call source start page buffer count → IsLow (machine_of page who) → IsBeside who page page' →
    MakesEvents n (orders_of page) source (machine_of page who) (words_of page) buffer (machine_of page' who) (words_of page') buffer' → InLoop first who call source start page' buffer' (count + n)
loop_along first who call source start enough zero page page' buffer buffer' count l low beside d =
    subst (λ (n : ℕ). InLoop first who call source start page' buffer' n) (omega arith) (loop_same first who call source start page page' buffer buffer' count l beside d.0 d.1 d.2)
loop_along first who call source start enough (suc n) page page' buffer buffer' count l low beside d =
    let f = first_event who source n page page' buffer buffer' low beside d in
    subst (λ (k : ℕ). InLoop first who call source start page' buffer' k) (omega arith)
    (loop_along first who call source start enough n f.mid page' f.filled buffer' (count + 1) (loop_on first who call source start enough page f.mid buffer f.filled count l low f.beside f.one) f.low f.then_beside f.more)

-- ---- the phase of a call that the page doesn't know of

-- the end has its next event at a phase
pub busy_at : (who : Role) (page : Plain) (phase : Phase) → ¬ IsIdle (machine_of (page_at page who phase) who)
busy_at Server page phase = λ idle. false≢true (sym idle)
busy_at Client page phase = λ idle. false≢true (sym idle)

pub payload_needed_at : (who : Role) (page : Plain) (phase : Phase) → payload_needed (machine_of (page_at page who phase) who) ≡ payload_at phase
payload_needed_at Server page phase = refl
payload_needed_at Client page phase = refl

pub buffer_needed_at : (who : Role) (page : Plain) (phase : Phase) → buffer_needed (machine_of (page_at page who phase) who) ≡ buffer_at (read_size (standing (machine_of page who))) phase
buffer_needed_at Server page phase = refl
buffer_needed_at Client page phase = refl

pub other_of_at : (who : Role) (page : Plain) (phase : Phase) → other_of (page_at page who phase) who ≡ other_of page who
other_of_at Server page phase = refl
other_of_at Client page phase = refl

pub loop_payload : (first : Plain) (who : Role) (call : Call) (source start : List ℕ) (page : Plain) (phase : Phase) (buffer : List ℕ) (count : ℕ) → InLoop first who call source start (page_at page who phase) buffer count → payload_at phase ≤ length source
loop_payload first who call source start page phase buffer count l = subst (λ (n : ℕ). n ≤ length source) (payload_needed_at who page phase) l.payload_left

pub loop_buffer : (first : Plain) (who : Role) (call : Call) (source start : List ℕ) (page : Plain) (phase : Phase) (buffer : List ℕ) (count : ℕ) → InLoop first who call source start (page_at page who phase) buffer count → buffer_at (read_size (standing (machine_of page who))) phase ≤ length buffer
loop_buffer first who call source start page phase buffer count l = subst (λ (n : ℕ). n ≤ length buffer) (buffer_needed_at who page phase) l.buffer_left

-- a call has begun at its first phase
pub loop_first : (first : Plain) (who : Role) (call : Call) (source start : List ℕ) (phase : Phase) → payload_of call ≤ length source → loaded_most (standing (machine_of first who)) call ≤ length start →
    ((core : Core) (payload : List ℕ) → StandsFor core first → length payload ≡ payload_of call → StandsFor (begun core who call payload) (page_at first who phase)) →
    rest_at (standing (machine_of first who)) phase ≡ plan_of (standing (machine_of first who)) call →
    payload_at phase ≤ payload_of call → buffer_at (read_size (standing (machine_of first who))) phase ≤ loaded_most (standing (machine_of first who)) call →
    InLoop first who call source start (page_at first who phase) start 0
loop_first first Server call source start phase enough room stands plan out into = record {
  busy = busy_at Server first phase;
  payload_left = omega (arith, out, enough);
  buffer_left = omega (arith, into, room);
  long = refl;
  other = refl;
  trace = ([], sym plan, refl);
  running = λ core h. runs_begun core Server call (take (payload_of call) source) start first (page_at first Server phase) h (stands core (take (payload_of call) source) h (length_payload call source enough)) plan;
}
loop_first first Client call source start phase enough room stands plan out into = record {
  busy = busy_at Client first phase;
  payload_left = omega (arith, out, enough);
  buffer_left = omega (arith, into, room);
  long = refl;
  other = refl;
  trace = ([], sym plan, refl);
  running = λ core h. runs_begun core Client call (take (payload_of call) source) start first (page_at first Client phase) h (stands core (take (payload_of call) source) h (length_payload call source enough)) plan;
}

-- this many events at once, from one phase to another
pub loop_moved : (first : Plain) (who : Role) (call : Call) (source start : List ℕ) → payload_of call ≤ length source → (n : ℕ) (page page' : Plain) (phase phase' : Phase) (buffer buffer' : List ℕ) (count : ℕ) →
    InLoop first who call source start (page_at page who phase) buffer count → IsLow (machine_of page who) → IsBeside who page page' → machine_of page' who ≡ machine_of page who →
    MakesEvents n (orders_of page) source (at_phase (machine_of page who) phase) (words_of page) buffer (at_phase (machine_of page who) phase') (words_of page') buffer' →
    InLoop first who call source start (page_at page' who phase') buffer' (count + n)
loop_moved first Server call source start enough n page page' phase phase' buffer buffer' count l low b same d =
    loop_along first Server call source start enough n (page_at page Server phase) (page_at page' Server phase') buffer buffer' count l low
    (record { same = b.same; orders = b.orders; moved = b.moved; turned = b.turned; other = b.other })
    (subst (λ (m : Machine). MakesEvents n (orders_of page) source (at_phase page.ends.server.machine phase) (words_of page) buffer (at_phase m phase') (words_of page') buffer') (sym same) d)
loop_moved first Client call source start enough n page page' phase phase' buffer buffer' count l low b same d =
    loop_along first Client call source start enough n (page_at page Client phase) (page_at page' Client phase') buffer buffer' count l low
    (record { same = b.same; orders = b.orders; moved = b.moved; turned = b.turned; other = b.other })
    (subst (λ (m : Machine). MakesEvents n (orders_of page) source (at_phase page.ends.client.machine phase) (words_of page) buffer (at_phase m phase') (words_of page') buffer') (sym same) d)

-- this many looks at once
pub loop_seen : (first : Plain) (who : Role) (call : Call) (source start : List ℕ) → payload_of call ≤ length source → (n : ℕ) (page : Plain) (phase phase' : Phase) (buffer : List ℕ) (count : ℕ) →
    InLoop first who call source start (page_at page who phase) buffer count → IsLow (machine_of page who) →
    MakesEvents n (orders_of page) source (at_phase (machine_of page who) phase) (words_of page) buffer (at_phase (machine_of page who) phase') (words_of page) buffer →
    InLoop first who call source start (page_at page who phase') buffer (count + n)
loop_seen first who call source start enough n page phase phase' buffer count l low d =
    loop_moved first who call source start enough n page page phase phase' buffer buffer count l low
    (record { same = refl; orders = refl; moved = refl; turned = refl; other = refl }) refl d

-- what the loop knows of the event at a phase
pub record MovesAt (who : Role) (source : List ℕ) (page page' : Plain) (phase : Phase) (move : Next) (buffer buffer' : List ℕ) : Type 0 where
  pub stands : (core : Core) → StandsFor core (page_at page who phase) → HasPayload (side_of core who) source → StandsFor (event core who) (page_to page' who move)
  pub footprint : Fits (orders_of page) (length source) (length buffer) (next_op (rest_at (standing (machine_of page who)) phase))
  pub buffers : buffer' ≡ buffer_after (orders_of page) (words_of page) buffer (next_op (rest_at (standing (machine_of page who)) phase))
  pub leads : plan_at (standing (machine_of page' who)) move ≡ after (rest_at (standing (machine_of page who)) phase) (value_taken (orders_of page) (words_of page) (next_op (rest_at (standing (machine_of page who)) phase)))
  pub idle : IsIdle (machine_of page' who)
  pub payload_left : payload_next move ≤ payload_at phase
  pub buffer_left : buffer_next (read_size (standing (machine_of page' who))) move ≤ buffer_at (read_size (standing (machine_of page who))) phase
  pub other : other_of page' who ≡ other_of page who

pub step_to : (who : Role) (source : List ℕ) (page page' : Plain) (phase next : Phase) (buffer buffer' : List ℕ) → MovesAt who source page page' phase (To next) buffer buffer' →
    IsStep who source (page_at page who phase) (page_at page' who next) None buffer buffer'
step_to Server source page page' phase next buffer buffer' d = record {
  busy = busy_at Server page phase;
  stands = d.stands;
  footprint = d.footprint;
  buffers = d.buffers;
  leads = d.leads;
  idle = (λ some. absurd (false≢true some), λ quiet. absurd (false≢true (sym quiet)));
}
step_to Client source page page' phase next buffer buffer' d = record {
  busy = busy_at Client page phase;
  stands = d.stands;
  footprint = d.footprint;
  buffers = d.buffers;
  leads = d.leads;
  idle = (λ some. absurd (false≢true some), λ quiet. absurd (false≢true (sym quiet)));
}

pub step_done : (who : Role) (source : List ℕ) (page page' : Plain) (phase : Phase) (answer : Answer) (buffer buffer' : List ℕ) → MovesAt who source page page' phase (Done answer) buffer buffer' →
    IsStep who source (page_at page who phase) page' (Some answer) buffer buffer'
step_done Server source page page' phase answer buffer buffer' d = record {
  busy = busy_at Server page phase;
  stands = d.stands;
  footprint = d.footprint;
  buffers = d.buffers;
  leads = d.leads;
  idle = (λ some. d.idle, λ quiet. refl);
}
step_done Client source page page' phase answer buffer buffer' d = record {
  busy = busy_at Client page phase;
  stands = d.stands;
  footprint = d.footprint;
  buffers = d.buffers;
  leads = d.leads;
  idle = (λ some. d.idle, λ quiet. refl);
}

-- an event that moves on to a phase
pub loop_to : (first : Plain) (who : Role) (call : Call) (source start : List ℕ) → payload_of call ≤ length source → (page page' : Plain) (phase next : Phase) (buffer buffer' : List ℕ) (count : ℕ) →
    InLoop first who call source start (page_at page who phase) buffer count → MovesAt who source page page' phase (To next) buffer buffer' →
    InLoop first who call source start (page_at page' who next) buffer' (count + 1)
loop_to first Server call source start enough page page' phase next buffer buffer' count l d =
    loop_step first Server call source start enough (page_at page Server phase) (page_at page' Server next) buffer buffer' count l (step_to Server source page page' phase next buffer buffer' d) d.payload_left d.buffer_left d.other
loop_to first Client call source start enough page page' phase next buffer buffer' count l d =
    loop_step first Client call source start enough (page_at page Client phase) (page_at page' Client next) buffer buffer' count l (step_to Client source page page' phase next buffer buffer' d) d.payload_left d.buffer_left d.other

-- a call that has made this many events, the last of which gave this answer
pub record IsEnded (first : Plain) (who : Role) (call : Call) (source start : List ℕ) (page : Plain) (buffer : List ℕ) (count : ℕ) (answer : Answer) : Type 0 where
  pub trace : (events : List PastEvent) × Trace (standing (machine_of first who)) call events answer × (count ≡ length events) × ((core : Core) → StandsFor core first → events ≡ (side_of (called core who call (take (payload_of call) source)) who).trail)
  pub short : count ≤ most_events (standing (machine_of first who)) call
  pub stands : (core : Core) → StandsFor core first → StandsFor (called core who call (take (payload_of call) source)) page
  pub answers : (core : Core) → StandsFor core first → answer ≡ call_answer core who call (take (payload_of call) source)
  pub fills : (core : Core) → StandsFor core first → buffer ≡ filled start (bytes_loaded (side_of (called core who call (take (payload_of call) source)) who).trail)
  pub other : other_of page who ≡ other_of first who

-- an event that gives the answer
pub loop_done : (first : Plain) (who : Role) (call : Call) (source start : List ℕ) → payload_of call ≤ length source → (page page' : Plain) (phase : Phase) (answer : Answer) (buffer buffer' : List ℕ) (count : ℕ) →
    InLoop first who call source start (page_at page who phase) buffer count → MovesAt who source page page' phase (Done answer) buffer buffer' →
    IsEnded first who call source start page' buffer' (count + 1) answer
loop_done first who call source start enough page page' phase answer buffer buffer' count l d =
    let here = page_at page who phase in
    let last = step_done who source page page' phase answer buffer buffer' d in
    let short = loop_short first who call source start enough here buffer count l in
    record {
      trace = ends_trace first who call source start enough here page' buffer buffer' count answer l last;
      short = omega (arith, short);
      stands = ends_stands first who call source start enough here page' buffer buffer' count answer l last;
      answers = ends_answer first who call source start enough here page' buffer buffer' count answer l last;
      fills = ends_buffer first who call source start enough here page' buffer buffer' count answer l last;
      other = d.other ∙ sym (other_of_at who page phase) ∙ l.other;
    }
