-- Events of its call that an end makes one after another: the loop over them.
use Rattle.std.proofs.Common.{◌≡◌, ℕ, suc, zero, ◌-◌, ◌<◌, ◌≤◌, ◌++◌, ◌∷◌, [], false, Option, Some, None, List, length, take, is_some, true, refl, subst, sym, ap, ◌∙◌, arith}
use Rattle.std.proofs.lemmas.Bool.{false≢true}
use Rattle.ring_words.specs.declared.page.Role.{Role}
use Rattle.ring_words.specs.declared.page.Role.TheVariants.{Server, Client}
use Rattle.vchan_protocol.specs.declared.op.Op.{Op}
use Rattle.vchan_protocol.specs.declared.op.PastEvent.{PastEvent}
use Rattle.vchan_protocol.specs.declared.call.Answer.{Answer}
use Rattle.vchan_protocol.specs.declared.side.Begun.{Begun}
use Rattle.vchan_protocol.specs.declared.side.Side.{Side}
use Rattle.vchan_core.specs.declared.ends.End.{End}
use Rattle.vchan_core.specs.declared.machine.Machine.{Machine}
use Rattle.vchan_core.specs.declared.plain.Plain.{Plain}
use Rattle.vchan_core.specs.declared.phase.Phase.{Phase}
use Rattle.vchan_core.specs.declared.phase.Next.TheVariants.{To, Done}
use Rattle.vchan_protocol.specs.Table.Plan.{Plan, answers, does, past, Leads, after}
use Rattle.vchan_protocol.specs.Table.Ends.{Standing, read_size}
use Rattle.vchan_protocol.specs.Table.Calls.{plan_of, Trace}
use Rattle.vchan_protocol.specs.Table.Apply.{value_taken, filled}
use Rattle.vchan_core.specs.OneMachine.Phases.{standing, at_phase, rest, rest_or_answer, IsIdle, payload_needed, buffer_needed, payload_at, buffer_at}
use Rattle.vchan_protocol.specs.History.Core.{Core, side_of, begun_standing, event, bytes_loaded, plan_next, answer_in, made, settled}
use Rattle.vchan_protocol.specs.Always.Invariant.{Invariant}
use Rattle.vchan_core.specs.Page.StandsFor.{IsMachineOf, HasPayload, StandsFor, machine_of, other_of, words_of, orders_of, op_of}
use Rattle.vchan_core.specs.WholeCall.EventsMade.{MakesEvents}
use Rattle.vchan_core.specs.WholeCall.Beside.{IsBeside}
use Rattle.vchan_core.specs.WholeCall.AtPhase.{page_at}
use Rattle.vchan_core.specs.WholeCall.Stepped.{Advances, stepped, unless_answered}
use Rattle.vchan_core.proofs.OneMachine.PhaseLaws.{GoesOn_machine}
use Rattle.vchan_protocol.proofs.Table.PlanLaws.{Leads_more}
use Rattle.vchan_protocol.proofs.Always.InvariantSteps.{invariant_event}
use Rattle.vchan_core.proofs.Page.StepLaws.{InCall, answer_is}
use Rattle.vchan_core.proofs.Page.PlainLaws.{goes_on_stands}
use Rattle.vchan_core.proofs.WholeCall.RunLaws.{IsStep, event_here, event_side, event_payload, event_fills, event_trail, machine_stands}
use Rattle.vchan_core.proofs.WholeCall.LoopLaws.{IsLow, MovesAt, first_event, is_step, length_buffer_after, step_done, step_to, stands_same}

-- ---- what an event leaves of its end

-- an end of the same role and rings, turned or not as before, and with the same payload
pub record Keeps (s s' : Side) : Type 0 where
  pub role : s'.role ≡ s.role
  pub orders : s'.orders ≡ s.orders
  pub payload : s'.payload ≡ s.payload
  pub turned : s'.turned ≡ s.turned

keeps_settled : (s : Side) (op : Op) (taken : ℕ) (plan : Plan) → Keeps s (settled (made s op taken) plan)
keeps_settled s op taken (answers answer) = record { role = refl; orders = refl; payload = refl; turned = refl }
keeps_settled s op taken (does next then) = record { role = refl; orders = refl; payload = refl; turned = refl }

keeps_both : (s s' s'' : Side) → Keeps s s' → Keeps s' s'' → Keeps s s''
keeps_both s s' s'' a b = record {
  role = b.role ∙ a.role;
  orders = b.orders ∙ a.orders;
  payload = b.payload ∙ a.payload;
  turned = b.turned ∙ a.turned;
}

-- an end that is still inside a call is inside the same one
settled_call : (s : Side) (plan : Plan) (m : Machine) → IsMachineOf (settled s plan) m → ¬ IsIdle m → (settled s plan).call ≡ s.call
settled_call s (answers answer) m h busy = absurd (busy h.in_call)
settled_call s (does op next) m h busy = refl

-- if an end has a call that it began, it stood at its begin as this other one did
begun_as : (s s' : Side) (b : Begun) → Keeps s s' → begun_standing s' b ≡ begun_standing s b
begun_as s s' b k i = record { role = k.role i; orders = k.orders i; state = b.state; prod = b.prod; cons = b.cons }

-- ---- how many events are left

stepped_more : (n : ℕ) (core : Core) (who : Role) → 0 < n → stepped n core who ≡ unless_answered (answer_in (plan_next core who)) (event core who) (stepped (n - 1) (event core who) who)
unfolding stepped
stepped_more zero core who some = absurd (omega arith)
stepped_more (suc n) core who some = let same : n ≡ suc n - 1 = omega arith in ap (λ (k : ℕ). unless_answered (answer_in (plan_next core who)) (event core who) (stepped k (event core who) who)) same

stepped_none : (n : ℕ) (core : Core) (who : Role) → n ≡ 0 → stepped n core who ≡ (core, None)
unfolding stepped
stepped_none n core who is = ap (λ (k : ℕ). stepped k core who) is

-- the page stands where the events made so far came to; this many of all events are left
pub record IsAdvancing (core : Core) (who : Role) (all left : ℕ) (page : Plain) (source start buffer : List ℕ) : Type 0 where
  pub now : Core
  pub stands : StandsFor now page
  pub keeps : Keeps (side_of core who) (side_of now who)
  pub call : (side_of now who).call ≡ (side_of core who).call
  pub pays : HasPayload (side_of now who) source
  pub buffers : start ≡ filled start (bytes_loaded (side_of core who).trail) → buffer ≡ filled start (bytes_loaded (side_of now who).trail)
  pub invariant : (side_of core who).turned ≡ false → Invariant core → Invariant now
  pub on : stepped left now who ≡ stepped all core who

-- ---- one event more

module _ (core : Core) (who : Role) (all left : ℕ) (source start buffer buffer' : List ℕ) (page page' : Plain) (result : Option Answer) (some : 0 < left) (long : length buffer ≡ length start)
    (a : IsAdvancing core who all left page source start buffer) (d : IsStep who source page page' result buffer buffer') where
  abbrev then : Core
  then = event a.now who

  here : InCall (side_of a.now who) (machine_of page who)
  here = event_here a.now who source start buffer buffer' page page' result a.stands long d

  stands' : StandsFor then page'
  stands' = d.stands a.now a.stands a.pays

  side' : side_of then who ≡ settled (made (side_of a.now who) (op_of page who) (value_taken a.now.orders a.now.words (op_of page who))) (after (rest (machine_of page who)) (value_taken a.now.orders a.now.words (op_of page who)))
  side' = event_side a.now who source start buffer buffer' page page' result a.stands long d

  keeps' : Keeps (side_of core who) (side_of then who)
  keeps' = keeps_both (side_of core who) (side_of a.now who) (side_of then who) a.keeps (subst (λ (s : Side). Keeps (side_of a.now who) s) (sym side') (keeps_settled (side_of a.now who) _ _ _))

  pays' : HasPayload (side_of then who) source
  pays' = subst (λ (l : List ℕ). take (length l) source ≡ l) (sym (event_payload a.now who source start buffer buffer' page page' result a.stands long d)) a.pays

  buffers' : start ≡ filled start (bytes_loaded (side_of core who).trail) → buffer' ≡ filled start (bytes_loaded (side_of then who).trail)
  buffers' h = event_fills a.now who source start buffer buffer' page page' result a.stands long d (a.buffers h)

  invariant' : (side_of core who).turned ≡ false → Invariant core → Invariant then
  invariant' honest kept = invariant_event a.now who (a.invariant honest kept) (a.keeps.turned ∙ honest) (goes_on_stands a.now page who a.stands d.busy)

  is : result ≡ answer_in (plan_next a.now who)
  is = answer_is a.now who (orders_of page) (words_of page) (machine_of page who) (machine_of page' who) result (machine_stands a.now page who a.stands) a.stands.orders a.stands.words d.busy d.leads d.idle

  next : stepped all core who ≡ unless_answered result then (stepped (left - 1) then who)
  next = sym a.on ∙ stepped_more left a.now who some ∙ ap (λ (r : Option Answer). unless_answered r then (stepped (left - 1) then who)) (sym is)

  -- it gave no answer
  pub advance_on : result ≡ None → IsAdvancing core who all (left - 1) page' source start buffer'
  advance_on none =
      let awake : ¬ IsIdle (machine_of page' who) = λ quiet. false≢true (subst (λ (x : Option Answer). is_some x ≡ true) none (d.idle.1 quiet)) in
      record {
        now = then;
        stands = stands';
        keeps = keeps';
        call = ap (λ (s : Side). s.call) side'
            ∙ settled_call _ _ (machine_of page' who) (subst (λ (s : Side). IsMachineOf s (machine_of page' who)) side' (machine_stands then page' who stands')) awake ∙ a.call;
        pays = pays';
        buffers = buffers';
        invariant = invariant';
        on = sym (next ∙ ap (λ (r : Option Answer). unless_answered r then (stepped (left - 1) then who)) none);
      }

  -- it gave the answer
  ended : (answer : Answer) → result ≡ Some answer → stepped all core who ≡ (then, Some answer)
  ended answer some' = next ∙ ap (λ (r : Option Answer). unless_answered r then (stepped (left - 1) then who)) some'

  traced : (answer : Answer) → result ≡ Some answer → (b : Begun) × ((side_of core who).call ≡ Some b) × Trace (begun_standing (side_of core who) b) b.call (side_of then who).trail answer
  traced answer some' =
      let b = here.begun in
      let s : Side = side_of a.now who in
      let op = op_of page who in
      let value = value_taken (orders_of page) (words_of page) op in
      let led : Leads (plan_of (begun_standing s b) b.call) (s.trail ++ past op value ∷ []) (after (rest (machine_of page who)) value) =
      Leads_more (plan_of (begun_standing s b) b.call) s.trail (rest (machine_of page who)) value (GoesOn_machine (machine_of page who) d.busy) here.led in
      let over : after (rest (machine_of page who)) value ≡ answers answer = sym d.leads ∙ ap (λ (r : Option Answer). rest_or_answer r (machine_of page' who)) some' in
      let trail : (side_of then who).trail ≡ s.trail ++ past op value ∷ [] = event_trail a.now who source start buffer buffer' page page' result a.stands long d in (
        b,
        sym a.call ∙ here.is,
        subst (λ (e : Standing). Trace e b.call (side_of then who).trail answer) (begun_as (side_of core who) s b a.keeps)
            (subst (λ (t : List PastEvent). Trace (begun_standing s b) b.call t answer) (sym trail)
            (subst (λ (p : Plan). Leads (plan_of (begun_standing s b) b.call) (s.trail ++ past op value ∷ []) p) over led)),
      )

  pub advance_out : (answer : Answer) → result ≡ Some answer → Advances core who all page' start buffer' (Some answer)
  advance_out answer some' =
      let is_ended = sym (ended answer some') in
      record {
        stands = subst (λ (p : Core × Option Answer). StandsFor p.0 page') is_ended stands';
        answer = ap (λ (p : Core × Option Answer). p.1) is_ended;
        buffers = λ h. subst (λ (p : Core × Option Answer). buffer' ≡ filled start (bytes_loaded (side_of p.0 who).trail)) is_ended (buffers' h);
        inside = λ none. absurd (false≢true (sym (ap (λ (r : Option Answer). is_some r) none)));
        payload = subst (λ (p : Core × Option Answer). (side_of p.0 who).payload ≡ (side_of core who).payload) is_ended keeps'.payload;
        trace = subst (λ (p : Core × Option Answer). (b : Begun) × ((side_of core who).call ≡ Some b) × Trace (begun_standing (side_of core who) b) b.call (side_of p.0 who).trail answer) is_ended (traced answer some');
        invariant = λ honest kept. subst (λ (p : Core × Option Answer). Invariant p.0) is_ended (invariant' honest kept);
      }

-- ---- no event is left

same_page : (core : Core) (who : Role) (all left : ℕ) (page page' : Plain) (source start buffer buffer' : List ℕ) → IsBeside who page page' → machine_of page' who ≡ machine_of page who → words_of page' ≡ words_of page → buffer' ≡ buffer →
    IsAdvancing core who all left page source start buffer → IsAdvancing core who all left page' source start buffer'
same_page core who all left page page' source start buffer buffer' beside machine words same a = record {
  now = a.now;
  stands = stands_same who page page' beside machine words a.now a.stands;
  keeps = a.keeps;
  call = a.call;
  pays = a.pays;
  buffers = λ h. same ∙ a.buffers h;
  invariant = a.invariant;
  on = a.on;
}

advance_over : (core : Core) (who : Role) (all left : ℕ) (page : Plain) (source start buffer : List ℕ) → left ≡ 0 → IsAdvancing core who all left page source start buffer → Advances core who all page start buffer None
advance_over core who all left page source start buffer none a =
    let over : (a.now, None) ≡ stepped all core who = sym (stepped_none left a.now who none) ∙ a.on in
    record {
      stands = subst (λ (p : Core × Option Answer). StandsFor p.0 page) over a.stands;
      answer = ap (λ (p : Core × Option Answer). p.1) over;
      buffers = λ h. subst (λ (p : Core × Option Answer). buffer ≡ filled start (bytes_loaded (side_of p.0 who).trail)) over (a.buffers h);
      inside = λ _. subst (λ (p : Core × Option Answer). (side_of p.0 who).call ≡ (side_of core who).call) over a.call;
      payload = subst (λ (p : Core × Option Answer). (side_of p.0 who).payload ≡ (side_of core who).payload) over a.keeps.payload;
      trace = tt;
      invariant = λ honest kept. subst (λ (p : Core × Option Answer). Invariant p.0) over (a.invariant honest kept);
    }

-- ---- several events on ring bytes at once

advance_along : (core : Core) (who : Role) (all : ℕ) (source start : List ℕ) (n left : ℕ) (page page' : Plain) (buffer buffer' : List ℕ) → n ≤ left → length buffer ≡ length start →
    IsAdvancing core who all left page source start buffer → IsLow (machine_of page who) → IsBeside who page page' →
    MakesEvents n (orders_of page) source (machine_of page who) (words_of page) buffer (machine_of page' who) (words_of page') buffer' → IsAdvancing core who all (left - n) page' source start buffer'
advance_along core who all source start zero left page page' buffer buffer' few long a low beside d =
    subst (λ (k : ℕ). IsAdvancing core who all k page' source start buffer') (omega arith) (same_page core who all left page page' source start buffer buffer' beside d.0 d.1 d.2 a)
advance_along core who all source start (suc n) left page page' buffer buffer' few long a low beside d =
    let f = first_event who source n page page' buffer buffer' low beside d in
    let step = is_step who source buffer f.filled page f.mid low f.beside f.one in
    let long' : length f.filled ≡ length start = ap (λ (l : List ℕ). length l) f.one.buffers ∙ length_buffer_after (orders_of page) (words_of page) buffer (op_of page who) ∙ long in
    subst (λ (k : ℕ). IsAdvancing core who all k page' source start buffer') (omega (arith, few))
    (advance_along core who all source start n (left - 1) f.mid page' f.filled buffer' (omega (arith, few)) long'
    (advance_on core who all left source start buffer f.filled page f.mid None (omega (arith, few)) long a step refl) f.low f.then_beside f.more)

-- ---- the loop, whose phase is kept outside the page

pub record InAdvance (first : Plain) (who : Role) (all : ℕ) (source start : List ℕ) (left : ℕ) (page : Plain) (phase : Phase) (buffer : List ℕ) : Type 0 where
  pub idle : IsIdle (machine_of page who)
  pub payload_left : payload_at phase ≤ payload_needed (machine_of first who)
  pub buffer_left : buffer_at (read_size (standing (machine_of page who))) phase ≤ buffer_needed (machine_of first who)
  pub other : other_of page who ≡ other_of first who
  pub long : length buffer ≡ length start
  pub on : (core : Core) → StandsFor core first → HasPayload (side_of core who) source → IsAdvancing core who all left (page_at page who phase) source start buffer

-- the page at its phase, which was taken out of the machine
page_taken : (first : Plain) (who : Role) (page : Plain) (phase : Phase) → IsBeside who first page → machine_of first who ≡ at_phase (machine_of page who) phase → IsBeside who first (page_at page who phase) × (machine_of (page_at page who phase) who ≡ machine_of first who) × (words_of (page_at page who phase) ≡ words_of page)
page_taken first Server page phase b is = (record { same = b.same; orders = b.orders; moved = b.moved; turned = b.turned; other = b.other }, sym is, refl)
page_taken first Client page phase b is = (record { same = b.same; orders = b.orders; moved = b.moved; turned = b.turned; other = b.other }, sym is, refl)

payload_taken : (m m' : Machine) (phase : Phase) → m ≡ at_phase m' phase → payload_at phase ≤ payload_needed m
payload_taken m m' phase is = subst (λ (x : Machine). payload_at phase ≤ payload_needed x) (sym is) (omega arith)

buffer_taken : (m m' : Machine) (phase : Phase) → m ≡ at_phase m' phase → buffer_at (read_size (standing m')) phase ≤ buffer_needed m
buffer_taken m m' phase is = subst (λ (x : Machine). buffer_at (read_size (standing m')) phase ≤ buffer_needed x) (sym is) (omega arith)

pub advance_first : (first : Plain) (who : Role) (all : ℕ) (source start : List ℕ) (page : Plain) (phase : Phase) → IsIdle (machine_of page who) → IsBeside who first page → words_of page ≡ words_of first →
    machine_of first who ≡ at_phase (machine_of page who) phase → InAdvance first who all source start all page phase start
advance_first first who all source start page phase idle beside words is =
    let there = page_taken first who page phase beside is in
    record {
      idle = idle;
      payload_left = payload_taken (machine_of first who) (machine_of page who) phase is;
      buffer_left = buffer_taken (machine_of first who) (machine_of page who) phase is;
      other = ap (λ (e : End). e.machine) beside.other;
      long = refl;
      on = λ core h has. record {
        now = core;
        stands = stands_same who first (page_at page who phase) there.0 there.1 (there.2 ∙ words) core h;
        keeps = record { role = refl; orders = refl; payload = refl; turned = refl };
        call = refl;
        pays = has;
        buffers = λ filled_so. filled_so;
        invariant = λ honest kept. kept;
        on = refl;
      };
    }

-- events that are made at once
moved_at : (who : Role) (n : ℕ) (source : List ℕ) (page page' : Plain) (phase phase' : Phase) (buffer buffer' : List ℕ) → IsBeside who page page' → machine_of page' who ≡ machine_of page who →
    MakesEvents n (orders_of page) source (at_phase (machine_of page who) phase) (words_of page) buffer (at_phase (machine_of page who) phase') (words_of page') buffer' →
    IsBeside who (page_at page who phase) (page_at page' who phase') × MakesEvents n (orders_of (page_at page who phase)) source (machine_of (page_at page who phase) who) (words_of (page_at page who phase)) buffer (machine_of (page_at page' who phase') who) (words_of (page_at page' who phase')) buffer'
moved_at Server n source page page' phase phase' buffer buffer' b same d = (
  record { same = b.same; orders = b.orders; moved = b.moved; turned = b.turned; other = b.other },
  subst (λ (m : Machine). MakesEvents n (orders_of page) source (at_phase page.ends.server.machine phase) (words_of page) buffer (at_phase m phase') (words_of page') buffer') (sym same) d,
)
moved_at Client n source page page' phase phase' buffer buffer' b same d = (
  record { same = b.same; orders = b.orders; moved = b.moved; turned = b.turned; other = b.other },
  subst (λ (m : Machine). MakesEvents n (orders_of page) source (at_phase page.ends.client.machine phase) (words_of page) buffer (at_phase m phase') (words_of page') buffer') (sym same) d,
)

low_at : (who : Role) (page : Plain) (phase : Phase) → IsLow (machine_of page who) → IsLow (machine_of (page_at page who phase) who)
low_at Server page phase low = low
low_at Client page phase low = low

pub advance_moved : (first : Plain) (who : Role) (all : ℕ) (source start : List ℕ) (n left : ℕ) (page page' : Plain) (phase phase' : Phase) (buffer buffer' : List ℕ) → n ≤ left → IsLow (machine_of page who) → IsBeside who page page' →
    machine_of page' who ≡ machine_of page who → payload_at phase' ≤ payload_at phase → buffer_at (read_size (standing (machine_of page who))) phase' ≤ buffer_at (read_size (standing (machine_of page who))) phase → length buffer' ≡ length buffer →
    MakesEvents n (orders_of page) source (at_phase (machine_of page who) phase) (words_of page) buffer (at_phase (machine_of page who) phase') (words_of page') buffer' →
    InAdvance first who all source start left page phase buffer → InAdvance first who all source start (left - n) page' phase' buffer'
advance_moved first who all source start n left page page' phase phase' buffer buffer' few low beside same out into as_long d l =
    let made_so = moved_at who n source page page' phase phase' buffer buffer' beside same d in
    record {
      idle = subst (λ (m : Machine). IsIdle m) (sym same) l.idle;
      payload_left = omega (arith, out, l.payload_left);
      buffer_left = subst (λ (m : Machine). buffer_at (read_size (standing m)) phase' ≤ buffer_needed (machine_of first who)) (sym same) (omega (arith, into, l.buffer_left));
      other = ap (λ (e : End). e.machine) beside.other ∙ l.other;
      long = as_long ∙ l.long;
      on = λ core h has.
          advance_along core who all source start n left (page_at page who phase) (page_at page' who phase') buffer buffer' few l.long (l.on core h has) (low_at who page phase low) made_so.0 made_so.1;
    }

-- an event that moves on to a phase
pub advance_to : (first : Plain) (who : Role) (all : ℕ) (source start : List ℕ) (left : ℕ) (page page' : Plain) (phase next : Phase) (buffer buffer' : List ℕ) → 0 < left → length buffer' ≡ length buffer →
    MovesAt who source page page' phase (To next) buffer buffer' → InAdvance first who all source start left page phase buffer → InAdvance first who all source start (left - 1) page' next buffer'
advance_to first who all source start left page page' phase next buffer buffer' some as_long d l = record {
  idle = d.idle;
  payload_left = omega (arith, d.payload_left, l.payload_left);
  buffer_left = omega (arith, d.buffer_left, l.buffer_left);
  other = d.other ∙ l.other;
  long = as_long ∙ l.long;
  on = λ core h has.
      advance_on core who all left source start buffer buffer' (page_at page who phase) (page_at page' who next) None some l.long (l.on core h has) (step_to who source page page' phase next buffer buffer' d) refl;
}

-- an event that gives the answer
pub advance_done : (first : Plain) (who : Role) (all : ℕ) (source start : List ℕ) (left : ℕ) (page page' : Plain) (phase : Phase) (answer : Answer) (buffer buffer' : List ℕ) → 0 < left →
    MovesAt who source page page' phase (Done answer) buffer buffer' → InAdvance first who all source start left page phase buffer →
    (core : Core) → StandsFor core first → HasPayload (side_of core who) source → Advances core who all page' start buffer' (Some answer)
advance_done first who all source start left page page' phase answer buffer buffer' some d l core h has =
    advance_out core who all left source start buffer buffer' (page_at page who phase) page' (Some answer) some l.long (l.on core h has) (step_done who source page page' phase answer buffer buffer' d) answer refl

-- the phase is put back when no event is left
pub advance_stop : (first : Plain) (who : Role) (all : ℕ) (source start : List ℕ) (left : ℕ) (page page' : Plain) (phase : Phase) (buffer : List ℕ) → left ≡ 0 → IsBeside who page page' → words_of page' ≡ words_of page →
    machine_of page' who ≡ at_phase (machine_of page who) phase → InAdvance first who all source start left page phase buffer →
    (core : Core) → StandsFor core first → HasPayload (side_of core who) source → Advances core who all page' start buffer None
advance_stop first who all source start left page page' phase buffer none beside words is l core h has =
    let back = page_back who page page' phase beside words is in
    advance_over core who all left page' source start buffer none (same_page core who all left (page_at page who phase) page' source start buffer buffer back.0 back.1 back.2 refl (l.on core h has))
  where
    page_back : (who : Role) (page page' : Plain) (phase : Phase) → IsBeside who page page' → words_of page' ≡ words_of page → machine_of page' who ≡ at_phase (machine_of page who) phase →
        IsBeside who (page_at page who phase) page' × (machine_of page' who ≡ machine_of (page_at page who phase) who) × (words_of page' ≡ words_of (page_at page who phase))
    page_back Server page page' phase b words is = (record { same = b.same; orders = b.orders; moved = b.moved; turned = b.turned; other = b.other }, is, words)
    page_back Client page page' phase b words is = (record { same = b.same; orders = b.orders; moved = b.moved; turned = b.turned; other = b.other }, is, words)
