-- Events of an end one after the other, and what a whole call is made of.
use Rattle.std.proofs.Common.{◌≡◌, ℕ, ◌≤◌, ◌↔◌, Option, Some, None, IsSome, List, length, take, subst, sym, ap, ◌∙◌, refl, arith}
use Rattle.std.proofs.lemmas.Bool.{false≢true}
use Rattle.vchan_protocol.specs.declared.call.Answer.{Answer}
use Rattle.vchan_protocol.specs.declared.call.Call.{Call}
use Rattle.vchan_protocol.specs.declared.side.Side.{Side}
use Rattle.vchan_protocol.specs.Table.Plan.{GoesOn}
use Rattle.vchan_protocol.specs.Table.Calls.{payload_of, loaded_most}
use Rattle.vchan_protocol.specs.History.Core.{standing_of, plan_left}
use Rattle.vchan_protocol.specs.OneEnd.OneCall.{OnWay, IsOver, IsThen}
use Rattle.vchan_protocol.proofs.OneEnd.OneCallWay.{way_begins}
use Rattle.vchan_core.specs.OneMachine.Phases.{IsIdle, payload_needed, buffer_needed}
use Rattle.vchan_core.specs.Page.StandsFor.{HasPayload}
use Rattle.vchan_rule.specs.Seated.{SeatedEnd}
use Rattle.vchan_rule.specs.Ends.{seen, seen_by, Agrees, Pays, IsSameEnd}
use Rattle.vchan_rule.specs.Along.{GoesAlong}
use Rattle.vchan_rule.specs.Going.{IsReady, Goes, InCalls, Starts}
use Rattle.vchan_rule.proofs.CallLaws.{way_on, MakesOne, made_long, seen_now}

pub goes_one : (e : SeatedEnd) (payload buffer : List ℕ) (result : Option Answer) (e' : SeatedEnd) (buffer' : List ℕ) → IsReady e payload buffer → GoesOn (plan_left (seen e payload)) → MakesOne e payload buffer e' buffer' result →
    IsSameEnd e e' → Agrees e'.start None e'.machine e'.side → e'.begun ≡ None → HasPayload e'.side payload → (IsSome result ↔ IsIdle e'.machine) → payload_needed e'.machine ≤ payload_needed e.machine → buffer_needed e'.machine ≤ buffer_needed e.machine →
    Goes e payload buffer result e' buffer'
goes_one e payload buffer result e' buffer' ready more m same agrees none has idle out into =
    let long = made_long e payload buffer e' buffer' result m in
    let agrees' : Agrees e'.start e'.begun e'.machine e'.side = subst (λ (b : Option Call). Agrees e'.start b e'.machine e'.side) (sym none) agrees in
    record {
      same = same;
      agrees = agrees';
      long = long;
      way = λ was call given start enough w.
          subst (λ (s : Side). IsThen was call given start s buffer' result) (sym (seen_now e' payload none)) (way_on was call given start (seen e payload) buffer m.0 enough w more result e'.side buffer' m.2 m.1 m.3);
      ready = λ quiet. record {
        agrees = agrees';
        busy = λ rests. false≢true (subst (λ (r : Option Answer). IsSome r) quiet (idle.1 rests));
        out = omega (arith, out, ready.out);
        into = omega (arith, into, ready.into, long);
        pays = subst (λ (b : Option Call). Pays b e'.side payload) (sym none) has;
      };
      over = λ some. (idle.0 some, none);
    }

pub goes_along : (e : SeatedEnd) (payload buffer : List ℕ) (e' : SeatedEnd) (buffer' : List ℕ) → IsReady e payload buffer → e.begun ≡ None → GoesAlong e.side buffer e'.side buffer' → IsSameEnd e e' → Agrees e'.start None e'.machine e'.side →
    ¬ IsIdle e'.machine → e'.begun ≡ None → HasPayload e'.side payload → payload_needed e'.machine ≤ payload_needed e.machine → buffer_needed e'.machine ≤ buffer_needed e.machine → Goes e payload buffer None e' buffer'
goes_along e payload buffer e' buffer' ready quiet along same agrees busy none has out into =
    let agrees' : Agrees e'.start e'.begun e'.machine e'.side = subst (λ (b : Option Call). Agrees e'.start b e'.machine e'.side) (sym none) agrees in
    record {
      same = same;
      agrees = agrees';
      long = along.long;
      way = λ was call given start enough w.
          subst (λ (s : Side). OnWay was call given start s buffer') (sym (seen_now e' payload none)) (along.way was call given start enough (subst (λ (s : Side). OnWay was call given start s buffer) (seen_now e payload quiet) w));
      ready = λ nothing. record {
        agrees = agrees';
        busy = busy;
        out = omega (arith, out, ready.out);
        into = omega (arith, into, ready.into, along.long);
        pays = subst (λ (b : Option Call). Pays b e'.side payload) (sym none) has;
      };
      over = λ some. absurd (false≢true some);
    }

pub goes_then : (e : SeatedEnd) (payload buffer : List ℕ) (e1 : SeatedEnd) (buffer1 : List ℕ) (result : Option Answer) (e2 : SeatedEnd) (buffer2 : List ℕ) → Goes e payload buffer None e1 buffer1 → Goes e1 payload buffer1 result e2 buffer2 → Goes e payload buffer result e2 buffer2
goes_then e payload buffer e1 buffer1 result e2 buffer2 one two =
    record {
      same = (two.same.0 ∙ one.same.0, two.same.1 ∙ one.same.1, two.same.2 ∙ one.same.2, two.same.3 ∙ one.same.3);
      agrees = two.agrees;
      long = two.long ∙ one.long;
      way = λ was call given start enough w. two.way was call given start enough (one.way was call given start enough w);
      ready = two.ready;
      over = two.over;
    }

-- if the first events gave no answer, more may follow
pub goes_on_then : (e : SeatedEnd) (payload buffer : List ℕ) (first : Option Answer) (e1 : SeatedEnd) (buffer1 : List ℕ) → first ≡ None → Goes e payload buffer first e1 buffer1 → Goes e payload buffer None e1 buffer1
goes_on_then e payload buffer first e1 buffer1 none one = subst (λ (r : Option Answer). Goes e payload buffer r e1 buffer1) none one

-- ---- a call that an end is in

pub in_calls_on : (was : SeatedEnd) (call : Call) (payload start : List ℕ) (e : SeatedEnd) (buffer : List ℕ) (e' : SeatedEnd) (buffer' : List ℕ) → InCalls was call payload start e buffer → Goes e payload buffer None e' buffer' → InCalls was call payload start e' buffer'
in_calls_on was call payload start e buffer e' buffer' i goes =
    let ready = goes.ready refl in
    record {
      same = (goes.same.0 ∙ i.same.0, goes.same.1 ∙ i.same.1, goes.same.2 ∙ i.same.2, goes.same.3 ∙ i.same.3);
      busy = ready.busy;
      out = ready.out;
      into = ready.into;
      long = goes.long ∙ i.long;
      enough = i.enough;
      pays = ready.pays;
      way = goes.way was.side call (take (payload_of call) payload) start i.enough i.way;
    }

pub in_calls_over : (was : SeatedEnd) (call : Call) (payload start : List ℕ) (e : SeatedEnd) (buffer : List ℕ) (answer : Answer) (e' : SeatedEnd) (buffer' : List ℕ) → InCalls was call payload start e buffer → Goes e payload buffer (Some answer) e' buffer' →
    IsOver was.side call (take (payload_of call) payload) start e'.side buffer' answer
in_calls_over was call payload start e buffer answer e' buffer' i goes =
    subst (λ (s : Side). IsOver was.side call (take (payload_of call) payload) start s buffer' answer) (seen_now e' payload (goes.over refl).1) (goes.way was.side call (take (payload_of call) payload) start i.enough i.way)

-- a call that was begun, of which no event is made
pub starts_in : (was : SeatedEnd) (call : Call) (payload start : List ℕ) (e : SeatedEnd) → e.page ≡ was.page → e.start ≡ was.start → e.side ≡ was.side → e.begun ≡ Some call → ¬ IsIdle e.machine → payload_needed e.machine ≤ payload_of call →
    buffer_needed e.machine ≤ loaded_most (standing_of was.side) call → payload_of call ≤ length payload → loaded_most (standing_of was.side) call ≤ length start → InCalls was call payload start e start
starts_in was call payload start e page starts side begun busy out into enough room =
    record {
      same = (page, ap (λ (s : Side). s.role) side, ap (λ (s : Side). s.orders) side, starts);
      busy = busy;
      out = omega (arith, out, enough);
      into = omega (arith, into, room);
      long = refl;
      enough = room;
      pays = subst (λ (b : Option Call). Pays b e.side payload) (sym begun) enough;
      way = subst (λ (z : Option Call × Side). OnWay was.side call (take (payload_of call) payload) start (seen_by z.0 z.1 payload) start) (λ i. (sym begun i, sym side i)) (way_begins was.side call (take (payload_of call) payload) start);
    }

pub starts_from : (was : SeatedEnd) (call : Call) (payload start : List ℕ) (e : SeatedEnd) (result : Option Answer) (e' : SeatedEnd) (buffer' : List ℕ) → InCalls was call payload start e start → Goes e payload start result e' buffer' → Starts was call payload start result e' buffer'
starts_from was call payload start e result e' buffer' i goes =
    record {
      same = (goes.same.0 ∙ i.same.0, goes.same.1 ∙ i.same.1, goes.same.2 ∙ i.same.2, goes.same.3 ∙ i.same.3);
      long = goes.long;
      on = λ none. in_calls_on was call payload start e start e' buffer' i (goes_on_then e payload start result e' buffer' none goes);
      over = λ answer is.
          let g = subst (λ (r : Option Answer). Goes e payload start r e' buffer') is goes in
          (in_calls_over was call payload start e start answer e' buffer' i g, (g.over refl).0, (g.over refl).1);
    }
