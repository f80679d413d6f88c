-- The view of an end after a whole call, and the views of two ends that are done with their page.
use Rattle.std.proofs.Common.{◌≡◌, ℕ, Bool, true, false, List, [], ◌∷◌, refl, subst, sym, ap, ◌∙◌}
use Rattle.atomic_table.specs.Seated.{TableId}
use Rattle.ring_words.specs.declared.order.Orders.{Orders}
use Rattle.vchan_protocol.specs.declared.op.PastEvent.{PastEvent}
use Rattle.vchan_protocol.specs.declared.call.Answer.{Answer}
use Rattle.vchan_protocol.specs.declared.call.Call.{Call}
use Rattle.vchan_protocol.specs.declared.side.Side.{Side}
use Rattle.vchan_protocol.specs.Table.Calls.{IsAllowed}
use Rattle.vchan_protocol.specs.History.Core.{begins, made}
use Rattle.vchan_protocol.specs.Honest.LifeLaw.{SaysOrders}
use Rattle.vchan_protocol.specs.Always.Invariant.{PageSettled, StreamSettled}
use Rattle.vchan_protocol.specs.OneEnd.OneCall.{IsOver, side_along}
use Rattle.vchan_protocol.proofs.OneEnd.OneCallWay.{over_tells, along_role}
use Rattle.end_view.specs.EndView.{view_of, hostile_trail}
use Rattle.end_view.specs.AfterCall.{ViewAfterCall, SeesAsTold}
use Rattle.end_view.specs.Settled.{settled_view, AreDone, IsSettled, IsHonestRing, IsTurnedRing}
use Rattle.end_view.proofs.NoteLaws.{notes_told}

along_consumed : (s : Side) (events : List PastEvent) → (side_along s events).consumed ≡ s.consumed
along_consumed s [] = refl
along_consumed s (event ∷ events) = along_consumed (made s event.op event.taken) events

-- an honest end shows no trail
no_trail : (turned : Bool) (trail : List PastEvent) → turned ≡ false → hostile_trail turned trail ≡ []
no_trail turned trail honest = ap (λ (b : Bool). hostile_trail b trail) honest

pub view_after : (page : TableId) (was : Side) (call : Call) (payload start : List ℕ) (s : Side) (buffer : List ℕ) (answer : Answer) → was.turned ≡ false → IsAllowed was.role was.state call →
    IsOver was call payload start s buffer answer → ViewAfterCall page was call payload s buffer answer
view_after page was call payload start s buffer answer honest may over =
    let t = over_tells was call payload start s buffer answer over in
    let n = notes_told was call payload s.trail answer may over.trace in
    let began = begins was call payload in
    let role = ap (λ (z : Side). z.role) over.is ∙ along_role began s.trail in
    let consumed = ap (λ (z : Side). z.consumed) over.is ∙ along_consumed began s.trail in
    let state = ap (λ (z : Side). z.state) over.is ∙ n.0 in
    let retired = ap (λ (z : Side). z.retired) over.is ∙ n.2 in
    let trail = no_trail s.turned s.trail (t.turned ∙ honest) ∙ sym (no_trail was.turned was.trail honest) in
    record {
      view = λ i. record {
        page = page;
        role = role i;
        state = state i;
        idle = true;
        sent = t.sent i;
        got = t.got i;
        saw = s.saw;
        ended = t.ended i;
        drained = t.drained i;
        misled = t.misled i;
        retired = retired i;
        turned = t.turned i;
        consumed = consumed i;
        trail = trail i;
      };
      saw = subst (λ (b : Bool). SeesAsTold call answer was.saw b) (sym (ap (λ (z : Side). z.saw) over.is)) n.1;
    }

-- ---- a page that is done with

honest_ring : (size : ℕ) (page : TableId) (writer reader : Side) → writer.turned ≡ false → reader.turned ≡ false → StreamSettled size writer reader → IsHonestRing (view_of page true writer) (view_of page true reader)
honest_ring size page writer reader one two s = record { in_order = s.prefix one two; whole = s.all one two; over = s.ended one two }

turned_ring : (size : ℕ) (page : TableId) (writer reader : Side) → writer.turned ≡ true → reader.turned ≡ false → StreamSettled size writer reader → IsTurnedRing size (view_of page true writer) (view_of page true reader)
turned_ring size page writer reader one two s = let c = s.consumed one two in record { within = c.within; bound = c.fits; begins = c.begins }

pub settles_views : (orders : Orders) (start : ℕ) (said : ℕ × ℕ) (page : TableId) (server client : Side) → SaysOrders said orders → PageSettled orders said server client → AreDone server client → IsSettled (settled_view orders start page server client)
settles_views orders start said page server client says p d = record {
  server = d.is_server;
  client = d.is_client;
  one_page = refl;
  server_done = record { idle = refl; shut = d.server_shut; told = d.server_told };
  client_done = record { idle = refl; shut = d.client_shut; told = d.client_told };
  honest = λ one two. record {
    left = honest_ring _ page client server two one p.left;
    right = honest_ring _ page server client one two p.right;
    not_both = λ a b. p.not_both_saw one two (a, b);
    server_found = (p.none_misled one two says).0;
    client_found = (p.none_misled one two says).1;
  };
  left = λ given honest. turned_ring _ page client server given honest p.left;
  right = λ given honest. turned_ring _ page server client given honest p.right;
}
