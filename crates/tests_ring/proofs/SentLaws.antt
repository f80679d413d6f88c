-- An event of a call that was given no bytes sends none.
use Rattle.std.proofs.Common.{◌≡◌, ℕ, Option, Some, None, List, [], ◌++◌, take, refl, sym, ap, ◌∙◌, append-nil}
use Rattle.std.proofs.Math.Seq.{take-nil}
use Rattle.ring_words.specs.declared.page.Role.{Role}
use Rattle.ring_words.specs.declared.page.Role.TheVariants.{Server, Client}
use Rattle.ring_words.specs.declared.page.WordName.{WordName}
use Rattle.ring_words.specs.declared.page.WordName.TheVariants.{LeftCons, LeftProd, RightCons, RightProd, LeftOrder, RightOrder, CliLive, SrvLive, CliNotify, SrvNotify, SrvPending, CliPending, SrvGone, CliGone, RingByte}
use Rattle.vchan_protocol.specs.declared.call.Call.{Call}
use Rattle.vchan_protocol.specs.declared.op.Op.{Op}
use Rattle.vchan_protocol.specs.declared.op.Op.TheVariants.{Load, LoadByte, Store, StoreByte, Or, And, Swap, Nothing}
use Rattle.vchan_protocol.specs.declared.op.PastEvent.{PastEvent}
use Rattle.vchan_protocol.specs.declared.side.Side.{Side}
use Rattle.vchan_protocol.specs.Table.Calls.{payload_of}
use Rattle.vchan_protocol.specs.Table.Plan.{after}
use Rattle.vchan_protocol.specs.History.Core.{count_stored, made, op_next, plan_left, sent_after, sent_stored, side_after}
use Rattle.vchan_protocol.proofs.History.EventLaws.{settled_sent}
use Rattle.vchan_rule.specs.Ends.{Pays, seen_by}

adds_none : (trail : List PastEvent) (sent : List ℕ) → sent ++ take (count_stored trail) [] ≡ sent
adds_none trail sent = ap (λ (bytes : List ℕ). sent ++ bytes) (take-nil (count_stored trail)) ∙ append-nil sent

stored_none : (word : WordName) (role : Role) (trail : List PastEvent) (sent : List ℕ) → sent_stored word role trail [] sent ≡ sent
stored_none LeftProd Client trail sent = adds_none trail sent
stored_none LeftProd Server trail sent = refl
stored_none RightProd Server trail sent = adds_none trail sent
stored_none RightProd Client trail sent = refl
stored_none LeftCons role trail sent = refl
stored_none RightCons role trail sent = refl
stored_none LeftOrder role trail sent = refl
stored_none RightOrder role trail sent = refl
stored_none CliLive role trail sent = refl
stored_none SrvLive role trail sent = refl
stored_none CliNotify role trail sent = refl
stored_none SrvNotify role trail sent = refl
stored_none SrvPending role trail sent = refl
stored_none CliPending role trail sent = refl
stored_none SrvGone role trail sent = refl
stored_none CliGone role trail sent = refl
stored_none (RingByte ring at) role trail sent = refl

sends_none : (op : Op) (s : Side) → s.payload ≡ [] → sent_after op s ≡ s.sent
sends_none (Store word value) s none = ap (λ (bytes : List ℕ). sent_stored word s.role s.trail bytes s.sent) none ∙ stored_none word s.role s.trail s.sent
sends_none (Load word) s none = refl
sends_none (LoadByte word at) s none = refl
sends_none (StoreByte word at) s none = refl
sends_none (Or word bits) s none = refl
sends_none (And word bits) s none = refl
sends_none (Swap word value) s none = refl
sends_none Nothing s none = refl

no_payload : (begun : Option Call) (s : Side) → Pays begun s [] → (seen_by begun s []).payload ≡ []
no_payload None s pays = sym pays ∙ take-nil _
no_payload (Some call) s pays = take-nil (payload_of call)

seen_sent : (begun : Option Call) (s : Side) → (seen_by begun s []).sent ≡ s.sent
seen_sent None s = refl
seen_sent (Some call) s = refl

-- the end after such an event
pub sent_stays : (begun : Option Call) (s now : Side) (taken : ℕ) → Pays begun s [] → now ≡ side_after (seen_by begun s []) taken → now.sent ≡ s.sent
sent_stays begun s now taken pays is =
    let inside = seen_by begun s [] in
    ap (λ (z : Side). z.sent) is ∙ settled_sent (made inside (op_next inside) taken) (after (plan_left inside) taken) ∙ sends_none (op_next inside) inside (no_payload begun s pays) ∙ seen_sent begun s
