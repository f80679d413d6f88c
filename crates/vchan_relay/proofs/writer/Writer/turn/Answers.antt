-- What was sent is a longer prefix of the bytes.
use Rattle.std.proofs.Common.{◌≡◌, ◌-◌, ◌≤◌, ◌++◌, List, ℕ, length, take, drop, refl, sym, subst, ap, ◌∙◌, arith, inr}
use Rattle.std.proofs.lemmas.List.{length-take-le, take_rest, length-drop}
use Rattle.std.proofs.Math.Seq.{take-add}
use Rattle.end_view.specs.EndView.{EndView}
use Rattle.vchan_rule.specs.Seated.{view}
use Rattle.vchan_stream.specs.declared.WriteAnswer.TheVariants.{PeerClosed}
use Rattle.vchan_relay.specs.States.{WriterState}
use Rattle.vchan_relay.specs.Tasks.{unsent}
use Rattle.vchan_relay.specs.Turns.{HasWritten}
use Rattle.vchan_relay.proofs.RelayLaws.{has_written}
use Rattle.vchan_relay.proofs.writer.Writer.turn.Goals as goal

pub invariant_of-result : goal.invariant_of-result
invariant_of-result c =
    let v = c.self.invariant in
    let e = c.in-Wrote.ensures in
    let bytes = c.self.inside.bytes.items in
    let sent = c.self.inside.sent in
    let count = c.in-Wrote.count in
    let given = c.deref.result.now in
    let rest : take (length given - sent) (drop sent given) ≡ drop sent bytes = take_rest given sent ∙ ap (λ (xs : List ℕ). drop sent xs) c.deref.ensures.value in
    let few : count ≤ length (drop sent bytes) = subst (λ (xs : List ℕ). count ≤ length xs) rest (e.few count refl) in
    let long = length-drop sent bytes in (
      e.open,
      e.same.1 ∙ v.1,
      omega (arith, few, long, v.2),
      ap (λ (end : EndView). end.sent) e.view ∙ ap (λ (xs : List ℕ). xs ++ take count (take (length given - sent) (drop sent given))) v.3
          ∙ ap (λ (xs : List ℕ). take sent bytes ++ take count xs) rest ∙ sym (take-add sent count bytes),
    )

-- the reader was found shut by a write of the bytes that weren't sent
pub returns-clause-turns : goal.returns-clause-turns
returns-clause-turns c =
    let v = c.self.invariant in
    let inside = c.self.inside in
    let bytes = inside.bytes.items in
    let e = c.in-PeerClosed.ensures in
    let long : length (view inside.end).sent ≡ inside.sent = ap (λ (xs : List ℕ). length xs) v.3 ∙ length-take-le inside.sent bytes v.2 in
    let rest = take_rest c.deref.result.now inside.sent ∙ ap (λ (xs : List ℕ). drop inside.sent xs) c.deref.ensures.value ∙ ap (λ (n : ℕ). drop n bytes) (sym long) in
    let has = has_written inside.end c.write.new.end PeerClosed _ _ rest e.view e.trail in
    inr (c.write.new.end, subst (λ (w : WriterState). HasWritten w.end PeerClosed (unsent w) c.write.new.end) c.self.view_is has, c.retire-in-PeerClosed.ensures.view)
