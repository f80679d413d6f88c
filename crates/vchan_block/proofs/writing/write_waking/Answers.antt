-- Each round is one more, and the last one answers.
use Rattle.std.proofs.Common.{◌≡◌, ◌+◌, ◌<◌, ◌++◌, ℕ, length, take, refl, subst, sym, ap, ◌∙◌, arith}
use Rattle.std.proofs.lemmas.Grind.{common_steps}
use Rattle.std.proofs.lemmas.List.{take_rest, length-drop}
use Rattle.vchan_protocol.specs.History.Core.{standing_of}
use Rattle.vchan_rule.specs.Seated.{view}
use Rattle.vchan_stream.specs.declared.WriteAnswer.TheVariants as write
use Rattle.vchan_block.specs.declared.writing.BlockWrite.TheVariants as wrote
use Rattle.vchan_block.specs.Rounds.{Writes, MovesLast, FindsClosed, MovesSome, FindsFull}
use Rattle.vchan_block.proofs.RoundLaws.{round_on, sent_on, wrote_whole}
use Rattle.vchan_block.proofs.writing.write_waking.Goals as goal
use Rattle.vchan_block.proofs.writing.write_waking.Goals.{in-Wrote+else-moved-bytes, in-Full}

pub returns-then-moved-bytes-clause-rounds : goal.returns-then-moved-bytes-clause-rounds
returns-then-moved-bytes-clause-rounds g c =
    c.rounds.invariant.goes_on c.write.new.end (wrote.Wrote c.rounds.moved c.in-Wrote.count)
    (MovesLast c.in-Wrote.count
    (round_on c.args.bytes.now _ c.rounds.moved (write.Wrote c.in-Wrote.count) c.rounds.end c.write.new.end (take_rest c.args.bytes.now c.rounds.moved) c.in-Wrote.ensures.view c.in-Wrote.ensures.once c.in-Wrote.ensures.trail)
    c.if-moved-bytes.true)

pub returns-in-PeerClosed-clause-rounds : goal.returns-in-PeerClosed-clause-rounds
returns-in-PeerClosed-clause-rounds g c =
    c.rounds.invariant.goes_on c.write.new.end (wrote.PeerClosed c.rounds.moved)
    (FindsClosed
    (round_on c.args.bytes.now _ c.rounds.moved write.PeerClosed c.rounds.end c.write.new.end (take_rest c.args.bytes.now c.rounds.moved) c.in-PeerClosed.ensures.view c.in-PeerClosed.ensures.once c.in-PeerClosed.ensures.trail))

pub returns-then-moved-bytes-clause-trail : goal.returns-then-moved-bytes-clause-trail
returns-then-moved-bytes-clause-trail g c = (
  standing_of c.rounds.end.side,
  (round_on c.args.bytes.now _ c.rounds.moved (write.Wrote c.in-Wrote.count) c.rounds.end c.write.new.end (take_rest c.args.bytes.now c.rounds.moved) c.in-Wrote.ensures.view c.in-Wrote.ensures.once c.in-Wrote.ensures.trail).trail,
)

pub returns-in-PeerClosed-clause-trail : goal.returns-in-PeerClosed-clause-trail
returns-in-PeerClosed-clause-trail g c = (
  standing_of c.rounds.end.side,
  (round_on c.args.bytes.now _ c.rounds.moved write.PeerClosed c.rounds.end c.write.new.end (take_rest c.args.bytes.now c.rounds.moved) c.in-PeerClosed.ensures.view c.in-PeerClosed.ensures.once c.in-PeerClosed.ensures.trail).trail,
)

pub returns-then-moved-bytes-clause-whole : goal.returns-then-moved-bytes-clause-whole
returns-then-moved-bytes-clause-whole g c = wrote_whole c.args.bytes.now c.rounds.moved c.in-Wrote.count c.if-moved-bytes.true

pub returns-in-PeerClosed-clause-whole : goal.returns-in-PeerClosed-clause-whole
returns-in-PeerClosed-clause-whole g c = λ before last is. cc

pub rounds-preserved : goal.rounds-preserved
rounds-preserved g c =
    let bytes = c.args.bytes.now in
    let moved = c.rounds.moved in
    elim c.match-write.branch [
      | in-Wrote+else-moved-bytes w ↦
          (let count = w.in-Wrote.count in
          let now : c.match-write.moved ≡ moved + count = w.moved-is in
          let less : moved + count < length bytes = omega (arith, w.in-Wrote.ensures.few count refl, ap length (take_rest bytes moved), length-drop moved bytes, w.if-moved-bytes.false, c.rounds.invariant.within) in
          record {
            same = grind (arith, common_steps);
            open_is = c.wait_waking.ensures.open;
            within = omega (arith, now, less);
            view_is = c.wait_waking.ensures.view ∙ sent_on (view c.rounds.end) (view c.args.end.now) (view c.write.new.end) bytes _ moved count (take_rest bytes moved) c.rounds.invariant.view_is w.in-Wrote.ensures.view
                ∙ ap (λ (n : ℕ). record (view c.args.end.now) { sent = (view c.args.end.now).sent ++ take n bytes }) (sym now);
            goes_on = λ new answer rest. c.rounds.invariant.goes_on new answer
                (MovesSome count c.write.new.end c.wait_waking.new.end
                (round_on bytes _ moved (write.Wrote count) c.rounds.end c.write.new.end (take_rest bytes moved) w.in-Wrote.ensures.view w.in-Wrote.ensures.once w.in-Wrote.ensures.trail)
                less c.wait_waking.ensures.waits (subst (λ (n : ℕ). Writes bytes n c.wait_waking.new.end new answer) now rest));
          })
      | in-Full w ↦
          (let now : c.match-write.moved ≡ moved = w.moved-is in
          record {
            same = grind (arith, common_steps);
            open_is = c.wait_waking.ensures.open;
            within = omega (arith, now, c.rounds.invariant.within);
            view_is = c.wait_waking.ensures.view ∙ w.in-Full.ensures.view ∙ c.rounds.invariant.view_is
                ∙ ap (λ (n : ℕ). record (view c.args.end.now) { sent = (view c.args.end.now).sent ++ take n bytes }) (sym now);
            goes_on = λ new answer rest. c.rounds.invariant.goes_on new answer
                (FindsFull w.in-Full.prod w.in-Full.cons c.write.new.end c.wait_waking.new.end
                (round_on bytes _ moved (write.Full w.in-Full.prod w.in-Full.cons) c.rounds.end c.write.new.end (take_rest bytes moved) w.in-Full.ensures.view w.in-Full.ensures.once w.in-Full.ensures.trail)
                c.wait_waking.ensures.waits (subst (λ (n : ℕ). Writes bytes n c.wait_waking.new.end new answer) now rest));
          })
    ]
