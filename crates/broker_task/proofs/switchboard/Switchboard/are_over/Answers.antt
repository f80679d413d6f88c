use Rattle.std.proofs.Common.{◌≡◌, ℕ, ◌+◌, ◌<◌, ◌∙◌, List, ap, length, arith, refl, sym, subst}
use Rattle.std.proofs.lemmas.Bool.{false≢true}
use Rattle.call_broker.specs.Journal.{live}
use Rattle.broker_task.specs.declared.daemon.Daemon.{Daemon}
use Rattle.broker_task.specs.Lines.{IsLine}
use Rattle.broker_task.specs.Posting.{EachAt}
use Rattle.broker_task.proofs.PostLaws.{at_item}
use Rattle.broker_task.proofs.SettledLaws.{live_next, too_many}
use Rattle.broker_task.proofs.switchboard.Switchboard.are_over.Goals as goal

pub loop-other-preserved : goal.loop-other-preserved
loop-other-preserved c =
    let s = c.args.self.now in
    let items = c.deref-other-items.result.now in
    let n = c.loop-other.other-index in
    let lines : EachAt IsLine items = subst (λ (l : List Daemon). EachAt IsLine l) (sym c.deref-other-items.ensures.value) c.requires in
    let less : n < length items = omega arith in
    let number = ap (λ (z : Daemon). z.domain) c.other-item.is ∙ (lines n _ (at_item items n c.other-item.result less c.other-item.is)).number in
    live_next s.broker.hub s.broker.journal c.args.daemon.now.domain n c.args.daemon.now.answered c.live-live.result c.loop-other.over _ c.loop-other.invariant
    (c.live-live.ensures.live ∙ ap (λ (k : ℕ). length (live s.broker.hub s.broker.journal c.args.daemon.now.domain k)) number) (omega arith) refl

pub returns-then-live-over : goal.returns-then-live-over
returns-then-live-over c =
    let s = c.args.self.now in
    let items = c.deref-other-items.result.now in
    let n = c.loop-other.other-index in
    let d = c.args.daemon.now.domain in
    let lines : EachAt IsLine items = subst (λ (l : List Daemon). EachAt IsLine l) (sym c.deref-other-items.ensures.value) c.requires in
    let less : n < length items = omega arith in
    let count : length items ≡ length s.daemons.items = ap (λ (l : List Daemon). length l) c.deref-other-items.ensures.value in
    let number = ap (λ (z : Daemon). z.domain) c.other-item.is ∙ (lines n _ (at_item items n c.other-item.result less c.other-item.is)).number in
    let is : c.live-live.result ≡ length (live s.broker.hub s.broker.journal d (n + 1)) = c.live-live.ensures.live ∙ ap (λ (k : ℕ). length (live s.broker.hub s.broker.journal d k)) number in (
      (λ yes. absurd (false≢true yes)),
      (λ p.
          absurd
          (too_many s.broker.hub s.broker.journal d n (length s.daemons.items) c.args.daemon.now.answered c.live-live.result c.loop-other.over c.args.daemon.now.awaited c.loop-other.invariant is (omega arith) (omega (arith, less, count)) p)),
    )
