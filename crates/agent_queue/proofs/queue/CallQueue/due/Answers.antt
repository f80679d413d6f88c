use Rattle.std.proofs.Common.{◌≡◌, subst, refl, arith, Some}
use Rattle.std.specs.Prelude.{slice_get, slice_index}
use Rattle.list_laws.proofs.Each.{each_get}
use Rattle.agent_queue.specs.Queue.{IsHeld, HasToSay, trigger_of}
use Rattle.agent_queue.specs.Inside.{IsFaithful}
use Rattle.agent_queue.proofs.Places.{index_is}
use Rattle.agent_queue.proofs.StepLaws.{has_room, held_by, says_due, next_at, fits_trigger}
use Rattle.agent_queue.proofs.queue.CallQueue.due.Goals as goal

here : (c : goal.After-index-call) → slice_get c.self.inside.calls.items c.self.inside.next ≡ Some c.index-call.result.now
here c = next_at c.self.inside.calls.items c.self.inside.by_ident c.self.inside.counts.items c.self.inside.next c.index-call.result.now c.self.invariant (λ e. c.if-self-len.false (omega (arith, e, c.len.ensures, c.self.inside.calls.ok.0))) c.index-call.ensures

pub index-requires : goal.index-requires
index-requires c =
    let room = has_room _ _ _ _ c.self.inside.next c.index-call.result.now c.self.invariant (here c) in
    omega (arith, room, c.self.inside.counts.ok.0)

pub returns-then-index-ge-MOST_OPEN-clause-held : goal.returns-then-index-ge-MOST_OPEN-clause-held
returns-then-index-ge-MOST_OPEN-clause-held c _ =
    let at = next_at c.self.inside.calls.items c.self.inside.by_ident c.self.inside.counts.items c.self.inside.next c.index-call.result.now c.self.invariant (λ e. c.if-self-len.false (omega (arith, e, c.len.ensures, c.self.inside.calls.ok.0))) c.index-call.ensures in
    let room = has_room c.self.inside.calls.items c.self.inside.by_ident c.self.inside.counts.items c.self.inside.next c.self.inside.next c.index-call.result.now c.self.invariant at in
    let count : slice_index c.self.inside.counts.items c.index-call.result.now.target ≡ c.index.result.now = index_is c.self.inside.counts.items c.index-call.result.now.target c.index.result.now room c.index.ensures in
    subst IsHeld c.self.view_is (held_by c.self.inside.calls.items c.self.inside.by_ident c.self.inside.counts.items c.self.inside.next c.index-call.result.now c.self.invariant at (omega (arith, count, c.if-index-ge-MOST_OPEN.true)))

pub returns-clause-says : goal.returns-clause-says
returns-clause-says c version =
    let at = next_at c.self.inside.calls.items c.self.inside.by_ident c.self.inside.counts.items c.self.inside.next c.index-call.result.now c.self.invariant (λ e. c.if-self-len.false (omega (arith, e, c.len.ensures, c.self.inside.calls.ok.0))) c.index-call.ensures in
    let room = has_room c.self.inside.calls.items c.self.inside.by_ident c.self.inside.counts.items c.self.inside.next c.self.inside.next c.index-call.result.now c.self.invariant at in
    let count : slice_index c.self.inside.counts.items c.index-call.result.now.target ≡ c.index.result.now = index_is c.self.inside.counts.items c.index-call.result.now.target c.index.result.now room c.index.ensures in
    subst (λ s. HasToSay s version (Some (trigger_of version c.index-call.result.now.plan))) c.self.view_is
    (says_due c.self.inside.calls.items c.self.inside.by_ident c.self.inside.counts.items c.self.inside.next version c.index-call.result.now (trigger_of version c.index-call.result.now.plan) c.self.invariant at (omega (arith, count, c.if-index-ge-MOST_OPEN.false)) refl)

pub returns-clause-fits : goal.returns-clause-fits
returns-clause-fits c =
    let at = next_at c.self.inside.calls.items c.self.inside.by_ident c.self.inside.counts.items c.self.inside.next c.index-call.result.now c.self.invariant (λ e. c.if-self-len.false (omega (arith, e, c.len.ensures, c.self.inside.calls.ok.0))) c.index-call.ensures in
    fits_trigger c.index-call.result.now (each_get IsFaithful c.self.inside.calls.items c.self.inside.next c.index-call.result.now c.self.invariant.faithful at)
