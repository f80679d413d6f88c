use Rattle.std.proofs.Common.{◌≡◌, sym, subst, arith, Some, ◌+◌, [], ◌∷◌, ◌++◌}
use Rattle.std.specs.Prelude.{slice_get, slice_set}
use Rattle.agent_queue.specs.Queue.{Queued, QueueState, IsDue, HasToSay, after_trigger}
use Rattle.agent_queue.specs.Asking.{Asks}
use Rattle.agent_queue.proofs.StepLaws.{has_room, kept_in, view_in, asks_in, seen, place_due, due_closed, due_few}
use Rattle.agent_queue.proofs.queue.CallQueue.triggered.Goals as goal

here : (c : goal.After-count_in-arg-1) → slice_get c.self.inside.calls.items c.self.inside.next ≡ Some c.index_mut.result.now
here c = place_due c.self.inside.calls.items c.self.inside.next c.index_mut.result.now (subst (λ s. (x : Queued) × IsDue s x) (sym c.self.view_is) c.requires) c.index_mut.ensures.value

pub count_in-requires-clause-room : goal.count_in-requires-clause-room
count_in-requires-clause-room c =
    let room = has_room _ _ _ _ c.self.inside.next c.index_mut.result.now c.self.invariant (here c) in
    omega (arith, room, c.self.inside.counts.ok.0)

pub count_in-requires-clause-closed : goal.count_in-requires-clause-closed
count_in-requires-clause-closed c = due_closed _ _ _ _ c.index_mut.result.now c.self.invariant (here c)

pub count_in-requires-clause-few : goal.count_in-requires-clause-few
count_in-requires-clause-few c = due_few _ _ _ _ c.index_mut.result.now c.self.invariant (here c) (subst (λ s. (x : Queued) × IsDue s x) (sym c.self.view_is) c.requires)

there : (c : goal.After-self-2-1) → slice_get c.self.inside.calls.items c.self.inside.next ≡ Some c.index_mut.result.now
there c = place_due c.self.inside.calls.items c.self.inside.next c.index_mut.result.now (subst (λ s. (x : Queued) × IsDue s x) (sym c.self.view_is) c.requires) c.index_mut.ensures.value

pub invariant_of-self : goal.invariant_of-self
invariant_of-self c = kept_in _ _ _ _ c.self.inside.next c.index_mut.result.now c.count_in.new.call c.self.invariant (there c) c.count_in.ensures.call c.count_in.ensures.counts

pub returns-clause-is : goal.returns-clause-is
returns-clause-is c =
    let P : QueueState → Type 0 = λ s. (x : Queued) → IsDue s x → seen (slice_set c.self.inside.calls.items c.self.inside.next c.count_in.new.call) (c.self.inside.next + 1) ≡ after_trigger s x in
    subst P c.self.view_is (λ x due. view_in c.self.inside.calls.items c.self.inside.next c.index_mut.result.now c.count_in.new.call x (there c) c.count_in.ensures.call due.0)

pub returns-clause-asks : goal.returns-clause-asks
returns-clause-asks c = λ said version m.
    let P : QueueState → Type 0 = λ s. HasToSay s version (Some m) → Asks s said → Asks (seen (slice_set c.self.inside.calls.items c.self.inside.next c.count_in.new.call) (c.self.inside.next + 1)) (said ++ m ∷ []) in
    subst P c.self.view_is (λ says asks. asks_in _ _ _ c.self.inside.next c.index_mut.result.now c.count_in.new.call said version m c.self.invariant (there c) c.count_in.ensures.call says asks)
