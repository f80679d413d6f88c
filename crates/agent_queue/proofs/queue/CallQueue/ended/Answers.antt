use Rattle.std.proofs.Common.{◌≡◌, ◌<◌, sym, subst, arith, length, Some, [], ◌∷◌, ◌++◌}
use Rattle.std.specs.Prelude.{slice_get, slice_set, false}
use Rattle.std.proofs.lemmas.List.{length-map}
use Rattle.qrexec_frame.specs.declared.message.Message.TheVariants.{Terminated}
use Rattle.agent_queue.specs.Queue.{Queued, QueueState, IsConnectedAt}
use Rattle.agent_queue.specs.Asking.{Asks}
use Rattle.agent_queue.specs.Inside.{queued, all_queued}
use Rattle.agent_queue.proofs.KeptLaws.{get_or_get}
use Rattle.agent_queue.proofs.StepLaws.{has_room, counts_some, kept_out, view_shut, asks_out, seen, seen_set}
use Rattle.agent_queue.proofs.queue.CallQueue.ended.Goals as goal

within : (c : goal.After-count_out-arg-1) → c.args.place < length c.self.inside.calls.items
within c =
    let less : c.args.place < length (all_queued c.self.inside.calls.items) = subst (λ s. c.args.place < length s.calls) (sym c.self.view_is) c.requires in
    omega (arith, less, length-map c.self.inside.calls.items queued)

pub count_out-requires-clause-room : goal.count_out-requires-clause-room
count_out-requires-clause-room c =
    let room = has_room _ _ _ _ c.args.place c.index_mut.result.now c.self.invariant (get_or_get _ _ _ (within c) c.index_mut.ensures.value) in
    omega (arith, room, c.self.inside.counts.ok.0)

pub count_out-requires-clause-counted : goal.count_out-requires-clause-counted
count_out-requires-clause-counted c = counts_some _ _ _ _ c.args.place c.index_mut.result.now c.self.invariant (get_or_get _ _ _ (within c) c.index_mut.ensures.value)

here : (c : goal.After-self-1) → slice_get c.self.inside.calls.items c.args.place ≡ Some c.index_mut.result.now
here c =
    let less : c.args.place < length (all_queued c.self.inside.calls.items) = subst (λ s. c.args.place < length s.calls) (sym c.self.view_is) c.requires in
    get_or_get c.self.inside.calls.items c.args.place c.index_mut.result.now (omega (arith, less, length-map c.self.inside.calls.items queued)) c.index_mut.ensures.value

pub invariant_of-self : goal.invariant_of-self
invariant_of-self c = kept_out _ _ _ _ _ c.args.place c.index_mut.result.now.answer c.index_mut.result.now c.count_out.new.call c.self.invariant (here c) (λ w. w) c.count_out.ensures.call c.count_out.ensures.counts

pub returns-clause-is : goal.returns-clause-is
returns-clause-is c =
    let P : QueueState → Type 0 = λ s. (x : Queued) → slice_get s.calls c.args.place ≡ Some x
    → seen (slice_set c.self.inside.calls.items c.args.place c.count_out.new.call) c.self.inside.next ≡ seen_set s.calls c.args.place (record x { is_open = false }) s.next in
    subst P c.self.view_is (λ x is. view_shut c.self.inside.calls.items c.self.inside.next c.args.place c.index_mut.result.now c.count_out.new.call x (here c) c.count_out.ensures.call is)

pub returns-clause-asks : goal.returns-clause-asks
returns-clause-asks c = λ said d port.
    let P : QueueState → Type 0 = λ s. IsConnectedAt s c.args.place d port → Asks s said → Asks (seen (slice_set c.self.inside.calls.items c.args.place c.count_out.new.call) c.self.inside.next) (said ++ Terminated d port ∷ []) in
    subst P c.self.view_is (asks_out c.self.inside.calls.items c.self.inside.next c.args.place d port c.index_mut.result.now c.count_out.new.call said (here c) c.count_out.ensures.call)
