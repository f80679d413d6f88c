use Rattle.std.proofs.Common.{◌≡◌, sym, subst, arith, Some, ℕ, List, refl}
use Rattle.std.specs.Prelude.{slice_get, slice_set}
use Rattle.std.proofs.lemmas.List.{length-map}
use Rattle.std.proofs.lemmas.Option.{slice_get_within}
use Rattle.agent_queue.specs.Queue.{QueueState, IsWaitingAt, after_answer}
use Rattle.agent_queue.specs.Asking.{Asks}
use Rattle.agent_queue.specs.Inside.{queued, all_queued, state_of}
use Rattle.agent_queue.proofs.KeptLaws.{get_or_get}
use Rattle.task_duties.specs.Agent.Answers.{IsRefused}
use Rattle.agent_queue.specs.declared.call.CallAnswer.TheVariants as given
use Rattle.agent_queue.proofs.AskingLaws.{asks_answered}
use Rattle.agent_queue.proofs.StepLaws.{has_room, counts_some, kept_out, view_refused, seen}
use Rattle.agent_queue.proofs.queue.CallQueue.refuse_at.Goals as goal

within : (c : goal.After-count_out-arg-1) → slice_get c.self.inside.calls.items c.args.place ≡ Some c.index_mut-call.result.now
within c =
    let w : (ident : List ℕ) × IsWaitingAt (state_of c.self.inside) c.args.place ident = subst (λ s. (ident : List ℕ) × IsWaitingAt s c.args.place ident) (sym c.self.view_is) c.requires in
    let less = slice_get_within (all_queued c.self.inside.calls.items) c.args.place w.1.0 w.1.1 in
    get_or_get c.self.inside.calls.items c.args.place c.index_mut-call.result.now (omega (arith, less, length-map c.self.inside.calls.items queued)) c.index_mut-call.ensures.value

pub count_out-requires-clause-room : goal.count_out-requires-clause-room
count_out-requires-clause-room c =
    let room = has_room _ _ _ _ c.args.place c.index_mut-call.result.now c.self.invariant (within c) in
    omega (arith, room, c.self.inside.counts.ok.0)

pub count_out-requires-clause-counted : goal.count_out-requires-clause-counted
count_out-requires-clause-counted c = counts_some _ _ _ _ c.args.place c.index_mut-call.result.now c.self.invariant (within c)

here : (c : goal.After-self-1) → slice_get c.self.inside.calls.items c.args.place ≡ Some c.index_mut-call.result.now
here c =
    let w : (ident : List ℕ) × IsWaitingAt (state_of c.self.inside) c.args.place ident = subst (λ s. (ident : List ℕ) × IsWaitingAt s c.args.place ident) (sym c.self.view_is) c.requires in
    let less = slice_get_within (all_queued c.self.inside.calls.items) c.args.place w.1.0 w.1.1 in
    get_or_get c.self.inside.calls.items c.args.place c.index_mut-call.result.now (omega (arith, less, length-map c.self.inside.calls.items queued)) c.index_mut-call.ensures.value

pub invariant_of-self : goal.invariant_of-self
invariant_of-self c =
    kept_out _ _ _ _ _ c.args.place given.Refused c.index_mut-call.result.now c.count_out.new.call c.self.invariant (here c) (λ w. cc) c.count_out.ensures.call c.count_out.ensures.counts

pub returns-clause-is : goal.returns-clause-is
returns-clause-is c = λ ident.
    let P : QueueState → Type 0 = λ s. IsWaitingAt s c.args.place ident → seen (slice_set c.self.inside.calls.items c.args.place c.count_out.new.call) c.self.inside.next ≡ after_answer s ident IsRefused in
    subst P c.self.view_is (λ at. view_refused _ _ _ c.self.inside.next c.args.place c.index_mut-call.result.now c.count_out.new.call ident c.self.invariant (here c) c.count_out.ensures.call at)

pub returns-clause-asks : goal.returns-clause-asks
returns-clause-asks c = λ said.
    let w : (ident : List ℕ) × IsWaitingAt (state_of c.self.inside) c.args.place ident = subst (λ s. (ident : List ℕ) × IsWaitingAt s c.args.place ident) (sym c.self.view_is) c.requires in
    let P : QueueState → Type 0 = λ s. Asks s said → Asks (seen (slice_set c.self.inside.calls.items c.args.place c.count_out.new.call) c.self.inside.next) said in
    subst P c.self.view_is (λ asks. subst (λ s. Asks s said) (sym (view_refused _ _ _ c.self.inside.next c.args.place c.index_mut-call.result.now c.count_out.new.call w.0 c.self.invariant (here c) c.count_out.ensures.call w.1))
    (asks_answered (seen c.self.inside.calls.items c.self.inside.next) w.0 IsRefused said refl asks))
