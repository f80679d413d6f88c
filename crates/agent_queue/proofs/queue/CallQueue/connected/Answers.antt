use Rattle.std.proofs.Common.{◌≡◌, ◌∙◌, sym, subst, arith, Some, ℕ, List, refl}
use Rattle.std.specs.Prelude.{slice_get, slice_set}
use Rattle.std.proofs.lemmas.List.{length-map}
use Rattle.std.proofs.lemmas.Option.{slice_get_within}
use Rattle.agent_queue.specs.Queue.{QueueState, IsWaitingAt, after_answer}
use Rattle.agent_queue.specs.Asking.{Asks}
use Rattle.agent_queue.specs.Inside.{queued, all_queued, state_of}
use Rattle.agent_queue.proofs.KeptLaws.{get_or_get}
use Rattle.task_duties.specs.Agent.Answers.{At}
use Rattle.agent_queue.proofs.AskingLaws.{asks_answered}
use Rattle.agent_queue.proofs.StepLaws.{seen, kept_connected, view_connected, connected_with, stdin_at}
use Rattle.agent_queue.proofs.queue.CallQueue.connected.Goals as goal

waits : (c : goal.After-self-1) → (ident : List ℕ) × IsWaitingAt (state_of c.self.inside) c.args.place ident
waits c = subst (λ s. (ident : List ℕ) × IsWaitingAt s c.args.place ident) (sym c.self.view_is) c.requires

here : (c : goal.After-self-1) → slice_get c.self.inside.calls.items c.args.place ≡ Some c.index_mut-call.result.now
here c =
    let less = slice_get_within (all_queued c.self.inside.calls.items) c.args.place (waits c).1.0 (waits c).1.1 in
    get_or_get c.self.inside.calls.items c.args.place c.index_mut-call.result.now (omega (arith, less, length-map c.self.inside.calls.items queued)) c.index_mut-call.ensures.value

pub invariant_of-self : goal.invariant_of-self
invariant_of-self c = kept_connected _ _ _ _ c.args.place c.args.to c.args.port c.replace.new.dest c.index_mut-call.result.now c.self.invariant (here c)

pub returns-clause-is : goal.returns-clause-is
returns-clause-is c = λ ident.
    let P : QueueState → Type 0 = λ s. IsWaitingAt s c.args.place ident
    → seen (slice_set c.self.inside.calls.items c.args.place (connected_with c.args.to c.args.port c.replace.new.dest c.index_mut-call.result.now)) c.self.inside.next ≡ after_answer s ident (At c.args.to c.args.port) in
    subst P c.self.view_is (λ at. view_connected _ _ _ _ c.args.place c.args.to c.args.port c.replace.new.dest c.index_mut-call.result.now ident c.self.invariant (here c) at)

pub returns-clause-stdin : goal.returns-clause-stdin
returns-clause-stdin c = λ x.
    let P : QueueState → Type 0 = λ s. slice_get s.calls c.args.place ≡ Some x → c.replace.result ≡ x.call.stdin in
    subst P c.self.view_is (λ is. c.replace.ensures.value ∙ stdin_at _ _ _ c.self.inside.next c.args.place c.index_mut-call.result.now x (waits c).0 c.self.invariant (here c) (waits c).1 is)

pub returns-clause-asks : goal.returns-clause-asks
returns-clause-asks c = λ said.
    let P : QueueState → Type 0 = λ s. Asks s said → Asks (seen (slice_set c.self.inside.calls.items c.args.place (connected_with c.args.to c.args.port c.replace.new.dest c.index_mut-call.result.now)) c.self.inside.next) said in
    subst P c.self.view_is (λ asks. subst (λ s. Asks s said) (sym (view_connected _ _ _ _ c.args.place c.args.to c.args.port c.replace.new.dest c.index_mut-call.result.now (waits c).0 c.self.invariant (here c) (waits c).1))
    (asks_answered (seen c.self.inside.calls.items c.self.inside.next) (waits c).0 (At c.args.to c.args.port) said refl asks))
