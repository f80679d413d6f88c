use Rattle.std.proofs.Common.{◌≡◌, ◌∙◌, sym, subst, arith}
use Rattle.std.specs.Prelude.{false}
use Rattle.agent_queue.specs.Queue.{IsWaitingAt}
use Rattle.std.specs.List.{list_any}
use Rattle.task_duties.specs.Agent.Answers.{waits_as}
use Rattle.agent_queue.specs.Queue.{asked_by}
use Rattle.agent_queue.proofs.StepLaws.{found_within, found_waits, found_done, not_found}
use Rattle.agent_queue.proofs.queue.CallQueue.waiting.Goals as goal

pub returns-in_err-place-clause-none : goal.returns-in_err-place-clause-none
returns-in_err-place-clause-none c = λ none.
    subst (λ s. list_any (waits_as c.args.ident.now) (asked_by s) ≡ false) c.self.view_is
    (not_found c.self.inside.calls.items c.self.inside.by_ident c.self.inside.counts.items c.self.inside.next c.args.ident.now c.self.invariant (sym c.place_in.ensures ∙ c.in_err-place.was))

pub index-call-requires : goal.index-call-requires
index-call-requires c =
    let less = found_within c.self.inside.calls.items c.self.inside.by_ident c.self.inside.counts.items c.self.inside.next c.in_ok-place.place c.args.ident.now c.self.invariant (sym c.place_in.ensures ∙ c.in_ok-place.was) in
    omega (arith, less, c.self.inside.calls.ok.0)

pub returns-then-waits-clause-some : goal.returns-then-waits-clause-some
returns-then-waits-clause-some c =
    subst (λ s. IsWaitingAt s c.in_ok-place.place c.args.ident.now) c.self.view_is
    (found_waits c.self.inside.calls.items c.self.inside.by_ident c.self.inside.counts.items c.self.inside.next c.in_ok-place.place c.args.ident.now c.index-call.result.now c.self.invariant (sym c.place_in.ensures ∙ c.in_ok-place.was) c.index-call.ensures
    (sym c.waits.ensures ∙ c.if-waits.true))

pub returns-clause-none : goal.returns-clause-none
returns-clause-none c = λ none.
    subst (λ s. list_any (waits_as c.args.ident.now) (asked_by s) ≡ false) c.self.view_is
    (found_done c.self.inside.calls.items c.self.inside.by_ident c.self.inside.counts.items c.self.inside.next c.in_ok-place.place c.args.ident.now c.index-call.result.now c.self.invariant (sym c.place_in.ensures ∙ c.in_ok-place.was) c.index-call.ensures
    (sym c.waits.ensures ∙ c.if-waits.false))
