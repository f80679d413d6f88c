use Rattle.std.proofs.Common.{◌≡◌, ◌∙◌, ap, sym, subst, map, length, arith, [], ◌<◌, ◌^◌}
use Rattle.std.specs.Prelude.{replicate}
use Rattle.std.specs.List.{AllByRecursion as Each}
use Rattle.list_laws.specs.Lists.{AreDifferent}
use Rattle.task_duties.specs.Words.{ident_of}
use Rattle.agent_queue.specs.Index.{IsIndex}
use Rattle.agent_queue.specs.Asking.{Asks}
use Rattle.agent_queue.specs.Queue.{asked_as}
use Rattle.agent_queue.proofs.AskingLaws.{asks_none}
use Rattle.agent_queue.proofs.FreshLaws.{kept_fresh, all_fresh, fresh_apart}
use Rattle.agent_queue.proofs.queue.CallQueue.new.Goals as goal

pub invariant_of-result : goal.invariant_of-result
invariant_of-result c =
    let by_ident : IsIndex (map (λ x. ident_of x.number) c.args.calls.items) c.in_ok-by_ident.by_ident =
    subst (λ l. IsIndex (map (λ x. ident_of x.number) l) c.in_ok-by_ident.by_ident) c.deref.ensures.value c.in_ok-by_ident.ensures.is in
    let many : c.len.result ≡ length c.args.calls.items = omega (arith, c.len.ensures, c.args.calls.ok.0) in
    let counts_are : c.in_ok-counts.counts.items ≡ replicate (length c.args.calls.items) 0 = c.in_ok-counts.ensures.items_if_clones_equal (λ y e. e) ∙ ap (λ n. replicate n 0) many in
    kept_fresh c.args.calls.items c.in_ok-calls.calls.items c.in_ok-by_ident.by_ident c.in_ok-counts.counts.items c.in_ok-calls.ensures
    (subst (λ l. Each (λ x. x.number < 2 ^ 32) l) c.deref.ensures.value c.in_ok-by_ident.ensures.small) c.requires.different c.requires.short by_ident counts_are

pub returns-clause-new : goal.returns-clause-new
returns-clause-new c = ap (λ l. record { calls = l; next = 0 }) (all_fresh (map (λ x. x.to) c.args.calls.items) c.args.calls.items c.in_ok-calls.calls.items c.in_ok-calls.ensures)

pub returns-clause-asks : goal.returns-clause-asks
returns-clause-asks c =
    subst (λ l. Asks (record { calls = l; next = 0 }) []) (sym (all_fresh (map (λ x. x.to) c.args.calls.items) c.args.calls.items c.in_ok-calls.calls.items c.in_ok-calls.ensures)) (asks_none c.args.calls.items)

pub returns-clause-apart : goal.returns-clause-apart
returns-clause-apart c =
    subst (λ l. AreDifferent (map (λ a. ident_of a.call.number) (map asked_as l))) (sym (all_fresh (map (λ x. x.to) c.args.calls.items) c.args.calls.items c.in_ok-calls.calls.items c.in_ok-calls.ensures))
    (fresh_apart c.args.calls.items (subst (λ l. Each (λ x. x.number < 2 ^ 32) l) c.deref.ensures.value c.in_ok-by_ident.ensures.small) c.requires.different)
