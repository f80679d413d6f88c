use Rattle.std.proofs.Common.{◌≡◌, ◌≤◌, arith, refl, sym, subst, ap, ◌∙◌, [], ◌∷◌, ◌++◌, length, rules}
use Rattle.run_report.specs.Summary.{done_calls, done_of, counted, totals, sums_text}
use Rattle.run_report.proofs.SumLaws.{either_over, none_left, sums_all, sums_on}
use Rattle.run_report.specs.Summing.{IsSumming}
use Rattle.run_report.proofs.summary.summary_text.Goals as goal

pub loop-call-init : goal.loop-call-init
loop-call-init c =
    let calls : c.into_iter-call-iterator.result.a.rest.now ≡ c.args.scenario.now.calls =
    ap (λ z. z.a.rest.now) c.into_iter-call-iterator.ensures.into_iter_gives ∙ search (rules, c.zip-call-items.ensures.first, c.iter.ensures.rest, c.deref.ensures.value, c.scenario.view_is) in
    let lines : c.into_iter-call-iterator.result.b.rest.now ≡ c.args.report.now.calls =
    ap (λ z. z.b.rest.now) c.into_iter-call-iterator.ensures.into_iter_gives ∙ search (rules, c.zip-call-items.ensures.second, c.report.view_is) in
    record { dones = []; are = refl; all_are = cc; few = omega (arith, ap length calls) }

pub count-requires : goal.count-requires
count-requires c =
    let few = c.loop-call.invariant.few in
    let left : length c.loop-call.call-iterator.a.rest.now ≡ length (c.in-Some.call.now ∷ c.next.new.self.a.rest.now) = ap length c.in-Some.ensures.steps.0 in
    let counted : c.loop-call.sums.done ≡ length c.loop-call.invariant.dones = ap (λ t. t.done) c.loop-call.invariant.are in
    let most : length c.args.scenario.now.calls ≤ 4096 = subst (λ s. length s.calls ≤ 4096) c.scenario.view_is c.scenario.invariant.few_calls in
    omega (arith, few, left, counted, most)

pub loop-call-preserved : goal.loop-call-preserved
loop-call-preserved c =
    let all = done_calls c.args.scenario.now.calls c.args.report.now.calls in
    let most = length c.args.scenario.now.calls in
    let on : IsSumming c.loop-call.sums (c.in-Some.call.now ∷ c.next.new.self.a.rest.now) (c.in-Some.line.now ∷ c.next.new.self.b.rest.now) all most =
    subst (λ calls. IsSumming c.loop-call.sums calls (c.in-Some.line.now ∷ c.next.new.self.b.rest.now) all most) c.in-Some.ensures.steps.0
    (subst (λ lines. IsSumming c.loop-call.sums c.loop-call.call-iterator.a.rest.now lines all most) c.in-Some.ensures.steps.1 c.loop-call.invariant) in
    let counted : c.count.new.self ≡ counted (done_of (length c.in-Some.call.now.stdin) c.in-Some.line.now.result) c.loop-call.sums =
    c.count.ensures ∙ ap (λ bytes. counted (done_of (length bytes) c.in-Some.line.now.result) c.loop-call.sums) c.slice.ensures in
    subst (λ t. IsSumming t c.next.new.self.a.rest.now c.next.new.self.b.rest.now all most) (sym counted)
    (sums_on c.loop-call.sums c.in-Some.call.now c.next.new.self.a.rest.now c.in-Some.line.now c.next.new.self.b.rest.now all most on)

pub returns : goal.returns
returns c =
    let over : done_calls c.loop-call.call-iterator.a.rest.now c.loop-call.call-iterator.b.rest.now ≡ [] =
    none_left c.loop-call.call-iterator.a.rest.now c.loop-call.call-iterator.b.rest.now (either_over c.in-None.ensures.steps) in
    let counted : c.len.result ≡ length c.args.report.now.calls = search (rules, c.len.ensures, c.report.view_is) in
    let sums : c.loop-call.sums ≡ totals (done_calls c.args.scenario.now.calls c.args.report.now.calls) =
    sums_all c.loop-call.sums c.loop-call.call-iterator.a.rest.now c.loop-call.call-iterator.b.rest.now (done_calls c.args.scenario.now.calls c.args.report.now.calls) (length c.args.scenario.now.calls) c.loop-call.invariant over in
    subst (λ t. c.push_sums.new.out.items ≡ sums_text (length c.args.report.now.calls) t) sums
    (subst (λ l. c.push_sums.new.out.items ≡ l ++ sums_text (length c.args.report.now.calls) c.loop-call.sums) c.new-text.ensures.items
    (subst (λ n. c.push_sums.new.out.items ≡ c.new-text.result.items ++ sums_text n c.loop-call.sums) counted c.in_ok-push_sums.ensures))
