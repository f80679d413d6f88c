use Rattle.std.proofs.Common.{◌≡◌, ◌∙◌, [], ◌∷◌, Some, None, length, ap, arith}
use Rattle.std.proofs.lemmas.Grind.{common_steps}
use Rattle.std.specs.Vec.Iter.{into_iter_items}
use Rattle.crossbeam_queue.specs.Passes.{view}
use Rattle.task_pool.proofs.Answering.{all_answered, answering_begins, answering_none, answering_more, answering_ends}
use Rattle.task_pool.proofs.account.Account.into_dones.Goals as goal

pub loop-answer-init : goal.loop-answer-init
loop-answer-init g c =
    let owes = g.T.PoolTask.owes in
    let enqueued = (view c.args.self.pass).enqueued in
    let gives : into_iter_items c.into_iter-answer-iterator.result ≡ c.args.self.answers.items = c.into_iter-answer-iterator.ensures.into_iter_gives.0 in
    let all = all_answered owes enqueued (view c.args.self.pass).kept c.args.self.answers.items c.requires.settled c.requires.whole in
    record {
      can_next = tt;
      is_finite = tt;
      room = rw gives (let ok = c.args.self.answers.ok in let empty = c.args.dones.ok in let none = ap length c.requires.none in let room = c.requires.room in omega arith);
      answering = rw (gives, c.requires.none) (answering_begins owes enqueued c.args.self.answers.items all);
    }

pub loop-answer-preserved : goal.loop-answer-preserved
loop-answer-preserved g c =
    let known = c.loop-answer.invariant in
    let here : into_iter_items c.loop-answer.answer-iterator ≡ Some c.in-Some-answer.done ∷ into_iter_items c.next.new.self =
    c.in-Some.ensures.steps.0 ∙ ap (λ a. a ∷ into_iter_items c.next.new.self) c.in-Some-answer.is in
    let pushed = c.push_reserved.ensures in
    record {
      can_next = tt;
      is_finite = tt;
      room = (let room = known.room in let count = ap length here in let len = pushed.len in let capacity = pushed.capacity in omega arith);
      answering = rw pushed.items
          (answering_more g.T.PoolTask.owes (view c.args.self.pass).enqueued c.in-Some-answer.done (into_iter_items c.next.new.self) c.loop-answer.dones.items (rw here at known.answering));
    }

pub unreachable-requires : goal.unreachable-requires
unreachable-requires g c =
    let here : into_iter_items c.loop-answer.answer-iterator ≡ None ∷ into_iter_items c.next.new.self =
    c.in-Some.ensures.steps.0 ∙ ap (λ a. a ∷ into_iter_items c.next.new.self) c.in-None-answer.is in
    answering_none g.T.PoolTask.owes (view c.args.self.pass).enqueued (into_iter_items c.next.new.self) c.loop-answer.dones.items (rw here at c.loop-answer.invariant.answering)

pub returns : goal.returns
returns g c =
    let none : into_iter_items c.loop-answer.answer-iterator ≡ [] = grind (arith, common_steps) in
    answering_ends g.T.PoolTask.owes (view c.args.self.pass).enqueued c.loop-answer.dones.items (rw none at c.loop-answer.invariant.answering)
