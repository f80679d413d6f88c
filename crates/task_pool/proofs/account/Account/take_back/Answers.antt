use Rattle.std.proofs.Common.{◌≡◌, ◌<◌, ◌∙◌, [], length, arith}
use Rattle.std.proofs.lemmas.Grind.{common_steps}
use Rattle.std.specs.Vec.Iter.{into_iter_items}
use Rattle.crossbeam_queue.specs.Passes.{view}
use Rattle.task_pool.proofs.Rules.{merges}
use Rattle.task_pool.proofs.Settling.{settling_begins, settling_place, settling_more, settling_ends}
use Rattle.task_pool.proofs.account.Account.take_back.Goals as goal

pub absorb-requires-clause-rule : goal.absorb-requires-clause-rule
absorb-requires-clause-rule g c =
    let one = c.requires.keeps.part in
    merges g.T.PoolTask.owes c.args.self.now.pass.id (view c.args.self.now.pass) c.args.worker.pass.id (view c.args.worker.pass) c.requires.part (omega arith)

pub loop-result-init : goal.loop-result-init
loop-result-init g c =
    let before = view c.args.self.now.pass in
    let theirs = view c.args.worker.pass in
    let gives : into_iter_items c.into_iter-result-iterator.result ≡ c.args.worker.finished.items = c.into_iter-result-iterator.ensures.into_iter_gives.0 in
    record {
      can_next = tt;
      is_finite = tt;
      pass = (c.absorb.ensures.queue.0 ∙ c.requires.pass.0, c.absorb.ensures.queue.2 ∙ c.requires.pass.1);
      view = c.absorb.ensures.rule;
      settling = rw gives
          (settling_begins g.T.PoolTask.owes before.enqueued before.kept theirs.kept c.args.worker.finished.items c.args.self.now.answers.items c.requires.keeps.paid c.requires.settled);
    }

pub write_down-requires : goal.write_down-requires
write_down-requires g c =
    let before = view c.args.self.now.pass in
    let theirs = view c.args.worker.pass in
    let settling = rw c.in-Some.ensures.steps.0 at c.loop-result.invariant.settling in
    let lt : c.in-Some.result.place < length c.loop-result.self.answers.items =
    settling_place g.T.PoolTask.owes before.enqueued before.kept theirs.kept c.in-Some.result _ c.loop-result.self.answers.items settling in
    let ok = c.loop-result.self.answers.ok in
    omega arith

pub loop-result-preserved : goal.loop-result-preserved
loop-result-preserved g c =
    let before = view c.args.self.now.pass in
    let theirs = view c.args.worker.pass in
    let known = c.loop-result.invariant in
    let settling = rw c.in-Some.ensures.steps.0 at known.settling in
    record {
      can_next = tt;
      is_finite = tt;
      pass = known.pass;
      view = known.view;
      settling = rw c.write_down.ensures
          (settling_more g.T.PoolTask.owes before.enqueued before.kept theirs.kept c.in-Some.result _ c.loop-result.self.answers.items settling);
    }

pub returns-clause-settled : goal.returns-clause-settled
returns-clause-settled g c =
    let before = view c.args.self.now.pass in
    let theirs = view c.args.worker.pass in
    let known = c.loop-result.invariant in
    let none : into_iter_items c.loop-result.result-iterator ≡ [] = grind (arith, common_steps) in
    let settling = rw none at known.settling in
    rw known.view (settling_ends g.T.PoolTask.owes before.enqueued before.kept theirs.kept c.loop-result.self.answers.items settling)
