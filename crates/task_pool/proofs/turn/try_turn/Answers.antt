use Rattle.std.proofs.Common.{◌≡◌, length, refl, ap, arith}
use Rattle.crossbeam_queue.specs.Passes.{view}
use Rattle.task_pool.proofs.Rules.{takes, gives, counts, within, never_full, came_round}
use Rattle.task_pool.proofs.turn.try_turn.Goals as goal

pub pop_as-requires-clause-rule : goal.pop_as-requires-clause-rule
pop_as-requires-clause-rule g c = (
  takes g.T.PoolTask.owes c.args.pass.now.id (view c.args.pass.now) c.requires.part,
  counts g.T.PoolTask.owes c.args.pass.now.id (view c.args.pass.now),
)

pub push_as-requires-clause-rule : goal.push_as-requires-clause-rule
push_as-requires-clause-rule g c =
    let took = c.in-Some.ensures.rule in
    let same : (view c.pop_as.new.pass).parts ≡ (view c.args.pass.now).parts = ap (λ v. v.parts) took.keeps in
    let some_part = c.requires.part in (
      gives g.T.PoolTask.owes _ _ (view c.pop_as.new.pass) _ (view c.args.pass.now).kept took.first (omega arith) (ap (λ v. v.kept) took.keeps)
          (λ done owed. took.pays done (c.in-Again.ensures.pays done owed)),
      within g.T.PoolTask.owes _ (view c.pop_as.new.pass),
    )

pub unreachable-requires : goal.unreachable-requires
unreachable-requires g c =
    let took = c.in-Some.ensures.rule in
    let full = c.in-Err.ensures.rule.2 in
    let same : (view c.pop_as.new.pass).parts ≡ (view c.args.pass.now).parts = ap (λ v. v.parts) took.keeps in
    let known : length (view c.pop_as.new.pass).enqueued ≡ length (view c.args.pass.now).enqueued = ap (λ v. length v.enqueued) took.keeps in
    let some_part = c.requires.part in
    let room = c.requires.room in
    never_full (view c.pop_as.new.pass) full.0 _ (omega arith) full.1 full.2 (omega arith)

pub returns-in-Done-clause-tried : goal.returns-in-Done-clause-tried
returns-in-Done-clause-tried g c =
    let took = c.in-Some.ensures.rule in (
      record { first = took.first; last = c.in-Some.taken.task; keeps = took.keeps; paid = (refl, took.at, took.pays _ c.in-Done.ensures.pays); room = took.room },
      c.in-Done.ensures.turns,
    )

pub returns-in-Ok-clause-tried : goal.returns-in-Ok-clause-tried
returns-in-Ok-clause-tried g c =
    let took = c.in-Some.ensures.rule in
    record {
      place = c.in-Some.taken.place;
      before = c.in-Some.taken.task;
      now = c.in-Again.task;
      same = came_round _ _ _ _ took.first _ _ took.keeps c.in-Ok.ensures.rule;
      turn = c.in-Again.ensures.turns;
    }
