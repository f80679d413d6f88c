use Rattle.std.proofs.Common.{◌≡◌, length, true, ap, ◌∙◌, sym, subst, arith, add-one}
use Rattle.std.specs.List.{AllZip, list_any}
use Rattle.std.proofs.lemmas.List.{length-map}
use Rattle.std.proofs.lemmas.Slice.Zip.{AllZip-long}
use Rattle.task_pool.specs.Rounds.{StandsAfter, StandsOn, going, is_going}
use Rattle.task_pool.proofs.RoundLaws.{stands_first, stands_on, all_given, all_over, each_round, one_goes, written}
use Rattle.task_pool.proofs.rounds.run_rounds.Goals as goal

pub loop-round-init : goal.loop-round-init
loop-round-init g c = record {
  count = (let same = ap length c.in_ok-seats.ensures ∙ length-map c.args.tasks.items going in let mine = c.in_ok-seats.seats.ok in let theirs = c.args.tasks.ok in omega arith);
  stands = rw c.in_ok-seats.ensures (stands_first g.T.PoolTask.owes g.T.PoolTask.turns c.args.tasks.items);
}

pub loop-round-preserved : goal.loop-round-preserved
loop-round-preserved g c =
    let owes = g.T.PoolTask.owes in
    let turns = g.T.PoolTask.turns in
    let seats = c.loop-round.seats.items in
    let after = c.make_round.new.seats in
    let made : AllZip (StandsOn owes turns) seats after = subst (λ l. AllZip (StandsOn owes turns) l after) c.as_mut_slice.ensures.value c.make_round.ensures in
    let long = AllZip-long (StandsOn owes turns) seats after made in
    let size = c.loop-round.seats.ok in
    record {
      count = c.loop-round.invariant.count;
      stands = rw (written owes turns c.loop-round.seats.len after seats (omega arith) (omega arith), add-one c.loop-round._round) (stands_on owes turns c.loop-round._round c.args.tasks.items seats after c.loop-round.invariant.stands made);
    }

pub dones_of-requires-clause-over : goal.dones_of-requires-clause-over
dones_of-requires-clause-over g c κs within =
    all_over g.T.PoolTask.owes g.T.PoolTask.turns c.loop-round._round c.args.tasks.items c.loop-round.seats.items c.loop-round.invariant.stands
    (ap (list_any is_going) (sym c.as_slice.ensures.value) ∙ (sym c.some_going.ensures ∙ c.if-not-some_going.true))

pub returns-then-not-some_going : goal.returns-then-not-some_going
returns-then-not-some_going g c =
    all_given g.T.PoolTask.owes g.T.PoolTask.turns c.loop-round._round c.args.rounds c.args.tasks.items c.dones_of.result.items (let lt = c.loop-round-test.true in omega arith)
    (rw c.dones_of.ensures at c.loop-round.invariant.stands)

pub dones_of-requires-then-not-some_going-2-clause-over : goal.dones_of-requires-then-not-some_going-2-clause-over
dones_of-requires-then-not-some_going-2-clause-over g c κs within =
    all_over g.T.PoolTask.owes g.T.PoolTask.turns c.loop-round._round c.args.tasks.items c.loop-round.seats.items c.loop-round.invariant.stands
    (ap (list_any is_going) (sym c.as_slice-2.ensures.value) ∙ (sym c.some_going-2.ensures ∙ c.if-not-some_going-2.true))

pub returns-then-not-some_going-2 : goal.returns-then-not-some_going-2
returns-then-not-some_going-2 g c =
    all_given g.T.PoolTask.owes g.T.PoolTask.turns c.loop-round._round c.args.rounds c.args.tasks.items c.dones_of-then-not-some_going-2.result.items (let end = c.loop-round.auto._round-end in omega arith)
    (rw c.dones_of-then-not-some_going-2.ensures at c.loop-round.invariant.stands)

pub returns : goal.returns
returns g c =
    let owes = g.T.PoolTask.owes in
    let turns = g.T.PoolTask.turns in
    let made : c.loop-round._round ≡ c.args.rounds = (let more = c.loop-round-test.false in let end = c.loop-round.auto._round-end in omega arith) in
    let stands = subst (λ n. AllZip (StandsAfter owes turns n) c.args.tasks.items c.loop-round.seats.items) made c.loop-round.invariant.stands in
    let some : list_any is_going c.loop-round.seats.items ≡ true = ap (list_any is_going) (sym c.as_slice-2.ensures.value) ∙ (sym c.some_going-2.ensures ∙ c.if-not-some_going-2.false) in
    (each_round owes turns c.args.rounds c.args.tasks.items c.loop-round.seats.items stands, one_goes owes turns c.args.rounds c.args.tasks.items c.loop-round.seats.items stands some)
