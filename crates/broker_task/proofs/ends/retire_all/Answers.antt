-- Each end that retires is that of the next domain.
use Rattle.std.proofs.Common.{◌≡◌, List, [], ◌∷◌, ◌++◌, subst, sym, arith}
use Rattle.std.specs.Vec.Iter.{into_iter_items}
use Rattle.std.proofs.lemmas.Grind.{common_steps}
use Rattle.std.specs.List.{AllByRecursion as Each, AllZip as EachPair}
use Rattle.list_laws.proofs.Pairs.{pairs_push}
use Rattle.task_duties.specs.declared.ends.RetiredEnd.{RetiredEnd}
use Rattle.broker_task.specs.declared.daemon.Daemon.{Daemon}
use Rattle.broker_task.specs.Lines.{IsLine}
use Rattle.broker_task.specs.Given.{IsRetiredOf}
use Rattle.broker_task.proofs.ends.retire_all.Goals as goal

pub loop-daemon-preserved : goal.loop-daemon-preserved
loop-daemon-preserved c =
    let rest : into_iter_items c.loop-daemon.daemon-iterator ≡ c.in-Some.daemon ∷ into_iter_items c.next.new.self = grind (arith, common_steps) in record {
      left = grind (arith, common_steps);
      room = grind (arith, common_steps);
      lines = (subst (λ (l : List Daemon). Each (λ x. IsLine x.domain x) l) rest c.loop-daemon.invariant.lines).1;
      pairs = subst (λ (ends : List RetiredEnd). EachPair IsRetiredOf (c.loop-daemon.yielded ++ c.in-Some.daemon ∷ []) ends) (sym c.push_reserved.ensures.items)
          (pairs_push IsRetiredOf c.loop-daemon.yielded c.loop-daemon.ends.items c.in-Some.daemon c.retire.result c.loop-daemon.invariant.pairs c.retire.ensures);
    }
