-- Each domain has the next end and the next number of awaited calls.
use Rattle.std.proofs.Common.{◌≡◌, ℕ, ◌+◌, ◌<◌, List, [], ◌∷◌, ◌++◌, length, take, get_or, subst, sym, arith}
use Rattle.std.specs.Vec.Iter.{into_iter_items}
use Rattle.std.proofs.lemmas.Grind.{common_steps}
use Rattle.std.proofs.lemmas.List.{take_more}
use Rattle.std.specs.List.{AllByRecursion as Each}
use Rattle.vchan_rule.specs.Seated.{SeatedEnd}
use Rattle.broker_task.specs.declared.daemon.Daemon.{Daemon}
use Rattle.broker_task.specs.Given.{IsNewClient}
use Rattle.broker_task.specs.Starting.{IsStarted, AreStarted}
use Rattle.broker_task.proofs.StartLaws.{started_push}
use Rattle.broker_task.proofs.ends.daemons_of.Goals as goal

pub loop-control-preserved : goal.loop-control-preserved
loop-control-preserved c =
    let rest : into_iter_items c.loop-control.control-iterator ≡ c.in-Some.control ∷ into_iter_items c.next.new.self = grind (arith, common_steps) in
    let inv = c.loop-control.invariant in
    let n = c.loop-control.domain in
    let awaited = c.args.awaited.now in
    let less : n < length awaited = grind (arith, common_steps) in
    let is : IsStarted (n + 1) (get_or awaited n 0) c.in-Some.control c.new.result = record {
      line = c.new.ensures.line;
      up = c.new.ensures.up;
      read = c.new.ensures.read;
      said = c.new.ensures.said;
      outbox = c.new.ensures.outbox;
      awaited_is = c.new.ensures.counts.0;
      answered = c.new.ensures.counts.1;
      given = c.new.ensures.given;
      unused = c.new.ensures.unused;
    } in
    let place : n + 1 ≡ 1 + length c.loop-control.daemons.items = omega (arith, inv.count) in
    let pushed = started_push 1 (take n awaited) c.loop-control.yielded c.loop-control.daemons.items (get_or awaited n 0) c.in-Some.control c.new.result inv.started
    (subst (λ (k : ℕ). IsStarted k (get_or awaited n 0) c.in-Some.control c.new.result) place is) in
    record {
      left = grind (arith, common_steps);
      room = grind (arith, common_steps);
      fresh = (subst (λ (l : List SeatedEnd). Each IsNewClient l) rest inv.fresh).1;
      at = grind (arith, common_steps);
      count = grind (arith, common_steps);
      started = subst (λ (l : List Daemon). AreStarted 1 (take (n + 1) awaited) (c.loop-control.yielded ++ c.in-Some.control ∷ []) l) (sym c.push_reserved.ensures.items)
          (subst (λ (l : List ℕ). AreStarted 1 l (c.loop-control.yielded ++ c.in-Some.control ∷ []) (c.loop-control.daemons.items ++ c.new.result ∷ [])) (sym (take_more awaited n 0 less)) pushed);
    }
