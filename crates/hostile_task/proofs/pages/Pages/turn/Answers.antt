-- Each end that is turned over is the next of those given.
use Rattle.std.proofs.Common.{◌≡◌, List, [], ◌∷◌, ◌++◌, subst, sym, arith}
use Rattle.std.proofs.lemmas.Grind.{common_steps}
use Rattle.std.specs.List.{AllZip as EachPair, AllByRecursion as Each}
use Rattle.list_laws.proofs.Results.{no_items}
use Rattle.list_laws.proofs.Pairs.{pairs_push}
use Rattle.task_duties.specs.declared.ends.DataEnd.{DataEnd}
use Rattle.hostile_task.specs.declared.page.TurnedPage.{TurnedPage}
use Rattle.hostile_task.specs.Pages.{IsDataTurnedOver, IsLaid}
use Rattle.hostile_task.proofs.ListLaws.{whole_list}
use Rattle.hostile_task.proofs.pages.Pages.turn.Goals as goal

pub loop-given-init : goal.loop-given-init
loop-given-init c = record {
  left = grind (arith, common_steps);
  room = grind (arith, common_steps);
  laid = subst (Each IsLaid) (sym c.into_iter-given-iterator.ensures.into_iter_gives.0) c.requires.laid;
  pairs = subst (λ (ps : List TurnedPage). EachPair IsDataTurnedOver [] ps) (sym c.requires.empty) tt;
}

pub loop-given-preserved : goal.loop-given-preserved
loop-given-preserved c = record {
  left = grind (arith, common_steps);
  room = grind (arith, common_steps);
  laid = (subst (Each IsLaid) c.in-Some.ensures.steps.0 c.loop-given.invariant.laid).1;
  pairs = subst (λ (ps : List TurnedPage). EachPair IsDataTurnedOver (c.loop-given.yielded ++ c.in-Some.given ∷ []) ps) (sym c.push_reserved.ensures.items)
      (pairs_push IsDataTurnedOver c.loop-given.yielded c.loop-given.turned.items c.in-Some.given c.of_data.result c.loop-given.invariant.pairs c.of_data.ensures);
}

pub returns-clause-payload : goal.returns-clause-payload
returns-clause-payload c =
    let all : c.loop-given.yielded ≡ c.args.payload.items = whole_list _ _ _ c.loop-given.invariant.left (no_items c.loop-given.given-iterator c.in-None.ensures.steps.0) in
    subst (λ (ends : List DataEnd). EachPair IsDataTurnedOver ends c.loop-given.turned.items) all c.loop-given.invariant.pairs

pub of_data-requires : goal.of_data-requires
of_data-requires c = (subst (Each IsLaid) c.in-Some.ensures.steps.0 c.loop-given.invariant.laid).0
