use Rattle.std.proofs.Common.{length, take, drop}
use Rattle.std.specs.Vec.Iter.{into_iter_items}
use Rattle.run_pages.specs.Dealt.{HaveOrders, IsDealing}
use Rattle.run_pages.proofs.lay.RunPages.deal.Given as goal

abbrev pub invariant-loop-seats : goal.invariant-loop-seats
invariant-loop-seats l = record {
  dealing : IsDealing (take l.index l.self) (drop l.index l.self) (into_iter_items l.seats-iterator) l.dealt.controls.items l.dealt.hands.items (length l.scenario.domains);
  ordered : HaveOrders l.scenario l.dealt.hands.items;
}
