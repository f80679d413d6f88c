use Rattle.std.proofs.Common.{subst, sym}
use Rattle.run_pages.specs.Dealt.{AddsHand, HaveOrders}
use Rattle.run_pages.proofs.DealLaws.{adds_hand, orders_more}
use Rattle.run_pages.proofs.deal.Dealt.deal_control.Goals as goal

pub returns-clause-controls : goal.returns-clause-controls
returns-clause-controls c = c.in_ok-push.ensures.items

pub returns-clause-hands : goal.returns-clause-hands
returns-clause-hands c =
    subst (AddsHand c.args.server c.args.self.now.hands.items) (sym c.in_ok-push-2.ensures.items)
    (adds_hand c.args.self.now.hands.items (record { control = c.args.server; payload = c.new-payload.result }) c.new-payload.ensures.items)

pub returns-clause-orders : goal.returns-clause-orders
returns-clause-orders c = λ s control ordered.
    subst (HaveOrders s) (sym c.in_ok-push-2.ensures.items)
    (orders_more s c.args.self.now.hands.items (record { control = c.args.server; payload = c.new-payload.result }) control c.new-payload.ensures.items ordered)
