use Rattle.std.proofs.Common.{◌≡◌, length}
use Rattle.vchan_relay.specs.Laying.{AreLaid}
use Rattle.vchan_relay.proofs.lay.lay.Given as goal

abbrev pub invariant-loop-page : goal.invariant-loop-page
invariant-loop-page l = AreLaid (record { orders = l.orders; start = l.start }) l.pages.items l.seats.items × (length l.pages.items ≡ l._page)
