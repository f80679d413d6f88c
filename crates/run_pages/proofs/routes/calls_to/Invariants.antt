use Rattle.std.proofs.Common.{◌≡◌, ◌≤◌, take}
use Rattle.std.specs.List.{count_by}
use Rattle.run_pages.specs.Routes.{is_to}
use Rattle.run_pages.proofs.routes.calls_to.Given as goal

abbrev pub invariant-loop-route : goal.invariant-loop-route
invariant-loop-route l = (l.count ≡ count_by (is_to l.to) (take l.route-index l.routes)) × (l.count ≤ l.route-index)
