use Rattle.std.proofs.Common.{◌≡◌, take}
use Rattle.std.specs.Prelude.{filter}
use Rattle.run_pages.specs.Routes.{is_from}
use Rattle.run_pages.proofs.routes.routes_from.Given as goal

abbrev pub invariant-loop-route : goal.invariant-loop-route
invariant-loop-route l = l.mine.items ≡ filter (is_from l.from) (take l.route-index l.routes)
