use Rattle.std.proofs.Common.{◌≡◌, map, take}
use Rattle.run_pages.specs.Routes.{route_of}
use Rattle.run_pages.proofs.routes.routes.Given as goal

abbrev pub invariant-loop-call : goal.invariant-loop-call
invariant-loop-call l = l.routes.items ≡ map (route_of l.scenario) (take l.call-index l.scenario.calls)
