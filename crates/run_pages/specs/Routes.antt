-- From which domain and to which domain each call of a scenario goes.
-- Source: this project's own.
use Rattle.std.specs.Prelude.{ℕ, ◌==◌, Bool, false, List, map}
use Rattle.std.specs.Option.{option_map_or}
use Rattle.scenario_file.specs.Scenario.{Plan as Scenario, domain_named}
use Rattle.scenario_file.specs.declared.scenario.CallPlan.{CallPlan}
use Rattle.run_pages.specs.declared.routes.Route.{Route}

-- the route of a call: it has a target if a domain has its name
abbrev pub route_of : Scenario → CallPlan → Route
route_of s call = record { from = call.from; to = domain_named s call.to }

abbrev pub routes_of : Scenario → List Route
routes_of s = map (route_of s) s.calls

-- whether a route goes from this domain, or to it
abbrev pub is_from : ℕ → Route → Bool
is_from from r = r.from == from

abbrev pub is_to : ℕ → Route → Bool
is_to to r = option_map_or (λ d. d == to) r.to false
