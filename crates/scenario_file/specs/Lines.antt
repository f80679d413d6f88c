-- The lines of a scenario by its services and its names alone, and the scenario without its hostile domains.
-- Source: this project's own.
use Rattle.std.specs.Prelude.{ℕ, zero, suc, ◌==◌, not, List, length, take, map, filter, Option, Some, None, if◌then◌else◌}
use Rattle.service_gate.specs.Triple.{Triple}
use Rattle.service_gate.specs.ServiceResult.{service}
use Rattle.scenario_file.specs.declared.scenario.Domain.{Domain}
use Rattle.scenario_file.specs.declared.scenario.CallPlan.{CallPlan}
use Rattle.scenario_file.specs.declared.line.LineCause.TheVariants.{NoDomain, SameDomain, NoService}
use Rattle.scenario_file.specs.declared.line.LineResult.{LineResult}
use Rattle.scenario_file.specs.declared.line.LineResult.TheVariants.{Done, Refused}
use Rattle.scenario_file.specs.declared.line.Line.{Line}
use Rattle.scenario_file.specs.Scenario.{Plan, number_named, name_among, is_hostile, targets_hostile}

-- what a service gave, or that there is none of that name
abbrev pub by_service : Option Triple → LineResult
by_service None = Refused NoService
by_service (Some gives) = Done gives.code gives.stdout gives.stderr

-- no domain has the target's name; or the target is the caller; or the service decides
abbrev pub by_domain : CallPlan → Option ℕ → LineResult
by_domain call None = Refused NoDomain
by_domain call (Some to) = if to == call.from then Refused SameDomain else by_service (service call.service call.stdin)

-- the line of a call between some domains
abbrev pub line_among : List Domain → CallPlan → Line
line_among domains call = record {
  number = call.number;
  from = name_among domains call.from;
  to = call.to;
  service = call.service;
  result = by_domain call (number_named domains call.to);
}

abbrev pub line_of : Plan → CallPlan → Line
line_of s call = line_among s.domains call

-- one line for each call whose target isn't a hostile domain
abbrev pub lines_among : List Domain → List CallPlan → List Line
lines_among domains calls = map (line_among domains) (filter (λ call. not (targets_hostile domains call)) calls)

abbrev pub lines : Plan → List Line
lines s = lines_among s.domains s.calls

-- ---- without the hostile

-- the domains that aren't hostile
abbrev pub honest : List Domain → List Domain
honest domains = filter (λ domain. not (is_hostile domain)) domains

-- the number that a domain has among those that are left: one more than are left before it
abbrev pub number_left : List Domain → ℕ → ℕ
number_left domains zero = 0
number_left domains (suc k) = suc (length (honest (take k domains)))

-- a call with its caller's number among the domains that are left
abbrev pub call_left : List Domain → CallPlan → CallPlan
call_left domains call = record call { from = number_left domains call.from }

-- the calls whose target isn't hostile
abbrev pub calls_left : List Domain → List CallPlan → List CallPlan
calls_left domains calls = map (call_left domains) (filter (λ call. not (targets_hostile domains call)) calls)

-- the scenario without its hostile domains, and without the calls that name one
abbrev pub without_hostile : Plan → Plan
without_hostile s = record s { domains = honest s.domains; calls = calls_left s.domains s.calls }
