use Rattle.scenario_file.specs.Scenario.{Plan}
use Rattle.scenario_file.proofs.KeptLaws.{without_is_scenario}
use Rattle.scenario_file.proofs.without.without_hostile.Goals as goal

pub invariant_of-result : goal.invariant_of-result
invariant_of-result c =
    let s = c.scenario.inside in
    let whole : Plan = record { control = s.control; payload = s.payload; start = s.start; domains = s.domains.items; calls = s.calls.items } in
    rw (c.in_ok-domains.ensures, c.in_ok-calls.ensures, c.deref.ensures.value, c.deref-2.ensures.value, c.deref-3.ensures.value)
    (without_is_scenario whole c.scenario.invariant)
