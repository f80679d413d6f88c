use Rattle.scenario_file.proofs.GeneratedLaws.{generated_is_scenario}
use Rattle.scenario_file.proofs.generator.generate.Goals as goal

pub invariant_of-result : goal.invariant_of-result
invariant_of-result c =
    let orders = c.default_orders-orders in
    rw (c.in_ok-generated_domains.ensures, c.in_ok-generated_calls.ensures)
    (generated_is_scenario c.args.number c.args.calls orders.result orders.ensures.0 orders.ensures.1 c.requires.few)
