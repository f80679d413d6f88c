use Rattle.std.proofs.Common.{map, subst, sym}
use Rattle.std.specs.List.{AllByRecursion as Each}
use Rattle.list_laws.specs.Lists.{AreDifferent}
use Rattle.scenario_file.specs.declared.scenario.CallPlan.{CallPlan}
use Rattle.agent_queue.specs.Queue.{FitsTrigger}
use Rattle.scenario_run.proofs.GivenLaws.{calls_fit_lem, numbers_differ}
use Rattle.scenario_run.proofs.tasks.agent.Goals as goal

pub new-requires-clause-different : goal.new-requires-clause-different
new-requires-clause-different c =
    subst (λ calls. AreDifferent (map (λ (x : CallPlan). x.number) calls)) (sym c.in-Ok.ensures) (numbers_differ c.args.scenario.now c.is_scenario.ensures c.args.number)

pub new-requires-clause-short : goal.new-requires-clause-short
new-requires-clause-short c = subst (Each FitsTrigger) (sym c.in-Ok.ensures) (calls_fit_lem c.args.scenario.now c.is_scenario.ensures c.args.number)
