use Rattle.std.proofs.Common.{ℕ, false, Option, ap, ◌∙◌, subst, sym}
use Rattle.std.specs.Prelude.{is_some}
use Rattle.std.specs.Option.{option_map_or}
use Rattle.std.specs.List.{AllByRecursion as Each}
use Rattle.ring_words.specs.declared.order.Orders.{Orders}
use Rattle.scenario_file.specs.Scenario.{is_hostile}
use Rattle.scenario_file.specs.declared.acts.Acts.{Acts}
use Rattle.scenario_file.specs.declared.scenario.Domain.{Domain}
use Rattle.task_duties.specs.GivenEnds.{all_given}
use Rattle.agent_slots.specs.Slots.{IsGiven}
use Rattle.run_pages.specs.Dealt.{IsLaidWith}
use Rattle.run_pages.proofs.HostileLaws.{all_laid}
use Rattle.scenario_run.proofs.GivenLaws.{data_of}
use Rattle.scenario_run.proofs.tasks.hostile.Goals as goal

pub new-requires-clause-payload : goal.new-requires-clause-payload
new-requires-clause-payload c =
    let acts = c.requires.acts in
    let hostile = ap (λ (d : Option Domain). option_map_or is_hostile d false) acts.1 ∙ ap (λ (a : Option Acts). is_some a) acts.2 in
    let ends = c.args.hand.payload.items in
    data_of c.in-Ok.domain ends (subst (λ (n : ℕ). Each (IsGiven n) (all_given ends)) (sym c.in-Ok.ensures.same.0) c.requires.hand.given)
    (subst (λ (o : Orders). Each (IsLaidWith o) ends) (sym c.in-Ok.ensures.same.3) (all_laid c.args.scenario.now c.args.number c.args.hand hostile c.requires.hand.orders))
