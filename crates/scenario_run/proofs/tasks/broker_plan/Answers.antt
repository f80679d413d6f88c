use Rattle.std.proofs.Common.{◌≡◌, ◌∙◌, ◌*◌, ◌≤◌, ap, arith, length, subst, sym}
use Rattle.std.specs.Prelude.{vec_len}
use Rattle.std.specs.List.{All}
use Rattle.std.proofs.lemmas.List.{length-map}
use Rattle.scenario_run.specs.Tasks.{awaited_from}
use Rattle.scenario_run.proofs.GivenLaws.{awaited_length, names_short, same_lengths, table_square, table_within}
use Rattle.scenario_run.proofs.tasks.broker_plan.Goals as goal

pub new-requires-clause-square : goal.new-requires-clause-square
new-requires-clause-square c =
    let many : length c.in_ok-domains.domains.items ≡ length c.args.scenario.now.domains = same_lengths (λ entry. entry.name) (λ domain. domain.name) c.in_ok-domains.domains.items c.args.scenario.now.domains c.in_ok-domains.ensures in
    let square : length c.in_ok-pages.pages.items ≡ length c.in_ok-domains.domains.items * length c.in_ok-domains.domains.items = ap length c.in_ok-pages.ensures ∙ table_square c.args.scenario.now ∙ sym (ap (λ n. n * n) many) in
    let pages : vec_len c.in_ok-pages.pages ≡ length c.in_ok-pages.pages.items = omega (arith, c.in_ok-pages.pages.ok.0) in
    let domains : vec_len c.in_ok-domains.domains ≡ length c.in_ok-domains.domains.items = omega (arith, c.in_ok-domains.domains.ok.0) in
    pages ∙ square ∙ sym (ap (λ n. n * n) domains)

pub new-requires-clause-within : goal.new-requires-clause-within
new-requires-clause-within c = subst (All (λ p. p ≤ 65536)) (sym c.in_ok-pages.ensures) (table_within c.args.scenario.now c.is_scenario.ensures)

pub returns-clause-names : goal.returns-clause-names
returns-clause-names c = names_short c.args.scenario.now c.is_scenario.ensures c.in_ok-broker.broker.hub (c.in_ok-broker.ensures.names ∙ c.in_ok-domains.ensures)

pub returns-clause-count : goal.returns-clause-count
returns-clause-count c = (
  ap length (c.in_ok-broker.ensures.names ∙ c.in_ok-domains.ensures) ∙ length-map c.args.scenario.now.domains (λ domain. domain.name),
  ap length c.in_ok-awaited.ensures ∙ awaited_length (awaited_from c.args.scenario.now) c.args.scenario.now,
)
