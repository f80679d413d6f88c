use Rattle.std.proofs.Common.{◌≡◌, ◌≤◌, ◌∙◌, ap, subst, sym, arith, length, true, false, rules}
use Rattle.std.specs.Prelude.{Some, ◌==◌}
use Rattle.std.specs.List.{count_by}
use Rattle.scenario_file.specs.Scenario.{Plan, domain_of, is_hostile}
use Rattle.std.proofs.lemmas.Bool.{ne_eqb}
use Rattle.run_pages.specs.Routes.{is_to}
use Rattle.run_pages.proofs.RouteLaws.{between_calls, between_ports, count_routes, honest_at, routes_within}
use Rattle.run_pages.proofs.routes.pages_between.Goals as goal

pub returns-clause-pages : goal.returns-clause-pages
returns-clause-pages c =
    let there : domain_of c.args.scenario.now c.args.from ≡ Some c.domain_at-caller.result.now = search (rules, c.domain_at-caller.ensures, c.deref.ensures.value, c.scenario.view_is) in
    let honest : is_hostile c.domain_at-caller.result.now ≡ false = sym c.is_hostile.ensures ∙ c.if-is_hostile.false in
    let apart : (c.args.from == c.args.to) ≡ false = ne_eqb c.args.from c.args.to c.if-from-to.false in
    c.calls_to.ensures.count ∙ ap (count_by (is_to c.args.to)) c.requires.routes ∙ count_routes c.args.scenario.now c.args.from c.args.to
    ∙ sym (between_calls c.args.scenario.now c.args.from c.args.to apart (honest_at c.args.scenario.now c.args.from c.domain_at-caller.result.now there honest))

pub returns-then-is_hostile-clause-pages : goal.returns-then-is_hostile-clause-pages
returns-then-is_hostile-clause-pages c =
    let there : domain_of c.args.scenario.now c.args.from ≡ Some c.domain_at-caller.result.now = search (rules, c.domain_at-caller.ensures, c.deref.ensures.value, c.scenario.view_is) in
    let hostile : is_hostile c.domain_at-caller.result.now ≡ true = sym c.is_hostile.ensures ∙ c.if-is_hostile.true in
    let apart : (c.args.from == c.args.to) ≡ false = ne_eqb c.args.from c.args.to c.if-from-to.false in
    sym (between_ports c.args.scenario.now c.args.from c.args.to c.domain_at-caller.result.now apart there hostile)

pub calls_to-requires : goal.calls_to-requires
calls_to-requires c =
    let calls : length c.args.scenario.now.calls ≤ 4096 = subst (λ (s : Plan). length s.calls ≤ 4096) c.scenario.view_is c.scenario.invariant.few_calls in
    record { few = omega (arith, calls, ap length c.requires.routes, routes_within c.args.scenario.now c.args.from) }
