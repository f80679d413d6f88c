use Rattle.std.proofs.Common.{ap, sym, ◌∙◌}
use Rattle.std.specs.Prelude.{not}
use Rattle.scenario_file.specs.declared.scenario.Domain.{Domain}
use Rattle.scenario_file.specs.Scenario.{is_hostile}
use Rattle.scenario_file.proofs.ReadLaws.{kept_more, passed_over}
use Rattle.scenario_file.proofs.without.honest_domains.Goals as goal

pub loop-domain-preserved-then-is_hostile : goal.loop-domain-preserved-then-is_hostile
loop-domain-preserved-then-is_hostile c =
    let l = c.loop-domain in
    l.invariant
    ∙ sym (passed_over (λ (domain : Domain). not (is_hostile domain)) c.args.domains.now l.domain-index c.domain-item.result c.loop-domain-test.true c.domain-item.is (ap not (sym c.is_hostile.ensures ∙ c.if-is_hostile.true)))

pub loop-domain-preserved : goal.loop-domain-preserved
loop-domain-preserved c =
    let l = c.loop-domain in
    rw (c.in_ok-push.ensures.items, c.in_ok-copy_of_honest.ensures, l.invariant)
    (sym (kept_more (λ (domain : Domain). not (is_hostile domain)) c.args.domains.now l.domain-index c.domain-item.result c.loop-domain-test.true c.domain-item.is (ap not (sym c.is_hostile.ensures ∙ c.if-is_hostile.false))))
