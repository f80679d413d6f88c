use Rattle.std.proofs.Common.{◌≡◌, ℕ, map, take, subst, arith}
use Rattle.scenario_file.specs.Generator.{generated_domain, generated_names}
use Rattle.scenario_file.proofs.GeneratedLaws.{domain_more}
use Rattle.scenario_file.proofs.generator.generated_domains.Goals as goal

pub loop-place-preserved : goal.loop-place-preserved
loop-place-preserved c =
    let named = rw c.name_at.ensures.name at c.in_ok-domain.ensures in
    domain_more c.loop-place.place c.loop-place.domains.items _ c.in_ok-domain.domain (omega arith) c.loop-place.invariant named c.in_ok-push.ensures.items

pub returns : goal.returns
returns c =
    let l = c.loop-place in
    let over : l.place ≡ 4 = omega arith in
    subst (λ (n : ℕ). l.domains.items ≡ map generated_domain (take n generated_names)) over l.invariant
