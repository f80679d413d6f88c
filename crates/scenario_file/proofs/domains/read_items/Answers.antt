use Rattle.std.proofs.lemmas.Result.{err_from_is_err_and}
use Rattle.scenario_file.proofs.ReadLaws.{all_read, item_read, item_refused, pushed_all, pushed_apart, pushed_length}
use Rattle.scenario_file.specs.Scenario.{DomainFits}
use Rattle.scenario_file.specs.Tables.{next_domain}
use Rattle.scenario_file.proofs.domains.read_items.Goals as goal

pub returns-in_err-domain-clause-domains : goal.returns-in_err-domain-clause-domains
returns-in_err-domain-clause-domains c =
    let p = err_from_is_err_and c.from_residual-in_err-domain.result c.from_residual-in_err-domain.ensures.1 in
    let l = c.loop-item in
    rw (p.1, p.2)
    (item_refused (next_domain) l.domains.items c.deref.result.now c.args.items.now l.item-index c.item-item.result _ c.in_err-domain.field-0.0
    c.loop-item-test.true c.item-item.is c.deref.ensures.value l.invariant.0 c.in_err-domain.ensures.domain)

pub loop-item-preserved : goal.loop-item-preserved
loop-item-preserved c =
    let l = c.loop-item in
    let pushed = c.in_ok-push.ensures.items in (
      item_read (next_domain) l.domains.items c.deref.result.now _ c.args.items.now l.item-index c.item-item.result c.in_ok-domain.domain _
          c.loop-item-test.true c.item-item.is c.deref.ensures.value pushed l.invariant.0 c.in_ok-domain.ensures.domain,
      pushed_length l.domains.items _ c.in_ok-domain.domain l.item-index pushed l.invariant.1,
      pushed_all DomainFits l.domains.items _ c.in_ok-domain.domain pushed l.invariant.2 c.in_ok-domain.ensures.fits,
      pushed_apart l.domains.items c.deref.result.now _ c.in_ok-domain.domain c.deref.ensures.value pushed l.invariant.3 c.in_ok-domain.ensures.new,
    )

pub returns-clause-domains : goal.returns-clause-domains
returns-clause-domains c =
    let l = c.loop-item in
    all_read (next_domain) l.domains.items c.args.items.now l.item-index _ c.loop-item-test.false l.invariant.0
