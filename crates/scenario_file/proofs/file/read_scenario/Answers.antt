use Rattle.std.proofs.lemmas.Result.{err_from_is_err_and}
use Rattle.toml.specs.View.{table_view}
use Rattle.scenario_file.specs.RingsSeen.{rings_seen}
use Rattle.scenario_file.proofs.FileLaws.{IsReadBefore, totals_kept, totals_refused}
use Rattle.scenario_file.proofs.file.read_scenario.Goals as goal

pub returns-in_err-check_totals : goal.returns-in_err-check_totals
returns-in_err-check_totals c =
    let p = err_from_is_err_and c.from_residual-in_err-check_totals.result c.from_residual-in_err-check_totals.ensures.1 in
    let before : IsReadBefore (table_view c.args.top.now) (rings_seen c.in_ok-rings.rings) c.in_ok-domains.domains.items c.in_ok-calls.calls.items = record {
      keys = c.in_ok-check_keys.ensures;
      rings_read = c.in_ok-rings.ensures;
      domains_read = c.in_ok-domains.ensures.domains;
      calls_read = rw c.deref.ensures.value at c.in_ok-calls.ensures.calls;
    } in
    let refused = rw (c.deref-2.ensures.value, c.deref-3.ensures.value) at c.in_err-check_totals.ensures.totals in
    rw (p.1, p.2) (totals_refused _ _ _ _ _ before refused)

pub invariant_of-result : goal.invariant_of-result
invariant_of-result c = record {
  few_domains = c.in_ok-domains.ensures.few;
  few_calls = c.in_ok-calls.ensures.few;
  domains_fit = c.in_ok-domains.ensures.fit;
  apart = c.in_ok-domains.ensures.apart;
  calls_fit = rw c.deref.ensures.value at c.in_ok-calls.ensures.fit;
  rising = c.in_ok-calls.ensures.rising;
  stdin = rw c.deref-3.ensures.value at c.in_ok-check_totals.ensures.stdin;
  words = rw (c.deref-2.ensures.value, c.deref-3.ensures.value) at c.in_ok-check_totals.ensures.words;
}

pub returns : goal.returns
returns c =
    let before : IsReadBefore (table_view c.args.top.now) (rings_seen c.in_ok-rings.rings) c.in_ok-domains.domains.items c.in_ok-calls.calls.items = record {
      keys = c.in_ok-check_keys.ensures;
      rings_read = c.in_ok-rings.ensures;
      domains_read = c.in_ok-domains.ensures.domains;
      calls_read = rw c.deref.ensures.value at c.in_ok-calls.ensures.calls;
    } in
    totals_kept _ _ _ _ before (rw (c.deref-2.ensures.value, c.deref-3.ensures.value) at c.in_ok-check_totals.ensures.totals)
