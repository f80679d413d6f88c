use Rattle.std.proofs.Common.{◌≡◌, ◌∙◌, ◌++◌, ap, arith, length, map}
use Rattle.std.specs.Vec.Iter.{into_iter_items}
use Rattle.scenario_run.specs.Sessions.{seen, sessions_from}
use Rattle.scenario_run.proofs.sessions.sessions.Goals as goal

pub loop-report-init : goal.loop-report-init
loop-report-init c =
    let items : into_iter_items c.into_iter-report-iterator.result ≡ c.args.reports.items = c.into_iter-report-iterator.ensures.into_iter_gives.0 in
    record {
      can_next = tt;
      is_finite = tt;
      made = ap (λ l. map seen l ++ sessions_from c.args.scenario.now 0 (map (λ r. r.served) (into_iter_items c.into_iter-report-iterator.result))) c.new-sessions.ensures.items
          ∙ ap (λ rs. sessions_from c.args.scenario.now 0 (map (λ r. r.served) rs)) items;
      few = (let n = c.requires in let e = ap length items in let few = c.is_scenario.ensures.few_domains in omega (arith, n, e, few));
    }
