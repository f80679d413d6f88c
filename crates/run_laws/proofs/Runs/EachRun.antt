-- There are runs.
use Rattle.std.proofs.Common.{refl}
use Rattle.ring_words.specs.declared.order.Orders.{Orders}
use Rattle.run_laws.specs.Laws.{RunsAreThere}
use Rattle.run_laws.proofs.Runs.QuietRun.{tiny, tiny_run, there_is_a_run}
use Rattle.run_laws.proofs.Runs.RefusedRun.{one, one_run, there_is_a_run as there_is_a_refused_run}
use Rattle.run_laws.proofs.Runs.ServedRun.{two, two_run, there_is_a_run as there_is_a_served_run}

pub runs_are_there : (orders : Orders) → RunsAreThere orders
unfolding tiny tiny_run
runs_are_there orders = record {
  without_calls = (tiny orders, tiny_run orders, there_is_a_run orders, refl, refl, refl);
  refused = (one orders, one_run orders, there_is_a_refused_run orders, refl, refl, refl);
  served = (_, (two orders, two_run orders, there_is_a_served_run orders, refl, refl, refl));
}
