use Rattle.std.proofs.Common.{rules, ◌≡◌, ◌+◌, List, Result, Ok, Err, arith, OnOk}
use Rattle.std.specs.Prelude.{false, slice_index_or, AllPairs}
use Rattle.std.specs.List.Sorted.{IsSortedByKey}
use Rattle.scenario_run.specs.declared.sessions.Session.{Session}
use Rattle.run_laws.specs.HostileSessions.{stands_before}
use Rattle.scenario_run.specs.Sessions.{seen}
use Rattle.scenario_run.proofs.SessionLaws.{all_ordered, key_cmp, key_of, sorted_key, sorted_next}
use Rattle.scenario_run.proofs.sessions.sort.Goals as goal

on_ok : {T E : Type 0} (r : Result T E) (P Q : Type 0) → (P → Q) → OnOk r P → OnOk r Q
on_ok (Ok x) P Q f p = f p
on_ok (Err e) P Q f p = p

ordered : (xs : List Session) → IsSortedByKey key_of key_cmp xs → AllPairs (λ a b. stands_before (seen b) (seen a) ≡ false) xs
ordered xs sorted = all_ordered xs (λ k d within. sorted_next (slice_index_or xs k d) (slice_index_or xs (k + 1) d) (sorted k d (omega arith) within))

pub returns-clause-sorted : goal.returns-clause-sorted
returns-clause-sorted c = on_ok c.sort_by_key.result _ _ (λ sorted. ordered c.sort_by_key.new.self.items (sorted_key c.sort_by_key.new.self.items sorted (λ a r q k. search rules))) c.sort_by_key.ensures.sorted
