use Rattle.std.proofs.Common.{◌≡◌}
use Rattle.tests_ring.proofs.rows.overwritten.Given as goal

abbrev pub invariant-stores : goal.invariant-stores
invariant-stores l = (l.client.page ≡ l.initial.client.page) × (l.client.side.role ≡ l.initial.client.side.role) × (l.client.side.sent ≡ l.initial.client.side.sent)
