use Rattle.std.proofs.Common.{◌≡◌, vec_len}
use Rattle.tests_channel.proofs.pools.rising.Given as goal

abbrev pub invariant-loop-place : goal.invariant-loop-place
invariant-loop-place l = vec_len l.tasks ≡ l.place
