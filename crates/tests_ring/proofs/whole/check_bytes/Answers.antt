use Rattle.std.proofs.lemmas.Bool.Decides.{Decides-eqb}
use Rattle.std.proofs.lemmas.Slice.Eq.{slice_eq-Decides}
use Rattle.tests_ring.proofs.whole.check_bytes.Goals as goal

pub returns-then-eq : goal.returns-then-eq
returns-then-eq c = (slice_eq-Decides Decides-eqb c.args.bytes.now c.args.wanted.now _ c.eq.ensures).0 c.if-eq.true
