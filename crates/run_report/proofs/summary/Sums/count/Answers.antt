use Rattle.std.proofs.Common.{◌<◌, arith, subst, sym}
use Rattle.std.proofs.lemmas.Int.{ints}
use Rattle.run_report.proofs.summary.Sums.count.Goals as goal

pub invariant_of-self : goal.invariant_of-self
invariant_of-self c =
    let few : c.self.inside.done < 4096 = subst (λ t. t.done < 4096) (sym c.self.view_is) c.requires in
    record {
      few = omega arith;
      stdin = omega arith;
      stdout = omega arith;
      stderr = omega arith;
      most = omega (arith, ints);
      least = omega (arith, ints);
    }
