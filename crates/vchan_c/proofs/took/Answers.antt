use Rattle.std.proofs.Common.{sym, ◌∙◌, rules}
use Rattle.vchan_c.proofs.StretchLaws.{alone}
use Rattle.vchan_c.proofs.took.Goals as goal

pub returns-clause-moved : goal.returns-clause-moved
returns-clause-moved g c = λ _. record {
  machine = c.in-Some.machine;
  kept = record { same = c.in-Some.ensures.kept ∙ c.requires; alone = λ other short is. alone _ _ (c.in-Some.ensures.again other short (is ∙ sym c.requires)) };
  busy = search rules;
  tells = c.tell_after.ensures;
}
