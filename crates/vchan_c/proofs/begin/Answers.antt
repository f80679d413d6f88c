use Rattle.std.proofs.Common.{◌∙◌, sym, refl}
use Rattle.vchan_c.proofs.StretchLaws.{tells_before, alone}
use Rattle.vchan_c.proofs.begin.Goals as goal

pub returns-clause-begun : goal.returns-clause-begun
returns-clause-begun g c = λ _. record {
  machine = c.in-Some.machine;
  call = c.in-Some-call_of.call;
  kept = record { same = c.in-Some.ensures.kept ∙ c.requires; alone = λ other short is. alone _ _ (c.in-Some.ensures.again other short (is ∙ sym c.requires)) };
  names = sym c.in-Some-call_of.ensures;
  allows = c.in_default-refusal.ensures.none.0 refl;
  tells = tells_before _ _ _ _ _ _ _ _ _ _ c.begin.ensures.rest c.begin.ensures.standing c.begin.ensures.payload_left c.begin.ensures.buffer_left c.tell_next.ensures;
}
