-- An ident has no NUL.
use Rattle.std.proofs.Common.{◌≡◌, List, ℕ, [], ◌++◌, subst, sym, ap, ◌∙◌}
use Rattle.std.specs.Prelude.{Contains}
use Rattle.hostile_task.proofs.SpellLaws.{no_nul_ident}
use Rattle.hostile_task.proofs.spell.ident.Goals as goal

pub unreachable-requires : goal.unreachable-requires
unreachable-requires c =
    let text = c.deref.ensures.value ∙ c.in_ok-extend_from_slice.ensures.items ∙ (λ i. c.in_ok-bytes.ensures.items i ++ (c.as_bytes.ensures.value ∙ c.format.ensures.text) i) in
    no_nul_ident c.args.number c.ranges.number.fits (subst (λ (bytes : List ℕ). Contains bytes 0) text (c.of.ensures.nul.0 (c.in-Err-Nul.is ∙ ap (λ e. Rattle.std.proofs.Common.Err e) c.in-Err-Nul.field-0-is)))
