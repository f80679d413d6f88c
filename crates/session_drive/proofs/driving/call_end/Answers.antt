use Rattle.std.proofs.Common.{◌∙◌, ◌≡◌, Some, ap, sym}
use Rattle.std.proofs.lemmas.Int.{to_z-of_z}
use Rattle.std.specs.Prelude.{ℤ}
use Rattle.std.specs.Int.{w32, cast_signed, cast_unsigned}
use Rattle.std.specs.Int.RustNames.{FitsSigned}
use Rattle.qrexec_data.specs.declared.outcome.Outcome.TheVariants.{Done}
use Rattle.session_drive.proofs.driving.call_end.Goals as goal

same_code : (a b : ℤ) → Some (Done a) ≡ Some (Done b) → a ≡ b
same_code a b is = cc

same_number : (a b : ℤ) → a ≡ b → FitsSigned w32 b → cast_signed w32 (cast_unsigned w32 a) ≡ b
same_number a b is fits = ap (λ (z : ℤ). cast_signed w32 (cast_unsigned w32 z)) is ∙ to_z-of_z w32 b fits

pub returns-clause-ends : goal.returns-clause-ends
returns-clause-ends c = λ t fits end. (
  same_number c.in-Done.code t.code (same_code _ _ (ap (λ o. Some o) (sym c.in-Done.is) ∙ sym c.in-Some.is ∙ c.outcome.ensures.is ∙ end.code)) fits,
  c.into_parts-stdout.ensures.outputs.0 ∙ end.stdout,
  c.into_parts-stdout.ensures.outputs.1 ∙ end.stderr,
)
