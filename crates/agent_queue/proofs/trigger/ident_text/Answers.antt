use Rattle.std.proofs.Common.{subst, sym, ap, ◌∙◌}
use Rattle.std.specs.Prelude.{Contains, Err}
use Rattle.qrexec_frame.specs.Texts.{FitsText}
use Rattle.agent_queue.proofs.TriggerLaws.{ident_no_nul, ident_fits}
use Rattle.agent_queue.proofs.trigger.ident_text.Goals as goal

pub unreachable-requires : goal.unreachable-requires
unreachable-requires c =
    ident_no_nul c.args.number c.ranges.number.fits (subst (λ l. Contains l 0) (c.as_slice.ensures ∙ c.in_ok-bytes.ensures.is) (c.of.ensures.nul.0 (c.in-Err-Nul.is ∙ ap (λ e. Err e) c.in-Err-Nul.field-0-is)))

pub returns-in-Ok-clause-short : goal.returns-in-Ok-clause-short
returns-in-Ok-clause-short c = subst (FitsText 31) (sym (c.in-Ok.ensures.text ∙ (c.as_slice.ensures ∙ c.in_ok-bytes.ensures.is))) (ident_fits c.args.number c.ranges.number.fits)
