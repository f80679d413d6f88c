use Rattle.std.proofs.Common.{◌<◌, ◌⊎◌, inl, inr, sym, ◌∙◌, ap, arith}
use Rattle.qrexec_frame.specs.declared.fault.FrameFault.TheVariants as frame
use Rattle.qrexec_frame.specs.Kinds.{kind_on, least_len, most_len}
use Rattle.qrexec_frame.specs.Grammar.{UnknownType, TooLong, BadLength}
use Rattle.qrexec_frame.proofs.FrontLaws.{front_no_type, front_too_long, front_bad_length, whole_offset}
use Rattle.qrexec_frame.proofs.front.header_kind.Goals.{then-len-least_len-via-then-len-least_len, then-len-least_len-via-else-len-least_len+then-most_len-len}
use Rattle.qrexec_frame.proofs.front.header_kind.Goals as goal

pub returns-in_default : goal.returns-in_default
returns-in_default c = (
  UnknownType c.args.kind,
  λ bytes there number len. rw number (front_no_type c.args.channel bytes there (ap (kind_on c.args.channel) (sym number) ∙ sym c.in_default.ensures)),
  ap (λ at. frame.UnknownType at c.args.kind) (whole_offset c.args.at (omega arith)),
)

pub returns-then-len-gt-MOST_BODY : goal.returns-then-len-gt-MOST_BODY
returns-then-len-gt-MOST_BODY c = (
  TooLong c.args.kind c.args.len,
  λ bytes there number len. front_too_long c.args.channel bytes c.args.kind c.args.len c.in-Some.row (record { there = there; number_is = number; len_is = len; kind_is = sym c.in-Some.ensures }) c.if-len-gt-MOST_BODY.true,
  ap (λ at. frame.TooLong at c.args.kind c.args.len) (whole_offset c.args.at (omega arith)),
)

pub returns-then-len-least_len : goal.returns-then-len-least_len
returns-then-len-least_len c =
    let out : (c.args.len < least_len c.in-Some.row) ⊎ (most_len c.in-Some.row < c.args.len) = elim c.then-len-least_len.branch [
      | then-len-least_len-via-then-len-least_len w ↦ inl (omega (arith, c.least_len.ensures))
      | then-len-least_len-via-else-len-least_len+then-most_len-len w ↦ inr (omega (arith, w.most_len.ensures))
    ] in (
      BadLength c.args.kind c.args.len,
      λ bytes there number len. front_bad_length c.args.channel bytes c.args.kind c.args.len c.in-Some.row (record { there = there; number_is = number; len_is = len; kind_is = sym c.in-Some.ensures }) c.if-len-gt-MOST_BODY.false out,
      ap (λ at. frame.BadLength at c.args.kind c.args.len) (whole_offset c.args.at (omega arith)),
    )
