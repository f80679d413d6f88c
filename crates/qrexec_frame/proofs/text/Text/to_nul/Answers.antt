use Rattle.std.proofs.Common.{◌≡◌, ◌∙◌}
use Rattle.std.specs.List.{before_first}
use Rattle.qrexec_frame.specs.Texts.{is_nul}
use Rattle.qrexec_frame.proofs.TextLaws.{HasNoNul_before_first}
use Rattle.qrexec_frame.proofs.text.Text.to_nul.Goals as goal

pub invariant_of-result : goal.invariant_of-result
invariant_of-result c =
    let is : c.in_ok-bytes.bytes.items ≡ before_first is_nul c.args.bytes.now = c.in_ok-bytes.ensures.ok ∙ c.before_nul.ensures in
    rw is (HasNoNul_before_first c.args.bytes.now)
