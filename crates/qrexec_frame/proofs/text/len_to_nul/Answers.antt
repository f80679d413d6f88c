use Rattle.std.proofs.Common.{arith, length}
use Rattle.std.specs.List.{position_or_len}
use Rattle.std.proofs.lemmas.Bool.Decides.{nat_tests}
use Rattle.std.proofs.lemmas.List.Sums.{prefix_len-le-length}
use Rattle.std.specs.Prelude.{not, ◌≤◌}
use Rattle.qrexec_frame.specs.Texts.{is_nul}
use Rattle.qrexec_frame.proofs.text.len_to_nul.Goals as goal

pub returns-clause-len : goal.returns-clause-len
returns-clause-len c =
    let within : position_or_len is_nul c.args.bytes.now ≤ length c.args.bytes.now = prefix_len-le-length (λ b. not (is_nul b)) c.args.bytes.now in
    grind (arith, nat_tests)
