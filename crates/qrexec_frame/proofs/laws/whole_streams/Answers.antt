use Rattle.qrexec_frame.specs.Messages.{written}
use Rattle.qrexec_frame.specs.Fronts.{front}
use Rattle.qrexec_frame.specs.Laws.{IsGood}
use Rattle.qrexec_frame.proofs.GrammarLaws.{is_prefix_code}
use Rattle.qrexec_frame.proofs.WrittenLaws.{is_read_again}
use Rattle.qrexec_frame.proofs.StreamLaws.{begins, all_came}
use Rattle.qrexec_frame.proofs.laws.whole_streams.Goals as goal

pub returns : goal.returns
returns c channel stream got good prefix all =
    all_came (front channel) written stream got (begins (front channel) written (IsGood channel) (is_prefix_code channel) (is_read_again channel) stream good got prefix.0 0 prefix.1) all
