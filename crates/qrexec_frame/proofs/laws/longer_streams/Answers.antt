use Rattle.qrexec_frame.specs.Fronts.{front}
use Rattle.qrexec_frame.proofs.StreamLaws.{extends}
use Rattle.qrexec_frame.proofs.GrammarLaws.{is_prefix_code}
use Rattle.qrexec_frame.proofs.laws.longer_streams.Goals as goal

pub returns : goal.returns
returns c channel got more = extends (front channel) (is_prefix_code channel) got more 0 0
