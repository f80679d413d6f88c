use Rattle.std.proofs.Common.{◌++◌, subst, sym}
use Rattle.std.proofs.lemmas.Result.{on_ok_weaker}
use Rattle.qrexec_frame.specs.Decoding.{DecoderState, StandsFor}
use Rattle.qrexec_frame.proofs.DecodingLaws.{feed_stands}
use Rattle.qrexec_frame.proofs.decoder.Decoder.feed.Goals as goal

pub returns-clause-stream : goal.returns-clause-stream
returns-clause-stream c = λ fed given stands.
    let P : DecoderState → Type 0 = λ d. StandsFor d (fed ++ c.args.piece.now) given in
    on_ok_weaker c.take.result (λ state. subst P (sym state) (feed_stands c.args.self.now fed c.args.piece.now given stands)) c.take.ensures.ok
