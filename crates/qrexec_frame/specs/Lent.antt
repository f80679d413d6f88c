-- A decoder whose messages are borrowed.
use Rattle.std.specs.Prelude.{◌≡◌, ◌+◌, length, Option, Some, None, Result, Ok, Err}
use Rattle.std.specs.Borrow.{MutBor, Fml}
use Rattle.std.specs.Io.BufRead.{Rests}
use Rattle.qrexec_frame.specs.declared.fault.FrameFault.{FrameFault}
use Rattle.qrexec_frame.specs.declared.front.Body.{Body}
use Rattle.qrexec_frame.specs.contracts.decoder.Decoder.{the_row}
use Rattle.qrexec_frame.specs.Decoding.{DecoderState, after_message}

-- what a decoder is after a body was borrowed from it, or after it answered that there is none, or a fault
abbrev pub Lent : DecoderState → DecoderState → Result (Option Body) FrameFault → Type 0
Lent old new (Ok (Some body)) = new ≡ after_message old (8 + length body.bytes.now)
Lent old new (Ok None) = new ≡ old
Lent old new (Err fault) = new ≡ record old { fault = Some fault }

-- the state of a decoder after the borrow of its body has ended
abbrev pub RestsBehind : MutBor DecoderState → Result (Option Body) FrameFault → Fml
RestsBehind s result = Rests the_row s (λ new. Lent s.now new result)
