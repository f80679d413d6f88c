-- What a writer of messages leaves in its caller's bytes.
use Rattle.std.specs.Prelude.{◌≡◌, ℕ, ◌<◌, ◌≤◌, List, ◌++◌, length, drop}
use Rattle.qrexec_frame.specs.declared.kind.Channel.{Channel}
use Rattle.qrexec_frame.specs.declared.message.Message.{Message}
use Rattle.qrexec_frame.specs.Messages.{Fits, GoesOn, written}
use Rattle.qrexec_frame.specs.Fronts.{front}
use Rattle.qrexec_frame.specs.Streams.{Whole}

-- nothing was written, since the message doesn't fit or there is no room for it
pub record IsUnwritten (m : Message) (old new : List ℕ) : Type 0 where
  pub new_is : new ≡ old
  pub none : Fits m → length old < length (written m)

-- the message was written at the front, and no byte after it; it is read again, whatever follows it
pub record IsWritten (m : Message) (old new : List ℕ) (count : ℕ) : Type 0 where
  pub count_is : count ≡ length (written m)
  pub within : count ≤ length old
  pub fits : Fits m
  pub new_is : new ≡ written m ++ drop count old
  pub read_again : (channel : Channel) (more : List ℕ) → GoesOn channel m → front channel (written m ++ more) ≡ Whole m count

-- what a writer returns is 0, or how many bytes it wrote
abbrev pub Puts : Message → List ℕ → List ℕ → ℕ → Type 0
Puts m old new count = (count ≡ 0 → IsUnwritten m old new) × (0 < count → IsWritten m old new count)
