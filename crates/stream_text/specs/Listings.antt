-- What a listing stands for while its stream comes in.
use Rattle.std.specs.Prelude.{◌≡◌, ◌++◌, ℕ, List, length, Option, Some, None}
use Rattle.qrexec_frame.specs.declared.kind.Channel.{Channel}
use Rattle.qrexec_frame.specs.declared.fault.FrameFault.{FrameFault}
use Rattle.qrexec_frame.specs.declared.message.Message.{Message}
use Rattle.qrexec_frame.specs.Decoding.{DecoderState, StandsFor}
use Rattle.qrexec_frame.specs.Grammar.{Fault}
use Rattle.qrexec_frame.specs.Fronts.{reading, fault_at}
use Rattle.qrexec_frame.specs.Streams.{Ending, Rest, FaultAt, Placed}
use Rattle.stream_text.specs.Texts.{all_printed}

-- the decoder was fed these bytes, and the text has the lines of the messages that it gave
pub record Lists (channel : Channel) (fed : List ℕ) (decoder : DecoderState) (text : List ℕ) : Type 0 where
  pub given : List (Placed Message)
  pub on : decoder.channel ≡ channel
  pub stands : StandsFor decoder fed given
  pub lines : text ≡ all_printed given

-- the decoder was fed the first of these bytes, and the others are gathered
pub record Gathers (channel : Channel) (bytes : List ℕ) (decoder : DecoderState) (gathered text : List ℕ) : Type 0 where
  pub fed : List ℕ
  pub lists : Lists channel fed decoder text
  pub whole : fed ++ gathered ≡ bytes

-- how a stream ends, with this many bytes left: with a fault, or with those bytes
abbrev pub EndsBy : Option FrameFault → ℕ → Ending Fault → Type 0
EndsBy None left ending = ending ≡ Rest left
EndsBy (Some fault) left ending = (at : ℕ) × (f : Fault) × (ending ≡ FaultAt at f) × (fault ≡ fault_at at f)

-- the text has the lines of all messages of the stream, which ends in this way
pub record ListsAll (channel : Channel) (fed : List ℕ) (decoder : DecoderState) (text : List ℕ) (fault : Option FrameFault) : Type 0 where
  pub lists : Lists channel fed decoder text
  pub lines : text ≡ all_printed (reading channel fed).placed
  pub ends : EndsBy fault (length decoder.left) (reading channel fed).ending
