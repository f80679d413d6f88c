-- A reader that its caller holds as plain numbers, and what it has read of a stream.
use Rattle.std.specs.Prelude.{◌≡◌, ℕ, ◌+◌, ◌%◌, ◌^◌, ◌<◌, ◌⊎◌, ◌==◌, if◌then◌else◌, List, [], ◌∷◌, ◌++◌, drop, Option, Some, None}
use Rattle.qrexec_frame.specs.declared.kind.Channel.{Channel}
use Rattle.qrexec_frame.specs.declared.kind.Channel.TheVariants.{Control, Data}
use Rattle.qrexec_frame.specs.declared.fault.FrameFault.{FrameFault}
use Rattle.qrexec_frame.specs.declared.fault.FrameFault.TheVariants.{UnknownType, TooLong, BadLength, NoNul}
use Rattle.qrexec_frame.specs.declared.message.Message.{Message}
use Rattle.qrexec_frame.specs.Kinds.{number_of}
use Rattle.qrexec_frame.specs.Messages.{kind_of}
use Rattle.qrexec_frame.specs.Grammar.{Fault}
use Rattle.qrexec_frame.specs.Fronts.{front, reading, fault_at}
use Rattle.qrexec_frame.specs.Decoding.{DecoderState, StandsFor}
use Rattle.list_laws.specs.Lists.{IsPrefixOf}
use Rattle.qrexec_frame.specs.Streams.{Whole, Bad, Short, Placed, FaultAt}
use Rattle.qrexec_c.specs.declared.reader.Reader.{Reader}
use Rattle.qrexec_c.specs.declared.found.Found.{Found}
use Rattle.qrexec_c.specs.Founds.{Tells}

-- the channel of a number
abbrev pub channel_of : ℕ → Option Channel
channel_of number = if number == 0 then Some Control else (if number == 1 then Some Data else None)

-- a reader that has read nothing
abbrev pub fresh : ℕ → Reader
fresh channel = record { at = 0; kind = 0; len = 0; channel = channel; fault = 0 }

-- a reader that holds a fault
abbrev pub fault_in : ℕ → FrameFault → Reader
fault_in channel (UnknownType at kind) = record { at = at; kind = kind; len = 0; channel = channel; fault = 1 }
fault_in channel (TooLong at kind len) = record { at = at; kind = kind; len = len; channel = channel; fault = 2 }
fault_in channel (BadLength at kind len) = record { at = at; kind = kind; len = len; channel = channel; fault = 3 }
fault_in channel (NoNul at kind) = record { at = at; kind = kind; len = 0; channel = channel; fault = 4 }

-- the numbers are those of no reader
abbrev pub IsNoReader : Reader → Type 0
IsNoReader r = (channel_of r.channel ≡ None) ⊎ (4 < r.fault)

-- `found` tells the message at the front, and the reader stands after it
pub record IsNext (channel : Channel) (bytes : List ℕ) (old new : Reader) (found : Found) : Type 0 where
  pub message : Message
  pub whole : front channel bytes ≡ Whole message (8 + found.len)
  pub kind_is : found.kind ≡ number_of (kind_of message)
  pub tells : Tells found bytes message
  pub new_is : new ≡ record old { at = (old.at + (8 + found.len)) % 2 ^ 64 }

-- the reader holds the fault that shows at the front
pub record IsFault (channel : Channel) (bytes : List ℕ) (old new : Reader) : Type 0 where
  pub fault : Fault
  pub bad : front channel bytes ≡ Bad fault
  pub new_is : new ≡ fault_in old.channel (fault_at old.at fault)

-- less than a message is there, and nothing changes
pub record IsLess (channel : Channel) (bytes : List ℕ) (old new : Reader) : Type 0 where
  pub short : front channel bytes ≡ Short
  pub new_is : new ≡ old

-- ---- all bytes of the stream

-- the fault that a reader holds
abbrev pub fault_of : ℕ → ℕ → ℕ → ℕ → Option FrameFault
fault_of number at kind len =
    if number == 1 then Some (UnknownType at kind) else (
    if number == 2 then Some (TooLong at kind len) else (
    if number == 3 then Some (BadLength at kind len) else (
    if number == 4 then Some (NoNul at kind) else None)))

-- a decoder that has these bytes left
abbrev pub state_of : Channel → Reader → List ℕ → DecoderState
state_of channel r bytes = record { channel = channel; passed = 0; left = bytes; at = r.at; fault = fault_of r.fault r.at r.kind r.len }

-- the stream's bytes so far are those of these messages, and then those that the caller hands in
abbrev pub Stands : Channel → Reader → List ℕ → List ℕ → List (Placed Message) → Type 0
Stands channel r bytes stream given = StandsFor (state_of channel r bytes) stream given

-- the message found is the next one of the stream, which began at the reader's offset, and the reader stands after it
pub record ReadsNext (channel : Channel) (bytes : List ℕ) (old new : Reader) (found : Found) (stream : List ℕ) (given : List (Placed Message)) : Type 0 where
  pub message : Message
  pub at : ℕ
  pub at_is : old.at ≡ at % 2 ^ 64
  pub tells : Tells found bytes message
  pub stands : Stands channel new (drop (8 + found.len) bytes) stream (given ++ record { at = at; message = message } ∷ [])
  pub next : IsPrefixOf (given ++ record { at = at; message = message } ∷ []) (reading channel stream).placed

-- the stream ends with the fault that the reader holds
pub record ReadsFault (channel : Channel) (bytes : List ℕ) (new : Reader) (stream : List ℕ) (given : List (Placed Message)) : Type 0 where
  pub fault : Fault
  pub at : ℕ
  pub ends : reading channel stream ≡ record { placed = given; ending = FaultAt at fault }
  pub fault_is : fault_of new.fault new.at new.kind new.len ≡ Some (fault_at at fault)
  pub stands : Stands channel new bytes stream given
