-- Laws of spellings and of streams of them.
use Rattle.std.specs.Prelude.{◌≡◌, ℕ, ◌≤◌, List, ◌++◌, length}
use Rattle.std.specs.List.{flat_map, AllByRecursion as Each}
use Rattle.list_laws.specs.Lists.{IsPrefixOf}
use Rattle.qrexec_frame.specs.declared.kind.Channel.{Channel}
use Rattle.qrexec_frame.specs.declared.message.Message.{Message}
use Rattle.qrexec_frame.specs.Messages.{written, IsSpellable, GoesOn}
use Rattle.qrexec_frame.specs.Grammar.{Spelled}
use Rattle.qrexec_frame.specs.Fronts.{front, reading}
use Rattle.qrexec_frame.specs.Streams.{Begins, Extends, messages}

-- a message that has a spelling, of a channel
abbrev pub IsGood : Channel → Message → Type 0
IsGood channel message = IsSpellable message × GoesOn channel message

-- a spelling that begins another is the whole of it, and spells the same message
abbrev pub SpellingsStandApart : Type 0
SpellingsStandApart = (channel : Channel) (one other : List ℕ) (m n : Message) → Spelled channel one m → Spelled channel other n → IsPrefixOf one other → (one ≡ other) × (m ≡ n)

-- more bytes only extend a reading: its messages stay, and so does a fault
abbrev pub LongerStreams : Type 0
LongerStreams = (channel : Channel) (got more : List ℕ) → Extends (reading channel got) (reading channel (got ++ more))

-- a beginning of written messages reads without fault, as the first of them
abbrev pub WrittenBeginnings : Type 0
WrittenBeginnings = (channel : Channel) (stream : List Message) (got : List ℕ) → Each (IsGood channel) stream → IsPrefixOf got (flat_map written stream)
    → Begins (front channel) written stream got 0

-- if as many messages were read as were written, all the bytes came
abbrev pub WholeStreams : Type 0
WholeStreams = (channel : Channel) (stream : List Message) (got : List ℕ) → Each (IsGood channel) stream → IsPrefixOf got (flat_map written stream)
    → length stream ≤ length (messages (reading channel got)) → got ≡ flat_map written stream
