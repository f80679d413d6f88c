-- A reader that gathers the bytes of the message under way.
use Rattle.std.specs.Prelude.{◌≡◌, ℕ, ◌+◌, ◌<◌, ◌≤◌, ◌⊎◌, nat_lt, if◌then◌else◌, List, ◌++◌, length, take}
use Rattle.qrexec_frame.specs.declared.kind.Channel.{Channel}
use Rattle.qrexec_frame.specs.Grammar.{number_at}
use Rattle.qrexec_frame.specs.Fronts.{front}
use Rattle.qrexec_frame.specs.Streams.{Short}
use Rattle.qrexec_c.specs.declared.gather.Gather.{Gather}
use Rattle.qrexec_c.specs.Readers.{IsNoReader}

-- the bytes of the message that have come
abbrev pub came : Gather → List ℕ
came g = take g.got g.bytes

-- the same, and the taken ones of a piece
abbrev pub with_piece : Gather → List ℕ → ℕ → List ℕ
with_piece g piece taken = came g ++ take taken piece

-- up to which length a message that begins so is gathered: its header's, or its own if it has at most 136 bytes
abbrev pub until_of : List ℕ → ℕ
until_of bytes = if nat_lt (length bytes) 8 then 8 else (if nat_lt 128 (number_at 4 bytes) then 8 else 8 + number_at 4 bytes)

-- the numbers are those of no reader, or more bytes have come than are gathered of the message
abbrev pub IsNoGather : Gather → Type 0
IsNoGather g = IsNoReader g.reader ⊎ ((g.reader.fault ≡ 0) × (until_of (came g) < g.got))

-- the message goes on
pub record GoesOn (channel : Channel) (old : Gather) (piece : List ℕ) (new : Gather) : Type 0 where
  pub came_is : came new ≡ with_piece old piece new.taken
  pub short : front channel (came new) ≡ Short
  pub reader : new.reader ≡ old.reader
  pub within : new.taken ≤ length piece

-- the header has come of a message that isn't gathered
pub record IsLong (bytes : List ℕ) : Type 0 where
  pub header : length bytes ≡ 8
  pub long : 128 < number_at 4 bytes
