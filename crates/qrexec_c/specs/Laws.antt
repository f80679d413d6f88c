-- Laws of readers.
use Rattle.std.specs.Prelude.{◌≡◌, ℕ, List, [], ◌++◌, Some}
use Rattle.qrexec_frame.specs.declared.kind.Channel.{Channel}
use Rattle.qrexec_frame.specs.declared.message.Message.{Message}
use Rattle.qrexec_frame.specs.Streams.{Placed}
use Rattle.qrexec_c.specs.declared.reader.Reader.{Reader}
use Rattle.qrexec_c.specs.Readers.{channel_of, fresh, Stands}

abbrev pub FreshReadersStand : Type 0
FreshReadersStand = (number : ℕ) (channel : Channel) → channel_of number ≡ Some channel → Stands channel (fresh number) [] [] []

abbrev pub MoreBytesStand : Type 0
MoreBytesStand = (channel : Channel) (r : Reader) (bytes piece stream : List ℕ) (given : List (Placed Message)) → r.fault ≡ 0 → Stands channel r bytes stream given → Stands channel r (bytes ++ piece) (stream ++ piece) given
