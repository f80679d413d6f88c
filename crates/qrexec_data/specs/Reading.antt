-- The bytes that a side has got, and how far it has read them.
use Rattle.std.specs.Prelude.{◌≡◌, ℕ, ◌≤◌, List, length, take, drop, Option, Some}
use Rattle.qrexec_frame.specs.declared.kind.Channel.TheVariants.{Data}
use Rattle.qrexec_frame.specs.declared.message.Message.{Message}
use Rattle.qrexec_frame.specs.Fronts.{reading}
use Rattle.qrexec_frame.specs.Streams.{Placed, Rest}
use Rattle.qrexec_data.specs.declared.outcome.Outcome.{Outcome}
use Rattle.qrexec_data.specs.declared.outcome.Outcome.TheVariants.{Closed, Gone}

-- all bytes got, and how many of them are whole messages that were read
pub record InboxState : Type 0 where
  pub got : List ℕ
  pub read : ℕ

-- the bytes of the messages that were read
abbrev pub read_bytes : InboxState → List ℕ
read_bytes inbox = take inbox.read inbox.got

-- the bytes that haven't been read
abbrev pub unread : InboxState → List ℕ
unread inbox = drop inbox.read inbox.got

-- the messages that were read
abbrev pub read_messages : InboxState → List (Placed Message)
read_messages inbox = (reading Data (read_bytes inbox)).placed

-- the bytes that were read are whole messages
pub record IsAtMessage (inbox : InboxState) : Type 0 where
  pub within : inbox.read ≤ length inbox.got
  pub whole : (reading Data (read_bytes inbox)).ending ≡ Rest 0

-- nothing has decided yet, or bytes have: the owner hasn't told of the channel's end
abbrev pub IsByBytes : Option Outcome → Type 0
IsByBytes (Some Closed) = ⊥
IsByBytes (Some Gone) = ⊥
IsByBytes outcome = Unit {0}
