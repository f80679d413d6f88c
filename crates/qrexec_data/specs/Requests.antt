-- A caller's side of sending: its input in messages.
use Rattle.std.specs.Prelude.{◌≡◌, ℕ, ◌+◌, ◌-◌, ◌≤◌, ◌==◌, min, nat_lt, Bool, true, false, List, [], ◌∷◌, ◌++◌, length, take, drop, map, Option, Some, None, if◌then◌else◌}
use Rattle.std.specs.List.{flat_map}
use Rattle.qrexec_frame.specs.declared.message.Message.TheVariants.{Hello, Stdin}
use Rattle.qrexec_frame.specs.Messages.{written}
use Rattle.qrexec_data.specs.Pieces.{In, Piece, message_of, end_of, joined, ArePieces, is_input}
use Rattle.qrexec_data.specs.Sending.{most}

-- what a caller keeps of its sending
pub record RequestsState : Type 0 where
  -- the greatest number of bytes of one message, and the whole input
  pub chunk : ℕ
  pub input : List ℕ
  -- how many bytes of the input stand in messages, and whether its end does
  pub packed : ℕ
  pub closed : Bool
  -- the bytes of messages that haven't gone
  pub waiting : List ℕ

-- how many bytes the next message of the input carries
abbrev pub next_len : ℕ → RequestsState → ℕ
next_len version r = min (min r.chunk (most version)) (length r.input - r.packed)

-- the next bytes of the input, or else its end, in a message after those that wait
abbrev pub packed_next : ℕ → RequestsState → RequestsState
packed_next version r =
    if r.closed then r
    else if nat_lt r.packed (length r.input) then record r { packed = r.packed + next_len version r; waiting = r.waiting ++ written (Stdin (take (next_len version r) (drop r.packed r.input))) }
    else record r { closed = true; waiting = r.waiting ++ written (Stdin []) }

-- the next message, if a version is agreed on and none waits
abbrev pub packed_on : Option ℕ → RequestsState → RequestsState
packed_on None r = r
packed_on (Some version) r = if length r.waiting == 0 then packed_next version r else r

-- the end of the input, if it stands in a message
abbrev pub end_if : Bool → List Piece
end_if true = end_of In ∷ []
end_if false = []

-- what has gone, and then what waits, is a caller's stream up to here
pub record SendsInput (own limit : ℕ) (r : RequestsState) (sent : List ℕ) : Type 0 where
  pub pieces : List Piece
  pub each : ArePieces is_input limit pieces
  pub all : joined In pieces ≡ take r.packed r.input
  pub within : r.packed ≤ length r.input
  pub stream : sent ++ r.waiting ≡ flat_map written (Hello own ∷ map message_of (pieces ++ end_if r.closed))
  pub done : r.closed ≡ true → r.packed ≡ length r.input

-- before a version is agreed on, it is the greeting alone
pub record SendsGreeting (own : ℕ) (r : RequestsState) (sent : List ℕ) : Type 0 where
  pub none : r.packed ≡ 0
  pub unclosed : r.closed ≡ false
  pub stream : sent ++ r.waiting ≡ written (Hello own)

abbrev pub SendsRequests : ℕ → Option ℕ → RequestsState → List ℕ → Type 0
SendsRequests own None r sent = SendsGreeting own r sent
SendsRequests own (Some version) r sent = SendsInput own (min r.chunk (most version)) r sent
