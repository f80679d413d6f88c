-- One side of a call that its caller holds as plain numbers: what it has read, and what it may send.
use Rattle.std.specs.Prelude.{◌≡◌, ◌≢◌, ℕ, ℤ, pos, ◌+◌, ◌%◌, ◌^◌, ◌≤◌, ◌⊎◌, nat_lt, nat_le, min, ◌==◌, ◌&&◌, not, if◌then◌else◌, Bool, true, false, List, [], ◌∷◌, ◌++◌, length, drop, Option, Some, None}
use Rattle.std.specs.Int.{w32, cast_signed}
use Rattle.std.specs.List.{AllByRecursion as Each}
use Rattle.qrexec_frame.specs.declared.kind.Channel.TheVariants.{Data}
use Rattle.qrexec_frame.specs.declared.fault.FrameFault.{FrameFault}
use Rattle.qrexec_frame.specs.declared.message.Message.{Message}
use Rattle.qrexec_frame.specs.declared.message.Message.TheVariants.{Hello, Stdin, Stdout, Stderr}
use Rattle.qrexec_frame.specs.Kinds.{number_of}
use Rattle.qrexec_frame.specs.Messages.{kind_of}
use Rattle.qrexec_frame.specs.Fronts.{reading}
use Rattle.qrexec_frame.specs.Streams.{Placed, Rest}
use Rattle.qrexec_hello.specs.declared.hello.HelloFault.TheVariants as hello
use Rattle.qrexec_data.specs.declared.outcome.SessionFault.{SessionFault}
use Rattle.qrexec_data.specs.declared.outcome.SessionFault.TheVariants as fault
use Rattle.qrexec_data.specs.Pieces.{Stream, In, Out, Err, Piece, piece_of, has_ended, is_input, is_output}
use Rattle.qrexec_data.specs.Seeing.{Use, Undecided, Exited, Faulty, Seen, caller_use, serving_use, sees_all, seen_by}
use Rattle.qrexec_data.specs.Sending.{agreed_by, most}
use Rattle.qrexec_c.specs.declared.session.Session.{Session}
use Rattle.qrexec_c.specs.declared.session.Part.{Part}
use Rattle.qrexec_c.specs.declared.session.Part.TheVariants as part
use Rattle.qrexec_c.specs.declared.found.Found.{Found}
use Rattle.qrexec_c.specs.Founds.{Tells}
use Rattle.qrexec_c.specs.Readers.{fault_of, fresh, Stands}

-- ---- the numbers

-- the side that makes a call is 0, and the one that serves it is 1; what a message is to a side that gets it
abbrev pub takes : ℕ → Message → Use
takes side m = if side == 0 then caller_use m else serving_use m

abbrev pub reads : ℕ → Stream → Bool
reads side stream = if side == 0 then is_output stream else is_input stream

abbrev pub other : ℕ → ℕ
other side = if side == 0 then 1 else 0

abbrev pub flag : Bool → ℕ
flag false = 0
flag true = 1

abbrev pub version_number : Option ℕ → ℕ
version_number None = 0
version_number (Some version) = version

-- the numbers are in their ranges
pub record AreNumbers (s : Session) : Type 0 where
  pub channel : s.reader.channel ≡ 1
  pub fault : s.reader.fault ≤ 4
  pub side : s.side ≤ 1
  pub least : 2 ≤ s.own
  pub most : s.own ≤ 3
  pub version : s.version ≤ s.own
  pub one : (s.version ≢ 1) ⊎ (s.fault ≡ 4)
  pub greeted : s.greeted ≤ 1
  pub stdin : s.stdin_ended ≤ 1
  pub stdout : s.stdout_ended ≤ 1
  pub stderr : s.stderr_ended ≤ 1
  pub exited : s.exited ≤ 1
  pub session_fault : s.fault ≤ 4

-- a caller has read the exit code
abbrev pub is_over : Session → Bool
is_over s = s.side == 0 && s.exited == 1

-- the fault that a session holds
abbrev pub held_fault : Session → Option SessionFault
held_fault s = by_reader (fault_of s.reader.fault s.reader.at s.reader.kind s.reader.len)
  where
    by_reader : Option FrameFault → Option SessionFault
    by_reader (Some f) = Some (fault.Frame f)
    by_reader None =
        if s.fault == 1 then Some (fault.WrongSide s.reader.at s.reader.kind) else (
        if s.fault == 2 then Some (fault.AfterEnd s.reader.at s.reader.kind) else (
        if s.fault == 3 then Some (fault.Hello (hello.NotHello s.reader.kind)) else (
        if s.fault == 4 then Some (fault.Hello (hello.Version s.version)) else None)))

-- whether a stream has ended: one that the side reads, or one that it sends
abbrev pub ended_of : Session → Stream → ℕ
ended_of s In = s.stdin_ended
ended_of s Out = s.stdout_ended
ended_of s Err = s.stderr_ended

abbrev pub AreEnds : Session → (Stream → Bool) → List Piece → Type 0
AreEnds s among pieces = (stream : Stream) → among stream ≡ true → ended_of s stream ≡ flag (has_ended stream pieces)

-- a side that has neither read nor sent anything
abbrev pub started : ℕ → ℕ → Session
started side own = record { reader = fresh 1; side = side; own = own; version = 0; greeted = 0; stdin_ended = 0; stdout_ended = 0; stderr_ended = 0; exited = 0; code = pos 0; fault = 0 }

-- ---- what a side has read

-- the messages decide nothing, and the numbers are what is seen of them
pub record HasHeard (s : Session) (given : List (Placed Message)) : Type 0 where
  pub sound : s.fault ≡ 0
  pub on : is_over s ≡ false
  pub verdict : (sees_all (takes s.side) given (Rest 0)).verdict ≡ Undecided
  pub version : s.version ≡ version_number (agreed_by s.own given)
  pub ends : AreEnds s (reads s.side) (sees_all (takes s.side) given (Rest 0)).pieces

-- the stream's bytes so far are those of these messages, and then those that the caller hands in
pub record Hears (s : Session) (bytes stream : List ℕ) (given : List (Placed Message)) : Type 0 where
  pub own : 2 ≤ s.own
  pub stands : Stands Data s.reader bytes stream given
  pub heard : HasHeard s given

-- less than a message is there, and nothing is decided
pub record IsWaiting (s : Session) (bytes stream : List ℕ) (given : List (Placed Message)) : Type 0 where
  pub reads_it : reading Data stream ≡ record { placed = given; ending = Rest (length bytes) }
  pub verdict : (seen_by (takes s.side) stream).verdict ≡ Undecided

abbrev pub listed : Option Piece → List Piece
listed None = []
listed (Some piece) = piece ∷ []

-- after one more message, nothing is decided and its piece is seen after the others
pub record GoesOn (s : Session) (bytes stream : List ℕ) (given : List (Placed Message)) (p : Placed Message) : Type 0 where
  pub hears : Hears s bytes stream (given ++ p ∷ [])
  pub pieces : (sees_all (takes s.side) (given ++ p ∷ []) (Rest 0)).pieces ≡ (sees_all (takes s.side) given (Rest 0)).pieces ++ listed (piece_of p.message)

-- `found` tells the next message of the stream, which the side takes
pub record TakesNext (old new : Session) (found : Found) (bytes stream : List ℕ) (given : List (Placed Message)) : Type 0 where
  pub message : Message
  pub at : ℕ
  pub at_is : old.reader.at ≡ at % 2 ^ 64
  pub kind_is : found.kind ≡ number_of (kind_of message)
  pub tells : Tells found bytes message
  pub goes_on : is_over new ≡ false → GoesOn new (drop (8 + found.len) bytes) stream given (record { at = at; message = message })
  pub exits : is_over new ≡ true → (more : List ℕ) → (seen_by (takes new.side) (stream ++ more)).verdict ≡ Exited new.code

-- the session holds the fault that the bytes decide, whatever follows them
pub record HoldsFault (s : Session) (stream : List ℕ) : Type 0 where
  pub held : SessionFault
  pub held_is : held_fault s ≡ Some held
  pub verdict : (more : List ℕ) → (seen_by (takes s.side) (stream ++ more)).verdict ≡ Faulty held

-- ---- what a side sends

-- by the type of a message, what it is to a side that gets it
abbrev pub part_of : ℕ → ℕ → Part
part_of side kind =
    if side == 0 then (
    if kind == 0x191 then part.Stdout else (
    if kind == 0x192 then part.Stderr else (
    if kind == 0x193 then part.ExitCode else part.Stray)))
    else (if kind == 0x190 then part.Stdin else part.Stray)

-- a stream that goes on takes a piece, and the exit code comes once, after both outputs ended
abbrev pub part_may_go : Session → Part → ℕ → Bool
part_may_go s part.Stdin len = s.stdin_ended == 0 && nat_le len (most s.version)
part_may_go s part.Stdout len = s.stdout_ended == 0 && nat_le len (most s.version)
part_may_go s part.Stderr len = s.stderr_ended == 0 && nat_le len (most s.version)
part_may_go s part.ExitCode len = len == 4 && (s.stdout_ended == 1 && (s.stderr_ended == 1 && s.exited == 0))
part_may_go s part.Stray len = false

-- whether a side may send a message of this type, with a body of this length. Its greeting comes first, and of the side
-- that serves only after the caller's; the others come after both greetings.
abbrev pub may_go : Session → ℕ → ℕ → Bool
may_go s kind len =
    if s.greeted == 0 then kind == 0x300 && len == 4 && (if s.side == 0 then true else not (s.version == 0))
    else not (s.version == 0) && part_may_go s (part_of (other s.side) kind) len

-- a session in which nothing is decided
abbrev pub is_going : Session → Bool
is_going s = s.fault == 0 && s.reader.fault == 0 && not (is_over s)

-- the type and the length of a message that a side of this version sends
abbrev pub Sends : ℕ → ℕ → Message → Type 0
Sends own len (Hello version) = version ≡ own
Sends own len (Stdin bytes) = length bytes ≡ len
Sends own len (Stdout bytes) = length bytes ≡ len
Sends own len (Stderr bytes) = length bytes ≡ len
Sends own len _ = Unit {0}

-- what the other side sees of the messages sent
abbrev pub seen_of : ℕ → List (Placed Message) → Seen
seen_of side sent = sees_all (takes (other side)) sent (Rest 0)

-- the messages are a greeting and then pieces of this side's streams, each of which the other side takes; the exit
-- code comes last, after both outputs ended
pub record HasSent (s : Session) (sent : List (Placed Message)) : Type 0 where
  pub none : s.greeted ≡ 0 → sent ≡ []
  pub first : s.greeted ≢ 0 → (at : ℕ) × (rest : List (Placed Message)) × (sent ≡ record { at = at; message = Hello s.own } ∷ rest)
  pub early : s.version ≡ 0 → (seen_of s.side sent).pieces ≡ []
  pub ends : AreEnds s (reads (other s.side)) (seen_of s.side sent).pieces
  pub short : Each (λ p. length p.bytes ≤ most s.version) (seen_of s.side sent).pieces
  pub goes_on : (s.side ≢ 0 → s.exited ≡ 0) → (seen_of s.side sent).verdict ≡ Undecided
  pub exits : s.side ≢ 0 → s.exited ≢ 0 → (code : ℤ) × ((seen_of s.side sent).verdict ≡ Exited code) × (has_ended Out (seen_of s.side sent).pieces ≡ true) × (has_ended Err (seen_of s.side sent).pieces ≡ true)

-- ---- one message

-- a session in which the message with this type, at this offset, is at fault
abbrev pub at_fault : ℕ → ℕ → ℕ → Session → Session
at_fault number at kind s = record s { reader = record s.reader { at = at; kind = kind }; fault = number }

-- a stream takes a piece of this length
abbrev pub with_piece : Part → ℕ → ℕ → ℕ → Session → Session
with_piece part.Stdin len at kind s = if s.stdin_ended == 0 then record s { stdin_ended = flag (len == 0) } else at_fault 2 at kind s
with_piece part.Stdout len at kind s = if s.stdout_ended == 0 then record s { stdout_ended = flag (len == 0) } else at_fault 2 at kind s
with_piece part.Stderr len at kind s = if s.stderr_ended == 0 then record s { stderr_ended = flag (len == 0) } else at_fault 2 at kind s
with_piece part.ExitCode len at kind s = record s { exited = 1 }
with_piece part.Stray len at kind s = at_fault 1 at kind s

abbrev pub with_greeting : ℕ → ℕ → ℕ → Session → Session
with_greeting kind first at s =
    if kind == 0x300 then (if nat_lt first 2 then record (at_fault 4 at kind s) { version = first } else record s { version = min s.own first })
    else at_fault 3 at kind s

-- the session after a message came with this type, length of its body, first number and offset
abbrev pub after_message : ℕ → ℕ → ℕ → ℕ → Session → Session
after_message kind len first at s =
    if s.version == 0 then with_greeting kind first at s
    else with_code (part_of s.side kind) first (with_piece (part_of s.side kind) len at kind s)
  where
    with_code : Part → ℕ → Session → Session
    with_code part.ExitCode first s = record s { code = cast_signed w32 first }
    with_code _ first s = s
