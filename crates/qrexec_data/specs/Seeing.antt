-- What each side of a call makes of the bytes that it got.
-- Source: the qrexec protocol's data channel; which message is wrong on which side is this project's own.
use Rattle.std.specs.Prelude.{ℤ, ℕ, ◌%◌, ◌^◌, Bool, List, [], ◌∷◌, Option, Some, None, Result, Ok, Err, if◌then◌else◌}
use Rattle.qrexec_frame.specs.declared.kind.Channel.TheVariants.{Data}
use Rattle.qrexec_frame.specs.declared.message.Message.{Message}
use Rattle.qrexec_frame.specs.declared.message.Message.TheVariants.{ExitCode}
use Rattle.qrexec_frame.specs.Kinds.{number_of}
use Rattle.qrexec_frame.specs.Messages.{kind_of}
use Rattle.qrexec_frame.specs.Grammar.{Fault}
use Rattle.qrexec_frame.specs.Fronts.{reading, fault_at}
use Rattle.qrexec_frame.specs.Streams.{Placed, Ending, Rest, FaultAt}
use Rattle.qrexec_hello.specs.Greeting.{greeting}
use Rattle.qrexec_hello.specs.declared.hello.HelloFault.{HelloFault}
use Rattle.qrexec_data.specs.declared.outcome.SessionFault.{SessionFault}
use Rattle.qrexec_data.specs.declared.outcome.SessionFault.TheVariants.{Frame, Hello, WrongSide, AfterEnd}
use Rattle.qrexec_data.specs.Pieces.{Stream, In, Out, Err as Errors, Piece, piece_of, joined, has_ended, is_input, is_output}

-- what the bytes decide
pub data Verdict : Type 0 where
  Undecided : Verdict
  Exited : ℤ → Verdict
  Faulty : SessionFault → Verdict

-- the pieces before the message that decides, and what it decides
pub record Seen : Type 0 where
  pub pieces : List Piece
  pub verdict : Verdict

abbrev pub decided : Verdict → Seen
decided verdict = record { pieces = []; verdict = verdict }

abbrev pub piece_first : Piece → Seen → Seen
piece_first piece seen = record { pieces = piece ∷ seen.pieces; verdict = seen.verdict }

-- an offset as a fault tells it
abbrev pub offset : ℕ → ℕ
offset at = at % 2 ^ 64

abbrev pub number : Message → ℕ
number message = number_of (kind_of message)

-- what a message is to a side that reads some streams
pub data Use : Type 0 where
  Carries : Piece → Use
  Exits : ℤ → Use
  Strays : Use

abbrev pub carried : (Stream → Bool) → Option Piece → Use
carried reads None = Strays
carried reads (Some piece) = if reads piece.stream then Carries piece else Strays

abbrev pub caller_use : Message → Use
caller_use (ExitCode code) = Exits code
caller_use message = carried is_output (piece_of message)

abbrev pub serving_use : Message → Use
serving_use message = carried is_input (piece_of message)

abbrev pub at_end : Ending Fault → Verdict
at_end (Rest left) = Undecided
at_end (FaultAt at fault) = Faulty (Frame (fault_at at fault))

-- one message after the greeting; `before` are the pieces before it
abbrev pub sees_one : Use → ℕ → ℕ → List Piece → (List Piece → Seen) → Seen
sees_one (Carries piece) at kind before next =
    if has_ended piece.stream before then decided (Faulty (AfterEnd (offset at) kind)) else piece_first piece (next (piece ∷ before))
sees_one (Exits code) at kind before next = decided (Exited code)
sees_one Strays at kind before next = decided (Faulty (WrongSide (offset at) kind))

-- the messages after the greeting, up to the first that decides
abbrev pub sees_on : (Message → Use) → List (Placed Message) → Ending Fault → List Piece → Seen
sees_on takes [] ending before = decided (at_end ending)
sees_on takes (p ∷ placed) ending before = sees_one (takes p.message) p.at (number p.message) before (λ now. sees_on takes placed ending now)

-- a stream of messages, the first of which must be a greeting
abbrev pub sees_all : (Message → Use) → List (Placed Message) → Ending Fault → Seen
sees_all takes [] ending = decided (at_end ending)
sees_all takes (p ∷ placed) ending = after_greeting (greeting 2 p.message)
  where
    after_greeting : Result ℕ HelloFault → Seen
    after_greeting (Ok version) = sees_on takes placed ending []
    after_greeting (Err fault) = decided (Faulty (Hello fault))

abbrev pub seen_by : (Message → Use) → List ℕ → Seen
seen_by takes got = sees_all takes (reading Data got).placed (reading Data got).ending

-- ---- the two sides

pub record CallerSeen : Type 0 where
  pub verdict : Verdict
  pub stdout : List ℕ
  pub stderr : List ℕ

abbrev pub caller_sees : List ℕ → CallerSeen
caller_sees got = record {
  verdict = (seen_by caller_use got).verdict;
  stdout = joined Out (seen_by caller_use got).pieces;
  stderr = joined Errors (seen_by caller_use got).pieces;
}

pub record ServingSeen : Type 0 where
  pub fault : Option SessionFault
  pub input : List ℕ
  pub ended : Bool

abbrev pub fault_of : Verdict → Option SessionFault
fault_of (Faulty fault) = Some fault
fault_of Undecided = None
fault_of (Exited code) = None

abbrev pub serving_sees : List ℕ → ServingSeen
serving_sees got = record {
  fault = fault_of (seen_by serving_use got).verdict;
  input = joined In (seen_by serving_use got).pieces;
  ended = has_ended In (seen_by serving_use got).pieces;
}
