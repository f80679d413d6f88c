-- A caller's side of reading: what it knows of the messages that it has read.
use Rattle.std.specs.Prelude.{◌≡◌, ℕ, Bool, false, List, [], ◌++◌, Option, Some, None, Result, Ok, Err, if◌then◌else◌}
use Rattle.qrexec_frame.specs.declared.message.Message.{Message}
use Rattle.qrexec_frame.specs.Streams.{Placed}
use Rattle.qrexec_hello.specs.Greeting.{greeting}
use Rattle.qrexec_hello.specs.declared.hello.HelloFault.{HelloFault}
use Rattle.qrexec_data.specs.declared.outcome.SessionFault.{SessionFault}
use Rattle.qrexec_data.specs.declared.outcome.SessionFault.TheVariants as fault
use Rattle.qrexec_data.specs.declared.outcome.Outcome.{Outcome}
use Rattle.qrexec_data.specs.declared.outcome.Outcome.TheVariants.{Done, Fault, Closed, Gone}
use Rattle.qrexec_data.specs.Pieces.{Stream, In, Out, Err as Errors, no_bytes, joined, has_ended}
use Rattle.qrexec_data.specs.Seeing.{Verdict, Undecided, Exited, Faulty, Seen, Use, Carries, Exits, Strays, number, caller_use}
use Rattle.qrexec_data.specs.Sending.{agreed_by}

-- what a caller keeps of the messages that it has read
pub record RepliesState : Type 0 where
  -- its own version, and the one that both sides go on with after they greeted
  pub own : ℕ
  pub version : Option ℕ
  -- the bytes of the two outputs, and whether they have ended
  pub stdout : List ℕ
  pub stdout_ended : Bool
  pub stderr : List ℕ
  pub stderr_ended : Bool
  pub outcome : Option Outcome

-- nothing was read yet
abbrev pub no_replies : ℕ → RepliesState
no_replies own = record { own = own; version = None; stdout = []; stdout_ended = false; stderr = []; stderr_ended = false; outcome = None }

abbrev pub faulted : SessionFault → RepliesState → RepliesState
faulted f r = record r { outcome = Some (Fault f) }

-- a piece of a stream; a caller reads no input
abbrev pub after_piece : Stream → List ℕ → ℕ → ℕ → RepliesState → RepliesState
after_piece In bytes at kind r = faulted (fault.WrongSide at kind) r
after_piece Out bytes at kind r = if r.stdout_ended then faulted (fault.AfterEnd at kind) r else record r { stdout = r.stdout ++ bytes; stdout_ended = no_bytes bytes }
after_piece Errors bytes at kind r = if r.stderr_ended then faulted (fault.AfterEnd at kind) r else record r { stderr = r.stderr ++ bytes; stderr_ended = no_bytes bytes }

abbrev pub after_use : Use → ℕ → ℕ → RepliesState → RepliesState
after_use (Carries piece) at kind r = after_piece piece.stream piece.bytes at kind r
after_use (Exits code) at kind r = record r { outcome = Some (Done code) }
after_use Strays at kind r = faulted (fault.WrongSide at kind) r

abbrev pub after_greeting : Result ℕ HelloFault → RepliesState → RepliesState
after_greeting (Ok version) r = record r { version = Some version }
after_greeting (Err f) r = faulted (fault.Hello f) r

-- the message at this offset: the first must be a greeting
abbrev pub after_message : Message → ℕ → RepliesState → RepliesState
after_message m at r = by_version r.version
  where
    by_version : Option ℕ → RepliesState
    by_version None = after_greeting (greeting r.own m) r
    by_version (Some version) = after_use (caller_use m) at (number m) r

-- an outcome, or none yet, is what the bytes decide; closed and gone come only if they decide nothing
abbrev pub AgreesWith : Option Outcome → Verdict → Type 0
AgreesWith None verdict = verdict ≡ Undecided
AgreesWith (Some (Done code)) verdict = verdict ≡ Exited code
AgreesWith (Some (Fault f)) verdict = verdict ≡ Faulty f
AgreesWith (Some Closed) verdict = verdict ≡ Undecided
AgreesWith (Some Gone) verdict = verdict ≡ Undecided

-- what a caller keeps is what is seen of these messages
pub record KnowsReplies (r : RepliesState) (placed : List (Placed Message)) (seen : Seen) : Type 0 where
  pub outcome : AgreesWith r.outcome seen.verdict
  pub stdout : r.stdout ≡ joined Out seen.pieces
  pub stderr : r.stderr ≡ joined Errors seen.pieces
  pub stdout_ended : r.stdout_ended ≡ has_ended Out seen.pieces
  pub stderr_ended : r.stderr_ended ≡ has_ended Errors seen.pieces
  pub version : r.version ≡ agreed_by r.own placed
