-- A caller, and what it stands for: what it got, what it knows of it, and what it sent.
use Rattle.std.specs.Prelude.{◌≡◌, ℕ, ◌+◌, ◌<◌, ◌⊎◌, Bool, true, false, List, [], drop, Some, None, IsSome, is_none, if◌then◌else◌}
use Rattle.std.specs.Option.{option_or}
use Rattle.qrexec_frame.specs.declared.kind.Channel.TheVariants.{Data}
use Rattle.qrexec_frame.specs.declared.message.Message.{Message}
use Rattle.qrexec_frame.specs.Grammar.{Fault}
use Rattle.qrexec_frame.specs.Fronts.{front, reading, fault_at}
use Rattle.qrexec_frame.specs.Streams.{Whole, Bad, Short, Rest}
use Rattle.qrexec_data.specs.declared.outcome.Outcome.{Outcome}
use Rattle.qrexec_data.specs.declared.outcome.SessionFault.TheVariants as fault
use Rattle.qrexec_data.specs.Seeing.{caller_use, sees_all, seen_by}
use Rattle.qrexec_data.specs.Reading.{InboxState, unread, read_messages, IsAtMessage}
use Rattle.qrexec_data.specs.Replies.{RepliesState, after_message, faulted, KnowsReplies}
use Rattle.qrexec_data.specs.Requests.{RequestsState, packed_on, SendsRequests}
use Rattle.qrexec_data.specs.Half.{HalfOf, Lends}

-- a caller: the bytes that it got, what it knows of them, and what it sends
pub record CallerState : Type 0 where
  pub inbox : InboxState
  pub replies : RepliesState
  pub requests : RequestsState

-- a step of reading: nothing whole is left, or a message was read, or a fault; and whether it may go on
pub data ReadsReply (old new : CallerState) (more : Bool) : Type 0 where
  NothingLeft : front Data (unread old.inbox) ≡ Short → new ≡ old → more ≡ false → ReadsReply old new more
  OneMessage : (m : Message) (n : ℕ) → front Data (unread old.inbox) ≡ Whole m n
      → new ≡ record old { inbox = record old.inbox { read = old.inbox.read + n }; replies = after_message m old.inbox.read old.replies }
      → more ≡ is_none new.replies.outcome → ReadsReply old new more
  OneFault : (g : Fault) → front Data (unread old.inbox) ≡ Bad g
      → new ≡ record old { replies = faulted (fault.Frame (fault_at old.inbox.read g)) old.replies } → more ≡ false → ReadsReply old new more

-- between two messages, none of which decided
pub record IsReading (c : CallerState) : Type 0 where
  pub undecided : c.replies.outcome ≡ None
  pub at : IsAtMessage c.inbox
  pub knows : KnowsReplies c.replies (read_messages c.inbox) (sees_all caller_use (read_messages c.inbox) (Rest 0))

-- all bytes were read that decide something
pub record HasRead (c : CallerState) : Type 0 where
  pub knows : KnowsReplies c.replies (reading Data c.inbox.got).placed (seen_by caller_use c.inbox.got)
  pub goes_on : c.replies.outcome ≡ None → IsReading c

-- the caller stands for what it got, and for these bytes sent
pub record CallerStandsFor (c : CallerState) (sent : List ℕ) : Type 0 where
  pub chunk : 0 < c.requests.chunk
  pub read : HasRead c
  pub sends : SendsRequests c.replies.own c.replies.version c.requests sent

-- all that the caller sends has gone
abbrev pub HasSentAll : CallerState → Type 0
HasSentAll c = (c.requests.closed ≡ true) × (c.requests.waiting ≡ [])

-- nothing can go out: there is an outcome, or all has gone, or the greeting has gone and none was read
abbrev pub IsStill : CallerState → Type 0
IsStill c = IsSome c.replies.outcome ⊎ HasSentAll c ⊎ ((c.replies.version ≡ None) × (c.requests.waiting ≡ []))

-- it as either side of a call
abbrev pub caller_half : HalfOf CallerState
caller_half = record {
  own = λ (c : CallerState). c.replies.own;
  chunk = λ (c : CallerState). c.requests.chunk;
  input = λ (c : CallerState). c.requests.input;
  got = λ (c : CallerState). c.inbox.got;
  waiting = λ (c : CallerState). c.requests.waiting;
  outcome = λ (c : CallerState). c.replies.outcome;
  connects = false;
  lent = λ (c : CallerState). record c { requests = if is_none c.replies.outcome then packed_on c.replies.version c.requests else c.requests };
  after_gone = λ (count : ℕ) (c : CallerState). record c { requests = record c.requests { waiting = drop count c.requests.waiting } };
  ended = λ (o : Outcome) (c : CallerState). record c { replies = record c.replies { outcome = option_or c.replies.outcome (Some o) } };
  Owed = Unit {0};
  StandsFor = λ _ (c : CallerState) (sent : List ℕ). CallerStandsFor c sent;
  IsStill = IsStill;
}

abbrev pub LendsRequests : CallerState → CallerState → List ℕ → Type 0
LendsRequests old new piece = Lends caller_half old new piece
