-- A side that serves, and what it stands for: what it got, what it knows of it, and what it sent.
use Rattle.std.specs.Prelude.{◌≡◌, ℕ, ℤ, ◌+◌, ◌<◌, ◌⊎◌, min, Bool, true, false, List, [], ◌∷◌, ◌++◌, length, map, Option, Some, None, IsSome, is_some, is_none, if◌then◌else◌}
use Rattle.std.specs.List.{flat_map}
use Rattle.std.specs.Option.{option_or}
use Rattle.list_laws.specs.Lists.{IsPrefixOf}
use Rattle.qrexec_frame.specs.declared.kind.Channel.TheVariants.{Data}
use Rattle.qrexec_frame.specs.declared.message.Message.{Message}
use Rattle.qrexec_frame.specs.declared.message.Message.TheVariants.{Hello, Stdout, Stderr, ExitCode}
use Rattle.qrexec_frame.specs.Messages.{written}
use Rattle.qrexec_frame.specs.Grammar.{Fault}
use Rattle.qrexec_frame.specs.Fronts.{front, reading, fault_at}
use Rattle.qrexec_frame.specs.Streams.{Whole, Bad, Short, Placed, Rest}
use Rattle.service_gate.specs.Triple.{Triple, after_outputs}
use Rattle.qrexec_data.specs.declared.outcome.SessionFault.TheVariants as fault
use Rattle.qrexec_data.specs.declared.outcome.Outcome.{Outcome}
use Rattle.qrexec_data.specs.declared.outcome.Outcome.TheVariants as outcome
use Rattle.qrexec_data.specs.Pieces.{In, Out, Err as Errors, Piece, message_of, joined, has_ended, ArePieces, is_output}
use Rattle.qrexec_data.specs.Seeing.{Seen, Undecided, Faulty, serving_use, sees_all, seen_by}
use Rattle.qrexec_data.specs.Sending.{agreed_by, most}
use Rattle.qrexec_data.specs.Reading.{InboxState, unread, read_messages, IsAtMessage}
use Rattle.qrexec_data.specs.Answering.{AnsweringState, AnswersTo, faulted, packed_on, after_gone}
use Rattle.qrexec_data.specs.Half.{HalfOf, Lends}

-- a side that serves: the bytes that it got, and what it makes of them
pub record ServingState (S : Type 0) : Type 0 where
  pub inbox : InboxState
  pub answering : AnsweringState S

-- ---- what it sends

-- what the service owed at first is what stands in messages, what waits for one, and what it still owes
abbrev pub Gives : {S : Type 0} → (S → List ℕ → Triple) → (List ℕ → Triple) → Option ℤ → AnsweringState S → List ℕ → List Piece → Type 0
Gives owes owed None a input pieces = (more : List ℕ) → owed (input ++ more) ≡ after_outputs (joined Out pieces ++ a.out) (joined Errors pieces ++ a.err) (owes a.service more)
Gives owes owed (Some code) a input pieces = owed input ≡ record { stdout = joined Out pieces ++ a.out; stderr = joined Errors pieces ++ a.err; code = code }

-- the messages that end a serving stream, if they stand in messages
abbrev pub ends_if : Bool → Option ℤ → List Message
ends_if false code = []
ends_if true None = []
ends_if true (Some code) = Stdout [] ∷ Stderr [] ∷ ExitCode code ∷ []

-- what has gone, and then what waits, is a serving stream up to here
pub record SendsOutputs {S : Type 0} (owes : S → List ℕ → Triple) (owed : List ℕ → Triple) (limit : ℕ) (a : AnsweringState S) (input sent : List ℕ) : Type 0 where
  pub pieces : List Piece
  pub each : ArePieces is_output limit pieces
  pub gives : Gives owes owed a.code a input pieces
  pub stream : sent ++ a.waiting ≡ flat_map written (Hello a.own ∷ (map message_of pieces ++ ends_if a.closed a.code))
  pub done : a.closed ≡ true → (a.out ≡ []) × (a.err ≡ []) × IsSome a.code

-- before a version is agreed on, nothing is sent, and the service was fed nothing
pub record SendsNothing {S : Type 0} (owes : S → List ℕ → Triple) (owed : List ℕ → Triple) (a : AnsweringState S) (input sent : List ℕ) : Type 0 where
  pub none : sent ≡ []
  pub waits : a.waiting ≡ []
  pub unfed : input ≡ []
  pub unended : a.code ≡ None
  pub unclosed : a.closed ≡ false
  pub gives : Gives owes owed None a [] []

abbrev pub SendsAnswers : {S : Type 0} → (S → List ℕ → Triple) → (List ℕ → Triple) → Option ℕ → AnsweringState S → List ℕ → List ℕ → Type 0
SendsAnswers owes owed None a input sent = SendsNothing owes owed a input sent
SendsAnswers owes owed (Some version) a input sent = SendsOutputs owes owed (min a.chunk (most version)) a input sent

-- ---- what it knows

-- an outcome, or none yet, is what the bytes decide; done comes only after the input's end, and closed and gone only if nothing decides
abbrev pub AgreesWith : Option Outcome → Seen → Type 0
AgreesWith None seen = seen.verdict ≡ Undecided
AgreesWith (Some (outcome.Done code)) seen = (seen.verdict ≡ Undecided) × (has_ended In seen.pieces ≡ true)
AgreesWith (Some (outcome.Fault f)) seen = seen.verdict ≡ Faulty f
AgreesWith (Some outcome.Closed) seen = seen.verdict ≡ Undecided
AgreesWith (Some outcome.Gone) seen = seen.verdict ≡ Undecided

-- what it keeps is what is seen of these messages
pub record Serves {S : Type 0} (owes : S → List ℕ → Triple) (owed : List ℕ → Triple) (a : AnsweringState S) (sent : List ℕ) (placed : List (Placed Message)) (seen : Seen) : Type 0 where
  pub outcome : AgreesWith a.outcome seen
  pub ended : is_some a.code ≡ has_ended In seen.pieces
  pub version : a.version ≡ agreed_by a.own placed
  pub sends : SendsAnswers owes owed a.version a (joined In seen.pieces) sent

-- a step of reading: nothing whole is left, or a message was read, or a fault; and whether it may go on
pub data ReadsInput {S : Type 0} (owes : S → List ℕ → Triple) (old new : ServingState S) (more : Bool) : Type 0 where
  NothingLeft : front Data (unread old.inbox) ≡ Short → new ≡ old → more ≡ false → ReadsInput owes old new more
  OneMessage : (m : Message) (n : ℕ) → front Data (unread old.inbox) ≡ Whole m n
      → new.inbox ≡ record old.inbox { read = old.inbox.read + n } → AnswersTo owes m old.inbox.read old.answering new.answering
      → more ≡ is_none new.answering.outcome → ReadsInput owes old new more
  OneFault : (g : Fault) → front Data (unread old.inbox) ≡ Bad g
      → new ≡ record old { answering = faulted (fault.Frame (fault_at old.inbox.read g)) old.answering } → more ≡ false → ReadsInput owes old new more

-- between two messages, none of which decided
pub record IsServing {S : Type 0} (owes : S → List ℕ → Triple) (owed : List ℕ → Triple) (s : ServingState S) (sent : List ℕ) : Type 0 where
  pub undecided : s.answering.outcome ≡ None
  pub at : IsAtMessage s.inbox
  pub going : s.answering.closed ≡ true → 0 < length s.answering.waiting
  pub serves : Serves owes owed s.answering sent (read_messages s.inbox) (sees_all serving_use (read_messages s.inbox) (Rest 0))

-- all that the side sends has gone
abbrev pub HasSentAll : {S : Type 0} → AnsweringState S → Type 0
HasSentAll a = (a.closed ≡ true) × (a.waiting ≡ [])

-- all bytes were read that decide something; done comes only if all has gone
pub record HasServed {S : Type 0} (owes : S → List ℕ → Triple) (owed : List ℕ → Triple) (s : ServingState S) (sent : List ℕ) : Type 0 where
  pub serves : Serves owes owed s.answering sent (reading Data s.inbox.got).placed (seen_by serving_use s.inbox.got)
  pub done : (code : ℤ) → s.answering.outcome ≡ Some (outcome.Done code) → HasSentAll s.answering × (s.answering.code ≡ Some code)
  pub goes_on : s.answering.outcome ≡ None → IsServing owes owed s sent

-- it stands for what it got, for these bytes sent, and for a service that owed this at first
pub record ServingStandsFor {S : Type 0} (owes : S → List ℕ → Triple) (owed : List ℕ → Triple) (s : ServingState S) (sent : List ℕ) : Type 0 where
  pub chunk : 0 < s.answering.chunk
  pub read : HasServed owes owed s sent

-- the bytes that waited still wait, before any others
abbrev pub StillWaits : {S : Type 0} → AnsweringState S → AnsweringState S → Type 0
StillWaits old new = IsPrefixOf old.waiting new.waiting

-- all that the service gave stands in messages that have gone, and its input hasn't ended
pub record HasGivenAll {S : Type 0} (a : AnsweringState S) : Type 0 where
  pub greeted : IsSome a.version
  pub out : a.out ≡ []
  pub err : a.err ≡ []
  pub waits : a.waiting ≡ []
  pub unended : a.code ≡ None

-- nothing can go out: there is an outcome, no greeting was read, or all that the service gave has gone and the input hasn't ended
abbrev pub IsStill : {S : Type 0} → AnsweringState S → Type 0
IsStill a = IsSome a.outcome ⊎ ((a.version ≡ None) × (a.waiting ≡ [])) ⊎ HasGivenAll a

-- it as either side of a call; it sends no input
abbrev pub serving_half : {S : Type 0} → (S → List ℕ → Triple) → HalfOf (ServingState S)
serving_half {S} owes = record {
  own = λ (s : ServingState S). s.answering.own;
  chunk = λ (s : ServingState S). s.answering.chunk;
  input = λ (s : ServingState S). [];
  got = λ (s : ServingState S). s.inbox.got;
  waiting = λ (s : ServingState S). s.answering.waiting;
  outcome = λ (s : ServingState S). s.answering.outcome;
  connects = true;
  lent = λ (s : ServingState S). record s { answering = if is_none s.answering.outcome then packed_on s.answering.version s.answering else s.answering };
  after_gone = λ (count : ℕ) (s : ServingState S). record s { answering = after_gone count s.answering };
  ended = λ (o : Outcome) (s : ServingState S). record s { answering = record s.answering { outcome = option_or s.answering.outcome (Some o) } };
  Owed = List ℕ → Triple;
  StandsFor = λ (owed : List ℕ → Triple) (s : ServingState S) (sent : List ℕ). ServingStandsFor owes owed s sent;
  IsStill = λ (s : ServingState S). IsStill s.answering;
}

abbrev pub LendsAnswers : {S : Type 0} → (S → List ℕ → Triple) → ServingState S → ServingState S → List ℕ → Type 0
LendsAnswers owes old new piece = Lends (serving_half owes) old new piece
