-- What one side sees of what the other may send.
use Rattle.std.specs.Prelude.{◌≡◌, ℕ, ℤ, ◌<◌, ◌≤◌, ◌^◌, ◌⊎◌, true, false, List, ◌∷◌, map, Some, None}
use Rattle.std.specs.Int.{w32}
use Rattle.std.specs.Int.RustNames.{FitsSigned}
use Rattle.std.specs.List.{flat_map}
use Rattle.list_laws.specs.Lists.{IsPrefixOf}
use Rattle.qrexec_frame.specs.declared.message.Message.{Message}
use Rattle.qrexec_frame.specs.declared.message.Message.TheVariants.{Hello}
use Rattle.qrexec_frame.specs.Messages.{written}
use Rattle.service_gate.specs.Triple.{Triple}
use Rattle.qrexec_data.specs.declared.outcome.Outcome.TheVariants.{Done}
use Rattle.qrexec_data.specs.CallerSide.{CallerState, CallerStandsFor}
use Rattle.qrexec_data.specs.ServingSide.{ServingState, ServingStandsFor}
use Rattle.qrexec_data.specs.Pieces.{Piece, message_of, ArePieces, is_output}
use Rattle.qrexec_data.specs.Seeing.{Undecided, Exited, CallerSeen, caller_sees, ServingSeen, serving_sees}
use Rattle.qrexec_data.specs.Sending.{IsCallerStream, IsServingStream, CallerMaySend, ServingMaySend, SentAll}

-- a version that a side may announce
pub record IsVersion (own : ℕ) : Type 0 where
  pub least : 2 ≤ own
  pub small : own < 2 ^ 32

-- ---- the two sides

-- a caller has seen nothing that decides, or the whole triple
abbrev pub FitsTriple : Triple → CallerSeen → Type 0
FitsTriple t seen = (seen.verdict ≡ Undecided) ⊎ (seen ≡ record { verdict = Exited t.code; stdout = t.stdout; stderr = t.stderr })

-- a side that serves has seen no fault, and once the input has ended it has all of it
pub record ReadsInput (input : List ℕ) (seen : ServingSeen) : Type 0 where
  pub fault : seen.fault ≡ None
  pub whole : seen.ended ≡ true → seen.input ≡ input

-- the exit code comes only after the whole streams of the triple
abbrev pub CallersSeeTriples : Type 0
CallersSeeTriples = (own limit : ℕ) (t : Triple) (stream : List Message) (got : List ℕ) → IsVersion own → limit ≤ 65536 → FitsSigned w32 t.code
    → IsServingStream own limit t stream → IsPrefixOf got (flat_map written stream) → FitsTriple t (caller_sees got)

-- a caller that got a whole stream has read the exit code
abbrev pub CallersAreDone : Type 0
CallersAreDone = (own limit : ℕ) (t : Triple) (stream : List Message) → IsVersion own → limit ≤ 65536 → FitsSigned w32 t.code
    → IsServingStream own limit t stream → (caller_sees (flat_map written stream)).verdict ≡ Exited t.code

-- before the ends of the outputs nothing decides
abbrev pub CallersWait : Type 0
CallersWait = (own limit : ℕ) (pieces : List Piece) (got : List ℕ) → IsVersion own → limit ≤ 65536 → ArePieces is_output limit pieces
    → IsPrefixOf got (flat_map written (Hello own ∷ map message_of pieces)) → (caller_sees got).verdict ≡ Undecided

-- a side that serves sees no fault of a caller's stream, and its input if that has ended
abbrev pub InputsAreRead : Type 0
InputsAreRead = (own limit : ℕ) (input : List ℕ) (stream : List Message) (got : List ℕ) → IsVersion own → limit ≤ 65536
    → IsCallerStream own limit input stream → IsPrefixOf got (flat_map written stream) → ReadsInput input (serving_sees got)

-- a greeting alone, or a part of it, isn't a fault and ends no input
abbrev pub GreetingsAreNoFault : Type 0
GreetingsAreNoFault = (own : ℕ) (got : List ℕ) → IsVersion own → IsPrefixOf got (written (Hello own))
    → ((serving_sees got).fault ≡ None) × ((serving_sees got).ended ≡ false)

-- ---- what an end stands for having sent is allowed

-- what a caller sent is what a caller may send
abbrev pub CallersSendStreams : Type 0
CallersSendStreams = (c : CallerState) (sent : List ℕ) → CallerStandsFor c sent → CallerMaySend c.replies.own c.requests.chunk c.requests.input c.inbox.got sent

-- what a side that serves sent is what such a side may send, whatever its service
abbrev pub ServingSendsStreams : (S : Type 0) → Type 0
ServingSendsStreams S = (owes : S → List ℕ → Triple) (owed : List ℕ → Triple) (s : ServingState S) (sent : List ℕ) → ServingStandsFor owes owed s sent
    → ServingMaySend s.answering.own s.answering.chunk owed s.inbox.got sent

-- all of the serving stream went, and its exit code is this
pub record HasSent {S : Type 0} (owed : List ℕ → Triple) (s : ServingState S) (sent : List ℕ) (code : ℤ) : Type 0 where
  pub all : SentAll s.answering.own s.answering.chunk (owed (serving_sees s.inbox.got).input) s.inbox.got sent
  pub code_is : code ≡ (owed (serving_sees s.inbox.got).input).code

-- a side that serves and is done has sent its whole stream, whatever its service
abbrev pub DoneSendsAll : (S : Type 0) → Type 0
DoneSendsAll S = (owes : S → List ℕ → Triple) (owed : List ℕ → Triple) (s : ServingState S) (sent : List ℕ) (code : ℤ) → ServingStandsFor owes owed s sent
    → s.answering.outcome ≡ Some (Done code) → HasSent owed s sent code
