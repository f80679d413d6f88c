-- What a session of an agent reports, by the lists and the facts of its end.
-- Source: this project's own.
use Rattle.std.specs.Prelude.{◌≡◌, ◌⊎◌, ℕ, List, true, Some}
use Rattle.vchan_protocol.specs.declared.side.EndedBy.TheVariants.{AllRead, PeerGone}
use Rattle.service_gate.specs.Triple.{Triple}
use Rattle.service_gate.specs.ServiceResult.{service}
use Rattle.qrexec_data.specs.declared.outcome.Outcome.{Outcome}
use Rattle.qrexec_data.specs.declared.outcome.Outcome.TheVariants.{Done, Fault, Closed, Gone}
use Rattle.qrexec_data.specs.Seeing.{caller_sees, serving_sees}
use Rattle.qrexec_data.specs.Sending.{CallerMaySend, ServingMaySend, SentAll}
use Rattle.qrexec_data.specs.Fitting.{FitsCaller, FitsServing}
use Rattle.end_view.specs.EndView.{EndView}
use Rattle.task_duties.specs.declared.done.CallerDone.{CallerDone}

-- the greatest number of bytes that a session of an agent puts into one message of version 3
abbrev pub chunk : ℕ
chunk = 65536

-- all was read, and the peer is shut
pub record IsClosed (end : EndView) : Type 0 where
  pub saw : end.saw ≡ true
  pub ended : end.ended ≡ Some AllRead
  pub drained : end.drained ≡ true

-- the peer is gone
pub record IsGone (end : EndView) : Type 0 where
  pub saw : end.saw ≡ true
  pub ended : end.ended ≡ Some PeerGone

-- ---- a caller

-- the state of a caller's end that its outcome implies
abbrev pub CallerEnded : Outcome → EndView → Type 0
CallerEnded Closed end = IsClosed end
CallerEnded Gone end = IsGone end
CallerEnded outcome end = Unit {0}

-- what a caller of this version with this input reports of its end
pub record CallerOwes (own : ℕ) (input : List ℕ) (done : CallerDone) (end : EndView) : Type 0 where
  pub got : done.got ≡ end.got
  pub sent : CallerMaySend own chunk input end.got end.sent
  pub stdout : done.stdout ≡ (caller_sees end.got).stdout
  pub stderr : done.stderr ≡ (caller_sees end.got).stderr
  pub fits : FitsCaller done.outcome (caller_sees end.got)
  pub ended : CallerEnded done.outcome end

-- ---- the side that serves

-- what the service of a name makes of each input
abbrev pub IsService : List ℕ → (List ℕ → Triple) → Type 0
IsService name owed = (input : List ℕ) → service name input ≡ Some (owed input)

-- the state of a serving side's end that its outcome implies; a side that is done has sent all of its stream
abbrev pub ServingEnded : ℕ → (List ℕ → Triple) → Outcome → EndView → Type 0
ServingEnded own owed (Done code) end =
    (code ≡ (owed (serving_sees end.got).input).code) × SentAll own chunk (owed (serving_sees end.got).input) end.got end.sent
ServingEnded own owed (Fault fault) end = Unit {0}
ServingEnded own owed Closed end = IsClosed end ⊎ (end.misled ≡ true)
ServingEnded own owed Gone end = IsGone end

-- what a side of this version that serves the service of a name reports of its end
pub record ServingOwes (own : ℕ) (name : List ℕ) (outcome : Outcome) (got : List ℕ) (end : EndView) : Type 0 where
  pub owed : List ℕ → Triple
  pub is_service : IsService name owed
  pub got_is : got ≡ end.got
  pub sent : ServingMaySend own chunk owed end.got end.sent
  pub fits : FitsServing outcome (serving_sees end.got)
  pub ended : ServingEnded own owed outcome end
