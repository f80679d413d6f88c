-- The two sides of a session together: that one of them can go on, and how much they send at most.
-- Source: the messages are those of the qrexec protocol's data channel; what each side sends is this project's own.
use Rattle.std.specs.Prelude.{◌≡◌, ℕ, ◌+◌, ◌*◌, ◌≤◌, List, length, None}
use Rattle.service_gate.specs.Triple.{Triple}
use Rattle.qrexec_data.specs.CallerSide as caller
use Rattle.qrexec_data.specs.CallerSide.{CallerState, CallerStandsFor}
use Rattle.qrexec_data.specs.ServingSide as serving
use Rattle.qrexec_data.specs.ServingSide.{ServingState, ServingStandsFor}
use Rattle.qrexec_data.specs.Seeing.{serving_sees}
use Rattle.qrexec_data.specs.Sending.{CallerMaySend, ServingMaySend}
use Rattle.qrexec_data.specs.Laws.{IsVersion}

-- the caller sent the bytes `up` and the side that serves the bytes `down`; each got all of the other's, and nothing has decided yet
pub record IsUnderWay {S : Type 0} (owes : S → List ℕ → Triple) (owed : List ℕ → Triple) (c : CallerState) (s : ServingState S) (up down : List ℕ) : Type 0 where
  pub calls : CallerStandsFor c up
  pub serves : ServingStandsFor owes owed s down
  pub caller_got : c.inbox.got ≡ down
  pub serving_got : s.inbox.got ≡ up
  pub caller_version : IsVersion c.replies.own
  pub serving_version : IsVersion s.answering.own
  pub caller_undecided : c.replies.outcome ≡ None
  pub serving_undecided : s.answering.outcome ≡ None

-- one of the two has something to send
abbrev pub SessionsGoOn : (S : Type 0) → Type 0
SessionsGoOn S = (owes : S → List ℕ → Triple) (owed : List ℕ → Triple) (c : CallerState) (s : ServingState S) (up down : List ℕ)
    → IsUnderWay owes owed c s up down → ¬ (caller.IsStill c × serving.IsStill s.answering)

-- ---- how much they send

-- A caller with this input sends at most a greeting of 12 bytes, a message for each byte of the input, with a header of 8, and one that ends the input.
abbrev pub most_requested : List ℕ → ℕ
most_requested input = 20 + 9 * length input

-- A side whose service owes this sends at most a greeting, a message for each byte of its outputs, one that ends each of them, and an exit code in 12 bytes.
abbrev pub most_answered : Triple → ℕ
most_answered t = 40 + 9 * (length t.stdout + length t.stderr)

-- whatever its peer sends
abbrev pub SessionsSendLittle : Type 0
SessionsSendLittle =
    ((own chunk : ℕ) (input got sent : List ℕ) → CallerMaySend own chunk input got sent → length sent ≤ most_requested input)
    × ((own chunk : ℕ) (owed : List ℕ → Triple) (got sent : List ℕ) → ServingMaySend own chunk owed got sent → length sent ≤ most_answered (owed (serving_sees got).input))
