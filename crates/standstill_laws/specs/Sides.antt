-- A side of an open session, by the role of its end: what a caller and a side that serves have in common.
-- Source: this project's own.
use Rattle.std.specs.Prelude.{◌≡◌, ℕ, zero, suc, None}
use Rattle.ring_words.specs.declared.page.Role.{Role}
use Rattle.ring_words.specs.declared.page.Role.TheVariants.{Server, Client}
use Rattle.vchan_protocol.specs.declared.side.Side.{Side}
use Rattle.service_gate.specs.declared.builtin.Builtin.{Builtin}
use Rattle.qrexec_data.specs.Half.{HalfOf}
use Rattle.qrexec_data.specs.CallerSide.{CallerState, caller_half}
use Rattle.qrexec_data.specs.ServingSide.{ServingState}
use Rattle.channel_session.specs.declared.pause.Turned.{Turned}
use Rattle.channel_session.specs.declared.pause.Turned.TheVariants.{Quiet, Passed}
use Rattle.channel_session.specs.Session.{SessionAt, IsAtWork, StandsOn, Turns, builtin_half}

-- a caller is on the server's end of its page, and a side that serves on the client's
abbrev pub StateAt : Role → Type 0
StateAt Server = CallerState
StateAt Client = ServingState Builtin

abbrev pub half_at : (who : Role) → HalfOf (StateAt who)
half_at Server = caller_half
half_at Client = builtin_half

abbrev pub SideAt : Role → Type 0
SideAt who = SessionAt (StateAt who)

-- nothing has decided its session
abbrev pub IsUndecided : (who : Role) → SideAt who → Type 0
IsUndecided who at = (half_at who).outcome at.half ≡ None

-- its two parts agree, whatever its service owed at first
abbrev pub SideStands : (who : Role) → SideAt who → Type 0
SideStands who at = IsAtWork (half_at who) at.half at.end × ((owed : (half_at who).Owed) × StandsOn (half_at who) owed at.half at.end)

-- a side whose parts agree, and which nothing has decided, has this end
abbrev pub HoldsEnd : (who : Role) → SideAt who → Side → Type 0
HoldsEnd who at side = SideStands who at × IsUndecided who at × (at.end.side ≡ side)

-- ---- its turns

abbrev pub SideTurns : (who : Role) → Turned → SideAt who → SideAt who → Type 0
SideTurns who turned before now = Turns (half_at who) turned before now

-- so many turns in a row in which nothing moved: each was quiet, and found this, or was passed over
pub data SideRests (who : Role) (Finds : (before now : SideAt who) → SideTurns who Quiet before now → Type 0) : ℕ → SideAt who → SideAt who → Type 0 where
  NoTurn : (at : SideAt who) → SideRests who Finds zero at at
  QuietTurn : (n : ℕ) (before now then : SideAt who) (turn : SideTurns who Quiet before now) → Finds before now turn → SideRests who Finds n now then → SideRests who Finds (suc n) before then
  PassedTurn : (n : ℕ) (before now then : SideAt who) → SideTurns who Passed before now → SideRests who Finds n now then → SideRests who Finds (suc n) before then
