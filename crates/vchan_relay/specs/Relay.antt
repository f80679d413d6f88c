-- A relay between two turns: its two ends, and the bytes that it has got on one of them and not sent on the other yet.
-- Source: this project's own.
use Rattle.std.specs.Prelude.{◌≡◌, ◌≤◌, ℕ, Bool, true, false, List, ◌++◌, length}
use Rattle.vchan_protocol.specs.declared.call.EndState.{EndState}
use Rattle.vchan_protocol.specs.declared.call.EndState.TheVariants.{Open, Shut}
use Rattle.end_view.specs.EndView.{EndView}
use Rattle.vchan_rule.specs.Seated.{SeatedEnd, view}

pub record RelayState : Type 0 where
  -- the end that it reads, and the end that it writes
  pub near : SeatedEnd
  pub far : SeatedEnd
  -- the bytes that it has got and not sent yet, and how many there may be
  pub held : List ℕ
  pub room : ℕ
  pub ended : Bool

-- all that was got on the near ring is what was sent on the far one, followed by the held bytes
abbrev pub IsLawful : EndView → EndView → List ℕ → Type 0
IsLawful near far held = near.got ≡ far.sent ++ held

-- a relay that has ended has shut both its ends, and any other has both open
abbrev pub state_by : Bool → EndState
state_by true = Shut
state_by false = Open

abbrev pub StandsBy : Bool → EndView → Type 0
StandsBy ended e = (e.idle ≡ true) × (e.state ≡ state_by ended)

-- what holds of a relay between two turns, whatever the peers of its two ends do
pub record IsRelay (r : RelayState) : Type 0 where
  pub lawful : IsLawful (view r.near) (view r.far) r.held
  pub near : StandsBy r.ended (view r.near)
  pub far : StandsBy r.ended (view r.far)
  pub few : length r.held ≤ r.room
