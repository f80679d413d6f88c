-- Which two ends a relay had, and which pages a row of relays joined.
-- Source: this project's own.
use Rattle.std.specs.Prelude.{◌≡◌, false, List, [], ◌∷◌}
use Rattle.list_laws.specs.Lists.{IsPrefixOf}
use Rattle.end_view.specs.EndView.{EndView}
use Rattle.end_view.specs.Settled.{Settled}

-- the end that a relay read, and the end that it wrote, once both are retired
pub record JoinedEnds : Type 0 where
  pub near : EndView
  pub far : EndView

-- what it sent is a beginning of what it got, and neither end was given up
pub record IsJoint (j : JoinedEnds) : Type 0 where
  pub order : IsPrefixOf j.far.sent j.near.got
  pub near_honest : j.near.turned ≡ false
  pub far_honest : j.far.turned ≡ false

-- there is a relay for each page and the next one: it read as the server of the first and wrote as the client of the second
abbrev pub AreJoined : List Settled → List JoinedEnds → Type 0
AreJoined [] joints = joints ≡ []
AreJoined (page ∷ []) joints = joints ≡ []
AreJoined (page ∷ next ∷ pages) [] = ⊥
AreJoined (page ∷ next ∷ pages) (joint ∷ joints) = (joint.near ≡ page.server) × (joint.far ≡ next.client) × AreJoined (next ∷ pages) joints
