-- What the ends of a row of relays have done when they are retired.
-- Source: this project's own.
use Rattle.std.specs.Prelude.{◌≡◌, false}
use Rattle.list_laws.specs.Lists.{IsPrefixOf}
use Rattle.end_view.specs.EndView.{EndView}
use Rattle.vchan_lifecycle.specs.Ended.{HasEnded}

-- the two ends of a relay that passed on all of its stream, to its end, or was refused or found its far peer shut before
pub record PassesAll (near far : EndView) : Type 0 where
  pub order : IsPrefixOf far.sent near.got
  pub all : far.misled ≡ false → far.saw ≡ false → (near.got ≡ far.sent) × HasEnded near
