-- Moments of one page, between honest ends, in the order in which they came.
-- Source: this project's own.
use Rattle.std.specs.Prelude.{◌≡◌, ◌≢◌, ◌≤◌, true, length}
use Rattle.ring_words.specs.declared.page.Role.{Role}
use Rattle.vchan_protocol.specs.declared.call.EndState.TheVariants.{Fresh, Shut}
use Rattle.vchan_protocol.specs.declared.side.Side.{Side}
use Rattle.vchan_protocol.specs.History.Core.{Core, side_of}
use Rattle.vchan_protocol.specs.Honest.Lawful.{Lawful}

-- two moments of one page
pub record AreMoments (before now : Core) : Type 0 where
  pub lawful : Lawful before
  pub lawful_now : Lawful now
  pub start : now.start ≡ before.start
  pub orders : now.orders ≡ before.orders

-- an end at a later moment: it got and sent no fewer bytes; one that was opened isn't fresh again, and one that was shut or retired stays so
pub record EndGoesOn (before now : Side) : Type 0 where
  pub got : length before.got ≤ length now.got
  pub sent : length before.sent ≤ length now.sent
  pub opened : before.state ≢ Fresh → now.state ≢ Fresh
  pub shut : before.state ≡ Shut → now.state ≡ Shut
  pub retired : before.retired ≡ true → now.retired ≡ true

-- a page at a later moment, which may lie in the midst of a call of either end
pub record PageGoesOn (before now : Core) : Type 0 where
  pub moments : AreMoments before now
  pub ends : (who : Role) → EndGoesOn (side_of before who) (side_of now who)

-- a moment between two others of its page
pub record IsBetween (first last mid : Core) : Type 0 where
  pub since : PageGoesOn first mid
  pub until : PageGoesOn mid last

-- something was so at one of them
abbrev pub WasSo : (first last : Core) → (Core → Type 0) → Type 0
WasSo first last so = (mid : Core) × IsBetween first last mid × so mid
