-- What an end has done when it is retired after its whole stream. Source: this project's own.
use Rattle.std.specs.Prelude.{◌≡◌, false, ◌≤◌, ℕ, List, length, true, IsSome, ◌<◌}
use Rattle.atomic_table.specs.Seated.{TableId}
use Rattle.ring_words.specs.declared.page.Role.{Role}
use Rattle.vchan_rule.specs.Seated.{SeatedSide}
use Rattle.end_view.specs.EndView.{EndView}
use Rattle.vchan_lifecycle.specs.declared.DrainAnswer.{DrainAnswer}
use Rattle.vchan_lifecycle.specs.declared.DrainAnswer.TheVariants.{More, NotYet, AllRead, PeerGone}

-- this end of the page, which was never turned over to a hostile user
pub record IsEndOf (page : TableId) (role : Role) (e : SeatedSide) : Type 0 where
  pub page_is : e.page ≡ page
  pub role_is : e.side.role ≡ role
  pub honest : e.side.turned ≡ false

-- a writer that sent all bytes, or was refused or found its peer shut before
pub record SendsAll (e : EndView) (bytes : List ℕ) : Type 0 where
  pub few : length e.sent ≤ length bytes
  pub all : e.misled ≡ false → e.saw ≡ false → e.sent ≡ bytes

-- a reader that found the end of its stream
pub record HasEnded (e : EndView) : Type 0 where
  pub saw : e.saw ≡ true
  pub ended : IsSome e.ended

-- a reader that got these bytes: it found the end of its stream, or had no room for more
pub record GetsAll (e : EndView) (bytes : List ℕ) (room : ℕ) : Type 0 where
  pub got : e.got ≡ bytes
  pub ended : length bytes < room → HasEnded e

-- how many bytes a drain got
abbrev pub drained_count : DrainAnswer → ℕ
drained_count (More count) = count
drained_count (NotYet prod cons) = 0
drained_count AllRead = 0
drained_count (PeerGone prod cons) = 0

-- what a drain's answer tells of the end of the stream
abbrev pub MayHaveEnded : DrainAnswer → EndView → Type 0
MayHaveEnded (More count) e = Unit {0}
MayHaveEnded (NotYet prod cons) e = Unit {0}
MayHaveEnded AllRead e = HasEnded e
MayHaveEnded (PeerGone prod cons) e = HasEnded e
