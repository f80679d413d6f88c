-- What holds of a run of relays when it is over.
-- Source: this project's own.
use Rattle.std.specs.Prelude.{◌≡◌, ◌+◌, ℕ, List, [], ◌∷◌, length, true, false}
use Rattle.std.specs.List.{AllByRecursion as Each}
use Rattle.end_view.specs.EndView.{EndView}
use Rattle.end_view.specs.Settled.{Settled, IsSettled}
use Rattle.vchan_rule.specs.Seated.{PageStart, began_with}
use Rattle.vchan_relay.specs.Joints.{JoinedEnds, AreJoined}
use Rattle.vchan_relay.specs.Ended.{PassesAll}
use Rattle.vchan_lifecycle.specs.Ended.{GetsAll}

-- what the last reader got, and the pages and the relays between them from near to far
pub record RelayedPages : Type 0 where
  pub got : List ℕ
  pub pages : List Settled
  pub joints : List JoinedEnds

-- a page of two honest ends, which began with these words
pub record IsHonestly (words : PageStart) (page : Settled) : Type 0 where
  pub settled : IsSettled page
  pub words_are : began_with page ≡ words
  pub client_honest : page.client.turned ≡ false
  pub server_honest : page.server.turned ≡ false

-- these bytes went through the left ring of a page of two honest ends, and it is drained
pub record HasCarried (words : PageStart) (bytes : List ℕ) (page : Settled) : Type 0 where
  pub honest : IsHonestly words page
  pub sent : page.client.sent ≡ bytes
  pub got : page.server.got ≡ bytes
  pub drained : page.server.drained ≡ true

-- the bytes went through this many relays, each of which joined two pages that follow one another
pub record HasRelayed (hops : ℕ) (words : PageStart) (bytes : List ℕ) (r : RelayedPages) : Type 0 where
  pub got : r.got ≡ bytes
  pub count : length r.pages ≡ hops + 1
  pub each : Each (HasCarried words bytes) r.pages
  pub joined : AreJoined r.pages r.joints

-- ---- after a reader

-- after the server of a page: relays and their pages, and then a reader that got these bytes into this much room
abbrev pub AreBehind : PageStart → ℕ → List ℕ → EndView → List Settled → Type 0
AreBehind words room got server [] = GetsAll server got room
AreBehind words room got server (page ∷ pages) = PassesAll server page.client × IsHonestly words page × AreBehind words room got page.server pages

-- all bytes that the client of this page sent went to the end of the row
pub record IsThrough (words : PageStart) (got : List ℕ) (page : Settled) (pages : List Settled) : Type 0 where
  pub found : page.client.misled ≡ false
  pub unseen : page.client.saw ≡ false
  pub carried : HasCarried words got page
  pub each : Each (HasCarried words got) pages
