-- Relays in a row, each of which reads the left ring of one page and writes that of the next: what the last reader has of what the first writer sent.
-- Source: this project's own.
use Rattle.std.specs.Prelude.{◌≡◌, true, List, [], ◌∷◌, ℕ}
use Rattle.std.specs.List.{AllByRecursion as Each}
use Rattle.list_laws.specs.Lists.{IsPrefixOf}
use Rattle.end_view.specs.Settled.{Settled, IsHonestRing}
use Rattle.vchan_relay.specs.Relay.{IsLawful}

-- a relay: what it holds in the end, and the page that it writes
pub record Hop : Type 0 where
  pub held : List ℕ
  pub page : Settled

-- each relay is the server of the page before it and the client of its own
abbrev pub AreRelayed : Settled → List Hop → Type 0
AreRelayed page [] = Unit {0}
AreRelayed page (hop ∷ hops) = IsLawful page.server hop.page.client hop.held × AreRelayed hop.page hops

-- the page of the last reader
abbrev pub last_page : Settled → List Hop → Settled
last_page page [] = page
last_page page (hop ∷ hops) = last_page hop.page hops

-- the left ring of a page between two honest ends
abbrev pub IsHonestLeft : Settled → Type 0
IsHonestLeft page = IsHonestRing page.client page.server

-- the last reader has a beginning of what the first writer sent
abbrev pub RelaysKeepOrder : Type 0
RelaysKeepOrder = (page : Settled) (hops : List Hop) → AreRelayed page hops → IsHonestLeft page → Each (λ hop. IsHonestLeft hop.page) hops → IsPrefixOf (last_page page hops).server.got page.client.sent

-- it has all of it if each ring is drained and no relay holds a byte
abbrev pub RelaysPassAll : Type 0
RelaysPassAll =
    (page : Settled) (hops : List Hop) → AreRelayed page hops → IsHonestLeft page → Each (λ hop. IsHonestLeft hop.page) hops → page.server.drained ≡ true → Each (λ hop. (hop.page.server.drained ≡ true) × (hop.held ≡ [])) hops →
    (last_page page hops).server.got ≡ page.client.sent
