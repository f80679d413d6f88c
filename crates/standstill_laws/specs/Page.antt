-- A page at a standstill: what the last calls of its ends found is still so.
-- Source: libxenvchan's io.c for what a look at a ring finds; the statements are this project's own.
use Rattle.std.specs.Prelude.{◌≡◌, ◌≢◌, ℕ, ◌<◌, ◌≤◌, Some}
use Rattle.ring_words.specs.Rings.{size}
use Rattle.ring_words.specs.declared.order.Orders.{Orders}
use Rattle.ring_words.specs.declared.page.Role.{Role}
use Rattle.ring_words.specs.declared.page.Role.TheVariants.{Server, Client}
use Rattle.ring_words.specs.declared.page.Ring.{Ring}
use Rattle.vchan_protocol.specs.declared.call.Answer.TheVariants.{Full, NoRoom, NotYet, Space}
use Rattle.vchan_protocol.specs.declared.call.Call.TheVariants.{BufferSpace}
use Rattle.vchan_protocol.specs.declared.call.EndState.TheVariants.{Shut}
use Rattle.vchan_protocol.specs.Table.Ends.{Standing, read_ring, written_ring, write_order, prod_word, cons_word, peer_live, low8}
use Rattle.vchan_protocol.specs.Answering.Loads.{Loads, last_pair}
use Rattle.vchan_protocol.specs.Answering.Causes.{Cause, DrainCause, WriteCause, SendCause, FoundShut}
use Rattle.vchan_protocol.specs.History.Core.{Core, side_of}
use Rattle.vchan_protocol.specs.Honest.Lawful.{Lawful}
use Rattle.vchan_protocol.specs.Honest.RingLaw.{word_at}
use Rattle.vchan_protocol.specs.History.Peer.{peer}

-- these are the indices that the page has of a ring
abbrev pub AreIndices : Core → Ring → ℕ → ℕ → Type 0
AreIndices core ring prod cons = (prod ≡ word_at core.orders core.words (prod_word ring)) × (cons ≡ word_at core.orders core.words (cons_word ring))

-- an end of the page stood like this when it began a call
abbrev pub IsStanding : Core → Role → Standing → Type 0
IsStanding core who e = (e.role ≡ who) × (e.orders ≡ core.orders)

-- by what it loaded a drain of this end finds no byte, and the indices that it answers with are those of the page
pub record FoundNothing (core : Core) (who : Role) : Type 0 where
  pub begun : Standing
  pub stood : IsStanding core who begun
  pub most : ℕ
  pub loads : Loads
  pub prod : ℕ
  pub cons : ℕ
  pub cause : DrainCause begun most loads (NotYet prod cons)
  pub still : AreIndices core (read_ring who) prod cons

-- why a call moved nothing into its ring: a write of some bytes found it full, or there was no room for a whole message that fits the ring, at its send or at a look before it
pub data RoomLacks (begun : Standing) (loads : Loads) (prod cons : ℕ) : Type 0 where
  IsFull : (n : ℕ) → WriteCause begun n loads (Full prod cons) → RoomLacks begun loads prod cons
  HasNoRoom : (n : ℕ) → n ≤ size (write_order begun) → SendCause begun n loads (NoRoom prod cons) → RoomLacks begun loads prod cons
  HasLess : (n left : ℕ) → n ≤ size (write_order begun) → left < n → last_pair loads ≡ Some (record { prod = prod; cons = cons }) → Cause begun BufferSpace loads (Space left) → RoomLacks begun loads prod cons

-- a call of this end found too little room, and the indices that it answered with are still those of the page
pub record FoundNoRoom (core : Core) (who : Role) : Type 0 where
  pub begun : Standing
  pub stood : IsStanding core who begun
  pub loads : Loads
  pub prod : ℕ
  pub cons : ℕ
  pub lacks : RoomLacks begun loads prod cons
  pub still : AreIndices core (written_ring who) prod cons

-- the live byte of the peer that a call loaded is that of the page
abbrev pub IsLiveStill : Core → Role → Loads → Type 0
IsLiveStill core who loads = loads.live ≡ Some (low8 (word_at core.orders core.words (peer_live who)))

-- a call of this end found the peer shut, and the peer's live byte is still as it was
pub record FoundPeerShut (core : Core) (who : Role) : Type 0 where
  pub loads : Loads
  pub shut : FoundShut loads
  pub still : IsLiveStill core who loads

-- at a standstill of a page between honest ends each has got what the other sent, none lacks room, and a peer that was found shut is shut
pub record StandsStill (core : Core) : Type 0 where
  pub server_got : core.server.got ≡ core.client.sent
  pub client_got : core.client.got ≡ core.server.sent
  pub has_room : (who : Role) → ¬ FoundNoRoom core who
  pub is_shut : (who : Role) → FoundPeerShut core who → (side_of core (peer who)).state ≡ Shut

abbrev pub PageStandsStill : Type 0
PageStandsStill = (core : Core) → Lawful core → FoundNothing core Server → FoundNothing core Client → StandsStill core

-- a page that stands still, neither of whose ends is shut
pub record IsStillPage (core : Core) : Type 0 where
  pub lawful : Lawful core
  pub server_opened : core.server.state ≢ Shut
  pub client_opened : core.client.state ≢ Shut
  pub server_found : FoundNothing core Server
  pub client_found : FoundNothing core Client

-- there are such pages, of any orders
abbrev pub StillPagesAreThere : Orders → Type 0
StillPagesAreThere orders = (core : Core) × IsStillPage core × (core.orders ≡ orders)
