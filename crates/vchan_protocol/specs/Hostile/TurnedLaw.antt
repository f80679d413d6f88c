-- What holds of a page after an end was turned over to a hostile user, who may store any number anywhere.
-- The statements are this project's own.
use Rattle.std.specs.Prelude.{◌≡◌, ℕ, ◌+◌, ◌≤◌, true, false, length, take}
use Rattle.list_laws.specs.Lists.{IsPrefixOf}
use Rattle.ring_words.specs.Rings.{size, place}
use Rattle.ring_words.specs.Page.{word_count, order_of}
use Rattle.ring_words.specs.declared.page.Role.{Role}
use Rattle.ring_words.specs.declared.page.Role.TheVariants.{Server, Client}
use Rattle.ring_words.specs.declared.page.WordName.TheVariants.{RingByte}
use Rattle.vchan_protocol.specs.declared.op.Op.{Op}
use Rattle.vchan_protocol.specs.declared.op.Op.TheVariants.{LoadByte, Store, StoreByte}
use Rattle.vchan_protocol.specs.declared.side.Side.{Side}
use Rattle.vchan_protocol.specs.Table.Ends.{written_ring, read_ring}
use Rattle.vchan_protocol.specs.History.Core.{Core, side_of, with_side, reader_of, count_stored, bytes_loaded}
use Rattle.vchan_protocol.specs.Hostile.Turned.{turned_side}
use Rattle.vchan_protocol.specs.Honest.RingLaw.{index_at, CallLawful}
use Rattle.vchan_protocol.specs.Honest.Lawful.{IsEnd}
use Rattle.vchan_protocol.specs.OneEnd.IndexLaw.{StoresIndex}

-- the core state after this end is turned, and before its hostile user did anything
abbrev pub turned_core : Core → Role → Core
turned_core core who = with_side core who (turned_side (side_of core who) (length (reader_of core (written_ring who)).got))

-- what an honest end keeps whatever its peer stores: its counts are the lengths of its lists, from the start on, and its call is a lawful one
pub record KeepsCounts (start : ℕ) (s : Side) : Type 0 where
  pub prod : s.prod ≡ index_at start (length s.sent)
  pub cons : s.cons ≡ index_at start (length s.got)
  pub call : CallLawful s

-- a ring whose writer was turned, and its honest reader: what the reader had got then stays the beginning of what was sent.
-- `consumed` is how much that was
pub record ConsumedLawful (size : ℕ) (writer reader : Side) : Type 0 where
  pub within : writer.consumed ≤ length reader.got
  pub fits : length writer.sent ≤ writer.consumed + size
  pub begins : IsPrefixOf (take writer.consumed reader.got) writer.sent

-- what holds of a page whose ends may be turned
pub record TurnedLawful (core : Core) : Type 0 where
  pub sized : length core.words ≡ word_count core.orders
  pub server_end : IsEnd Server core.orders core.server
  pub client_end : IsEnd Client core.orders core.client
  pub server : core.server.turned ≡ false → KeepsCounts core.start core.server
  pub client : core.client.turned ≡ false → KeepsCounts core.start core.client
  pub left : core.client.turned ≡ true → core.server.turned ≡ false → ConsumedLawful (size core.orders.left) core.client core.server
  pub right : core.server.turned ≡ true → core.client.turned ≡ false → ConsumedLawful (size core.orders.right) core.server core.client

-- the lists of an end stay as they are
pub record ListsStand (before after : Side) : Type 0 where
  pub turned : after.turned ≡ before.turned
  pub sent : after.sent ≡ before.sent
  pub got : after.got ≡ before.got
  pub consumed : after.consumed ≡ before.consumed

-- the lists of an end only grow
pub record ListsGrow (before after : Side) : Type 0 where
  pub turned : after.turned ≡ before.turned
  pub sent : IsPrefixOf before.sent after.sent
  pub got : IsPrefixOf before.got after.got

-- ---- the places of an honest end's bytes

-- A byte that an end stores or loads is the next one of its call, and lies in its ring at the place of its own count and the byte's number. An index that
-- it stores is one of its own: its own count, moved on by the bytes of the call.
abbrev pub LiesAtCount : Side → Op → Type 0
LiesAtCount s (StoreByte word at) = (at ≡ count_stored s.trail) × (word ≡ RingByte (written_ring s.role) (place (s.prod + at) (order_of s.orders (written_ring s.role))))
LiesAtCount s (LoadByte word at) = (at ≡ length (bytes_loaded s.trail)) × (word ≡ RingByte (read_ring s.role) (place (s.cons + at) (order_of s.orders (read_ring s.role))))
LiesAtCount s (Store word value) = StoresIndex word s.role s value
LiesAtCount s _ = Unit {0}
