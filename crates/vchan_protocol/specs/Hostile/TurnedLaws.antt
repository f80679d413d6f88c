-- The laws of a page whose ends may be turned: each event of either end keeps what holds of it.
use Rattle.std.specs.Prelude.{◌≡◌, true, false, None, length}
use Rattle.ring_words.specs.declared.page.Role.{Role}
use Rattle.vchan_protocol.specs.declared.op.Op.{Op}
use Rattle.vchan_protocol.specs.declared.side.Side.{Side}
use Rattle.vchan_protocol.specs.Table.Plan.{GoesOn}
use Rattle.vchan_protocol.specs.Table.Ends.{written_ring}
use Rattle.vchan_protocol.specs.History.Core.{Core, side_of, reader_of, event, plan_left, op_next}
use Rattle.vchan_protocol.specs.Hostile.Turned.{strayed}
use Rattle.vchan_protocol.specs.Honest.RingLaw.{CallLawful}
use Rattle.vchan_protocol.specs.Hostile.TurnedLaw.{TurnedLawful, turned_core, ListsStand, ListsGrow, LiesAtCount}
use Rattle.vchan_protocol.specs.History.Peer.{peer}

-- an honest end makes the next event of its call, whatever its peer has stored
abbrev pub TurnedEventIsLawful : Type 0
TurnedEventIsLawful =
    (core : Core) (who : Role) → TurnedLawful core → (side_of core who).turned ≡ false → GoesOn (plan_left (side_of core who)) → TurnedLawful (event core who)

-- a hostile user of an end that was turned makes any event
abbrev pub StrayIsLawful : Type 0
StrayIsLawful = (core : Core) (who : Role) (op : Op) → TurnedLawful core → (side_of core who).turned ≡ true → TurnedLawful (strayed core who op)

-- an event of an end leaves its peer as it is, and its own lists only grow
abbrev pub EventGrowsLists : Type 0
EventGrowsLists =
    (core : Core) (who : Role) →
    (side_of (event core who) (peer who) ≡ side_of core (peer who)) × ListsGrow (side_of core who) (side_of (event core who) who)

-- an event of a hostile user leaves the peer as it is; its own end is turned, and if it was before, its lists stay as they are
abbrev pub StrayKeepsLists : Type 0
StrayKeepsLists =
    (core : Core) (who : Role) (op : Op) →
    (side_of (strayed core who op) (peer who) ≡ side_of core (peer who)) × ((side_of (strayed core who op) who).turned ≡ true) ×
    ((side_of core who).turned ≡ true → ListsStand (side_of core who) (side_of (strayed core who op) who))

-- whatever its peer has stored, an honest end touches its rings only at the places of its own counts, and stores these counts
abbrev pub BytesLieAtCounts : Type 0
BytesLieAtCounts = (s : Side) → CallLawful s → GoesOn (plan_left s) → LiesAtCount s (op_next s)

-- ---- turning

-- An end that is turned keeps its lists and drops its call. `consumed` is then what the reader of its ring had got, for good.
pub record TurnStands (core : Core) (who : Role) : Type 0 where
  pub turned : (side_of (turned_core core who) who).turned ≡ true
  pub sent : (side_of (turned_core core who) who).sent ≡ (side_of core who).sent
  pub got : (side_of (turned_core core who) who).got ≡ (side_of core who).got
  pub consumed : (side_of core who).turned ≡ false → (side_of (turned_core core who) who).consumed ≡ length (reader_of core (written_ring who)).got
  pub idle : (side_of core who).turned ≡ false → (side_of (turned_core core who) who).call ≡ None
  pub again : (side_of core who).turned ≡ true → side_of (turned_core core who) who ≡ side_of core who
  pub words : (turned_core core who).words ≡ core.words
  pub peer : side_of (turned_core core who) (peer who) ≡ side_of core (peer who)
  -- a hostile user's event turns the end first, and leaves its lists and its `consumed` as they are then
  pub stray : (op : Op) → ListsStand (side_of (turned_core core who) who) (side_of (strayed core who op) who)

abbrev pub EachTurnStands : Type 0
EachTurnStands = (core : Core) (who : Role) → TurnStands core who
