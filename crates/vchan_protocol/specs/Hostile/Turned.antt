-- An end that is turned over to a hostile user, and what such a user may do to the page.
use Rattle.std.specs.Prelude.{ℕ, ◌<◌, true, [], ◌∷◌, ◌++◌, None, length, if◌then◌else◌}
use Rattle.ring_words.specs.Rings.{size}
use Rattle.ring_words.specs.Page.{order_of}
use Rattle.ring_words.specs.declared.order.Orders.{Orders}
use Rattle.ring_words.specs.declared.page.Role.{Role}
use Rattle.ring_words.specs.declared.page.WordName.{WordName}
use Rattle.ring_words.specs.declared.page.WordName.TheVariants.{SrvPending, CliPending, SrvGone, CliGone, RingByte}
use Rattle.vchan_protocol.specs.declared.op.Op.{Op}
use Rattle.vchan_protocol.specs.declared.op.Op.TheVariants.{Store}
use Rattle.vchan_protocol.specs.declared.side.Side.{Side}
use Rattle.vchan_protocol.specs.Table.Plan.{past}
use Rattle.vchan_protocol.specs.Table.Ends.{written_ring, peer_pending}
use Rattle.vchan_protocol.specs.Table.Apply.{words_after, value_taken}
use Rattle.vchan_protocol.specs.History.Core.{Core, side_of, reader_of, with_side}

-- a hostile user reaches what lies on the shared page and in its rings: the header fields and the ring bytes
abbrev pub MayPoke : Orders → WordName → Type 0
MayPoke orders (RingByte ring at) = at < size (order_of orders ring)
MayPoke orders SrvPending = ⊥
MayPoke orders CliPending = ⊥
MayPoke orders SrvGone = ⊥
MayPoke orders CliGone = ⊥
MayPoke orders _ = Unit {0}

-- the end after it is turned, when its reader has got this many bytes: its call is dropped, and its lists stay as they are
abbrev pub turns : Side → ℕ → Side
turns s consumed = record s { call = None; trail = []; payload = []; turned = true; consumed = consumed }

-- it stays turned
abbrev pub turned_side : Side → ℕ → Side
turned_side s consumed = if s.turned then s else turns s consumed

-- the end after an event of its hostile user, which belongs to no call
abbrev pub strays : Side → Op → ℕ → Side
strays s op taken = record s { call = None; trail = s.trail ++ past op taken ∷ [] }

-- the core state after an event of a hostile user of this end, who turns it first
abbrev pub strayed : Core → Role → Op → Core
strayed core who op =
    with_side (record core { words = words_after core.orders core.words [] op }) who
    (strays (turned_side (side_of core who) (length (reader_of core (written_ring who)).got)) op (value_taken core.orders core.words op))

-- a hostile store, and a hostile signal
abbrev pub poked : Core → Role → WordName → ℕ → Core
poked core who word value = strayed core who (Store word value)

abbrev pub signalled : Core → Role → Core
signalled core who = strayed core who (Store (peer_pending who) 1)
