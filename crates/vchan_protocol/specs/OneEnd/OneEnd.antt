-- A page as one of its ends can know it while others write the words: what stays from the opening on, and its own part, which each step changes by that part and one value.
-- The statements are this project's own.
use Rattle.std.specs.Prelude.{◌≡◌, ◌⊎◌, ℕ, true, false, List, [], length}
use Rattle.ring_words.specs.declared.order.Orders.{Orders}
use Rattle.ring_words.specs.declared.page.Role.{Role}
use Rattle.ring_words.specs.declared.page.Role.TheVariants.{Server, Client}
use Rattle.vchan_protocol.specs.declared.op.Op.{Op}
use Rattle.vchan_protocol.specs.declared.call.Call.{Call}
use Rattle.vchan_protocol.specs.declared.side.Side.{Side}
use Rattle.vchan_protocol.specs.Table.Plan.{GoesOn}
use Rattle.vchan_protocol.specs.Table.Apply.{words_after, value_taken}
use Rattle.vchan_protocol.specs.History.Core.{Core, side_of, begun, begins, event, side_after, op_next, plan_left}
use Rattle.vchan_protocol.specs.Honest.Reached.{MayBegin}
use Rattle.vchan_protocol.specs.Hostile.Turned.{turns, turned_side, strays, strayed}
use Rattle.vchan_protocol.specs.Hostile.TurnedLaw.{turned_core}
use Rattle.vchan_protocol.specs.Always.Invariant.{Invariant}
use Rattle.vchan_protocol.specs.History.Peer.{peer}

-- what stays of a page from its opening on: the number at which all indices began, what the order words held then, and its orders
pub record Setup : Type 0 where
  pub start : ℕ
  pub said : ℕ × ℕ
  pub orders : Orders

-- the core state of these words, of this end and of its peer
abbrev pub between : Setup → List ℕ → Role → Side → Side → Core
between setup words Server mine theirs = record { start = setup.start; said = setup.said; orders = setup.orders; words = words; server = mine; client = theirs }
between setup words Client mine theirs = record { start = setup.start; said = setup.said; orders = setup.orders; words = words; server = theirs; client = mine }

abbrev pub setup_of : Core → Setup
setup_of core = record { start = core.start; said = core.said; orders = core.orders }

-- each core state is one between an end and its peer
abbrev pub EachCoreIsBetween : Type 0
EachCoreIsBetween = (core : Core) (who : Role) → between (setup_of core) core.words who (side_of core who) (side_of core (peer who)) ≡ core

-- ---- an end's own steps

-- What each step makes of a core state between an end and its peer. The peer stays as it is. The end's own part follows from that part before and one value:
-- for an event the word that it is on, and for a turn how much the peer has got.
pub record StepsAreOwn (setup : Setup) (words : List ℕ) (who : Role) (mine theirs : Side) : Type 0 where
  pub mine_is : side_of (between setup words who mine theirs) who ≡ mine
  pub theirs_is : side_of (between setup words who mine theirs) (peer who) ≡ theirs
  pub event : event (between setup words who mine theirs) who ≡ between setup (words_after setup.orders words mine.payload (op_next mine)) who (side_after mine (value_taken setup.orders words (op_next mine))) theirs
  pub begin : (call : Call) (payload : List ℕ) → begun (between setup words who mine theirs) who call payload ≡ between setup words who (begins mine call payload) theirs
  pub turn : turned_core (between setup words who mine theirs) who ≡ between setup words who (turned_side mine (length theirs.got)) theirs
  pub stray : (op : Op) →
      strayed (between setup words who mine theirs) who op ≡ between setup (words_after setup.orders words [] op) who (strays (turned_side mine (length theirs.got)) op (value_taken setup.orders words op)) theirs

abbrev pub EachStepIsOwn : Type 0
EachStepIsOwn = (setup : Setup) (words : List ℕ) (who : Role) (mine theirs : Side) → StepsAreOwn setup words who mine theirs

-- ---- what holds of a page, for one end

-- an end as it was, or as it is after it begins a call that it may begin
abbrev pub Enters : Side → Side → Type 0
Enters before now = (now ≡ before) ⊎ ((call : Call) × (payload : List ℕ) × (now ≡ begins before call payload) × MayBegin before.role before call payload)

-- The steps of one end keep what holds of the page, whatever its peer is: it enters a call, makes the next event of its call, is turned, and its hostile user
-- makes any event.
pub record StepsKeep (setup : Setup) (words : List ℕ) (who : Role) (mine theirs : Side) : Type 0 where
  pub role : mine.role ≡ who
  pub enters : (now : Side) → mine.turned ≡ false → Enters mine now → Invariant (between setup words who now theirs)
  pub event : mine.turned ≡ false → GoesOn (plan_left mine) →
      Invariant (between setup (words_after setup.orders words mine.payload (op_next mine)) who (side_after mine (value_taken setup.orders words (op_next mine))) theirs)
  pub turn : mine.turned ≡ false → Invariant (between setup words who (turns mine (length theirs.got)) theirs)
  pub stray : (op : Op) → mine.turned ≡ true → Invariant (between setup (words_after setup.orders words [] op) who (strays mine op (value_taken setup.orders words op)) theirs)

abbrev pub EachStepKeeps : Type 0
EachStepKeeps = (setup : Setup) (words : List ℕ) (who : Role) (mine theirs : Side) → Invariant (between setup words who mine theirs) → StepsKeep setup words who mine theirs
