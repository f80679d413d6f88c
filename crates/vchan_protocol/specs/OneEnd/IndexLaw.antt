-- What an end stores in an index: its own count, moved on by the bytes of its call, and nothing in its peer's. Also what a plain store takes.
-- Source: libxenvchan's io.c for which end stores which index. That an end keeps its own counts is this project's choice.
use Rattle.std.specs.Prelude.{◌≡◌, ℕ, ◌+◌, ◌%◌, ◌^◌, List, [], ◌∷◌, length}
use Rattle.ring_words.specs.declared.page.Role.{Role}
use Rattle.ring_words.specs.declared.page.Role.TheVariants.{Server, Client}
use Rattle.ring_words.specs.declared.page.WordName.{WordName}
use Rattle.ring_words.specs.declared.page.WordName.TheVariants.{LeftCons, LeftProd, RightCons, RightProd}
use Rattle.vchan_protocol.specs.declared.op.Op.{Op}
use Rattle.vchan_protocol.specs.declared.op.Op.TheVariants.{Store, StoreByte, Or, And, Swap}
use Rattle.vchan_protocol.specs.declared.op.PastEvent.{PastEvent}
use Rattle.vchan_protocol.specs.declared.side.Side.{Side}
use Rattle.vchan_protocol.specs.Table.Plan.{GoesOn}
use Rattle.vchan_protocol.specs.History.Core.{count_stored, bytes_loaded, plan_left, op_next}
use Rattle.vchan_protocol.specs.Honest.RingLaw.{CallLawful}

-- ---- what an index store stores

-- the own producer count of an end before the store, moved on by the bytes that its call has stored
abbrev pub MovesProd : Side → ℕ → Type 0
MovesProd s value = value ≡ (s.prod + count_stored s.trail) % 2 ^ 32

-- the own consumer count, moved on by the bytes that its call has loaded
abbrev pub MovesCons : Side → ℕ → Type 0
MovesCons s value = value ≡ (s.cons + length (bytes_loaded s.trail)) % 2 ^ 32

-- an end in this role stores its own two indices, and never its peer's
abbrev pub StoresIndex : WordName → Role → Side → ℕ → Type 0
StoresIndex LeftProd Client s value = MovesProd s value
StoresIndex RightProd Server s value = MovesProd s value
StoresIndex LeftCons Server s value = MovesCons s value
StoresIndex RightCons Client s value = MovesCons s value
StoresIndex LeftProd Server s value = ⊥
StoresIndex RightProd Client s value = ⊥
StoresIndex LeftCons Client s value = ⊥
StoresIndex RightCons Server s value = ⊥
StoresIndex _ role s value = Unit {0}

-- the word is none of the four indices
abbrev pub IsNoIndex : WordName → Type 0
IsNoIndex LeftProd = ⊥
IsNoIndex RightProd = ⊥
IsNoIndex LeftCons = ⊥
IsNoIndex RightCons = ⊥
IsNoIndex _ = Unit {0}

-- an event writes to an index only by a plain store of the own count
abbrev pub KeepsIndices : Side → Op → Type 0
KeepsIndices s (Store word value) = StoresIndex word s.role s value
KeepsIndices s (StoreByte word at) = IsNoIndex word
KeepsIndices s (Or word bits) = IsNoIndex word
KeepsIndices s (And word bits) = IsNoIndex word
KeepsIndices s (Swap word value) = IsNoIndex word
KeepsIndices s _ = Unit {0}

-- whatever its peer has stored, an honest end stores its own counts in its own indices
abbrev pub IndicesAreOwnCounts : Type 0
IndicesAreOwnCounts = (s : Side) → CallLawful s → GoesOn (plan_left s) → KeepsIndices s (op_next s)

-- ---- what a store takes

-- a plain store takes 0
abbrev pub TakesAsMade : Op → ℕ → Type 0
TakesAsMade (Store word value) taken = taken ≡ 0
TakesAsMade (StoreByte word at) taken = taken ≡ 0
TakesAsMade _ taken = Unit {0}

-- so does each plain store of a trail
abbrev pub StoresTakeNothing : List PastEvent → Type 0
StoresTakeNothing [] = Unit {0}
StoresTakeNothing (event ∷ events) = TakesAsMade event.op event.taken × StoresTakeNothing events
