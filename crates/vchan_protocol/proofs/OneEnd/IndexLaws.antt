-- An honest end stores its own counts in its own indices, and a plain store takes 0.
use Rattle.std.proofs.Common.{◌≡◌, ℕ, ◌+◌, ◌%◌, ◌^◌, cond, List, [], ◌∷◌, ◌++◌, length, refl, subst, sym, ap, ◌∙◌}
use Rattle.ring_words.specs.declared.page.Role.{Role}
use Rattle.ring_words.specs.declared.page.Role.TheVariants.{Server, Client}
use Rattle.ring_words.specs.declared.page.WordName.{WordName}
use Rattle.ring_words.specs.declared.page.WordName.TheVariants.{LeftCons, LeftProd, RightCons, RightProd}
use Rattle.ring_words.specs.declared.order.Orders.{Orders}
use Rattle.vchan_protocol.specs.declared.op.Op.{Op}
use Rattle.vchan_protocol.specs.declared.op.Op.TheVariants.{Load, LoadByte, Store, StoreByte, Or, And, Swap, Nothing}
use Rattle.vchan_protocol.specs.declared.op.PastEvent.{PastEvent}
use Rattle.vchan_protocol.specs.declared.side.Side.{Side}
use Rattle.vchan_protocol.specs.Table.Plan.{GoesOn, past}
use Rattle.vchan_protocol.specs.Table.Ends.{Standing}
use Rattle.vchan_protocol.specs.Table.Apply.{value_taken}
use Rattle.vchan_protocol.specs.History.Core.{begun_standing, count_stored, bytes_loaded, plan_left, op_next}
use Rattle.vchan_protocol.specs.History.TrailSummary.{TrailSummary, summary}
use Rattle.vchan_protocol.specs.Honest.RingLaw.{CallLawful}
use Rattle.vchan_protocol.specs.OneEnd.IndexLaw.{StoresIndex, IsNoIndex, KeepsIndices, TakesAsMade, StoresTakeNothing}
use Rattle.vchan_protocol.proofs.Table.Sound.{OwesSound, OwesStored, IsFlag}
use Rattle.vchan_protocol.proofs.History.SummaryLaws.{stored_is, loaded_is}
use Rattle.vchan_protocol.proofs.Honest.EndSteps.{InLawful, in_lawful, owes_now, not_yet}

-- ---- what an index store stores

moved_on : (now before stored count value : ℕ) → now ≡ before → stored ≡ count → value ≡ (before + stored) % 2 ^ 32 → value ≡ (now + count) % 2 ^ 32
moved_on now before stored count value same counts is = is ∙ ap (λ (n : ℕ). (n + stored) % 2 ^ 32) (sym same) ∙ ap (λ (n : ℕ). (now + n) % 2 ^ 32) counts

index_stored : (word : WordName) (role : Role) (s : Side) (e : Standing) (n : TrailSummary) (value : ℕ) →
    s.prod ≡ cond n.shown ((e.prod + n.stored) % 2 ^ 32) e.prod → s.cons ≡ cond n.released ((e.cons + length n.loaded) % 2 ^ 32) e.cons →
    n.stored ≡ count_stored s.trail → length n.loaded ≡ length (bytes_loaded s.trail) → OwesStored word role e n value → StoresIndex word role s value
index_stored LeftProd Client s e n value prod cons stored loaded owes = moved_on s.prod e.prod n.stored (count_stored s.trail) value (not_yet n.shown _ e.prod s.prod owes.not_shown prod) stored owes.is
index_stored RightProd Server s e n value prod cons stored loaded owes = moved_on s.prod e.prod n.stored (count_stored s.trail) value (not_yet n.shown _ e.prod s.prod owes.not_shown prod) stored owes.is
index_stored LeftCons Server s e n value prod cons stored loaded owes = moved_on s.cons e.cons (length n.loaded) (length (bytes_loaded s.trail)) value (not_yet n.released _ e.cons s.cons owes.not_released cons) loaded owes.is
index_stored RightCons Client s e n value prod cons stored loaded owes = moved_on s.cons e.cons (length n.loaded) (length (bytes_loaded s.trail)) value (not_yet n.released _ e.cons s.cons owes.not_released cons) loaded owes.is
index_stored LeftProd Server s e n value prod cons stored loaded owes = absurd owes
index_stored RightProd Client s e n value prod cons stored loaded owes = absurd owes
index_stored LeftCons Client s e n value prod cons stored loaded owes = absurd owes
index_stored RightCons Server s e n value prod cons stored loaded owes = absurd owes
index_stored _ role s e n value prod cons stored loaded owes = tt

-- an index that is owed is the own count, moved on by the bytes of the call
pub stores_own : (s : Side) (i : InLawful s) (word : WordName) (value : ℕ) → OwesStored word s.role (begun_standing s i.begun) (summary s.role s.trail) value → StoresIndex word s.role s value
stores_own s i word value owes =
    index_stored word s.role s (begun_standing s i.begun) (summary s.role s.trail) value i.lawful.prod i.lawful.cons (stored_is s.role s.trail) (ap (λ (xs : List ℕ). length xs) (loaded_is s.role s.trail)) owes

flag_apart : (word : WordName) → IsFlag word → IsNoIndex word
flag_apart LeftProd flag = flag
flag_apart RightProd flag = flag
flag_apart LeftCons flag = flag
flag_apart RightCons flag = flag
flag_apart _ flag = tt

pub keeps_indices : (s : Side) → CallLawful s → GoesOn (plan_left s) → KeepsIndices s (op_next s)
keeps_indices s lawful more = go (op_next s) (owes_now s i more)
  where
    i : InLawful s
    i = in_lawful s lawful more

    go : (op : Op) → OwesSound (begun_standing s i.begun) (summary s.role s.trail) op → KeepsIndices s op
    go (Store word value) owes = stores_own s i word value owes
    go (StoreByte word at) owes = subst IsNoIndex (sym owes.word_is) tt
    go (Or word bits) owes = flag_apart word owes
    go (And word bits) owes = flag_apart word owes
    go (Swap word value) owes = flag_apart word owes
    go (Load word) owes = tt
    go (LoadByte word at) owes = tt
    go Nothing owes = tt

-- ---- what a plain store takes

pub takes_as_made : (orders : Orders) (words : List ℕ) (op : Op) → TakesAsMade op (value_taken orders words op)
takes_as_made orders words (Store word value) = refl
takes_as_made orders words (StoreByte word at) = refl
takes_as_made orders words (Load word) = tt
takes_as_made orders words (LoadByte word at) = tt
takes_as_made orders words (Or word bits) = tt
takes_as_made orders words (And word bits) = tt
takes_as_made orders words (Swap word value) = tt
takes_as_made orders words Nothing = tt

pub takes_nothing_push : (trail : List PastEvent) (op : Op) (taken : ℕ) → StoresTakeNothing trail → TakesAsMade op taken → StoresTakeNothing (trail ++ past op taken ∷ [])
takes_nothing_push [] op taken all made = (made, tt)
takes_nothing_push (event ∷ events) op taken all made = (all.0, takes_nothing_push events op taken all.1 made)
