-- Options and results of calls.
use Rattle.std.proofs.Common.{◌≡◌, Option, Some, None, length, arith}
use Rattle.std.specs.Prelude.{IsSome, Result, Ok, Err, OnOk}
use Rattle.std.specs.declared.vec.IntoIter.{IntoIter}
use Rattle.std.specs.Vec.Iter.{into_iter_items, into_iter_len}
use Rattle.std.proofs.lemmas.Grind.{common_steps}

pub none_is : {A : Type 0} (o : Option A) → o ≡ None → IsSome o → ⊥
none_is None is some = cc
none_is (Some x) is some = cc

-- what follows if a call succeeds
pub on_ok : {A E : Type 0} (r : Result A E) (P Q : Type 0) → (P → Q) → OnOk r P → OnOk r Q
on_ok (Ok v) P Q go h = go h
on_ok (Err e) P Q go h = tt

-- an iterator with nothing left has no items
pub no_items : {X Z : Type 0} (it : IntoIter X Z) → into_iter_len it ≡ 0 → length (into_iter_items it) ≡ 0
no_items it none = grind (arith, common_steps, none)
