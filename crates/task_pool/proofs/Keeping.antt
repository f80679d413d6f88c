-- A pass keeps the places of the results that go with it.
use Rattle.std.proofs.Common.{◌≡◌, ◌<◌, List, [], ◌∷◌, ◌++◌, length, sym, ap, ◌∙◌, subst, arith}
use Rattle.std.specs.List.{AllZip}
use Rattle.std.proofs.lemmas.Slice.Zip.{AllZip-long}
use Rattle.list_laws.proofs.Pairs.{pairs_append}
use Rattle.task_pool.specs.declared.queue.Holding.{Holding}
use Rattle.task_pool.specs.declared.waiting.Finished.{Finished}
use Rattle.task_pool.specs.Results.{IsPaid, Ends, Keeps}

module _ {T D : Type 0} (owes : T → D → Type 0) where
  pub keeps_more : (enqueued : List T) (finished : List (Finished D)) (f : Finished D) (v w : Holding T) → Keeps owes enqueued finished v → Ends owes v f w → Keeps owes enqueued (finished ++ f ∷ []) w
  keeps_more enqueued finished f v w keeps ends = record {
    part = ap (λ (y : Holding T). y.parts) ends.keeps ∙ keeps.part;
    knows = ap (λ (y : Holding T). y.enqueued) ends.keeps ∙ keeps.knows;
    paid = subst (λ l. AllZip (IsPaid owes enqueued) l (finished ++ f ∷ [])) (sym (ap (λ (y : Holding T). y.kept) ends.keeps))
        (pairs_append (IsPaid owes enqueued) v.kept ((f.place, ends.first) ∷ []) finished (f ∷ []) keeps.paid (subst (λ l. IsPaid owes l (f.place, ends.first) f) keeps.knows ends.paid, tt));
  }

  pub keeps_room : (enqueued : List T) (finished : List (Finished D)) (f : Finished D) (v w : Holding T) → Keeps owes enqueued finished v → Ends owes v f w → length finished < length enqueued
  keeps_room enqueued finished f v w keeps ends =
      let room = ends.room in
      let same : length v.enqueued ≡ length enqueued = ap length keeps.knows in
      let long = AllZip-long (IsPaid owes enqueued) v.kept finished keeps.paid in
      omega arith
