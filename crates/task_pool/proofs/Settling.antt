-- The answers, as results are written down.
use Rattle.std.proofs.Common.{◌≡◌, ◌≢◌, ◌⊎◌, ℕ, zero, suc, ◌<◌, List, [], ◌∷◌, ◌++◌, length, set, replicate, slice_get, Option, Some, None, refl, sym, ap, ◌∙◌, subst, inl, inr, ⊎_elim, arith, length-set, append_assoc, append-nil}
use Rattle.std.specs.List.{AllZip}
use Rattle.std.proofs.lemmas.Option.{slice_get_within}
use Rattle.list_laws.proofs.Each.{each_append, each_weaker}
use Rattle.task_pool.specs.declared.waiting.Finished.{Finished}
use Rattle.task_pool.specs.Results.{IsPaid, Settled}

-- what is read after a write
pub set_cases : {A : Type 0} (xs : List A) (p k : ℕ) (v : A) → p < length xs
    → ((k ≡ p) × (slice_get (set xs p v) k ≡ Some v)) ⊎ ((k ≢ p) × (slice_get (set xs p v) k ≡ slice_get xs k))
set_cases [] p k v lt = absurd (omega arith)
set_cases (x ∷ xs) zero zero v lt = inl (refl, refl)
set_cases (x ∷ xs) zero (suc k) v lt = inr ((λ e. omega arith), refl)
set_cases (x ∷ xs) (suc p) zero v lt = inr ((λ e. omega arith), refl)
set_cases (x ∷ xs) (suc p) (suc k) v lt =
    ⊎_elim (λ t. inl (ap suc t.0, t.1)) (λ t. let apart = t.0 in inr ((λ e. apart (omega arith)), t.1)) (set_cases xs p k v (omega arith))

blank_at : {A : Type 0} (n k : ℕ) (x y : A) → slice_get (replicate n x) k ≡ Some y → x ≡ y
blank_at zero k x y at = cc
blank_at (suc n) zero x y at = cc
blank_at (suc n) (suc k) x y at = blank_at n k x y at

length_blank : {A : Type 0} (n : ℕ) (x : A) → length (replicate n x) ≡ n
length_blank zero x = refl
length_blank (suc n) x = omega (arith, length_blank n x)

module _ {T D : Type 0} (owes : T → D → Type 0) where
  pub settled_none : (enqueued : List T) (n : ℕ) → n ≡ length enqueued → Settled owes enqueued [] (replicate n None)
  settled_none enqueued n e = record { size = length_blank n None ∙ e; owed = λ k done at. (let x : None ≡ Some done = blank_at n k None (Some done) at in cc); filled = tt }

  pub settled_more : (enqueued : List T) (kept : List (ℕ × T)) (answers : List (Option D)) (e : ℕ × T) (f : Finished D) → Settled owes enqueued kept answers → IsPaid owes enqueued e f
      → Settled owes enqueued (kept ++ e ∷ []) (set answers f.place (Some f.done))
  settled_more enqueued kept answers e f settled paid =
      let inside : e.0 < length enqueued = slice_get_within enqueued e.0 e.1 paid.1 in
      let place : f.place ≡ e.0 = paid.0 in
      let size = settled.size in
      let lt : f.place < length answers = omega arith in
      record {
        size = length-set answers f.place (Some f.done) ∙ settled.size;
        owed = λ k done at. ⊎_elim
            (λ (here : (k ≡ f.place) × (slice_get (set answers f.place (Some f.done)) k ≡ Some (Some f.done))).
            let same : f.done ≡ done = let two = here.1 in cc in
            (e.1, ap (slice_get enqueued) (here.0 ∙ paid.0) ∙ paid.1, subst (owes e.1) same paid.2))
            (λ (there : (k ≢ f.place) × (slice_get (set answers f.place (Some f.done)) k ≡ slice_get answers k)). settled.owed k done (sym there.1 ∙ at))
            (set_cases answers f.place k (Some f.done) lt);
        filled = each_append _ kept (e ∷ [])
            (each_weaker _ _ (λ o was. ⊎_elim
            (λ (here : (o.0 ≡ f.place) × (slice_get (set answers f.place (Some f.done)) o.0 ≡ Some (Some f.done))). (f.done, here.1))
            (λ (there : (o.0 ≢ f.place) × (slice_get (set answers f.place (Some f.done)) o.0 ≡ slice_get answers o.0)). (was.0, there.1 ∙ was.1))
            (set_cases answers f.place o.0 (Some f.done) lt)) kept settled.filled) (
              ⊎_elim
                  (λ (here : (e.0 ≡ f.place) × (slice_get (set answers f.place (Some f.done)) e.0 ≡ Some (Some f.done))). (f.done, here.1))
                  (λ (there : (e.0 ≢ f.place) × (slice_get (set answers f.place (Some f.done)) e.0 ≡ slice_get answers e.0)). absurd (there.0 (sym paid.0)))
                  (set_cases answers f.place e.0 (Some f.done) lt),
              tt,
            );
      }

  -- A pass came back that keeps `theirs`, beside those `before`: some of its results are written, the others are left.
  pub record Settling (enqueued : List T) (before theirs : List (ℕ × T)) (left : List (Finished D)) (answers : List (Option D)) : Type 0 where
    pub written : List (ℕ × T)
    pub rest : List (ℕ × T)
    pub split : theirs ≡ written ++ rest
    pub paid : AllZip (IsPaid owes enqueued) rest left
    pub settled : Settled owes enqueued (before ++ written) answers

  pub settling_begins : (enqueued : List T) (before theirs : List (ℕ × T)) (left : List (Finished D)) (answers : List (Option D)) → AllZip (IsPaid owes enqueued) theirs left
      → Settled owes enqueued before answers → Settling enqueued before theirs left answers
  settling_begins enqueued before theirs left answers paid settled = record {
    written = [];
    rest = theirs;
    split = refl;
    paid = paid;
    settled = subst (λ l. Settled owes enqueued l answers) (sym (append-nil before)) settled;
  }

  -- the place of a result that is left has an answer
  pub settling_place : (enqueued : List T) (before theirs : List (ℕ × T)) (f : Finished D) (left : List (Finished D)) (answers : List (Option D)) → Settling enqueued before theirs (f ∷ left) answers
      → f.place < length answers
  settling_place enqueued before theirs f left answers s = first s.rest s.paid
    where
      first : (rest : List (ℕ × T)) → AllZip (IsPaid owes enqueued) rest (f ∷ left) → f.place < length answers
      first [] paid = absurd paid
      first (e ∷ rest) paid =
          let inside : e.0 < length enqueued = slice_get_within enqueued e.0 e.1 paid.0.1 in
          let place : f.place ≡ e.0 = paid.0.0 in
          let size = s.settled.size in
          omega arith

  pub settling_more : (enqueued : List T) (before theirs : List (ℕ × T)) (f : Finished D) (left : List (Finished D)) (answers : List (Option D)) → Settling enqueued before theirs (f ∷ left) answers
      → Settling enqueued before theirs left (set answers f.place (Some f.done))
  settling_more enqueued before theirs f left answers s = go s.rest s.split s.paid
    where
      go : (rest : List (ℕ × T)) → theirs ≡ s.written ++ rest → AllZip (IsPaid owes enqueued) rest (f ∷ left) → Settling enqueued before theirs left (set answers f.place (Some f.done))
      go [] split paid = absurd paid
      go (e ∷ rest) split paid = record {
        written = s.written ++ e ∷ [];
        rest = rest;
        split = split ∙ sym (append_assoc s.written (e ∷ []) rest);
        paid = paid.1;
        settled = subst (λ l. Settled owes enqueued l (set answers f.place (Some f.done))) (append_assoc before s.written (e ∷ []))
            (settled_more enqueued (before ++ s.written) answers e f s.settled paid.0);
      }

  pub settling_ends : (enqueued : List T) (before theirs : List (ℕ × T)) (answers : List (Option D)) → Settling enqueued before theirs [] answers → Settled owes enqueued (before ++ theirs) answers
  settling_ends enqueued before theirs answers s = go s.rest s.split s.paid
    where
      go : (rest : List (ℕ × T)) → theirs ≡ s.written ++ rest → AllZip (IsPaid owes enqueued) rest [] → Settled owes enqueued (before ++ theirs) answers
      go [] split paid = subst (λ l. Settled owes enqueued (before ++ l) answers) (sym (split ∙ append-nil s.written)) s.settled
      go (e ∷ rest) split paid = absurd paid
