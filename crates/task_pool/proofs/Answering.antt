-- If each place is kept once and the answers are settled, each task has its answer.
use Rattle.std.proofs.Common.{◌≡◌, ◌≢◌, ◌⊎◌, ℕ, zero, suc, ◌<◌, nat_eq, if◌then◌else◌, List, [], ◌∷◌, ◌++◌, length, slice_get, Option, Some, None, refl, sym, ◌∙◌, subst, inl, inr, ⊎_elim, arith, append_assoc, append-nil, true, false}
use Rattle.std.specs.List.{AllByRecursion, AllZip}
use Rattle.std.proofs.lemmas.Bool.Decides.{nat_tests, eqb_tells}
use Rattle.std.proofs.lemmas.Option.{slice_get_within}
use Rattle.list_laws.proofs.Pairs.{pairs_append}
use Rattle.task_pool.specs.Rule.{below, kept_weight}
use Rattle.task_pool.specs.Results.{Settled, IsWhole}

-- one at the place k, and nothing at any other
abbrev at_place : ℕ → ℕ → ℕ
at_place k j = if nat_eq j k then 1 else 0

at_same : (k j : ℕ) → j ≡ k → at_place k j ≡ 1
at_same k j e = grind (arith, nat_tests)

at_other : (k j : ℕ) → j ≢ k → at_place k j ≡ 0
at_other k j apart = grind (arith, nat_tests)

same_or_not : (j k : ℕ) → (j ≡ k) ⊎ (j ≢ k)
same_or_not j k = ⊎_elim (λ (h : (nat_eq j k ≡ true) × (j ≡ k)). inl h.1) (λ (h : (nat_eq j k ≡ false) × (j ≢ k)). inr h.1) (eqb_tells j k)

below_place : (k n : ℕ) → k < n → 0 < below (at_place k) n
below_place k zero lt = absurd (omega arith)
below_place k (suc n) lt = ⊎_elim
    (λ (here : n ≡ k). let one = at_same k n here in omega arith)
    (λ (there : n ≢ k). let more = below_place k n (omega arith) in omega arith) (same_or_not n k)

-- a place with a weight is kept, so it has what each kept place has
kept_place : {T : Type 0} (P : ℕ → Type 0) (k : ℕ) (kept : List (ℕ × T)) → 0 < kept_weight (at_place k) kept → AllByRecursion (λ e. P e.0) kept → P k
kept_place P k [] some all = absurd (omega arith)
kept_place P k (e ∷ kept) some all = ⊎_elim
    (λ (here : e.0 ≡ k). subst P here all.0)
    (λ (there : e.0 ≢ k). let none = at_other k e.0 there in kept_place P k kept (omega arith) all.1) (same_or_not e.0 k)

module _ {T D : Type 0} (owes : T → D → Type 0) where
  -- the answer is there, and is as the task owed
  abbrev pub IsAnswered : T → Option D → Type 0
  IsAnswered first answer = (done : D) × (answer ≡ Some done) × owes first done

  from_places : (enqueued : List T) (answers : List (Option D)) → length answers ≡ length enqueued
      → ((k : ℕ) (first : T) (answer : Option D) → slice_get enqueued k ≡ Some first → slice_get answers k ≡ Some answer → IsAnswered first answer) → AllZip IsAnswered enqueued answers
  from_places [] [] size each = tt
  from_places [] (a ∷ answers) size each = absurd (omega arith)
  from_places (t ∷ enqueued) [] size each = absurd (omega arith)
  from_places (t ∷ enqueued) (a ∷ answers) size each = (each 0 t a refl refl, from_places enqueued answers (omega arith) (λ k. each (suc k)))

  -- each place has its answer
  pub all_answered : (enqueued : List T) (kept : List (ℕ × T)) (answers : List (Option D)) → Settled owes enqueued kept answers → IsWhole enqueued kept → AllZip IsAnswered enqueued answers
  all_answered enqueued kept answers settled whole = from_places enqueued answers settled.size (λ k first answer at at'.
      let lt : k < length enqueued = slice_get_within enqueued k first at in
      let weight = whole (at_place k) in
      let more = below_place k (length enqueued) lt in
      let filled = kept_place (λ j. (done : D) × (slice_get answers j ≡ Some (Some done))) k kept (omega arith) settled.filled in
      let owed = settled.owed k filled.0 filled.1 in
      let same : answer ≡ Some filled.0 = let two = filled.1 in cc in
      let task : owed.0 ≡ first = let there = owed.1 in cc in
      (filled.0, same, subst (λ t. owes t filled.0) task owed.2))

  -- the first tasks have these answers, and the others go with the answers that are left
  pub record Answering (enqueued : List T) (left : List (Option D)) (dones : List D) : Type 0 where
    pub before : List T
    pub after : List T
    pub split : enqueued ≡ before ++ after
    pub paid : AllZip owes before dones
    pub owing : AllZip IsAnswered after left

  pub answering_begins : (enqueued : List T) (answers : List (Option D)) → AllZip IsAnswered enqueued answers → Answering enqueued answers []
  answering_begins enqueued answers all = record { before = []; after = enqueued; split = refl; paid = tt; owing = all }

  pub answering_none : (enqueued : List T) (left : List (Option D)) (dones : List D) → Answering enqueued (None ∷ left) dones → ⊥
  answering_none enqueued left dones s = go s.after s.owing
    where
      go : (after : List T) → AllZip IsAnswered after (None ∷ left) → ⊥
      go [] owing = owing
      go (t ∷ after) owing = let none = owing.0.1 in cc

  pub answering_more : (enqueued : List T) (done : D) (left : List (Option D)) (dones : List D) → Answering enqueued (Some done ∷ left) dones → Answering enqueued left (dones ++ done ∷ [])
  answering_more enqueued done left dones s = go s.after s.split s.owing
    where
      go : (after : List T) → enqueued ≡ s.before ++ after → AllZip IsAnswered after (Some done ∷ left) → Answering enqueued left (dones ++ done ∷ [])
      go [] split owing = absurd owing
      go (t ∷ after) split owing =
          let same : owing.0.0 ≡ done = let e = owing.0.1 in cc in
          record {
            before = s.before ++ t ∷ [];
            after = after;
            split = split ∙ sym (append_assoc s.before (t ∷ []) after);
            paid = pairs_append owes s.before (t ∷ []) dones (done ∷ []) s.paid (subst (owes t) same owing.0.2, tt);
            owing = owing.1;
          }

  pub answering_ends : (enqueued : List T) (dones : List D) → Answering enqueued [] dones → AllZip owes enqueued dones
  answering_ends enqueued dones s = go s.after s.split s.owing
    where
      go : (after : List T) → enqueued ≡ s.before ++ after → AllZip IsAnswered after [] → AllZip owes enqueued dones
      go [] split owing = subst (λ l. AllZip owes l dones) (sym (split ∙ append-nil s.before)) s.paid
      go (t ∷ after) split owing = absurd owing
