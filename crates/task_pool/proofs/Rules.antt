-- Each move keeps the rule of the queue of waiting tasks.
use Rattle.std.proofs.Common.{◌≡◌, ◌≢◌, ℕ, zero, suc, ◌+◌, ◌-◌, ◌<◌, List, [], ◌∷◌, ◌++◌, length, set, take, slice_get, Some, refl, sym, ap, ◌∙◌, subst, ⊎_elim, arith, length-append, add-one}
use Rattle.std.proofs.Math.Seq.{take-append_seam}
use Rattle.std.specs.List.{AllByRecursion}
use Rattle.list_laws.proofs.Each.{each_append, each_front, each_back, each_weaker}
use Rattle.list_laws.proofs.Places.{get_front}
use mathlib.Core.Option.{some, some-injective, some-ne-none}
use lib.ListN.{get_elem?}
use Rattle.crossbeam_queue.specs.Fifo.{Pushes, Pops, Forks, Merges, Learns}
use Rattle.crossbeam_queue.proofs.Lists.{at_set, at_snoc}
use Rattle.task_pool.specs.declared.queue.Holding.{Holding}
use Rattle.task_pool.specs.declared.waiting.Waiting.{Waiting}
use Rattle.task_pool.specs.Holding.{all_parts, joined, unused}
use Rattle.task_pool.specs.Rule.{below, kept_weight, IsEnqueued, Fits, Owing, Holds, Takes, Enqueues, Gives, Counts, IsWithin}
use Rattle.task_pool.proofs.Totals.{total_append, total_set, term_le, two_terms_le, total_alone, total_ones, below_ones}

enqueued_last : {T : Type 0} (enqueued : List T) (t : T) (i : ℕ) → i ≡ length enqueued → slice_get (enqueued ++ t ∷ []) i ≡ Some t
enqueued_last [] t zero e = refl
enqueued_last [] t (suc i) e = absurd (omega arith)
enqueued_last (x ∷ enqueued) t zero e = absurd (omega arith)
enqueued_last (x ∷ enqueued) t (suc i) e = enqueued_last enqueued t i (omega arith)

module _ {T D : Type 0} (owes : T → D → Type 0) where
  hands_set : (enqueued : List T) (views : List (Holding T)) (port : ℕ) (w : Holding T) → Fits enqueued w → ((j : ℕ) (u : Holding T) → j ≢ port → get_elem? views j ≡ some u → Fits enqueued u)
      → (j : ℕ) (u : Holding T) → get_elem? (set views port w) j ≡ some u → Fits enqueued u
  hands_set enqueued views port w mine others j u e =
      ⊎_elim (λ (x : (j ≡ port) × (w ≡ u)). subst (Fits enqueued) x.1 mine) (λ (x : (j ≢ port) × (get_elem? views j ≡ some u)). others j u x.0 x.1) (at_set views port j w u e)

  begins_at : (pass : ℕ) (v : Holding T) → get_elem? (unused all_parts [] ∷ []) pass ≡ some v → Fits [] v
  begins_at zero v at = subst (Fits []) (some-injective _ v at) (record { knows = λ _. refl; idle = λ none. absurd (omega arith); placed = tt })
  begins_at (suc pass) v at = absurd (some-ne-none v (sym at))

  pub begins : Holds owes [] (unused all_parts [] ∷ [])
  begins = record { enqueued = []; parts = refl; once = λ weight. refl; waiting = tt; hands = begins_at }

  -- a pass with a part keeps fewer places than were enqueued, while one waits
  room : (v : Holding T) (x : Waiting T) (items : List (Waiting T)) (views : List (Holding T)) (port : ℕ) → 0 < v.parts → get_elem? views port ≡ some v
      → (h : Holds owes (x ∷ items) views) → length v.kept < length v.enqueued
  room v x items views port some_part at h =
      let same : length v.enqueued ≡ length h.enqueued = ap length ((h.hands port v at).knows some_part) in
      let sum = h.once (λ _. 1) in
      let mine = term_le (λ (u : Holding T). kept_weight (λ _. 1) u.kept) views port v at in
      let kept : kept_weight (λ _. 1) v.kept ≡ length v.kept = total_ones v.kept in
      omega (arith, below_ones (length h.enqueued))

  pub takes : (port : ℕ) (v : Holding T) → 0 < v.parts → Pops (Holds owes) port v (Takes owes v)
  takes port v some_part x items views h at =
      let mine = h.hands port v at in
      let first = h.waiting.0 in
      let w : Holding T = record v { kept = v.kept ++ (x.place, first.first) ∷ []; taken = v.taken ++ (x.place, x.task) ∷ [] } in (
        w,
        record {
          enqueued = h.enqueued;
          parts = (let e = total_set (λ (u : Holding T). u.parts) views port v w at in let p = h.parts in omega arith);
          once = λ weight.
              let e = total_set (λ (u : Holding T). kept_weight weight u.kept) views port v w at in
              let p = h.once weight in
              omega (arith, total_append (λ (e : ℕ × T). weight e.0) v.kept ((x.place, first.first) ∷ []));
          waiting = h.waiting.1;
          hands = hands_set h.enqueued views port w
              (record { knows = mine.knows; idle = λ none. absurd (omega arith); placed = each_append (IsEnqueued h.enqueued) v.kept ((x.place, first.first) ∷ []) mine.placed (first.at, tt) })
              (λ j u other there. h.hands j u there);
        },
        record { first = first.first; keeps = refl; at = ap (λ l. slice_get l x.place) (mine.knows some_part) ∙ first.at; pays = first.pays; room = room v x items views port some_part at h },
      )

  pub gives : (n port : ℕ) (v : Holding T) (x : Waiting T) (rest : List (ℕ × T)) (first : T) → 0 < v.parts → v.kept ≡ rest ++ (x.place, first) ∷ []
      → ((done : D) → owes x.task done → owes first done) → Pushes (Holds owes) n port v x (Gives v x)
  gives n port v x rest first some_part is pays items views _ h at =
      let mine = h.hands port v at in
      let count : length v.kept ≡ length rest + 1 = ap length is ∙ length-append rest ((x.place, first) ∷ []) in
      let less : length v.kept - 1 ≡ length rest = omega arith in
      let front : take (length v.kept - 1) v.kept ≡ rest = ap (λ k. take k v.kept) less ∙ (ap (λ l. take (length rest) l) is ∙ take-append_seam rest ((x.place, first) ∷ [])) in
      let placed : AllByRecursion (IsEnqueued h.enqueued) (rest ++ (x.place, first) ∷ []) = subst (AllByRecursion (IsEnqueued h.enqueued)) is mine.placed in
      let w : Holding T = record v { kept = take (length v.kept - 1) v.kept; given = v.given ++ (x.place, x.task) ∷ [] } in (
        w,
        record {
          enqueued = h.enqueued;
          parts = (let e = total_set (λ (u : Holding T). u.parts) views port v w at in let p = h.parts in omega arith);
          once = λ weight.
              let e = total_set (λ (u : Holding T). kept_weight weight u.kept) views port v w at in
              let p = h.once weight in
              let before : kept_weight weight v.kept ≡ kept_weight weight rest + weight x.place =
              ap (kept_weight weight) is ∙ (total_append (λ (e : ℕ × T). weight e.0) rest ((x.place, first) ∷ []) ∙ ap (λ k. kept_weight weight rest + k) (omega arith)) in
              let after : kept_weight weight w.kept ≡ kept_weight weight rest = ap (kept_weight weight) front in
              omega (arith, total_append (λ (y : Waiting T). weight y.place) items (x ∷ []));
          waiting = each_append (Owing owes h.enqueued) items (x ∷ []) h.waiting
              (record { first = first; at = (each_back (IsEnqueued h.enqueued) rest ((x.place, first) ∷ []) placed).0; pays = pays }, tt);
          hands = hands_set h.enqueued views port w
              (record {
                knows = mine.knows;
                idle = λ none. absurd (omega arith);
                placed = subst (AllByRecursion (IsEnqueued h.enqueued)) (sym front) (each_front (IsEnqueued h.enqueued) rest ((x.place, first) ∷ []) placed);
              })
              (λ j u other there. h.hands j u there);
        },
        refl,
      )

  pub enqueues : (n port : ℕ) (v : Holding T) (x : Waiting T) → v.parts ≡ all_parts → x.place ≡ length v.enqueued → Pushes (Holds owes) n port v x (Enqueues v x)
  enqueues n port v x all next items views _ h at =
      let mine = h.hands port v at in
      let same : v.enqueued ≡ h.enqueued = mine.knows (omega arith) in
      let longer : List T = v.enqueued ++ x.task ∷ [] in
      let stays : (i : ℕ) (t : T) → slice_get h.enqueued i ≡ Some t → slice_get longer i ≡ Some t = λ i t there. get_front v.enqueued (x.task ∷ []) i t (ap (λ l. slice_get l i) same ∙ there) in
      let w : Holding T = record v { enqueued = longer } in (
        w,
        record {
          enqueued = longer;
          parts = (let e = total_set (λ (u : Holding T). u.parts) views port v w at in let p = h.parts in omega arith);
          once = λ weight.
              let e = total_set (λ (u : Holding T). kept_weight weight u.kept) views port v w at in
              let p = h.once weight in
              let size : below weight (length longer) ≡ below weight (length h.enqueued) + weight x.place =
              ap (below weight) (length-append v.enqueued (x.task ∷ []) ∙ add-one (length v.enqueued)) ∙ (ap (λ k. below weight k + weight (length v.enqueued)) (ap length same) ∙ ap (λ k. below weight (length h.enqueued) + weight k) (sym next)) in
              omega (arith, total_append (λ (y : Waiting T). weight y.place) items (x ∷ []));
          waiting = each_append (Owing owes longer) items (x ∷ [])
              (each_weaker (Owing owes h.enqueued) (Owing owes longer) (λ y owing. record { first = owing.first; at = stays y.place owing.first owing.at; pays = owing.pays }) items h.waiting)
              (record { first = x.task; at = enqueued_last v.enqueued x.task x.place next; pays = λ done owed. owed }, tt);
          hands = hands_set longer views port w
              (record { knows = λ _. refl; idle = λ none. absurd (omega arith); placed = each_weaker (IsEnqueued h.enqueued) (IsEnqueued longer) (λ e there. stays e.0 e.1 there) v.kept mine.placed })
              (λ j u other there.
              let le = two_terms_le (λ (u : Holding T). u.parts) views port j v u at there other in
              let p = h.parts in
              let none : u.parts ≡ 0 = omega arith in
              record {
                knows = λ some_part. absurd (omega arith);
                idle = (h.hands j u there).idle;
                placed = subst (AllByRecursion (IsEnqueued longer)) (sym ((h.hands j u there).idle none)) tt;
              });
        },
        refl,
      )

  pub forks : (port : ℕ) (v : Holding T) → 1 < v.parts → Forks (Holds owes) port v (record v { parts = v.parts - 1 }) (unused 1 v.enqueued)
  forks port v parts items views h at =
      let mine = h.hands port v at in
      let left : Holding T = record v { parts = v.parts - 1 } in
      let right : Holding T = unused 1 v.enqueued in
      let others = hands_set h.enqueued views port left (record { knows = λ _. mine.knows (omega arith); idle = λ none. absurd (omega arith); placed = mine.placed }) (λ j u other there. h.hands j u there) in
      record {
        enqueued = h.enqueued;
        parts = (let e = total_set (λ (u : Holding T). u.parts) views port v left at in let p = h.parts in omega (arith, total_append (λ (u : Holding T). u.parts) (set views port left) (right ∷ [])));
        once = λ weight.
            let e = total_set (λ (u : Holding T). kept_weight weight u.kept) views port v left at in
            let p = h.once weight in
            omega (arith, total_append (λ (u : Holding T). kept_weight weight u.kept) (set views port left) (right ∷ []));
        waiting = h.waiting;
        hands = λ j u there. ⊎_elim (λ (old : get_elem? (set views port left) j ≡ some u). others j u old)
            (λ (is : right ≡ u). subst (Fits h.enqueued) is (record { knows = λ _. mine.knows (omega arith); idle = λ none. refl; placed = tt }))
            (at_snoc (set views port left) right u j there);
      }

  pub merges : (port : ℕ) (v : Holding T) (other : ℕ) (u : Holding T) → 0 < v.parts → 0 < u.parts
      → Merges (Holds owes) port v other u (joined v u) (unused 0 [])
  merges port v other u some_part part items views h at apart at' =
      let mine = h.hands port v at in
      let both : Holding T = joined v u in
      let spent : Holding T = unused 0 [] in
      let was : get_elem? views other ≡ some u = ⊎_elim (λ (x : (other ≡ port) × (both ≡ u)). absurd (apart x.0)) (λ (x : (other ≢ port) × (get_elem? views other ≡ some u)). x.1) (at_set views port other both u at') in
      let theirs = h.hands other u was in
      record {
        enqueued = h.enqueued;
        parts = (let e = total_set (λ (u : Holding T). u.parts) views port v both at in let d = total_set (λ (u : Holding T). u.parts) (set views port both) other u spent at' in let p = h.parts in omega arith);
        once = λ weight.
            let e = total_set (λ (u : Holding T). kept_weight weight u.kept) views port v both at in
            let d = total_set (λ (u : Holding T). kept_weight weight u.kept) (set views port both) other u spent at' in
            let p = h.once weight in
            omega (arith, total_append (λ (e : ℕ × T). weight e.0) v.kept u.kept);
        waiting = h.waiting;
        hands = hands_set h.enqueued (set views port both) other spent (record { knows = λ part. absurd (omega arith); idle = λ _. refl; placed = tt })
            (λ j y _ there. hands_set h.enqueued views port both
            (record { knows = λ _. mine.knows some_part; idle = λ none. absurd (omega arith); placed = each_append (IsEnqueued h.enqueued) v.kept u.kept mine.placed theirs.placed })
            (λ i x _ at. h.hands i x at) j y there);
      }

  pub counts : (port : ℕ) (v : Holding T) → Learns (Holds owes) port v (Counts v)
  counts port v items views h at all weight =
      let mine = h.hands port v at in
      let same : length v.enqueued ≡ length h.enqueued = ap length (mine.knows (omega arith)) in
      let alone = total_alone (λ (u : Holding T). kept_weight weight u.kept) (λ (u : Holding T). u.parts) views port v
      (λ j u there none. ap (kept_weight weight) ((h.hands j u there).idle none)) at (h.parts ∙ sym all) in
      let p = h.once weight in
      let size : below weight (length v.enqueued) ≡ below weight (length h.enqueued) = ap (below weight) same in
      omega arith

  pub within : (port : ℕ) (v : Holding T) → Learns (Holds owes) port v (IsWithin v)
  within port v items views h at some_part =
      let same : length v.enqueued ≡ length h.enqueued = ap length ((h.hands port v at).knows some_part) in
      let sum = h.once (λ _. 1) in
      omega (arith, total_ones items, below_ones (length h.enqueued))

-- a pass with a part, which knows fewer tasks than the queue has room for, never finds it full
pub never_full : {T : Type 0} (v : Holding T) (items : List (Waiting T)) (room : ℕ) → 0 < v.parts → length items ≡ room → IsWithin v items → length v.enqueued < room → ⊥
never_full v items room some_part full known short = let few = known some_part in omega arith

front_of : {X : Type 0} (xs : List X) (e : X) → take (length (xs ++ e ∷ []) - 1) (xs ++ e ∷ []) ≡ xs
front_of xs e =
    let count : length (xs ++ e ∷ []) - 1 ≡ length xs = (let n = length-append xs (e ∷ []) in omega arith) in
    ap (λ k. take k (xs ++ e ∷ [])) count ∙ take-append_seam xs (e ∷ [])

-- a place is kept no longer once its task, which was taken last, is given back
pub came_round : {T : Type 0} (v u w : Holding T) (place : ℕ) (first before now : T) → u ≡ record v { kept = v.kept ++ (place, first) ∷ []; taken = v.taken ++ (place, before) ∷ [] }
    → Gives u (record { place = place; task = now }) w → w ≡ record v { taken = v.taken ++ (place, before) ∷ []; given = v.given ++ (place, now) ∷ [] }
came_round {T} v u w place first before now took gave =
    let back : Holding T → Holding T = λ h. record h { kept = take (length h.kept - 1) h.kept; given = h.given ++ (place, now) ∷ [] } in
    gave ∙ ap back took ∙ ap (λ k. let h : Holding T = record v { kept = k; taken = v.taken ++ (place, before) ∷ []; given = v.given ++ (place, now) ∷ [] } in h) (front_of v.kept (place, first))
