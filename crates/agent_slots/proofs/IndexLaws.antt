-- The index of ends while it is filled.
use Rattle.std.proofs.Common.{◌≡◌, ◌≢◌, ℕ, ◌+◌, ◌<◌, List, refl, ap, sym, ◌∙◌, arith, Some, length}
use Rattle.std.specs.Prelude.{true, false, Bool, ◌==◌, ◌&&◌, cond, slice_get}
use Rattle.std.specs.HashMap.{get}
use Rattle.std.proofs.lemmas.Option.{slice_get_within}
use Rattle.std.proofs.lemmas.Bool.{and_parts}
use Rattle.list_laws.proofs.Tests.{equal_self, same_number}
use Rattle.task_duties.specs.declared.place.PagePlace.{PagePlace}
use Rattle.task_duties.specs.declared.place.PagePlace.TheVariants.{Payload}
use Rattle.agent_slots.specs.Slots.{AreApart}
use Rattle.agent_slots.specs.Index.{PlaceIndex, same_key, end_at, IsIndexOf}

-- keys that are the same name the same place
same_place : (a b c f t p : ℕ) → same_key (a, b, c) (f, t, p) ≡ true → Payload a b c ≡ Payload f t p
same_place a b c f t p h =
    let one = and_parts (a == f && b == t) (c == p) h in
    let two = and_parts (a == f) (b == t) one.0 in
    let e = same_number a f two.0 in
    let e' = same_number b t two.1 in
    let e'' = same_number c p one.1 in
    cc

key_self : (a b c : ℕ) → same_key (a, b, c) (a, b, c) ≡ true
key_self a b c = rw (equal_self a, equal_self b, equal_self c) refl

-- the index of the ends before a number
pub record IsIndexUpTo (count : ℕ) (places : List PagePlace) (index : PlaceIndex) : Type 0 where
  pub has : (i from to port : ℕ) → i < count → slice_get places i ≡ Some (Payload from to port) → end_at index from to port ≡ Some i
  pub has_only : (i from to port : ℕ) → end_at index from to port ≡ Some i → (i < count) × (slice_get places i ≡ Some (Payload from to port))

pub up_to_all : (places : List PagePlace) (index : PlaceIndex) → IsIndexUpTo (length places) places index → IsIndexOf places index
up_to_all places index h = record {
  has = λ i from to port is. h.has i from to port (slice_get_within places i (Payload from to port) is) is;
  has_only = λ i from to port is. (h.has_only i from to port is).1;
}

-- one end more
pub index_more : (places : List PagePlace) (n f t p : ℕ) (old new : PlaceIndex) → AreApart places → slice_get places n ≡ Some (Payload f t p)
    → ((q : ℕ × ℕ × ℕ) → get same_key new q ≡ cond (same_key (f, t, p) q) (Some n) (get same_key old q)) → IsIndexUpTo n places old → IsIndexUpTo (n + 1) places new
index_more places n f t p old new apart here put was = record { has = has; has_only = only }
  where
    has : (i from to port : ℕ) → i < n + 1 → slice_get places i ≡ Some (Payload from to port) → end_at new from to port ≡ Some i
    has i from to port less is = by_key (same_key (f, t, p) (from, to, port)) refl
      where
        by_key : (b : Bool) → same_key (f, t, p) (from, to, port) ≡ b → end_at new from to port ≡ Some i
        by_key true same =
            let e : n ≡ i = apart n i (Payload from to port) (here ∙ ap Some (same_place f t p from to port same)) is in
            put (from, to, port) ∙ (ap (λ b. cond b (Some n) (end_at old from to port)) same ∙ ap Some e)
        by_key false same =
            let other : i ≢ n = λ e. (let e' : Payload f t p ≡ Payload from to port = (let k = ap (slice_get places) e in cc) in let k' : same_key (f, t, p) (from, to, port) ≡ true = subst_key from to port e' in let w : false ≡ true = sym same ∙ k' in absurd_eq w) in
            let below : i < n = omega (arith, less, other) in
            put (from, to, port) ∙ (ap (λ b. cond b (Some n) (end_at old from to port)) same ∙ was.has i from to port below is)
          where
            subst_key : (a b c : ℕ) → Payload f t p ≡ Payload a b c → same_key (f, t, p) (a, b, c) ≡ true
            subst_key a b c e = let x : f ≡ a = cc in let y : t ≡ b = cc in let z : p ≡ c = cc in rw (← x, ← y, ← z) (key_self f t p)

            absurd_eq : false ≡ true → ⊥
            absurd_eq w = cc

    only : (i from to port : ℕ) → end_at new from to port ≡ Some i → (i < n + 1) × (slice_get places i ≡ Some (Payload from to port))
    only i from to port is = by_key (same_key (f, t, p) (from, to, port)) refl
      where
        by_key : (b : Bool) → same_key (f, t, p) (from, to, port) ≡ b → (i < n + 1) × (slice_get places i ≡ Some (Payload from to port))
        by_key true same =
            let there : Some n ≡ Some i = ap (λ b. cond b (Some n) (end_at old from to port)) (sym same) ∙ (sym (put (from, to, port)) ∙ is) in
            let e : n ≡ i = cc in
            (omega (arith, e), ap (slice_get places) (sym e) ∙ (here ∙ ap Some (same_place f t p from to port same)))
        by_key false same =
            let there : end_at old from to port ≡ Some i = ap (λ b. cond b (Some n) (end_at old from to port)) (sym same) ∙ (sym (put (from, to, port)) ∙ is) in
            let k = was.has_only i from to port there in
            (omega (arith, k.0), k.1)
