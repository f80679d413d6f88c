-- What a change of one pair leaves of the table of calls.
use Rattle.std.proofs.Common.{◌≡◌, ℕ, ◌+◌, ◌∷◌, refl, ap, sym, ◌∙◌, arith, Some}
use Rattle.std.specs.Prelude.{true, false, Bool, ◌==◌, not, filter, nat_lt, cond, if◌then◌else◌}
use Rattle.std.specs.Ordering.{is_eq, nat_cmp}
use Rattle.std.specs.Cmp.{tied_then}
use Rattle.std.specs.BTreeMap.{BTreeMap, UpdatesBy}
use Rattle.std.proofs.lemmas.Bool.Decides.{nat_tests}
use Rattle.std.proofs.lemmas.Bool.{and_parts}
use Rattle.call_broker.specs.declared.calls.Calls.{Calls}
use Rattle.call_broker.specs.Tables.{pair_cmp, calls_at, live_of, number_of, is_same, AddsCall, EndsCall}

nat_cmp_eq : (x y : ℕ) → is_eq (nat_cmp x y) ≡ (x == y)
nat_cmp_eq x y = by_less (nat_lt x y) refl (x == y) refl
  where
    by_less : (less : Bool) → nat_lt x y ≡ less → (same : Bool) → (x == y) ≡ same → is_eq (nat_cmp x y) ≡ (x == y)
    by_less true l true s = absurd (let h : x ≡ y = grind (arith, nat_tests) in let k : nat_lt x y ≡ false = grind (arith, nat_tests) in cc)
    by_less true l false s = rw (l, s) refl
    by_less false l true s = rw (l, s) refl
    by_less false l false s = rw (l, s) refl

pub same_pair : (from to f t : ℕ) → is_eq (pair_cmp (from, to) (f, t)) ≡ is_same from to f t
same_pair from to f t = sym (tied_then (nat_cmp from f) (nat_cmp to t)) ∙ rw (nat_cmp_eq from f, nat_cmp_eq to t) refl

-- the pair that is one with another has its numbers
pub is_same_lem : (from to f t : ℕ) → is_same from to f t ≡ true → (from ≡ f) × (to ≡ t)
is_same_lem from to f t same =
    let parts = and_parts (from == f) (to == t) same in
    (grind (arith, nat_tests, parts.0), grind (arith, nat_tests, parts.1))

pub calls_updated : (old new : BTreeMap (ℕ × ℕ) Calls) (from to : ℕ) (calls : Calls) → UpdatesBy pair_cmp (pair_cmp (from, to)) old new (Some calls)
    → (f t : ℕ) → calls_at new f t ≡ (if is_same from to f t then Some calls else calls_at old f t)
calls_updated old new from to calls h f t = h.0 (f, t) ∙ ap (λ b. cond b (Some calls) (calls_at old f t)) (same_pair from to f t)

-- a pair whose entry has one more live call than before
pub adds_call : (old new : BTreeMap (ℕ × ℕ) Calls) (from to port : ℕ) (calls : Calls) → UpdatesBy pair_cmp (pair_cmp (from, to)) old new (Some calls)
    → calls.live.items ≡ port ∷ live_of (calls_at old from to) → calls.count ≡ number_of (calls_at old from to) + 1 → AddsCall old new from to port
adds_call old new from to port calls h live count f t = by_pair (is_same from to f t) refl
  where
    by_pair : (b : Bool) → is_same from to f t ≡ b
        → (live_of (calls_at new f t) ≡ (if is_same from to f t then port ∷ live_of (calls_at old f t) else live_of (calls_at old f t)))
        × (number_of (calls_at new f t) ≡ (if is_same from to f t then number_of (calls_at old f t) + 1 else number_of (calls_at old f t)))
    by_pair true same =
        let is = is_same_lem from to f t same in
        rw (calls_updated old new from to calls h f t, same, ← is.0, ← is.1) (live, count)
    by_pair false same = rw (calls_updated old new from to calls h f t, same) (refl, refl)

-- a pair whose entry has a live call less
pub ends_call : (old new : BTreeMap (ℕ × ℕ) Calls) (from to port : ℕ) (calls : Calls) → UpdatesBy pair_cmp (pair_cmp (from, to)) old new (Some calls)
    → calls.live.items ≡ filter (λ p. not (p == port)) (live_of (calls_at old from to)) → calls.count ≡ number_of (calls_at old from to) → EndsCall old new from to port
ends_call old new from to port calls h live count f t = by_pair (is_same from to f t) refl
  where
    by_pair : (b : Bool) → is_same from to f t ≡ b
        → (live_of (calls_at new f t) ≡ (if is_same from to f t then filter (λ p. not (p == port)) (live_of (calls_at old f t)) else live_of (calls_at old f t)))
        × (number_of (calls_at new f t) ≡ number_of (calls_at old f t))
    by_pair true same =
        let is = is_same_lem from to f t same in
        rw (calls_updated old new from to calls h f t, same, ← is.0, ← is.1) (live, count)
    by_pair false same = rw (calls_updated old new from to calls h f t, same) (refl, refl)
