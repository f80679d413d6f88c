-- The sessions with hostile callers: all of them, and in order.
use Rattle.std.proofs.Common.{◌≡◌, ◌⊎◌, inl, inr, ℕ, zero, suc, ◌+◌, ◌-◌, ◌<◌, ◌≤◌, List, [], ◌∷◌, ◌++◌, map, length, refl, ap, sym, ◌∙◌, subst, arith, Some}
use Rattle.std.specs.Prelude.{◌==◌, nat_lt, Bool, true, false, slice_get, slice_index_or, AllPairs, if◌then◌else◌}
use Rattle.std.specs.List.{flat_map}
use denote.Ref.{Bor}
use denote.Param.Members.{Mut}
use Rattle.std.specs.Fn.{Called, ComputesKey}
use Rattle.std.specs.List.Sorted.{IsSortedByKey}
use Rattle.std.proofs.lemmas.Fn.{always_returns_same}
use Rattle.std.specs.Ordering.{is_lt, nat_cmp, ordering_then}
use Rattle.std.specs.declared.cmp.Ordering.{Ordering}
use Rattle.std.proofs.lemmas.Bool.{false≢true}
use Rattle.std.proofs.lemmas.Bool.Decides.{nat_tests}
use Rattle.std.proofs.lemmas.List.{get_or-map, length-map}
use Rattle.scenario_file.specs.Scenario.{Plan as Scenario, hostile_at}
use Rattle.task_duties.specs.declared.done.ServedDone.{ServedDone}
use Rattle.task_duties.specs.Places.{numbers}
use Rattle.run_laws.specs.Run.{Run}
use Rattle.run_laws.specs.HostileSessions.{hostile_sessions, session_line, sessions_at, stands_before}
use Rattle.scenario_run.specs.declared.sessions.Session.{Session}
use Rattle.scenario_run.specs.Parts.{ReportPart}
use Rattle.scenario_run.specs.Sessions.{HaveServed, seen, sessions_from, sessions_of, sessions_with}

-- ---- all of them

abbrev ServedFrom : Run → ℕ → List (List ServedDone) → Type 0
ServedFrom run d [] = Unit {0}
ServedFrom run d (served ∷ more) = (served ≡ run.served d) × ServedFrom run (d + 1) more

from_numbers : (s : Scenario) (run : Run) (d : ℕ) (all : List (List ServedDone)) → ServedFrom run d all → sessions_from s d all ≡ flat_map (sessions_at s run) (numbers d 1 (length all))
from_numbers s run d [] are = refl
from_numbers s run d (served ∷ more) are =
    ap (λ x. sessions_of s d x ++ sessions_from s (d + 1) more) are.0 ∙ ap (λ l. sessions_of s d (run.served d) ++ l) (from_numbers s run (d + 1) more are.1)

served_from : (run : Run) (d : ℕ) (reports : List ReportPart) → ((k : ℕ) (part : ReportPart) → slice_get reports k ≡ Some part → part.served ≡ run.served (k + d)) → ServedFrom run d (map (λ r. r.served) reports)
served_from run d [] each = tt
served_from run d (r ∷ reports) each =
    (each 0 r refl ∙ ap (λ n. run.served n) (let e : 0 + d ≡ d = omega arith in e), served_from run (d + 1) reports (λ k part is. each (suc k) part is ∙ ap (λ n. run.served n) (let e : suc k + d ≡ k + (d + 1) = omega arith in e)))

none_of : (s : Scenario) (d : ℕ) → sessions_of s d [] ≡ []
none_of s d = by (hostile_at s d)
  where
    by : (b : Bool) → (if b then [] else sessions_with s d []) ≡ []
    by true = refl
    by false = refl

pub all_sessions : (s : Scenario) (run : Run) (reports : List ReportPart) → length reports ≡ length s.domains + 1 → HaveServed run reports → sessions_from s 0 (map (λ r. r.served) reports) ≡ hostile_sessions s run
all_sessions s run [] count have = absurd (omega (arith, count))
all_sessions s run (r ∷ reports) count have =
    ap (λ x. sessions_of s 0 x ++ sessions_from s 1 (map (λ r. r.served) reports)) (have.each 0 r refl ∙ have.broker)
    ∙ ap (λ l. l ++ sessions_from s 1 (map (λ r. r.served) reports)) (none_of s 0)
    ∙ from_numbers s run 1 (map (λ r. r.served) reports) (served_from run 1 reports (λ k part is. have.each (suc k) part is ∙ ap (λ n. run.served n) (let e : suc k ≡ k + 1 = omega arith in e)))
    ∙ ap (λ n. flat_map (sessions_at s run) (numbers 1 1 n)) (length-map reports (λ r. r.served) ∙ (let e : length reports ≡ length s.domains = omega (arith, count) in e))

-- ---- their lines

pub lines_seen : (s : Scenario) (xs : List Session) → map (λ x. session_line s (seen x)) xs ≡ map (session_line s) (map seen xs)
lines_seen s [] = refl
lines_seen s (x ∷ xs) = ap (λ l. session_line s (seen x) ∷ l) (lines_seen s xs)

first_of : {A : Type 0} (xs : List A) (k : ℕ) → k < length xs → A
first_of [] k within = absurd (omega (arith, within))
first_of (x ∷ xs) k within = x

pub pairs_seen : (xs : List Session) → AllPairs (λ a b. stands_before (seen b) (seen a) ≡ false) xs → AllPairs (λ a b. stands_before b a ≡ false) (map seen xs)
pairs_seen xs pairs i j d less within =
    let inside : j < length xs = (let n = length-map xs seen in omega (arith, within, n)) in
    let e : Session = first_of xs j inside in
    subst (λ b. stands_before b (slice_index_or (map seen xs) i d) ≡ false) (sym (get_or-map seen xs j e d inside))
    (subst (λ a. stands_before (seen (slice_index_or xs j e)) a ≡ false) (sym (get_or-map seen xs i e d (omega (arith, less, inside))))
    (pairs i j e less inside))

-- ---- in order

-- by the caller's number, the server's number and the port
abbrev pub Upto : Session → Session → Type 0
Upto a b = (a.done.from < b.done.from) ⊎ ((a.done.from ≡ b.done.from) × ((a.to < b.to) ⊎ ((a.to ≡ b.to) × (a.done.port ≤ b.done.port))))

upto_trans : (a b c : Session) → Upto a b → Upto b c → Upto a c
upto_trans a b c (inl x) (inl y) = inl (omega (arith, x, y))
upto_trans a b c (inl x) (inr y) = inl (omega (arith, x, y.0))
upto_trans a b c (inr x) (inl y) = inl (omega (arith, x.0, y))
upto_trans a b c (inr x) (inr y) = inr (x.0 ∙ y.0, by x.1 y.1)
  where
    by : (a.to < b.to) ⊎ ((a.to ≡ b.to) × (a.done.port ≤ b.done.port)) → (b.to < c.to) ⊎ ((b.to ≡ c.to) × (b.done.port ≤ c.done.port)) → (a.to < c.to) ⊎ ((a.to ≡ c.to) × (a.done.port ≤ c.done.port))
    by (inl p) (inl q) = inl (omega (arith, p, q))
    by (inl p) (inr q) = inl (omega (arith, p, q.0))
    by (inr p) (inl q) = inl (omega (arith, p.0, q))
    by (inr p) (inr q) = inr (p.0 ∙ q.0, omega (arith, p.1, q.1))

-- if a session is ordered up to another, the other doesn't stand before it
not_before : (a b : Session) → Upto a b → stands_before (seen b) (seen a) ≡ false
not_before a b (inl x) =
    let one : nat_lt b.done.from a.done.from ≡ false = grind (arith, nat_tests, x) in
    let two : (b.done.from == a.done.from) ≡ false = grind (arith, nat_tests, x) in
    rw (one, two) refl
not_before a b (inr x) = by x.1
  where
    one : nat_lt b.done.from a.done.from ≡ false
    one = let e = x.0 in grind (arith, nat_tests, e)

    same : (b.done.from == a.done.from) ≡ true
    same = let e = x.0 in grind (arith, nat_tests, e)

    by : (a.to < b.to) ⊎ ((a.to ≡ b.to) × (a.done.port ≤ b.done.port)) → stands_before (seen b) (seen a) ≡ false
    by (inl p) =
        let three : nat_lt b.to a.to ≡ false = grind (arith, nat_tests, p) in
        let four : (b.to == a.to) ≡ false = grind (arith, nat_tests, p) in
        rw (one, same, three, four) refl
    by (inr p) =
        let three : nat_lt b.to a.to ≡ false = (let e = p.0 in grind (arith, nat_tests, e)) in
        let four : (b.to == a.to) ≡ true = (let e = p.0 in grind (arith, nat_tests, e)) in
        let five : nat_lt b.done.port a.done.port ≡ false = (let e = p.1 in grind (arith, nat_tests, e)) in
        rw (one, same, three, four, five) refl

-- the order of the keys
abbrev pub key_of : Session → ℕ × ℕ × ℕ
key_of x = (x.done.from, x.to, x.done.port)

abbrev pub key_cmp : ℕ × ℕ × ℕ → ℕ × ℕ × ℕ → Ordering
key_cmp x y = ordering_then (ordering_then (nat_cmp x.0 y.0) (nat_cmp x.1 y.1)) (nat_cmp x.2 y.2)

-- from the clause of a sort by keys, if each call returns the key
pub sorted_key : {F : Type 0} {g : Mut F (Bor Session × Unit {0}) (ℕ × ℕ × ℕ)} {f : F} (xs : List Session) → ((key : Session → ℕ × ℕ × ℕ) → ComputesKey g key f → IsSortedByKey key key_cmp xs)
    → ((a : Bor Session × Unit {0}) (r : ℕ × ℕ × ℕ) (f' : F) → Called g f a r f' → (r ≡ key_of a.0.now) × (f' ≡ f)) → IsSortedByKey key_of key_cmp xs
sorted_key {g = g} {f = f} xs up h = up key_of (always_returns_same g (λ a r. r ≡ key_of a.0.now) f h)

-- a session whose key isn't less than another's doesn't stand before it
pub sorted_next : (a b : Session) → is_lt (key_cmp (key_of b) (key_of a)) ≡ false → Upto a b
sorted_next a b h = by_from (nat_lt b.done.from a.done.from) refl (b.done.from == a.done.from) refl
  where
    by_port : b.done.from ≡ a.done.from → b.to ≡ a.to → (p : Bool) → nat_lt b.done.port a.done.port ≡ p → is_lt (nat_cmp b.done.port a.done.port) ≡ false → Upto a b
    by_port same to true is k = absurd (let k' = rw is at k in false≢true (sym k'))
    by_port same to false is k = inr (sym same, inr (sym to, (let e : a.done.port ≤ b.done.port = grind (arith, nat_tests, is) in e)))

    by_to : b.done.from ≡ a.done.from → is_lt (ordering_then (nat_cmp b.to a.to) (nat_cmp b.done.port a.done.port)) ≡ false → (p : Bool) → nat_lt b.to a.to ≡ p → (q : Bool) → (b.to == a.to) ≡ q → Upto a b
    by_to same k true is q is' = absurd (let k' = rw is at k in false≢true (sym k'))
    by_to same k false is true is' = by_port same (grind (arith, nat_tests, is')) (nat_lt b.done.port a.done.port) refl (let k' = rw (is, is') at k in k')
    by_to same k false is false is' = inr (sym same, inl (let e : a.to < b.to = grind (arith, nat_tests, is, is') in e))

    by_from : (p : Bool) → nat_lt b.done.from a.done.from ≡ p → (q : Bool) → (b.done.from == a.done.from) ≡ q → Upto a b
    by_from true is q is' = absurd (let k' = rw is at h in false≢true (sym k'))
    by_from false is true is' = by_to (grind (arith, nat_tests, is')) (let k' = rw (is, is') at h in k') (nat_lt b.to a.to) refl (b.to == a.to) refl
    by_from false is false is' = inl (let e : a.done.from < b.done.from = grind (arith, nat_tests, is, is') in e)

adjacent : (xs : List Session) → ((k : ℕ) (d : Session) → k + 1 < length xs → Upto (slice_index_or xs k d) (slice_index_or xs (k + 1) d)) → (gap i : ℕ) (d : Session) → i + suc gap < length xs
    → Upto (slice_index_or xs i d) (slice_index_or xs (i + suc gap) d)
adjacent xs next zero i d within = subst (λ n. Upto (slice_index_or xs i d) (slice_index_or xs n d)) refl (next i d within)
adjacent xs next (suc gap) i d within =
    let far : i + suc (suc gap) ≡ (i + suc gap) + 1 = omega arith in
    subst (λ n. Upto (slice_index_or xs i d) (slice_index_or xs n d)) (sym far)
    (upto_trans (slice_index_or xs i d) (slice_index_or xs (i + suc gap) d) (slice_index_or xs ((i + suc gap) + 1) d)
    (adjacent xs next gap i d (omega (arith, within))) (next (i + suc gap) d (omega (arith, within))))

pub all_ordered : (xs : List Session) → ((k : ℕ) (d : Session) → k + 1 < length xs → Upto (slice_index_or xs k d) (slice_index_or xs (k + 1) d)) → AllPairs (λ a b. stands_before (seen b) (seen a) ≡ false) xs
all_ordered xs next i j d less within =
    let gap : ℕ = j - suc i in
    let far : i + suc gap ≡ j = omega (arith, less) in
    subst (λ n. stands_before (seen (slice_index_or xs n d)) (seen (slice_index_or xs i d)) ≡ false) far
    (not_before (slice_index_or xs i d) (slice_index_or xs (i + suc gap) d) (adjacent xs next gap i d (omega (arith, within, far))))
