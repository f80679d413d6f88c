-- Which domains a pair takes for dropped: those that an event dropped.
use Rattle.std.proofs.Common.{◌≡◌, ℕ, List, [], ◌∷◌, ◌++◌, refl, ap, sym, ◌∙◌, arith}
use Rattle.std.specs.Prelude.{true, false, Bool, ◌==◌, ◌||◌, if◌then◌else◌}
use Rattle.std.specs.List.{list_any}
use Rattle.std.proofs.lemmas.Bool.Decides.{nat_tests}
use Rattle.std.proofs.Math.Bool.{or-false}
use Rattle.call_broker.specs.declared.event.Event.{Event}
use Rattle.call_broker.specs.declared.event.Event.TheVariants.{Trigger, Terminated, Dropped}
use Rattle.call_broker.specs.declared.decision.Decision.{Decision}
use Rattle.call_broker.specs.declared.decision.Decision.TheVariants.{Accepted, Refused, Ended, PassedOver}
use Rattle.call_broker.specs.Domains.{Domains}
use Rattle.call_broker.specs.Pair.{Pair, PairState, has, is_of, belongs, decides, settles, step, run_on, state_after, at_first}
use Rattle.call_broker.specs.Journal.{drops}

or_assoc : (a b c : Bool) → ((a || b) || c) ≡ (b || (a || c))
or_assoc true true c = refl
or_assoc true false c = refl
or_assoc false b c = refl

settles_dropped : (d : ℕ) (s : PairState) (e : Event) (decision : Decision) → has d (settles s e decision).dropped ≡ (drops d e || has d s.dropped)
settles_dropped d s (Dropped domain) decision = refl
settles_dropped d s (Trigger from target service ident) (Accepted to port) = refl
settles_dropped d s (Trigger from target service ident) (Refused cause) = refl
settles_dropped d s (Trigger from target service ident) (Ended a b port) = refl
settles_dropped d s (Trigger from target service ident) PassedOver = refl
settles_dropped d s (Terminated from other q) (Accepted to port) = refl
settles_dropped d s (Terminated from other q) (Refused cause) = refl
settles_dropped d s (Terminated from other q) (Ended a b port) = refl
settles_dropped d s (Terminated from other q) PassedOver = refl

-- a domain that is none of a pair's isn't one that is
apart_from : (d domain : ℕ) (pair : Pair) → is_of d pair ≡ true → is_of domain pair ≡ false → (domain == d) ≡ false
apart_from d domain pair mine none = by_test (domain == d) refl
  where
    by_test : (b : Bool) → (domain == d) ≡ b → (domain == d) ≡ false
    by_test true same = let e : domain ≡ d = grind (arith, nat_tests) in let here : is_of domain pair ≡ is_of d pair = ap (λ x. is_of x pair) e in absurd (cc)
    by_test false apart = apart

step_dropped : (hub : Domains) (pair : Pair) (d : ℕ) (s : PairState) (e : Event) → is_of d pair ≡ true → has d (step hub pair s e).dropped ≡ (drops d e || has d s.dropped)
step_dropped hub pair d s (Dropped domain) mine = by_own (is_of domain pair) refl
  where
    by_own : (b : Bool) → is_of domain pair ≡ b → has d (if is_of domain pair then settles s (Dropped domain) (decides hub pair s (Dropped domain)) else s).dropped ≡ (domain == d || has d s.dropped)
    by_own true own = rw own refl
    by_own false none = rw (none, apart_from d domain pair mine none) refl
step_dropped hub pair d s (Trigger from target service ident) mine = by_own (belongs hub pair (Trigger from target service ident))
  where
    by_own : (b : Bool) → has d (if b then settles s (Trigger from target service ident) (decides hub pair s (Trigger from target service ident)) else s).dropped ≡ has d s.dropped
    by_own true = settles_dropped d s (Trigger from target service ident) (decides hub pair s (Trigger from target service ident))
    by_own false = refl
step_dropped hub pair d s (Terminated from other q) mine = by_own (belongs hub pair (Terminated from other q))
  where
    by_own : (b : Bool) → has d (if b then settles s (Terminated from other q) (decides hub pair s (Terminated from other q)) else s).dropped ≡ has d s.dropped
    by_own true = settles_dropped d s (Terminated from other q) (decides hub pair s (Terminated from other q))
    by_own false = refl

run_dropped : (hub : Domains) (pair : Pair) (d : ℕ) (s : PairState) (es : List Event) → is_of d pair ≡ true → has d (run_on hub pair s es).dropped ≡ (list_any (drops d) es || has d s.dropped)
run_dropped hub pair d s [] mine = refl
run_dropped hub pair d s (e ∷ es) mine =
    run_dropped hub pair d (step hub pair s e) es mine
    ∙ ap (λ b. list_any (drops d) es || b) (step_dropped hub pair d s e mine)
    ∙ sym (or_assoc (drops d e) (list_any (drops d) es) (has d s.dropped))

-- a pair takes a domain of its own for dropped if and only if an event dropped it
pub dropped_is : (hub : Domains) (pair : Pair) (d : ℕ) (es : List Event) → is_of d pair ≡ true → has d (state_after hub es pair).dropped ≡ list_any (drops d) es
dropped_is hub pair d es mine = run_dropped hub pair d at_first es mine ∙ or-false (list_any (drops d) es)

pub any_append : {X : Type 0} (p : X → Bool) (xs ys : List X) → list_any p (xs ++ ys) ≡ (list_any p xs || list_any p ys)
any_append p [] ys = refl
any_append p (x ∷ xs) ys = ap (λ b. p x || b) (any_append p xs ys) ∙ or_shift (p x) (list_any p xs) (list_any p ys)
  where
    or_shift : (a b c : Bool) → (a || (b || c)) ≡ ((a || b) || c)
    or_shift true b c = refl
    or_shift false b c = refl

-- which domains are dropped after one more event
pub dropped_more : (d : ℕ) (es : List Event) (e : Event) → list_any (drops d) (es ++ e ∷ []) ≡ (drops d e || list_any (drops d) es)
dropped_more d es e = any_append (drops d) es (e ∷ []) ∙ turned (drops d e) (list_any (drops d) es)
  where
    turned : (a b : Bool) → (b || (a || false)) ≡ (a || b)
    turned true true = refl
    turned true false = refl
    turned false true = refl
    turned false false = refl
