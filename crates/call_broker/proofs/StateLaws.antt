-- The state of a pair after some events: which domains were dropped, and how many calls it has had.
use Rattle.std.proofs.Common.{◌≡◌, ℕ, ◌+◌, ◌≤◌, List, [], ◌∷◌, ◌++◌, refl, ap, sym, ◌∙◌, arith, append_assoc, Option, Some, None, subst}
use Rattle.std.specs.Prelude.{true, false, Bool, ◌==◌, ◌&&◌, ◌||◌, if◌then◌else◌}
use Rattle.std.specs.List.{list_any}
use Rattle.std.proofs.lemmas.Bool.{and_parts, or_parts}
use Rattle.call_broker.specs.declared.decision.Entry.{Entry}
use Rattle.call_broker.specs.declared.event.Event.{Event}
use Rattle.call_broker.specs.declared.event.Event.TheVariants.{Trigger, Terminated, Dropped}
use Rattle.call_broker.specs.declared.decision.Decision.{Decision}
use Rattle.call_broker.specs.declared.decision.Decision.TheVariants.{Accepted, Refused, Ended, PassedOver}
use Rattle.call_broker.specs.Domains.{Domains, target_of}
use Rattle.call_broker.specs.Pair.{Pair, Ordered, PairState, has, belongs, decides, settles, step, run_on, state_after, at_first, decision}
use Rattle.call_broker.specs.Journal.{IsDecidedOn, events, drops, is_dropped, port_in}
use Rattle.call_broker.proofs.PortLaws.{IsStep, on_event, state_after_lem}
use Rattle.call_broker.proofs.Decided.{accepted_view}

-- ---- which domains were dropped

settles_up : (d : ℕ) (s : PairState) (e : Event) (decision : Decision) → has d s.dropped ≡ false → drops d e ≡ false → has d (settles s e decision).dropped ≡ false
settles_up d s (Dropped domain) decision up clear = rw (clear, up) refl
settles_up d s (Trigger from target service ident) (Accepted to port) up clear = up
settles_up d s (Trigger from target service ident) (Refused cause) up clear = up
settles_up d s (Trigger from target service ident) (Ended a b port) up clear = up
settles_up d s (Trigger from target service ident) PassedOver up clear = up
settles_up d s (Terminated from other q) (Accepted to port) up clear = up
settles_up d s (Terminated from other q) (Refused cause) up clear = up
settles_up d s (Terminated from other q) (Ended a b port) up clear = up
settles_up d s (Terminated from other q) PassedOver up clear = up

step_up : (hub : Domains) (pair : Pair) (d : ℕ) (s : PairState) (e : Event) → has d s.dropped ≡ false → drops d e ≡ false → has d (step hub pair s e).dropped ≡ false
step_up hub pair d s e up clear = by_own (belongs hub pair e)
  where
    by_own : (b : Bool) → has d (if b then settles s e (decides hub pair s e) else s).dropped ≡ false
    by_own true = settles_up d s e (decides hub pair s e) up clear
    by_own false = up

run_up : (hub : Domains) (pair : Pair) (d : ℕ) (s : PairState) (es : List Event) → has d s.dropped ≡ false → list_any (drops d) es ≡ false → has d (run_on hub pair s es).dropped ≡ false
run_up hub pair d s [] up clear = up
run_up hub pair d s (e ∷ es) up clear = let parts = or_parts (drops d e) (list_any (drops d) es) clear in run_up hub pair d (step hub pair s e) es (step_up hub pair d s e up parts.0) parts.1

-- a domain that clear event drops isn't dropped for any pair
pub still_up : (hub : Domains) (pair : Pair) (d : ℕ) (es : List Event) → list_any (drops d) es ≡ false → has d (state_after hub es pair).dropped ≡ false
still_up hub pair d es clear = run_up hub pair d at_first es refl clear

pub dropped_events : (d : ℕ) (journal : List Entry) → list_any (drops d) (events journal) ≡ is_dropped journal d
dropped_events d [] = refl
dropped_events d (x ∷ journal) = ap (λ b. drops d x.event || b) (dropped_events d journal)

pub none_before : (d : ℕ) (before rest : List Event) → list_any (drops d) (before ++ rest) ≡ false → list_any (drops d) before ≡ false
none_before d [] rest clear = refl
none_before d (e ∷ before) rest clear = let parts = or_parts (drops d e) (list_any (drops d) (before ++ rest)) clear in let more = none_before d before rest parts.1 in rw (parts.0, more) refl

-- ---- when an entry is decided

pub record IsDecidedAt (hub : Domains) (done : List Event) (journal : List Entry) (x : Entry) : Type 0 where
  pub before : List Event
  pub rest : List Event
  pub all : done ++ events journal ≡ before ++ x.event ∷ rest
  pub decided : x.decision ≡ decision hub before x.event

pub decided_first : (hub : Domains) (done : List Event) (x : Entry) (journal : List Entry) → IsDecidedOn hub done (x ∷ journal) → IsDecidedAt hub done (x ∷ journal) x
decided_first hub done x journal h = record { before = done; rest = events journal; all = refl; decided = h.0 }

pub decided_later : (hub : Domains) (done : List Event) (y : Entry) (journal : List Entry) (x : Entry) → IsDecidedAt hub (done ++ y.event ∷ []) journal x → IsDecidedAt hub done (y ∷ journal) x
decided_later hub done y journal x d = record { before = d.before; rest = d.rest; all = sym (append_assoc done (y.event ∷ []) (events journal)) ∙ d.all; decided = d.decided }

-- ---- how many calls a pair has had

abbrev pub names_to : ℕ → Option ℕ → Bool
names_to t None = false
names_to t (Some to) = to == t

abbrev pub call_count : Domains → ℕ → ℕ → Event → ℕ
call_count hub f t (Trigger from target service ident) = if from == f && names_to t (target_of hub target) then 1 else 0
call_count hub f t event = 0

abbrev pub call_sum : Domains → ℕ → ℕ → List Event → ℕ
call_sum hub f t [] = 0
call_sum hub f t (e ∷ es) = call_count hub f t e + call_sum hub f t es

pub call_sum_append : (hub : Domains) (f t : ℕ) (xs ys : List Event) → call_sum hub f t (xs ++ ys) ≡ call_sum hub f t xs + call_sum hub f t ys
call_sum_append hub f t [] ys = omega arith
call_sum_append hub f t (x ∷ xs) ys = omega (arith, call_sum_append hub f t xs ys)

-- an event that takes a port of the pair is one of its calls
port_counts : (hub : Domains) (before : List Event) (f t port : ℕ) (e : Event) (d : Decision) → d ≡ decision hub before e → port_in f t e d ≡ Some port → call_count hub f t e ≡ 1
port_counts hub before f t port (Trigger from target service ident) (Accepted to p) is h = by_test (from == f && to == t) refl h
  where
    by_test : (b : Bool) → (from == f && to == t) ≡ b → (if b then Some p else None) ≡ Some port → call_count hub f t (Trigger from target service ident) ≡ 1
    by_test true same e =
        let named = (accepted_view hub before from target service ident to p (sym is)).named in
        let parts = and_parts (from == f) (to == t) same in
        rw (named, parts.0, parts.1) refl
    by_test false same e = cc
port_counts hub before f t port (Trigger from target service ident) (Refused cause) is h = cc
port_counts hub before f t port (Trigger from target service ident) (Ended a b p) is h = cc
port_counts hub before f t port (Trigger from target service ident) PassedOver is h = cc
port_counts hub before f t port (Terminated from other q) d is h = cc
port_counts hub before f t port (Dropped domain) d is h = cc

one_step : (hub : Domains) (before : List Event) (f t : ℕ) (e : Event) → (step hub (Ordered f t) (state_after hub before (Ordered f t)) e).calls ≤ (state_after hub before (Ordered f t)).calls + call_count hub f t e
one_step hub before f t e = by_port (port_in f t e (decision hub before e)) refl (on_event hub before f t e)
  where
    by_port : (o : Option ℕ) → port_in f t e (decision hub before e) ≡ o → IsStep hub f t (state_after hub before (Ordered f t)) (step hub (Ordered f t) (state_after hub before (Ordered f t)) e) (port_in f t e (decision hub before e))
        → (step hub (Ordered f t) (state_after hub before (Ordered f t)) e).calls ≤ (state_after hub before (Ordered f t)).calls + call_count hub f t e
    by_port None is went = let went' = rw is at went in omega (arith, went')
    by_port (Some port) is went = let went' = rw is at went in let one = port_counts hub before f t port e (decision hub before e) refl is in let next = went'.2 in omega (arith, next, one)

calls_on : (hub : Domains) (f t : ℕ) (es done : List Event) → (state_after hub done (Ordered f t)).calls ≤ call_sum hub f t done → (state_after hub (done ++ es) (Ordered f t)).calls ≤ call_sum hub f t (done ++ es)
calls_on hub f t [] done h = let same : done ++ [] ≡ done = append_none done in rw same h
  where
    append_none : (xs : List Event) → xs ++ [] ≡ xs
    append_none [] = refl
    append_none (x ∷ xs) = ap (λ r. x ∷ r) (append_none xs)
calls_on hub f t (e ∷ es) done h =
    let next = state_after_lem hub (Ordered f t) done e in
    let stepped = one_step hub done f t e in
    let sums = call_sum_append hub f t done (e ∷ []) in
    let now : (state_after hub (done ++ e ∷ []) (Ordered f t)).calls ≤ call_sum hub f t (done ++ e ∷ []) = rw next (omega (arith, stepped, sums, h)) in
    let on = calls_on hub f t es (done ++ e ∷ []) now in
    let same : (done ++ e ∷ []) ++ es ≡ done ++ e ∷ es = append_assoc done (e ∷ []) es in
    subst (λ l. (state_after hub l (Ordered f t)).calls ≤ call_sum hub f t l) same on

-- a pair has had at most as many calls as it has triggers
pub calls_at_most : (hub : Domains) (f t : ℕ) (es : List Event) → (state_after hub es (Ordered f t)).calls ≤ call_sum hub f t es
calls_at_most hub f t es = calls_on hub f t es [] (omega arith)
