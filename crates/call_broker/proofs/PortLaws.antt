-- Ports-apart: the accepted calls of an ordered pair have the ports from its first one on, by steps of 2, and no more than it has pages.
use Rattle.std.proofs.Common.{◌≡◌, ◌≢◌, ℕ, ◌+◌, ◌*◌, ◌<◌, ◌≤◌, suc, zero, List, [], ◌∷◌, ◌++◌, length, refl, ap, sym, subst, ◌∙◌, arith, ◌⊎◌, inl, inr, Option, Some, None}
use Rattle.std.specs.Prelude.{true, false, Bool, min, max, ◌%◌, nat_le, nat_lt, slice_index_or, ◌==◌, ◌&&◌, not, if◌then◌else◌}
use Rattle.std.proofs.lemmas.Bool.{cases_lt, and_parts}
use Rattle.std.proofs.lemmas.Bool.Decides.{nat_tests}
use Rattle.call_broker.specs.declared.decision.Entry.{Entry}
use Rattle.call_broker.specs.declared.event.Event.{Event}
use Rattle.call_broker.specs.declared.event.Event.TheVariants.{Trigger, Terminated, Dropped}
use Rattle.call_broker.specs.declared.decision.Cause.{Cause}
use Rattle.call_broker.specs.declared.decision.Cause.TheVariants.{NoDomain, SameDomain, NoService}
use Rattle.call_broker.specs.declared.decision.Decision.{Decision}
use Rattle.call_broker.specs.declared.decision.Decision.TheVariants.{Accepted, Refused, Ended, PassedOver}
use Rattle.call_broker.specs.Domains.{Domains, is_domain, is_odd, target_of, is_service, pages_of, port_after}
use Rattle.call_broker.specs.Pair.{Pair, Ordered, Alone, PairState, has, is_pair, towards, by_port, belongs, takes_call, answers, ends_call, decides, settles, step, run_on, state_after, at_first, decision}
use Rattle.call_broker.specs.Journal.{IsDecidedOn, port_in, accepted_ports}
use Rattle.call_broker.specs.Laws.{ports_from, PortsFollow, PortsApart, PortNamesPair}

pub run_on_append : (hub : Domains) (pair : Pair) (s : PairState) (xs ys : List Event) → run_on hub pair s (xs ++ ys) ≡ run_on hub pair (run_on hub pair s xs) ys
run_on_append hub pair s [] ys = refl
run_on_append hub pair s (e ∷ xs) ys = run_on_append hub pair (step hub pair s e) xs ys

-- a decision that accepts no call
abbrev pub AcceptsNone : Decision → Type 0
AcceptsNone (Accepted to port) = ⊥
AcceptsNone decision = Unit {0}

-- a trigger is accepted with the pair's next port, while pages are left, or isn't accepted
abbrev pub IsAnswer : Domains → PairState → ℕ → ℕ → Decision → Type 0
IsAnswer hub s from to d = AcceptsNone d ⊎ ((d ≡ Accepted to (port_after from to s.calls)) × (s.calls < pages_of hub from to))

takes_view : (hub : Domains) (s : PairState) (from to : ℕ) → IsAnswer hub s from to (takes_call hub s from to)
takes_view hub s from to = by_dropped (has to s.dropped) refl
  where
    by_pages : (b : Bool) → nat_le (pages_of hub from to) s.calls ≡ b → has to s.dropped ≡ false → nat_le 16 (length s.live) ≡ false → IsAnswer hub s from to (takes_call hub s from to)
    by_pages true is kept few = rw (kept, few, is) (inl tt)
    by_pages false is kept few = let left : s.calls < pages_of hub from to = grind (arith, nat_tests, is) in rw (kept, few, is) (inr (refl, left))

    by_full : (b : Bool) → nat_le 16 (length s.live) ≡ b → has to s.dropped ≡ false → IsAnswer hub s from to (takes_call hub s from to)
    by_full true is kept = rw (kept, is) (inl tt)
    by_full false is kept = by_pages (nat_le (pages_of hub from to) s.calls) refl kept is

    by_dropped : (b : Bool) → has to s.dropped ≡ b → IsAnswer hub s from to (takes_call hub s from to)
    by_dropped true is = rw is (inl tt)
    by_dropped false is = by_full (nat_le 16 (length s.live)) refl is

-- what is left of a decision on a trigger to another domain
abbrev pub rest_of : Domains → PairState → ℕ → ℕ → List ℕ → Decision
rest_of hub s from to service = if not (is_service service) then Refused NoService else takes_call hub s from to

pub rest_view : (hub : Domains) (s : PairState) (from to : ℕ) (service : List ℕ) → IsAnswer hub s from to (if has from s.dropped then PassedOver else rest_of hub s from to service)
rest_view hub s from to service = by_dropped (has from s.dropped)
  where
    by_service : (b : Bool) → IsAnswer hub s from to (if not b then Refused NoService else takes_call hub s from to)
    by_service true = takes_view hub s from to
    by_service false = inl tt

    by_dropped : (b : Bool) → IsAnswer hub s from to (if b then PassedOver else rest_of hub s from to service)
    by_dropped true = inl tt
    by_dropped false = by_service (is_service service)

-- what an entry does to an ordered pair: it gives out the pair's next port, or no port of the pair
abbrev pub IsStep : Domains → ℕ → ℕ → PairState → PairState → Option ℕ → Type 0
IsStep hub f t s after None = after.calls ≡ s.calls
IsStep hub f t s after (Some port) = (port ≡ port_after f t s.calls) × (s.calls < pages_of hub f t) × (after.calls ≡ s.calls + 1)

settles_none : (hub : Domains) (f t : ℕ) (s : PairState) (from : ℕ) (target service ident : List ℕ) (d : Decision) → AcceptsNone d
    → IsStep hub f t s (settles s (Trigger from target service ident) d) (port_in f t (Trigger from target service ident) d)
settles_none hub f t s from target service ident (Accepted to port) h = absurd h
settles_none hub f t s from target service ident (Refused cause) h = refl
settles_none hub f t s from target service ident (Ended a b port) h = refl
settles_none hub f t s from target service ident PassedOver h = refl

no_port : (f t from : ℕ) (target service ident : List ℕ) (d : Decision) → AcceptsNone d → port_in f t (Trigger from target service ident) d ≡ None
no_port f t from target service ident (Accepted to port) h = absurd h
no_port f t from target service ident (Refused cause) h = refl
no_port f t from target service ident (Ended a b port) h = refl
no_port f t from target service ident PassedOver h = refl

-- a trigger of the pair itself
own_trigger : (hub : Domains) (f t : ℕ) (s : PairState) (target service ident : List ℕ) (d : Decision) → IsAnswer hub s f t d
    → IsStep hub f t s (settles s (Trigger f target service ident) d) (port_in f t (Trigger f target service ident) d)
own_trigger hub f t s target service ident d (inl none) = settles_none hub f t s f target service ident d none
own_trigger hub f t s target service ident d (inr is) =
    let here : ((f == f) && (t == t)) ≡ true = grind (arith, nat_tests) in
    rw (is.0, here) (refl, is.1, refl)

-- a trigger of another pair gives out no port of this one
other_trigger : (hub : Domains) (f t from to : ℕ) (s s' : PairState) (target service ident : List ℕ) (d : Decision) → IsAnswer hub s' from to d → (from == f && to == t) ≡ false
    → port_in f t (Trigger from target service ident) d ≡ None
other_trigger hub f t from to s s' target service ident d (inl none) apart = no_port f t from target service ident d none
other_trigger hub f t from to s s' target service ident d (inr is) apart = rw (is.0, apart) refl

-- a trigger to no domain or to its sender
refused_none : (f t from : ℕ) (target service ident : List ℕ) (b : Bool) (cause : Cause) → port_in f t (Trigger from target service ident) (if b then PassedOver else Refused cause) ≡ None
refused_none f t from target service ident true cause = refl
refused_none f t from target service ident false cause = refl

-- the step and the port by what the target names
abbrev Stepped : Domains → List Event → ℕ → ℕ → ℕ → List ℕ → List ℕ → List ℕ → Pair → Decision → Decision → Type 0
Stepped hub before f t from target service ident pair here there =
    IsStep hub f t (state_after hub before (Ordered f t))
    (if is_pair pair (Ordered f t) then settles (state_after hub before (Ordered f t)) (Trigger from target service ident) here else state_after hub before (Ordered f t))
    (port_in f t (Trigger from target service ident) there)

-- the decision in a state of a pair
abbrev decided_in : Domains → ℕ → List ℕ → Option ℕ → PairState → Decision
decided_in hub from service o s = if has from s.dropped then PassedOver else answers hub s from service o

abbrev Goal : Domains → List Event → ℕ → ℕ → ℕ → List ℕ → List ℕ → List ℕ → Option ℕ → Type 0
Goal hub before f t from target service ident o =
    Stepped hub before f t from target service ident (towards from o)
    (decided_in hub from service o (state_after hub before (Ordered f t))) (decided_in hub from service o (state_after hub before (towards from o)))

abbrev decided_by : Domains → ℕ → ℕ → List ℕ → Bool → PairState → Decision
decided_by hub from to service b s = if has from s.dropped then PassedOver else if b then Refused SameDomain else rest_of hub s from to service

abbrev pair_by : ℕ → ℕ → Bool → Pair
pair_by from to b = if b then Alone from else Ordered from to

on_own : (hub : Domains) (before : List Event) (f t from to : ℕ) (target service ident : List ℕ) → from ≡ f → to ≡ t
    → IsStep hub f t (state_after hub before (Ordered f t))
    (settles (state_after hub before (Ordered f t)) (Trigger from target service ident) (decided_by hub from to service false (state_after hub before (Ordered f t))))
    (port_in f t (Trigger from target service ident) (decided_by hub from to service false (state_after hub before (Ordered from to))))
on_own hub before f t from to target service ident is_f is_t =
    rw (is_f, is_t) (own_trigger hub f t (state_after hub before (Ordered f t)) target service ident _ (rest_view hub (state_after hub before (Ordered f t)) f t service))

on_pair : (hub : Domains) (before : List Event) (f t from to : ℕ) (target service ident : List ℕ) (b : Bool) → (from == f && to == t) ≡ b
    → IsStep hub f t (state_after hub before (Ordered f t))
    (if b then settles (state_after hub before (Ordered f t)) (Trigger from target service ident) (decided_by hub from to service false (state_after hub before (Ordered f t))) else state_after hub before (Ordered f t))
    (port_in f t (Trigger from target service ident) (decided_by hub from to service false (state_after hub before (Ordered from to))))
on_pair hub before f t from to target service ident true same =
    let parts = and_parts (from == f) (to == t) same in
    let is_f : from ≡ f = grind (arith, nat_tests, parts.0) in
    let is_t : to ≡ t = grind (arith, nat_tests, parts.1) in
    on_own hub before f t from to target service ident is_f is_t
on_pair hub before f t from to target service ident false apart =
    let none = other_trigger hub f t from to (state_after hub before (Ordered f t)) (state_after hub before (Ordered from to)) target service ident _ (rest_view hub (state_after hub before (Ordered from to)) from to service) apart in
    rw none refl

on_named : (hub : Domains) (before : List Event) (f t from to : ℕ) (target service ident : List ℕ) (b : Bool)
    → Stepped hub before f t from target service ident (pair_by from to b)
    (decided_by hub from to service b (state_after hub before (Ordered f t))) (decided_by hub from to service b (state_after hub before (pair_by from to b)))
on_named hub before f t from to target service ident true =
    rw (refused_none f t from target service ident (has from (state_after hub before (Alone from)).dropped) SameDomain) refl
on_named hub before f t from to target service ident false = on_pair hub before f t from to target service ident (from == f && to == t) refl

on_target : (hub : Domains) (before : List Event) (f t from : ℕ) (target service ident : List ℕ) (o : Option ℕ) → Goal hub before f t from target service ident o
on_target hub before f t from target service ident None =
    rw (refused_none f t from target service ident (has from (state_after hub before (Alone from)).dropped) NoDomain) refl
on_target hub before f t from target service ident (Some to) = on_named hub before f t from to target service ident (to == from)

-- an event that isn't a trigger changes no count
settles_calls : (hub : Domains) (pair : Pair) (s : PairState) (from other port : ℕ) → (settles s (Terminated from other port) (decides hub pair s (Terminated from other port))).calls ≡ s.calls
settles_calls hub pair s from other port = by_dropped (has from s.dropped)
  where
    by_live : (f t : ℕ) (b : Bool) → (settles s (Terminated from other port) (if b then Ended f t port else PassedOver)).calls ≡ s.calls
    by_live f t true = refl
    by_live f t false = refl

    by_pair : (pair' : Pair) → (settles s (Terminated from other port) (ends_call pair' s port)).calls ≡ s.calls
    by_pair (Ordered f t) = by_live f t (has port s.live)
    by_pair (Alone d) = refl

    by_dropped : (b : Bool) → (settles s (Terminated from other port) (if b then PassedOver else ends_call pair s port)).calls ≡ s.calls
    by_dropped true = refl
    by_dropped false = by_pair pair

step_if : (s next : PairState) → next.calls ≡ s.calls → (b : Bool) → (if b then next else s).calls ≡ s.calls
step_if s next same true = same
step_if s next same false = refl

pub on_event : (hub : Domains) (before : List Event) (f t : ℕ) (e : Event)
    → IsStep hub f t (state_after hub before (Ordered f t)) (step hub (Ordered f t) (state_after hub before (Ordered f t)) e) (port_in f t e (decision hub before e))
on_event hub before f t (Trigger from target service ident) = on_target hub before f t from target service ident (target_of hub target)
on_event hub before f t (Terminated from other port) =
    step_if (state_after hub before (Ordered f t)) _ (settles_calls hub (Ordered f t) (state_after hub before (Ordered f t)) from other port) (belongs hub (Ordered f t) (Terminated from other port))
on_event hub before f t (Dropped domain) = step_if (state_after hub before (Ordered f t)) _ refl (belongs hub (Ordered f t) (Dropped domain))

one_more : (hub : Domains) (f t : ℕ) (s after : PairState) (x : Entry) (journal : List Entry) (o : Option ℕ) → port_in f t x.event x.decision ≡ o → IsStep hub f t s after o
    → (after.calls ≤ pages_of hub f t → PortsFollow hub f t after.calls journal) → s.calls ≤ pages_of hub f t → PortsFollow hub f t s.calls (x ∷ journal)
one_more hub f t s after x journal None is same more within =
    let rest = rw same at more in
    let on = rest within in
    record { count = on.count; within = on.within; ports = rw is on.ports }
one_more hub f t s after x journal (Some port) is went more within =
    let less = went.1 in
    let next : after.calls ≡ s.calls + 1 = went.2 in
    let on = more (omega (arith, less, next)) in
    let fits = on.within in
    let rest : accepted_ports journal f t ≡ ports_from f t (s.calls + 1) on.count = on.ports ∙ ap (λ c. ports_from f t c on.count) next in
    record { count = suc on.count; within = omega (arith, fits, next); ports = rw (is, went.0) (ap (λ r. port_after f t s.calls ∷ r) rest) }

pub ports_follow : (hub : Domains) (f t : ℕ) (journal : List Entry) (before : List Event) → IsDecidedOn hub before journal → (state_after hub before (Ordered f t)).calls ≤ pages_of hub f t
    → PortsFollow hub f t (state_after hub before (Ordered f t)).calls journal
ports_follow hub f t [] before decided within = record { count = 0; within = omega (arith, within); ports = refl }
ports_follow hub f t (x ∷ journal) before decided within =
    let stepped = on_event hub before f t x.event in
    let here : port_in f t x.event x.decision ≡ port_in f t x.event (decision hub before x.event) = ap (λ d. port_in f t x.event d) decided.0 in
    let after : state_after hub (before ++ x.event ∷ []) (Ordered f t) ≡ step hub (Ordered f t) (state_after hub before (Ordered f t)) x.event = run_on_append hub (Ordered f t) at_first before (x.event ∷ []) in
    let more = ports_follow hub f t journal (before ++ x.event ∷ []) decided.1 in
    let more' = rw after at more in
    one_more hub f t (state_after hub before (Ordered f t)) (step hub (Ordered f t) (state_after hub before (Ordered f t)) x.event) x journal (port_in f t x.event (decision hub before x.event)) here stepped more' within

ports_from_first : (hub : Domains) (f t : ℕ) (journal : List Entry) → IsDecidedOn hub [] journal → PortsFollow hub f t 0 journal
ports_from_first hub f t journal decided = ports_follow hub f t journal [] decided (omega arith)

length_ports_from : (f t calls count : ℕ) → length (ports_from f t calls count) ≡ count
length_ports_from f t calls zero = refl
length_ports_from f t calls (suc count) = ap suc (length_ports_from f t (calls + 1) count)

port_at : (f t calls count i d : ℕ) → i < count → slice_index_or (ports_from f t calls count) i d ≡ port_after f t (calls + i)
port_at f t calls zero i d within = absurd (omega (arith, within))
port_at f t calls (suc count) zero d within = ap (port_after f t) (omega arith)
port_at f t calls (suc count) (suc i) d within =
    let less : i < count = omega (arith, within) in
    let next : calls + 1 + i ≡ calls + suc i = omega arith in
    port_at f t (calls + 1) count i d less ∙ ap (port_after f t) next

ports_differ : (f t count i j d : ℕ) → i < j → j < length (ports_from f t 0 count) → slice_index_or (ports_from f t 0 count) i d ≢ slice_index_or (ports_from f t 0 count) j d
ports_differ f t count i j d before within same =
    let len = length_ports_from f t 0 count in
    let at_i = port_at f t 0 count i d (omega (arith, before, within, len)) in
    let at_j = port_at f t 0 count j d (omega (arith, within, len)) in
    let both_are : port_after f t (0 + i) ≡ port_after f t (0 + j) = sym at_i ∙ same ∙ at_j in
    omega (arith, both_are, before)

-- each accepted call of a pair has a port of its own
pub ports_apart_lem : PortsApart
ports_apart_lem hub f t journal decided =
    let follow = ports_from_first hub f t journal decided in
    (follow, λ i j d. subst (λ ports. i < j → j < length ports → slice_index_or ports i d ≢ slice_index_or ports j d) (sym follow.ports) (ports_differ f t follow.count i j d))

pub state_after_lem : (hub : Domains) (pair : Pair) (before : List Event) (e : Event) → state_after hub (before ++ e ∷ []) pair ≡ step hub pair (state_after hub before pair) e
state_after_lem hub pair before e = run_on_append hub pair at_first before (e ∷ [])

-- a Terminated of the sender for a port of the pair belongs to the pair
odd_first : (k : ℕ) → (513 + 2 * k) % 2 ≡ 1
odd_first k = omega arith

even_first : (k : ℕ) → (514 + 2 * k) % 2 ≡ 0
even_first k = omega arith

pub own_port : (hub : Domains) (f t k : ℕ) → f ≢ t → is_domain hub t ≡ true → belongs hub (Ordered f t) (Terminated f t (port_after f t k)) ≡ true
own_port hub f t k apart there = by_order (nat_lt f t) refl
  where
    other : (t == f) ≡ false
    other = grind (arith, nat_tests)

    ff : (f == f) ≡ true
    ff = grind (arith, nat_tests)

    tt' : (t == t) ≡ true
    tt' = grind (arith, nat_tests)

    by_order : (b : Bool) → nat_lt f t ≡ b → belongs hub (Ordered f t) (Terminated f t (port_after f t k)) ≡ true
    by_order true less =
        let low : min f t ≡ f = let l : f < t = grind (arith, nat_tests, less) in omega (arith, l) in
        let high : max f t ≡ t = let l : f < t = grind (arith, nat_tests, less) in omega (arith, l) in
        rw (there, other, less, odd_first k, low, high, ff, tt') refl
    by_order false less =
        let low : min f t ≡ t = let l : t ≤ f = grind (arith, nat_tests, less) in omega (arith, l) in
        let high : max f t ≡ f = let l : t ≤ f = grind (arith, nat_tests, less) in omega (arith, l) in
        rw (there, other, less, even_first k, low, high, ff, tt') refl

-- ---- a port names its pair

parity_up : (f t call : ℕ) → f < t → is_odd (port_after f t call) ≡ true
parity_up f t call less = let low : nat_lt f t ≡ true = grind (arith, nat_tests, less) in let odd = odd_first call in rw (low, odd) refl

parity_down : (f t call : ℕ) → t < f → is_odd (port_after f t call) ≡ false
parity_down f t call less = let high : nat_lt f t ≡ false = grind (arith, nat_tests, less) in let even = even_first call in rw (high, even) refl

pub port_names_pair_lem : PortNamesPair
port_names_pair_lem f t call apart = by_order (cases_lt f t)
  where
    by_order : (f < t) ⊎ (t ≤ f) → (by_port f t (port_after f t call) ≡ Ordered f t) × (by_port t f (port_after f t call) ≡ Ordered f t)
    by_order (inl less) =
        let low : min f t ≡ f = omega (arith, less) in
        let high : max f t ≡ t = omega (arith, less) in
        let low' : min t f ≡ f = omega (arith, less) in
        let high' : max t f ≡ t = omega (arith, less) in
        let odd = parity_up f t call less in (
          ap (λ b. if b then Ordered (min f t) (max f t) else Ordered (max f t) (min f t)) odd ∙ rw (low, high) refl,
          ap (λ b. if b then Ordered (min t f) (max t f) else Ordered (max t f) (min t f)) odd ∙ rw (low', high') refl,
        )
    by_order (inr more) =
        let less : t < f = omega (arith, more, apart) in
        let low : min f t ≡ t = omega (arith, less) in
        let high : max f t ≡ f = omega (arith, less) in
        let low' : min t f ≡ t = omega (arith, less) in
        let high' : max t f ≡ f = omega (arith, less) in
        let even = parity_down f t call less in (
          ap (λ b. if b then Ordered (min f t) (max f t) else Ordered (max f t) (min f t)) even ∙ rw (low, high) refl,
          ap (λ b. if b then Ordered (min t f) (max t f) else Ordered (max t f) (min t f)) even ∙ rw (low', high') refl,
        )
