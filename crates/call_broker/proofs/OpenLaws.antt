-- What is known of a pair if a call of it is accepted, or ended.
use Rattle.std.proofs.Common.{◌≡◌, ℕ, suc, ◌<◌, List, [], ◌∷◌, length, refl, ap, ◌∙◌, arith, Option, Some, None}
use Rattle.std.specs.Prelude.{true, false, Bool, ◌==◌, not, nat_le, bytes_eq, option_map, if◌then◌else◌}
use Rattle.std.proofs.lemmas.Bool.Decides.{nat_tests}
use Rattle.call_broker.specs.declared.event.Event.{Event}
use Rattle.call_broker.specs.declared.event.Event.TheVariants.{Trigger, Terminated}
use Rattle.call_broker.specs.declared.decision.Cause.TheVariants.{NoDomain, SameDomain, NoService, TargetDropped, PairFull, PortsSpent}
use Rattle.call_broker.specs.declared.decision.Decision.{Decision}
use Rattle.call_broker.specs.declared.decision.Decision.TheVariants.{Accepted, Refused, Ended, PassedOver}
use Rattle.call_broker.specs.Domains.{Domains, is_domain, place_of, domain_at, target_of, is_service, pages_of, port_after}
use Rattle.call_broker.specs.Pair.{Pair, Ordered, Alone, PairState, has, towards, pair_of, takes_call, answers, ends_call, state_after, decision}

-- an ordered pair that may have a call with this port
pub record IsOpen (hub : Domains) (s : PairState) (from to port : ℕ) : Type 0 where
  pub caller_up : has from s.dropped ≡ false
  pub target_up : has to s.dropped ≡ false
  pub room : length s.live < 16
  pub left : s.calls < pages_of hub from to
  pub port_is : port ≡ port_after from to s.calls

takes_open : (hub : Domains) (s : PairState) (from t to port : ℕ) → has from s.dropped ≡ false → takes_call hub s from t ≡ Accepted to port → (t ≡ to) × IsOpen hub s from t port
takes_open hub s from t to port caller h = by_target (has t s.dropped) refl h
  where
    by_left : (b : Bool) → nat_le (pages_of hub from t) s.calls ≡ b → has t s.dropped ≡ false → nat_le 16 (length s.live) ≡ false
        → (if b then Refused (PortsSpent (port_after from t s.calls)) else Accepted t (port_after from t s.calls)) ≡ Accepted to port → (t ≡ to) × IsOpen hub s from t port
    by_left true spent up few e = cc
    by_left false left up few e =
        let same : t ≡ to = cc in
        let port_is : port ≡ port_after from t s.calls = cc in
        let less : s.calls < pages_of hub from t = grind (arith, nat_tests, left) in
        let room : length s.live < 16 = grind (arith, nat_tests, few) in
        (same, record { caller_up = caller; target_up = up; room = room; left = less; port_is = port_is })

    by_room : (b : Bool) → nat_le 16 (length s.live) ≡ b → has t s.dropped ≡ false
        → (if b then Refused (PairFull (length s.live)) else if nat_le (pages_of hub from t) s.calls then Refused (PortsSpent (port_after from t s.calls)) else Accepted t (port_after from t s.calls)) ≡ Accepted to port
        → (t ≡ to) × IsOpen hub s from t port
    by_room true full up e = cc
    by_room false few up e = by_left (nat_le (pages_of hub from t) s.calls) refl up few e

    by_target : (b : Bool) → has t s.dropped ≡ b
        → (if b then Refused TargetDropped else if nat_le 16 (length s.live) then Refused (PairFull (length s.live)) else if nat_le (pages_of hub from t) s.calls then Refused (PortsSpent (port_after from t s.calls)) else Accepted t (port_after from t s.calls)) ≡ Accepted to port
        → (t ≡ to) × IsOpen hub s from t port
    by_target true gone e = cc
    by_target false up e = by_room (nat_le 16 (length s.live)) refl up e

-- the pair of an accepted trigger
pub record IsTaken (hub : Domains) (before : List Event) (from : ℕ) (o : Option ℕ) (to port : ℕ) : Type 0 where
  pub named : o ≡ Some to
  pub other : (to == from) ≡ false
  pub open_pair : IsOpen hub (state_after hub before (Ordered from to)) from to port

abbrev taken_by : Domains → PairState → ℕ → ℕ → List ℕ → Bool → Decision
taken_by hub s from t service self =
    if has from s.dropped then PassedOver
    else if self then Refused SameDomain
    else if not (is_service service) then Refused NoService
    else takes_call hub s from t

taken_in : (hub : Domains) (before : List Event) (from : ℕ) (service : List ℕ) (to port : ℕ) (o : Option ℕ)
    → (if has from (state_after hub before (towards from o)).dropped then PassedOver else answers hub (state_after hub before (towards from o)) from service o) ≡ Accepted to port
    → IsTaken hub before from o to port
taken_in hub before from service to port None h = by_up (has from (state_after hub before (Alone from)).dropped) h
  where
    by_up : (b : Bool) → (if b then PassedOver else Refused NoDomain) ≡ Accepted to port → IsTaken hub before from None to port
    by_up true e = cc
    by_up false e = cc
taken_in hub before from service to port (Some t) h = by_self (t == from) refl h
  where
    s : PairState
    s = state_after hub before (Ordered from t)

    by_up : (b : Bool) → (if b then PassedOver else Refused SameDomain) ≡ Accepted to port → IsTaken hub before from (Some t) to port
    by_up true e = cc
    by_up false e = cc

    by_service : (b : Bool) → (t == from) ≡ false → has from (state_after hub before (Ordered from t)).dropped ≡ false
        → (if not b then Refused NoService else takes_call hub (state_after hub before (Ordered from t)) from t) ≡ Accepted to port → IsTaken hub before from (Some t) to port
    by_service true apart up e =
        let took = takes_open hub (state_after hub before (Ordered from t)) from t to port up e in
        let P : ℕ → Type 0 = λ x. IsTaken hub before from (Some x) x port in
        rw (← took.0) (record { named = refl; other = apart; open_pair = took.1 })
    by_service false apart up e = cc

    by_caller : (b : Bool) → has from (state_after hub before (Ordered from t)).dropped ≡ b → (t == from) ≡ false
        → (if b then PassedOver else if not (is_service service) then Refused NoService else takes_call hub (state_after hub before (Ordered from t)) from t) ≡ Accepted to port
        → IsTaken hub before from (Some t) to port
    by_caller true gone apart e = cc
    by_caller false up apart e = by_service (is_service service) apart up e

    by_self : (b : Bool) → (t == from) ≡ b
        → taken_by hub (state_after hub before (if b then Alone from else Ordered from t)) from t service b ≡ Accepted to port → IsTaken hub before from (Some t) to port
    by_self true same e = by_up (has from (state_after hub before (Alone from)).dropped) e
    by_self false apart e = by_caller (has from (state_after hub before (Ordered from t)).dropped) refl apart e

pub taken_view : (hub : Domains) (before : List Event) (from : ℕ) (target service ident : List ℕ) (to port : ℕ)
    → decision hub before (Trigger from target service ident) ≡ Accepted to port → IsTaken hub before from (target_of hub target) to port
taken_view hub before from target service ident to port h = taken_in hub before from service to port (target_of hub target) h

-- its pair is that of the sender and its target
pub taken_pair : (hub : Domains) (before : List Event) (from : ℕ) (target service ident : List ℕ) (to port : ℕ)
    → IsTaken hub before from (target_of hub target) to port → pair_of hub (Trigger from target service ident) ≡ Ordered from to
taken_pair hub before from target service ident to port taken = ap (towards from) taken.named ∙ ap (λ b. if b then Alone from else Ordered from to) taken.other

ended_by : (s : PairState) (from port : ℕ) (pair : Pair) (a b p : ℕ) → (if has from s.dropped then PassedOver else ends_call pair s port) ≡ Ended a b p → pair ≡ Ordered a b
ended_by s from port (Ordered f t) a b p h = by_up (has from s.dropped) h
  where
    by_live : (c : Bool) → (if c then Ended f t port else PassedOver) ≡ Ended a b p → Ordered f t ≡ Ordered a b
    by_live true e = let is_a : f ≡ a = cc in let is_b : t ≡ b = cc in ap (λ x. Ordered x t) is_a ∙ ap (λ x. Ordered a x) is_b
    by_live false e = cc

    by_up : (c : Bool) → (if c then PassedOver else if has port s.live then Ended f t port else PassedOver) ≡ Ended a b p → Ordered f t ≡ Ordered a b
    by_up true e = cc
    by_up false e = by_live (has port s.live) e
ended_by s from port (Alone d) a b p h = by_up (has from s.dropped) h
  where
    by_up : (c : Bool) → (if c then PassedOver else PassedOver) ≡ Ended a b p → Alone d ≡ Ordered a b
    by_up true e = cc
    by_up false e = cc

-- the pair of a call that ended
pub ended_pair : (hub : Domains) (before : List Event) (from other port a b p : ℕ)
    → decision hub before (Terminated from other port) ≡ Ended a b p → pair_of hub (Terminated from other port) ≡ Ordered a b
ended_pair hub before from other port a b p h =
    ended_by (state_after hub before (pair_of hub (Terminated from other port))) from port (pair_of hub (Terminated from other port)) a b p h

-- ---- what no event of a kind is decided as

abbrev ends_none : Decision → Bool
ends_none (Ended from to port) = false
ends_none decision = true

ends_none_if : (b : Bool) (x y : Decision) → ends_none x ≡ true → ends_none y ≡ true → ends_none (if b then x else y) ≡ true
ends_none_if true x y h k = h
ends_none_if false x y h k = k

takes_ends_none : (hub : Domains) (s : PairState) (from to : ℕ) → ends_none (takes_call hub s from to) ≡ true
takes_ends_none hub s from to =
    ends_none_if (has to s.dropped) _ _ refl
    (ends_none_if (nat_le 16 (length s.live)) _ _ refl (ends_none_if (nat_le (pages_of hub from to) s.calls) _ _ refl refl))

answers_ends_none : (hub : Domains) (s : PairState) (from : ℕ) (service : List ℕ) (o : Option ℕ) → ends_none (answers hub s from service o) ≡ true
answers_ends_none hub s from service None = refl
answers_ends_none hub s from service (Some to) =
    ends_none_if (to == from) _ _ refl (ends_none_if (not (is_service service)) _ _ refl (takes_ends_none hub s from to))

-- no trigger ends a call
pub trigger_ends_none : (hub : Domains) (before : List Event) (from : ℕ) (target service ident : List ℕ) (a b p : ℕ) → Ended a b p ≡ decision hub before (Trigger from target service ident) → ⊥
trigger_ends_none hub before from target service ident a b p h =
    let none = ends_none_if (has from (state_after hub before (pair_of hub (Trigger from target service ident))).dropped) PassedOver _ refl
    (answers_ends_none hub (state_after hub before (pair_of hub (Trigger from target service ident))) from service (target_of hub target)) in
    let some : false ≡ ends_none (decision hub before (Trigger from target service ident)) = ap ends_none h in
    cc

abbrev takes_none : Decision → Bool
takes_none (Accepted to port) = false
takes_none decision = true

takes_none_if : (b : Bool) (x y : Decision) → takes_none x ≡ true → takes_none y ≡ true → takes_none (if b then x else y) ≡ true
takes_none_if true x y h k = h
takes_none_if false x y h k = k

ends_takes_none : (pair : Pair) (s : PairState) (port : ℕ) → takes_none (ends_call pair s port) ≡ true
ends_takes_none (Ordered from to) s port = takes_none_if (has port s.live) _ _ refl refl
ends_takes_none (Alone d) s port = refl

-- no Terminated takes a call
pub terminated_takes_none : (hub : Domains) (before : List Event) (from other port to q : ℕ) → Accepted to q ≡ decision hub before (Terminated from other port) → ⊥
terminated_takes_none hub before from other port to q h =
    let none = takes_none_if (has from (state_after hub before (pair_of hub (Terminated from other port))).dropped) PassedOver _ refl
    (ends_takes_none (pair_of hub (Terminated from other port)) (state_after hub before (pair_of hub (Terminated from other port))) port) in
    let some : false ≡ takes_none (decision hub before (Terminated from other port)) = ap takes_none h in
    cc

-- ---- what a name names is a domain

place_within : (names : List (List ℕ)) (name : List ℕ) (k : ℕ) → place_of names name ≡ Some k → k < length names
place_within [] name k h = cc
place_within (n ∷ names) name k h = by_test (bytes_eq n name) (place_of names name) (λ j e. place_within names name j e) h
  where
    by_test : (b : Bool) (rest : Option ℕ) → ((j : ℕ) → rest ≡ Some j → j < length names) → (if b then Some 0 else option_map suc rest) ≡ Some k → k < suc (length names)
    by_test true rest more e = let at : 0 ≡ k = cc in omega (arith, at)
    by_test false None more e = cc
    by_test false (Some j) more e = let at : suc j ≡ k = cc in let less = more j refl in omega (arith, at, less)

pub domain_found : (hub : Domains) (name : List ℕ) (d : ℕ) → domain_at hub.names name ≡ Some d → is_domain hub d ≡ true
domain_found hub name d h = by_place (place_of hub.names name) refl h
  where
    by_place : (o : Option ℕ) → place_of hub.names name ≡ o → option_map suc o ≡ Some d → is_domain hub d ≡ true
    by_place None is e = cc
    by_place (Some k) is e =
        let within = place_within hub.names name k is in
        let at : suc k ≡ d = cc in
        let low : nat_le 1 d ≡ true = grind (arith, nat_tests, at) in
        let high : nat_le d (length hub.names) ≡ true = grind (arith, nat_tests, at, within) in
        rw (low, high) refl
