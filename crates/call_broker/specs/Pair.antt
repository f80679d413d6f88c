-- One ordered pair of domains at a broker: which events are its own, and what it decides on them.
use Rattle.std.specs.Prelude.{ℕ, ◌+◌, min, max, nat_le, ◌==◌, ◌&&◌, ◌||◌, not, Bool, false, List, [], ◌∷◌, length, filter, Option, Some, None, if◌then◌else◌}
use Rattle.std.specs.List.{list_any}
use Rattle.call_broker.specs.declared.event.Event.{Event}
use Rattle.call_broker.specs.declared.event.Event.TheVariants.{Trigger, Terminated, Dropped}
use Rattle.call_broker.specs.declared.decision.Cause.TheVariants.{NoDomain, SameDomain, NoService, TargetDropped, PairFull, PortsSpent}
use Rattle.call_broker.specs.declared.decision.Decision.{Decision}
use Rattle.call_broker.specs.declared.decision.Decision.TheVariants.{Accepted, Refused, Ended, PassedOver}
use Rattle.call_broker.specs.Domains.{Domains, is_domain, target_of, is_service, pages_of, port_after, is_odd}

-- an ordered pair of two domains, or one domain alone
pub data Pair : Type 0 where
  Ordered : (from to : ℕ) → Pair
  Alone : (domain : ℕ) → Pair

abbrev pub is_pair : Pair → Pair → Bool
is_pair (Ordered f t) (Ordered from to) = f == from && t == to
is_pair (Alone d) (Alone domain) = d == domain
is_pair _ _ = false

abbrev pub is_of : ℕ → Pair → Bool
is_of d (Ordered from to) = d == from || d == to
is_of d (Alone domain) = d == domain

-- the pair of a trigger: its sender and its target, if that is another domain
abbrev pub towards : ℕ → Option ℕ → Pair
towards from None = Alone from
towards from (Some to) = if to == from then Alone from else Ordered from to

-- the pair that two domains and a port name: from the lower to the higher if the port is odd
abbrev pub by_port : ℕ → ℕ → ℕ → Pair
by_port a b port = if is_odd port then Ordered (min a b) (max a b) else Ordered (max a b) (min a b)

abbrev pub pair_of : Domains → Event → Pair
pair_of hub (Trigger from target service ident) = towards from (target_of hub target)
pair_of hub (Terminated from other port) = if is_domain hub other && not (other == from) then by_port from other port else Alone from
pair_of hub (Dropped domain) = Alone domain

-- that a domain was dropped is an event of each of its pairs
abbrev pub belongs : Domains → Pair → Event → Bool
belongs hub pair (Dropped domain) = is_of domain pair
belongs hub pair event = is_pair (pair_of hub event) pair

-- the ports of the pair's live calls, how many calls it has had, and which of its domains were dropped
pub record PairState : Type 0 where
  pub live : List ℕ
  pub calls : ℕ
  pub dropped : List ℕ

abbrev pub at_first : PairState
at_first = record { live = []; calls = 0; dropped = [] }

abbrev pub has : ℕ → List ℕ → Bool
has n list = list_any (λ m. m == n) list

-- the decision on a trigger to a domain that isn't the sender
abbrev pub takes_call : Domains → PairState → ℕ → ℕ → Decision
takes_call hub s from to =
    if has to s.dropped then Refused TargetDropped
    else if nat_le 16 (length s.live) then Refused (PairFull (length s.live))
    else if nat_le (pages_of hub from to) s.calls then Refused (PortsSpent (port_after from to s.calls))
    else Accepted to (port_after from to s.calls)

abbrev pub answers : Domains → PairState → ℕ → List ℕ → Option ℕ → Decision
answers hub s from service None = Refused NoDomain
answers hub s from service (Some to) =
    if to == from then Refused SameDomain
    else if not (is_service service) then Refused NoService
    else takes_call hub s from to

abbrev pub ends_call : Pair → PairState → ℕ → Decision
ends_call (Ordered from to) s port = if has port s.live then Ended from to port else PassedOver
ends_call (Alone domain) s port = PassedOver

-- the decision on an event of the pair
abbrev pub decides : Domains → Pair → PairState → Event → Decision
decides hub pair s (Trigger from target service ident) = if has from s.dropped then PassedOver else answers hub s from service (target_of hub target)
decides hub pair s (Terminated from other port) = if has from s.dropped then PassedOver else ends_call pair s port
decides hub pair s (Dropped domain) = PassedOver

-- the pair after its decision
abbrev pub settles : PairState → Event → Decision → PairState
settles s (Dropped domain) decision = record { live = []; calls = s.calls; dropped = domain ∷ s.dropped }
settles s event (Accepted to port) = record s { live = port ∷ s.live; calls = s.calls + 1 }
settles s event (Ended from to port) = record s { live = filter (λ p. not (p == port)) s.live }
settles s event decision = s

abbrev pub step : Domains → Pair → PairState → Event → PairState
step hub pair s event = if belongs hub pair event then settles s event (decides hub pair s event) else s

-- the pair after some events, of which only its own count
abbrev pub run_on : Domains → Pair → PairState → List Event → PairState
run_on hub pair s [] = s
run_on hub pair s (event ∷ events) = run_on hub pair (step hub pair s event) events

abbrev pub state_after : Domains → List Event → Pair → PairState
state_after hub events pair = run_on hub pair at_first events

-- the decision on an event after some events: that of its own pair
abbrev pub decision : Domains → List Event → Event → Decision
decision hub before event = decides hub (pair_of hub event) (state_after hub before (pair_of hub event)) event
