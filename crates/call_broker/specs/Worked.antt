-- Worked rows, by which the definitions can be checked: two domains `a` and `b` with 20 pages for calls from `a` and one for calls from `b`, and three domains with a page each way.
use Rattle.std.specs.Prelude.{◌≡◌, ℕ, List, [], ◌∷◌, ◌++◌, codes, replicate}
use Rattle.call_broker.specs.declared.event.Event.{Event}
use Rattle.call_broker.specs.declared.event.Event.TheVariants.{Trigger, Terminated, Dropped}
use Rattle.call_broker.specs.declared.decision.Cause.TheVariants.{NoDomain, SameDomain, NoService, TargetDropped, PairFull, PortsSpent}
use Rattle.call_broker.specs.declared.decision.Decision.TheVariants.{Accepted, Refused, Ended, PassedOver}
use Rattle.call_broker.specs.Domains.{Domains}
use Rattle.call_broker.specs.Pair.{Ordered, decision, state_after}

-- `a` and `b`
abbrev pub two : Domains
two = record { names = codes "a" ∷ codes "b" ∷ []; pages = 0 ∷ 20 ∷ 1 ∷ 0 ∷ [] }

-- `a`, `b` and `c`
abbrev pub three : Domains
three = record { names = codes "a" ∷ codes "b" ∷ codes "c" ∷ []; pages = 0 ∷ 1 ∷ 1 ∷ 1 ∷ 0 ∷ 1 ∷ 1 ∷ 1 ∷ 0 ∷ [] }

-- the first asks the second for `echo`, and the second the first
abbrev pub to_b : Event
to_b = Trigger 1 (codes "b") (codes "echo") (codes "i")

abbrev pub to_a : Event
to_a = Trigger 2 (codes "a") (codes "echo") (codes "i")

-- the first asks this many times
abbrev pub asks : ℕ → List Event
asks count = replicate count to_b

-- the decisions, row by row
pub record RowsAreAsWorked : Type 0 where
  pub first : decision two [] to_b ≡ Accepted 2 513
  pub second : decision two (asks 1) to_b ≡ Accepted 2 515
  pub full : decision two (asks 16) to_b ≡ Refused (PairFull 16)
  pub ended : decision two (asks 16) (Terminated 2 1 513) ≡ Ended 1 2 513
  pub ended_before : decision two (asks 16 ++ Terminated 2 1 513 ∷ []) (Terminated 2 1 513) ≡ PassedOver
  pub no_port_again : decision two (asks 16 ++ Terminated 2 1 513 ∷ []) to_b ≡ Accepted 2 545
  pub other_way : decision two (asks 16) to_a ≡ Accepted 1 514
  pub spent : decision two (to_a ∷ Terminated 1 2 514 ∷ []) to_a ≡ Refused (PortsSpent 516)
  pub target_dropped : decision two (to_b ∷ Dropped 2 ∷ []) to_b ≡ Refused TargetDropped
  pub sender_dropped : decision two (to_b ∷ Dropped 2 ∷ []) to_a ≡ PassedOver
  pub no_domain : decision two [] (Trigger 1 (codes "c") (codes "none") (codes "i")) ≡ Refused NoDomain
  pub same_domain : decision two [] (Trigger 1 (codes "a") (codes "none") (codes "i")) ≡ Refused SameDomain
  pub no_service : decision two (Dropped 2 ∷ []) (Trigger 1 (codes "b") (codes "none") (codes "i")) ≡ Refused NoService
  pub stranger : decision three (to_b ∷ []) (Terminated 3 1 513) ≡ PassedOver
  pub still_live : (state_after three (to_b ∷ Terminated 3 1 513 ∷ []) (Ordered 1 2)).live ≡ 513 ∷ []
