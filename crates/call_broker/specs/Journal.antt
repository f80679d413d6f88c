-- A journal: events with the decision on each.
use Rattle.std.specs.Prelude.{◌≡◌, ℕ, ◌==◌, ◌&&◌, Bool, true, false, List, [], ◌∷◌, ◌++◌, map, filter_map, Option, Some, None, if◌then◌else◌}
use Rattle.std.specs.List.{list_any, AllByRecursion as Each}
use Rattle.call_broker.specs.declared.decision.Entry.{Entry}
use Rattle.call_broker.specs.declared.event.Event.{Event}
use Rattle.call_broker.specs.declared.event.Event.TheVariants.{Trigger, Terminated, Dropped}
use Rattle.call_broker.specs.declared.decision.Decision.{Decision}
use Rattle.call_broker.specs.declared.decision.Decision.TheVariants.{Accepted}
use Rattle.call_broker.specs.Domains.{Domains, is_domain}
use Rattle.call_broker.specs.Pair.{Ordered, decision, state_after}

abbrev pub events : List Entry → List Event
events journal = map (λ x. x.event) journal

-- each entry is decided after the events before it
abbrev pub IsDecidedOn : Domains → List Event → List Entry → Type 0
IsDecidedOn hub before [] = Unit {0}
IsDecidedOn hub before (x ∷ journal) = (x.decision ≡ decision hub before x.event) × IsDecidedOn hub (before ++ x.event ∷ []) journal

abbrev pub IsJournal : Domains → List Entry → Type 0
IsJournal hub journal = IsDecidedOn hub [] journal

-- the live calls of an ordered pair
abbrev pub live : Domains → List Entry → ℕ → ℕ → List ℕ
live hub journal from to = (state_after hub (events journal) (Ordered from to)).live

abbrev pub drops : ℕ → Event → Bool
drops d (Dropped domain) = domain == d
drops d event = false

abbrev pub is_dropped : List Entry → ℕ → Bool
is_dropped journal d = list_any (λ x. drops d x.event) journal

-- the ports of the accepted calls of an ordered pair, in the journal's order
abbrev pub port_in : ℕ → ℕ → Event → Decision → Option ℕ
port_in f t (Trigger from target service ident) (Accepted to port) = if from == f && to == t then Some port else None
port_in f t event decision = None

abbrev pub accepted_ports : List Entry → ℕ → ℕ → List ℕ
accepted_ports journal f t = filter_map (λ x. port_in f t x.event x.decision) journal

-- each event is one of domains of the broker
abbrev pub IsNumbered : Domains → Event → Type 0
IsNumbered hub (Trigger from target service ident) = is_domain hub from ≡ true
IsNumbered hub (Terminated from other port) = is_domain hub from ≡ true
IsNumbered hub (Dropped domain) = is_domain hub domain ≡ true

-- each event of a journal is one of domains of the broker
abbrev pub AreNumbered : Domains → List Entry → Type 0
AreNumbered hub journal = Each (λ x. IsNumbered hub x.event) journal
