-- The laws of a broker, over all its journals: each pair stands alone, no port is given out twice, and an accepted call is between domains that the broker serves.
use Rattle.std.specs.Prelude.{◌≡◌, ◌≢◌, ℕ, ◌+◌, ◌<◌, ◌≤◌, suc, zero, true, false, List, [], ◌∷◌, ◌++◌, filter, AllPairs, Some}
use Rattle.std.specs.List.{AllByRecursion as Each}
use Rattle.call_broker.specs.declared.event.Event.{Event}
use Rattle.call_broker.specs.declared.event.Event.TheVariants.{Trigger}
use Rattle.call_broker.specs.declared.decision.Decision.{Decision}
use Rattle.call_broker.specs.declared.decision.Decision.TheVariants.{Accepted}
use Rattle.call_broker.specs.declared.decision.Entry.{Entry}
use Rattle.call_broker.specs.Domains.{Domains, target_of, is_service, pages_of, port_after}
use Rattle.call_broker.specs.Pair.{Pair, PairState, Ordered, at_first, pair_of, by_port, belongs, decides, settles, decision}
use Rattle.call_broker.specs.Journal.{events, accepted_ports, IsJournal}

-- ---- each pair stands alone

-- the events of a pair, in order
abbrev pub own_events : Domains → Pair → List Event → List Event
own_events hub pair events = filter (belongs hub pair) events

-- the entries of a pair, in order
abbrev pub own_entries : Domains → Pair → List Entry → List Entry
own_entries hub pair journal = filter (λ x. belongs hub pair x.event) journal

-- what a pair makes of events that are all its own
abbrev pub entries_from : Domains → Pair → PairState → List Event → List Entry
entries_from hub pair s [] = []
entries_from hub pair s (event ∷ events) =
    record { event = event; decision = decides hub pair s event } ∷ entries_from hub pair (settles s event (decides hub pair s event)) events

-- the entries of a pair are what it makes of its own events alone
abbrev pub EachPairStandsAlone : Type 0
EachPairStandsAlone =
    (hub : Domains) (pair : Pair) (journal : List Entry) → IsJournal hub journal
    → own_entries hub pair journal ≡ entries_from hub pair at_first (own_events hub pair (events journal))

-- two journals that differ only in events of other pairs have the same entries of this pair
abbrev pub OthersCountForNothing : Type 0
OthersCountForNothing =
    (hub : Domains) (pair : Pair) (one other : List Entry) → IsJournal hub one → IsJournal hub other
    → own_events hub pair (events one) ≡ own_events hub pair (events other) → own_entries hub pair one ≡ own_entries hub pair other

-- after two lists of events that differ only in those of other pairs, the decision on the next event of this pair is the same
abbrev pub DecidedByOwnEvents : Type 0
DecidedByOwnEvents =
    (hub : Domains) (one other : List Event) (event : Event)
    → own_events hub (pair_of hub event) one ≡ own_events hub (pair_of hub event) other → decision hub one event ≡ decision hub other event

-- an event of another pair, wherever it comes, leaves the next decision on this pair as it was
abbrev pub StrangersChangeNothing : Type 0
StrangersChangeNothing =
    (hub : Domains) (before after : List Event) (stranger event : Event)
    → belongs hub (pair_of hub event) stranger ≡ false → decision hub (before ++ stranger ∷ after) event ≡ decision hub (before ++ after) event

-- ---- ports

-- from a count of calls on, the ports that follow
abbrev pub ports_from : ℕ → ℕ → ℕ → ℕ → List ℕ
ports_from f t calls zero = []
ports_from f t calls (suc count) = port_after f t calls ∷ ports_from f t (calls + 1) count

-- from a count of calls on, a journal gives out the ports that follow, and no more than there are pages
pub record PortsFollow (hub : Domains) (f t calls : ℕ) (journal : List Entry) : Type 0 where
  pub count : ℕ
  pub within : calls + count ≤ pages_of hub f t
  pub ports : accepted_ports journal f t ≡ ports_from f t calls count

-- a journal gives each accepted call of a pair a port of its own: the first, the one after, and so on, no more than there are pages
abbrev pub PortsApart : Type 0
PortsApart =
    (hub : Domains) (f t : ℕ) (journal : List Entry) → IsJournal hub journal
    → PortsFollow hub f t 0 journal × AllPairs (λ one other. one ≢ other) (accepted_ports journal f t)

-- two domains and a port name the ordered pair whose port it is, whichever of the two is named first
abbrev pub PortNamesPair : Type 0
PortNamesPair = (f t call : ℕ) → f ≢ t → (by_port f t (port_after f t call) ≡ Ordered f t) × (by_port t f (port_after f t call) ≡ Ordered f t)

-- ---- accepted calls

-- an accepted call is to the other domain that its target names, for a service that exists, with a port of its pair
pub record IsAccepted (hub : Domains) (from : ℕ) (target service : List ℕ) (to port : ℕ) : Type 0 where
  pub named : target_of hub target ≡ Some to
  pub apart : from ≢ to
  pub serves : is_service service ≡ true
  pub call : ℕ
  pub within : call < pages_of hub from to
  pub port_is : port ≡ port_after from to call

-- an entry of an accepted call is as `IsAccepted` has it
abbrev pub AcceptsWell : Domains → Event → Decision → Type 0
AcceptsWell hub (Trigger from target service ident) (Accepted to port) = IsAccepted hub from target service to port
AcceptsWell hub event decision = Unit {0}

-- each accepted call of a journal is as `IsAccepted` has it
abbrev pub AcceptedCallsAreWell : Type 0
AcceptedCallsAreWell = (hub : Domains) (journal : List Entry) → IsJournal hub journal → Each (λ x. AcceptsWell hub x.event x.decision) journal
