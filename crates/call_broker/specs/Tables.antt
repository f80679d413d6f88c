-- The two tables that a broker keeps beside its journal: the calls of each ordered pair, and the dropped domains.
use Rattle.std.specs.Prelude.{◌≡◌, ℕ, ◌+◌, ◌<◌, length, ◌==◌, ◌&&◌, ◌||◌, not, Bool, false, List, [], ◌∷◌, filter, Option, Some, None, if◌then◌else◌}
use Rattle.std.specs.declared.cmp.Ordering.{Ordering}
use Rattle.std.specs.Ordering.{nat_cmp, ordering_then}
use Rattle.std.specs.List.{list_any}
use Rattle.std.specs.BTreeMap.{BTreeMap}
use Rattle.std.specs.BTreeMap as tree
use Rattle.std.specs.BTreeSet.{BTreeSet}
use Rattle.std.specs.BTreeSet as set
use Rattle.std.specs.Global.{Vec}
use Rattle.std.specs.Cmp.Lexicographic.{slice_cmp}
use Rattle.call_broker.specs.declared.calls.Calls.{Calls}
use Rattle.call_broker.specs.declared.event.Event.{Event}
use Rattle.call_broker.specs.declared.event.Event.TheVariants.{Trigger, Terminated, Dropped}
use Rattle.call_broker.specs.declared.decision.Decision.{Decision}
use Rattle.call_broker.specs.declared.decision.Decision.TheVariants.{Accepted, Ended}
use Rattle.call_broker.specs.Domains.{Domains, is_domain, domain_at}
use Rattle.call_broker.specs.Pair.{Ordered, state_after}
use Rattle.call_broker.specs.Journal.{drops}

-- the order of ordered pairs, the callers first
abbrev pub pair_cmp : ℕ × ℕ → ℕ × ℕ → Ordering
pair_cmp p q = ordering_then (nat_cmp p.0 q.0) (nat_cmp p.1 q.1)

-- the calls that the table has of an ordered pair
abbrev pub calls_at : BTreeMap (ℕ × ℕ) Calls → ℕ → ℕ → Option Calls
calls_at table from to = tree.get pair_cmp table (from, to)

-- the ports of the pair's live calls by the table, the newest first
abbrev pub live_of : Option Calls → List ℕ
live_of None = []
live_of (Some calls) = calls.live.items

-- how many calls the pair has had by the table
abbrev pub number_of : Option Calls → ℕ
number_of None = 0
number_of (Some calls) = calls.count

-- whether two ordered pairs are one
abbrev pub is_same : ℕ → ℕ → ℕ → ℕ → Bool
is_same from to f t = from == f && to == t

-- a table in which one pair has one more live call
abbrev pub AddsCall : BTreeMap (ℕ × ℕ) Calls → BTreeMap (ℕ × ℕ) Calls → ℕ → ℕ → ℕ → Type 0
AddsCall old new from to port =
    (f t : ℕ) → (live_of (calls_at new f t) ≡ (if is_same from to f t then port ∷ live_of (calls_at old f t) else live_of (calls_at old f t)))
    × (number_of (calls_at new f t) ≡ (if is_same from to f t then number_of (calls_at old f t) + 1 else number_of (calls_at old f t)))

-- a table in which a call of one pair is no longer live
abbrev pub EndsCall : BTreeMap (ℕ × ℕ) Calls → BTreeMap (ℕ × ℕ) Calls → ℕ → ℕ → ℕ → Type 0
EndsCall old new from to port =
    (f t : ℕ) → (live_of (calls_at new f t) ≡ (if is_same from to f t then filter (λ p. not (p == port)) (live_of (calls_at old f t)) else live_of (calls_at old f t)))
    × (number_of (calls_at new f t) ≡ number_of (calls_at old f t))

-- a table with the calls of another
abbrev pub SameCalls : BTreeMap (ℕ × ℕ) Calls → BTreeMap (ℕ × ℕ) Calls → Type 0
SameCalls old new = new.entries ≡ old.entries

-- a set with the domains of another
abbrev pub SameDropped : BTreeSet ℕ → BTreeSet ℕ → Type 0
SameDropped old new = new.keys ≡ old.keys

-- a set with one more domain
abbrev pub AddsDropped : BTreeSet ℕ → BTreeSet ℕ → ℕ → Type 0
AddsDropped old new domain = (d : ℕ) → set.contains nat_cmp new d ≡ (domain == d || set.contains nat_cmp old d)

-- the effect of an event on the tables, by the decision on it
abbrev pub IsEntered : Event → Decision → BTreeMap (ℕ × ℕ) Calls → BTreeSet ℕ → BTreeMap (ℕ × ℕ) Calls → BTreeSet ℕ → Type 0
IsEntered (Trigger from target service ident) (Accepted to port) calls dropped calls' dropped' = AddsCall calls calls' from to port × SameDropped dropped dropped'
IsEntered (Terminated sender other named) (Ended from to port) calls dropped calls' dropped' = EndsCall calls calls' from to port × SameDropped dropped dropped'
IsEntered (Dropped domain) decision calls dropped calls' dropped' = SameCalls calls calls' × AddsDropped dropped dropped' domain
IsEntered event decision calls dropped calls' dropped' = SameCalls calls calls' × SameDropped dropped dropped'

-- the tables are those of a broker after some events. A call of a dropped domain stays in the table, but doesn't count.
pub record IsTabled (hub : Domains) (after : List Event) (calls : BTreeMap (ℕ × ℕ) Calls) (dropped : BTreeSet ℕ) : Type 0 where
  pub gone : (d : ℕ) → set.contains nat_cmp dropped d ≡ list_any (drops d) after
  pub counted : (f t : ℕ) → (state_after hub after (Ordered f t)).calls ≡ number_of (calls_at calls f t)
  pub live : (f t : ℕ) → (state_after hub after (Ordered f t)).live ≡ (if list_any (drops f) after || list_any (drops t) after then [] else live_of (calls_at calls f t))
  pub among : (f t : ℕ) → (is_domain hub f && is_domain hub t) ≡ false → live_of (calls_at calls f t) ≡ []

-- the domain that an index has for a name
abbrev pub number_in : BTreeMap (Vec ℕ) ℕ → List ℕ → Option ℕ
number_in index name = tree.get_by (λ key. slice_cmp nat_cmp name key.items) index

-- an index that has, for each name, the first domain of that name
pub record IsIndex (names : List (List ℕ)) (index : BTreeMap (Vec ℕ) ℕ) : Type 0 where
  pub first : (name : List ℕ) → number_in index name ≡ domain_at names name

-- if a trigger is accepted, its pair has room for one more call
abbrev pub HasRoom : Event → Decision → BTreeMap (ℕ × ℕ) Calls → Type 0
HasRoom (Trigger from target service ident) (Accepted to port) calls = (length (live_of (calls_at calls from to)) < 16) × (number_of (calls_at calls from to) < 65536)
HasRoom event decision calls = Unit {0}
