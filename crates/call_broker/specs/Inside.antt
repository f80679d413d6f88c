-- How a broker is kept inside.
use Rattle.std.specs.Prelude.{◌≡◌, ◌*◌, ◌≤◌, length, map, All}
use Rattle.call_broker.specs.declared.broker.Broker.TheInside.{Inside}
use Rattle.call_broker.specs.Domains.{Domains, count_of}
use Rattle.call_broker.specs.Journal.{events, IsJournal, AreNumbered}
use Rattle.call_broker.specs.Brokered.{Brokered}
use Rattle.call_broker.specs.Tables.{IsIndex, IsTabled}

-- its domains and their pages
abbrev pub hub_of : Inside → Domains
hub_of b = record { names = map (λ d. d.name) b.domains.items; pages = b.pages.items }

-- what contracts see of it
abbrev pub brokered : Inside → Brokered
brokered b = record { hub = hub_of b; journal = b.journal.items }

-- its domains and pages are no more than allowed, each entry of its journal is decided after those before it, and its tables follow from its journal
pub record IsKept (b : Inside) : Type 0 where
  pub few : count_of (hub_of b) ≤ 32
  pub square : length b.pages.items ≡ count_of (hub_of b) * count_of (hub_of b)
  pub within : All (λ p. p ≤ 65536) b.pages.items
  pub decided : IsJournal (hub_of b) b.journal.items
  pub numbered : AreNumbered (hub_of b) b.journal.items
  pub indexed : IsIndex (hub_of b).names b.index
  pub tabled : IsTabled (hub_of b) (events b.journal.items) b.calls b.dropped
