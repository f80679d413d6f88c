-- What contracts see of a broker.
use Rattle.std.specs.Prelude.{List, [], ◌∷◌, ◌++◌}
use Rattle.call_broker.specs.Domains.{Domains}
use Rattle.call_broker.specs.declared.event.Event.{Event}
use Rattle.call_broker.specs.declared.decision.Decision.{Decision}
use Rattle.call_broker.specs.declared.decision.Entry.{Entry}

-- the domains that a broker was made for, and its journal
pub record Brokered : Type 0 where
  pub hub : Domains
  pub journal : List Entry

-- a broker with one more entry
abbrev pub with_entry : Brokered → Event → Decision → Brokered
with_entry broker event decision = record { hub = broker.hub; journal = broker.journal ++ record { event = event; decision = decision } ∷ [] }
