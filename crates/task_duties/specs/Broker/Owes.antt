-- What the task of the broker owes: facts of its journal and of its ends.
-- Source: this project's own.
use Rattle.std.specs.Prelude.{◌≡◌, ◌⊎◌, ℕ, ◌+◌, ◌-◌, ◌<◌, ◌≤◌, true, false, List, filter_map, slice_index_or, Contains, IsPermutation, IsSome}
use Rattle.list_laws.specs.Lists.{IsPartOf}
use Rattle.qrexec_frame.specs.declared.message.Message.{Message}
use Rattle.qrexec_frame.specs.declared.message.Message.TheVariants.{Exec, Connect}
use Rattle.end_view.specs.EndView.{EndView}
use Rattle.call_broker.specs.declared.decision.Entry.{Entry}
use Rattle.call_broker.specs.Domains.{Domains, is_domain, count_of}
use Rattle.call_broker.specs.Journal.{IsJournal, AreNumbered, is_dropped}
use Rattle.task_duties.specs.Places.{numbers}
use Rattle.task_duties.specs.Hearing.{to_agent, to_broker, IsSaid, Heard, hears}
use Rattle.task_duties.specs.Broker.Outbox.{outbox, event_of, read_from, answered, live_calls}

-- the version that the broker announces
abbrev pub broker_version : ℕ
broker_version = 3

-- what it heard of a domain, where `end` gives its end of each domain's control page
abbrev pub heard_from : (ℕ → EndView) → ℕ → Heard
heard_from end d = hears broker_version to_broker (end d).got

-- how many calls of a domain it awaits; the count of the first domain stands first
abbrev pub awaited_of : List ℕ → ℕ → ℕ
awaited_of awaited d = slice_index_or awaited (d - 1) 0

-- what a broker owes that was made for these domains, awaits this many calls of each, and has this journal
pub record BrokerOwes (hub : Domains) (awaited : List ℕ) (journal : List Entry) (end : ℕ → EndView) : Type 0 where
  --   each entry is decided after those before it, and is of domains that exist
  pub decided : IsJournal hub journal
  pub numbered : AreNumbered hub journal
  --   the journal has what was heard of each domain; a domain is dropped only if its end or what it sent gives cause
  pub reads : (d : ℕ) → is_domain hub d ≡ true → read_from journal d ≡ filter_map (event_of d) (heard_from end d).messages
  pub drops : (d : ℕ) → is_domain hub d ≡ true → is_dropped journal d ≡ true
      → ((end d).saw ≡ true) ⊎ ((end d).misled ≡ true) ⊎ IsSome (heard_from end d).fault
  --   to each domain it sent messages of its outbox, in any order
  pub said : ℕ → List Message
  pub says : (d : ℕ) → is_domain hub d ≡ true → IsSaid broker_version to_agent (said d) (end d).sent
  pub from_journal : (d : ℕ) → is_domain hub d ≡ true → IsPartOf (said d) (outbox hub journal d)
  --   if a domain was sent a Connect, its target was sent the Exec, or was dropped
  pub exec_first : (f t port : ℕ) (ident : List ℕ) → is_domain hub f ≡ true → Contains (said f) (Connect t port ident)
      → (is_dropped journal t ≡ true) ⊎ ((line : List ℕ) × Contains (said t) (Exec f port line))
  --   if a domain isn't dropped, its awaited calls were answered and are over; if there were some, all of its outbox was sent
  pub settled : (d : ℕ) → is_domain hub d ≡ true → is_dropped journal d ≡ false
      → awaited_of awaited d + live_calls hub journal (numbers 1 1 (count_of hub)) d ≤ answered journal d
  pub all_said : (d : ℕ) → is_domain hub d ≡ true → is_dropped journal d ≡ false → 0 < awaited_of awaited d
      → IsPermutation (said d) (outbox hub journal d)
