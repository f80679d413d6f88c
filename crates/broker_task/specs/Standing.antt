-- What stands of the task of the broker after each turn, by its journal and by its ends.
-- Source: this project's own.
use Rattle.std.specs.Prelude.{◌≡◌, ◌≢◌, ◌⊎◌, ℕ, ◌+◌, ◌<◌, ◌≤◌, true, false, List, [], length, filter_map, Contains, IsPermutation, IsSome}
use Rattle.list_laws.specs.Lists.{IsPartOf}
use Rattle.qrexec_frame.specs.declared.message.Message.{Message}
use Rattle.qrexec_frame.specs.declared.message.Message.TheVariants.{Exec, Connect}
use Rattle.call_broker.specs.declared.decision.Entry.{Entry}
use Rattle.call_broker.specs.Domains.{Domains, is_domain, count_of}
use Rattle.call_broker.specs.Journal.{IsJournal, AreNumbered, is_dropped}
use Rattle.task_duties.specs.Hearing.{to_agent, IsSaid}
use Rattle.task_duties.specs.Places.{numbers}
use Rattle.task_duties.specs.Broker.Outbox.{outbox, event_of, read_from, answered, live_calls}
use Rattle.task_duties.specs.Broker.Owes.{broker_version, awaited_of}
use Rattle.broker_task.specs.Letters.{IsAt}
use Rattle.broker_task.specs.Lines.{BrokerEnd, heard_by, MayDrop, MustDrop}

-- one domain, by the broker's end of its control page and by the messages that were sent to each domain
pub record IsAttended (hub : Domains) (journal : List Entry) (said : ℕ → List Message) (d : ℕ) (e : BrokerEnd) : Type 0 where
  -- all that was heard of it is in the journal
  pub reads : read_from journal d ≡ filter_map (event_of d) (heard_by e.view).messages
  -- it is dropped only with cause, and is where it must be
  pub cause : is_dropped journal d ≡ true → MayDrop e
  pub drops : MustDrop e.view → is_dropped journal d ≡ true
  -- nothing was sent to it before its greeting was heard
  pub greets : e.view.sent ≢ [] → IsSome (heard_by e.view).version
  -- messages of its outbox were sent to it, each at most as often as the journal puts it there
  pub says : IsSaid broker_version to_agent (said d) e.view.sent
  pub from_journal : IsPartOf (said d) (outbox hub journal d)
  -- who was sent a Connect finds a target that was sent the Exec, or that was dropped
  pub exec_first : (t port : ℕ) (ident : List ℕ) → Contains (said d) (Connect t port ident) → (is_dropped journal t ≡ true) ⊎ ((line : List ℕ) × Contains (said t) (Exec d port line))

-- each entry is decided after those before it, and each domain is attended to
pub record Stands (hub : Domains) (journal : List Entry) (ends : List BrokerEnd) : Type 0 where
  pub decided : IsJournal hub journal
  pub numbered : AreNumbered hub journal
  pub count : length ends ≡ count_of hub
  pub said : ℕ → List Message
  pub each : (i : ℕ) (e : BrokerEnd) → IsAt ends i e → IsAttended hub journal said (i + 1) e

-- of each domain that isn't dropped the awaited calls were answered and are over, and where there were some all of its outbox was sent
abbrev pub AreSettled : Domains → List ℕ → List Entry → (ℕ → List Message) → Type 0
AreSettled hub awaited journal said =
    (d : ℕ) → is_domain hub d ≡ true → is_dropped journal d ≡ false
    → (awaited_of awaited d + live_calls hub journal (numbers 1 1 (count_of hub)) d ≤ answered journal d) × (0 < awaited_of awaited d → IsPermutation (said d) (outbox hub journal d))
