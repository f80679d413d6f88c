-- The outboxes of all domains beside the broker's journal: what was sent, what waits, and what was given up.
-- Source: this project's own.
use Rattle.std.specs.Prelude.{◌≡◌, ◌≢◌, ◌⊎◌, ℕ, zero, suc, ◌+◌, Bool, true, false, List, [], ◌∷◌, ◌++◌, length, Contains, IsPermutation, Option, map}
use Rattle.std.specs.List.{AllByRecursion as Each}
use Rattle.qrexec_frame.specs.declared.message.Message.{Message}
use Rattle.qrexec_frame.specs.declared.message.Message.TheVariants.{Exec, Connect}
use Rattle.control_port.specs.Port.{HasSaid}
use Rattle.call_broker.specs.declared.event.Event.{Event}
use Rattle.call_broker.specs.declared.event.Event.TheVariants.{Trigger}
use Rattle.call_broker.specs.declared.decision.Decision.{Decision}
use Rattle.call_broker.specs.declared.decision.Decision.TheVariants.{Accepted}
use Rattle.call_broker.specs.declared.decision.Entry.{Entry}
use Rattle.call_broker.specs.Domains.{Domains, count_of}
use Rattle.call_broker.specs.Journal.{IsJournal, AreNumbered, is_dropped}
use Rattle.task_duties.specs.Broker.Outbox.{outbox, puts, answered, is_answer, read_from}
use Rattle.broker_task.specs.declared.outbox.Letter.{Letter}
use Rattle.broker_task.specs.declared.daemon.Daemon.{Daemon}
use Rattle.broker_task.specs.Letters.{IsAt, messages_in, released}
use Rattle.vchan_rule.specs.Seated.{IsOpen}
use Rattle.broker_task.specs.Lines.{end_of, is_gone, IsLine, ReadsOn, HasRead, HasReadAll}
use Rattle.broker_task.specs.Replies.{IsFit, NamesDomain}

-- ---- all domains in turn

-- P holds of each domain, by its number
abbrev pub EachAt : (ℕ → Daemon → Type 0) → List Daemon → Type 0
EachAt P ds = (i : ℕ) (x : Daemon) → IsAt ds i x → P (i + 1) x

-- R relates each domain before and after
pub record EachMoves (R : ℕ → Daemon → Daemon → Type 0) (old new : List Daemon) : Type 0 where
  pub count : length new ≡ length old
  pub each : (i : ℕ) (y : Daemon) → IsAt new i y → (x : Daemon) × IsAt old i x × R (i + 1) x y

-- its port is as it was
abbrev pub SamePort : ℕ → Daemon → Daemon → Type 0
SamePort d x y = (y.port ≡ x.port) × (y.domain ≡ x.domain) × (y.awaited ≡ x.awaited)

-- its end is as it was
abbrev pub SameEnd : ℕ → Daemon → Daemon → Type 0
SameEnd d x y = (y.port.end ≡ x.port.end) × (y.domain ≡ x.domain) × (y.awaited ≡ x.awaited)

-- only some of its letters may go now: the Connects to this target, at this port or at any
pub record LetsGo (t : ℕ) (meant : Option ℕ) (x y : Daemon) : Type 0 where
  pub port : y.port ≡ x.port
  pub domain : y.domain ≡ x.domain
  pub awaited : y.awaited ≡ x.awaited
  pub counted : y.answered ≡ x.answered
  pub letters : y.outbox.letters.items ≡ map (released t meant) x.outbox.letters.items

-- ---- what may go

-- a Connect may be sent once the Exec of its call was sent to its target, or the target was dropped
abbrev pub MayGo : List Entry → (ℕ → List Message) → ℕ → Message → Type 0
MayGo journal said f (Connect t port ident) = (is_dropped journal t ≡ true) ⊎ ((line : List ℕ) × Contains (said t) (Exec f port line))
MayGo journal said f m = Unit {0}

-- a letter for a domain is a reply, and may be sent unless it is held
pub record IsLetter (hub : Domains) (journal : List Entry) (said : ℕ → List Message) (d : ℕ) (l : Letter) : Type 0 where
  pub fits : IsFit hub l.message
  pub may : l.held ≡ false → MayGo journal said d l.message

-- ---- the outbox of a domain

-- what the journal puts there was sent, waits, or was given up when the domain was dropped; and as many of its triggers were answered
pub record HasPosted (hub : Domains) (journal : List Entry) (said : ℕ → List Message) (d : ℕ) (x : Daemon) : Type 0 where
  pub says : HasSaid x.port (said d)
  pub lost : List Message
  pub kept : IsPermutation (said d ++ (messages_in x.outbox.letters.items ++ lost)) (outbox hub journal d)
  pub none_lost : is_gone x ≡ false → lost ≡ []
  pub letters : Each (IsLetter hub journal said d) x.outbox.letters.items
  pub went : Each (MayGo journal said d) (said d)
  pub counted : x.answered ≡ answered journal d
  pub dropped : is_dropped journal d ≡ is_gone x

-- the task beside its journal
pub record IsPosting (hub : Domains) (journal : List Entry) (ds : List Daemon) : Type 0 where
  pub count : length ds ≡ count_of hub
  pub decided : IsJournal hub journal
  pub numbered : AreNumbered hub journal
  pub lines : EachAt IsLine ds
  pub said : ℕ → List Message
  pub posted : EachAt (HasPosted hub journal said) ds

-- ---- one entry more

-- a letter that isn't held is no Connect
abbrev pub IsFree : Message → Type 0
IsFree (Connect t port ident) = ⊥
IsFree m = Unit {0}

-- a letter that is held is the Connect of the call that this event was accepted for, put for the caller
abbrev pub IsCallOf : Event → Decision → ℕ → Message → Type 0
IsCallOf (Trigger from target service ident) (Accepted to port) d m = (d ≡ from) × (m ≡ Connect to port ident)
IsCallOf event decided d m = ⊥

-- one more if so
abbrev pub one_if : Bool → ℕ
one_if true = 1
one_if false = 0

-- the letters of an entry were put after those of a domain
pub record Posts (hub : Domains) (e : Entry) (d : ℕ) (x y : Daemon) : Type 0 where
  pub domain : y.domain ≡ x.domain
  pub port : y.port ≡ x.port
  pub awaited : y.awaited ≡ x.awaited
  pub more : List Letter
  pub letters : y.outbox.letters.items ≡ x.outbox.letters.items ++ more
  pub are : messages_in more ≡ puts hub d e.event e.decision
  pub replies : Each (λ l. IsFit hub l.message) more
  pub free : Each (λ l. l.held ≡ false → IsFree l.message) more
  pub held : Each (λ l. l.held ≡ true → IsCallOf e.event e.decision d l.message) more
  pub counted : y.answered ≡ x.answered + one_if (is_answer d e.event e.decision)

-- ---- a port that moves

-- only its port has moved, and what it stands for was sent as before
pub record MovesPort (d : ℕ) (x y : Daemon) : Type 0 where
  pub domain : y.domain ≡ x.domain
  pub awaited : y.awaited ≡ x.awaited
  pub outbox : y.outbox.letters.items ≡ x.outbox.letters.items
  pub counted : y.answered ≡ x.answered
  pub gone : is_gone y ≡ is_gone x
  pub line : IsLine d x → IsLine d y
  pub said : (said : List Message) → HasSaid x.port said → HasSaid y.port said

-- ---- what was read, while one domain is heard

pub record IsHearing (domain : ℕ) (journal : List Entry) (ds : List Daemon) : Type 0 where
  pub others : EachAt (λ d x. d ≢ domain → HasRead x (read_from journal d)) ds
  pub own : EachAt (λ d x. d ≡ domain → ReadsOn x (read_from journal d)) ds

-- the same, once all that the domain has sent was heard
pub record HasHeardOut (domain : ℕ) (journal : List Entry) (ds : List Daemon) : Type 0 where
  pub others : EachAt (λ d x. d ≢ domain → HasRead x (read_from journal d)) ds
  pub own : EachAt (λ d x. d ≡ domain → HasReadAll x (read_from journal d)) ds

-- ---- between two turns

-- what was read of each domain was decided
abbrev pub HaveRead : List Entry → List Daemon → Type 0
HaveRead journal ds = EachAt (λ d x. HasRead x (read_from journal d)) ds

-- all ends are between two calls, and so can be retired
abbrev pub AreIdle : List Daemon → Type 0
AreIdle ds = EachAt (λ d x. (end_of x).idle ≡ true) ds

-- how many letters wait for the domain at this place
abbrev pub waiting_in : List Daemon → ℕ → ℕ
waiting_in [] i = 0
waiting_in (x ∷ ds) zero = length x.outbox.letters.items
waiting_in (x ∷ ds) (suc i) = waiting_in ds i

-- ---- one domain that is sent to

pub record IsSending (hub : Domains) (domain : ℕ) (journal : List Entry) (ds : List Daemon) : Type 0 where
  pub posting : IsPosting hub journal ds
  pub read : HaveRead journal ds
  pub opened : EachAt (λ d x. d ≡ domain → IsOpen x.port.end) ds

-- this message was sent to the domain
abbrev pub HasGone : Domains → ℕ → List Entry → List Daemon → Message → Type 0
HasGone hub domain journal ds m = (p : IsSending hub domain journal ds) × Contains (p.posting.said domain) m × NamesDomain hub m
