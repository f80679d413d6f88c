-- The task between two turns, and through a round over all domains.
-- Source: this project's own.
use Rattle.std.specs.Prelude.{◌≡◌, ℕ, ◌+◌, ◌<◌, ◌≤◌, Bool, true, false, List, []}
use Rattle.vchan_rule.specs.Seated.{IsOpen}
use Rattle.call_broker.specs.declared.decision.Entry.{Entry}
use Rattle.call_broker.specs.Domains.{Domains}
use Rattle.task_duties.specs.Places.{numbers}
use Rattle.task_duties.specs.Broker.Outbox.{live_calls}
use Rattle.broker_task.specs.declared.daemon.Daemon.{Daemon}
use Rattle.broker_task.specs.declared.switchboard.Switchboard.{Switchboard}
use Rattle.broker_task.specs.Lines.{end_of, broker_end, is_gone, MayDrop, IsGoing, IsSameDaemon}
use Rattle.broker_task.specs.Replies.{HasShortNames}
use Rattle.broker_task.specs.Posting.{EachAt, EachMoves, IsPosting, IsHearing, HaveRead}
use Rattle.broker_task.specs.Holding.{lines_of, HoldsForExecs}

-- all that was read was decided, and what follows was sent or waits
pub record IsReady (s : Switchboard) : Type 0 where
  pub names : HasShortNames s.broker.hub
  pub posting : IsPosting s.broker.hub s.broker.journal s.daemons.items
  pub read : HaveRead s.broker.journal s.daemons.items
  pub holds : HoldsForExecs (lines_of s.daemons.items)

-- it goes on with what it was given
pub record GoesOn (old new : Switchboard) : Type 0 where
  pub ready : IsReady new
  pub hub : new.broker.hub ≡ old.broker.hub
  pub same : EachMoves (λ d. IsSameDaemon) old.daemons.items new.daemons.items

-- ---- one domain that is attended to

-- the domain wasn't dropped
abbrev pub IsUp : ℕ → List Daemon → Type 0
IsUp domain ds = EachAt (λ d x. d ≡ domain → is_gone x ≡ false) ds

-- the end of a domain is open and going, or there is cause to drop it
abbrev pub IsThere : Bool → Daemon → Type 0
IsThere true x = IsOpen x.port.end × IsGoing (end_of x)
IsThere false x = MayDrop (broker_end x)

-- what has come from a domain was taken, and not yet decided
pub record HasListened (hub : Domains) (domain : ℕ) (journal : List Entry) (ds : List Daemon) (there : Bool) : Type 0 where
  pub posting : IsPosting hub journal ds
  pub hearing : IsHearing domain journal ds
  pub whether : EachAt (λ d x. d ≡ domain → IsThere there x) ds
  pub holds : HoldsForExecs (lines_of ds)

-- ---- the end

-- if a domain wasn't dropped, its awaited calls were answered and are over, and if there were some, all of its messages were sent
abbrev pub IsSettled : Domains → List Entry → ℕ → ℕ → Daemon → Type 0
IsSettled hub journal count d x = is_gone x ≡ false → (x.awaited + live_calls hub journal (numbers 1 1 count) d ≤ x.answered) × (0 < x.awaited → x.outbox.letters.items ≡ [])
