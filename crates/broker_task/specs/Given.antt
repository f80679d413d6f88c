-- What contracts see of the task of the broker, and the ends that it gives back.
-- Source: this project's own.
use Rattle.std.specs.Prelude.{◌≡◌, ℕ, true, false, List, map, Option, None}
use Rattle.ring_words.specs.declared.page.Role.TheVariants.{Client}
use Rattle.end_view.specs.EndView.{IsUnused}
use Rattle.vchan_lifecycle.specs.Lifecycle.{retired_view}
use Rattle.vchan_rule.specs.Seated.{SeatedEnd, view}
use Rattle.call_broker.specs.declared.decision.Entry.{Entry}
use Rattle.call_broker.specs.Domains.{Domains}
use Rattle.task_duties.specs.declared.place.PagePlace.TheVariants.{Control}
use Rattle.task_duties.specs.declared.ends.DoneEnd.{DoneEnd}
use Rattle.task_duties.specs.declared.ends.DoneEnd.TheVariants as done
use Rattle.task_duties.specs.declared.ends.RetiredEnd.{RetiredEnd}
use Rattle.task_duties.specs.GivenEnds.{done_view}
use Rattle.task_duties.specs.TaskOwes.{EndAt, TaskGiven, Broker, broker_ends}
use Rattle.broker_task.specs.declared.daemon.Daemon.{Daemon}
use Rattle.broker_task.specs.declared.switchboard.Switchboard.{Switchboard}
use Rattle.broker_task.specs.Lines.{end_of, first_view, is_gone, BrokerEnd, seen_end}
use Rattle.broker_task.specs.Moving.{BrokerLine, line_of}

-- the task of the broker, as contracts see it
pub record BrokerState : Type 0 where
  -- the domains, how many calls of each are awaited, and the ends of their control pages, as they were given
  pub hub : Domains
  pub awaited : List ℕ
  pub ends : List EndAt
  -- what was decided so far, and what it keeps for each domain
  pub journal : List Entry
  pub lines : List BrokerLine

-- what is seen of the end of a control page, and of all of them
abbrev pub end_on : BrokerLine → BrokerEnd
end_on line = seen_end line.port.end

abbrev pub ends_now : BrokerState → List BrokerEnd
ends_now task = map end_on task.lines

-- what the task was given
abbrev pub task_given : BrokerState → TaskGiven
task_given task = Broker task.hub task.awaited task.ends

-- the same, read off what the task has now
abbrev pub given_now : Switchboard → TaskGiven
given_now s = Broker s.broker.hub (map (λ x. x.awaited) s.daemons.items) (broker_ends 1 (map (λ x. first_view (end_of x)) s.daemons.items))

abbrev pub state_of : Switchboard → BrokerState
state_of s = record {
  hub = s.broker.hub;
  awaited = map (λ x. x.awaited) s.daemons.items;
  ends = broker_ends 1 (map (λ x. first_view (end_of x)) s.daemons.items);
  journal = s.broker.journal;
  lines = map line_of s.daemons.items;
}

-- an end that a task may be given: that of a client which has done nothing
abbrev pub IsNewClient : SeatedEnd → Type 0
IsNewClient e = IsUnused (view e) × ((view e).role ≡ Client)

-- the gone word of the peer of an end that is given back, as the end loaded it last
abbrev pub gone_word : DoneEnd → Option ℕ
gone_word (done.Laid end) = end.side.notes.gone
gone_word (done.Server side) = None
gone_word (done.Client side) = None

-- what is seen of an end that is given back
abbrev pub retired_end : RetiredEnd → BrokerEnd
retired_end r = record { view = done_view r.retired; gone = gone_word r.retired }

-- the end of a domain, when it is given back since memory ran out
pub record IsGivenBack (x : Daemon) (r : RetiredEnd) : Type 0 where
  pub place : r.place ≡ Control x.domain
  pub page : (done_view r.retired).page ≡ (end_of x).page
  pub role : (done_view r.retired).role ≡ (end_of x).role
  pub honest : (done_view r.retired).turned ≡ false

-- the end of a domain, when it is given back; one that was dropped has noted what it had
pub record IsRetiredOf (x : Daemon) (r : RetiredEnd) : Type 0 where
  pub place : r.place ≡ Control x.domain
  pub retired : done_view r.retired ≡ retired_view (end_of x)
  pub noted : is_gone x ≡ true → gone_word r.retired ≡ x.port.end.side.notes.gone
  pub honest : (done_view r.retired).turned ≡ false
