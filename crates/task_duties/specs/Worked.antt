-- Worked rows, by which the definitions can be checked.
use Rattle.std.specs.Prelude.{◌≡◌, ℕ, List, [], ◌∷◌, ◌++◌, codes, replicate, Some, None}
use Rattle.ring_words.specs.declared.order.Orders.{Orders}
use Rattle.ring_words.specs.declared.page.WordName.TheVariants.{LeftProd, SrvNotify, CliNotify, SrvPending, CliPending, CliGone}
use Rattle.qrexec_frame.specs.declared.message.Message.{Message}
use Rattle.qrexec_frame.specs.declared.message.Message.TheVariants as message
use Rattle.qrexec_frame.specs.Messages.{written}
use Rattle.qrexec_data.specs.declared.outcome.SessionFault.TheVariants.{WrongSide, Hello as BadHello}
use Rattle.qrexec_hello.specs.declared.hello.HelloFault.TheVariants.{NotHello}
use Rattle.call_broker.specs.declared.decision.Entry.{Entry}
use Rattle.call_broker.specs.declared.decision.Cause.TheVariants.{NoDomain}
use Rattle.call_broker.specs.declared.decision.Decision.TheVariants.{Accepted, Refused, Ended}
use Rattle.call_broker.specs.declared.event.Event.TheVariants.{Trigger, Terminated}
use Rattle.call_broker.specs.Domains.{Domains}
use Rattle.scenario_file.specs.declared.acts.Act.TheVariants.{Signal, Rest, Scribble, Poke}
use Rattle.scenario_file.specs.declared.acts.ActPage.TheVariants as page
use Rattle.task_duties.specs.declared.place.PagePlace.TheVariants.{Control, Payload}
use Rattle.task_duties.specs.Hearing.{hears, to_agent, to_broker}
use Rattle.task_duties.specs.Words.{exec_line, service_of_line}
use Rattle.task_duties.specs.Agent.Answers.{Answer, Waits, IsRefused, At, Answers, takes_all}
use Rattle.task_duties.specs.Agent.Saying.{KeepsTo}
use Rattle.task_duties.specs.Broker.Outbox.{outbox, answered}
use Rattle.task_duties.specs.Hostile.Given.{HostilePlan}
use Rattle.task_duties.specs.Hostile.Stores.{stored}
use Rattle.task_duties.specs.Hostile.Trail.{IsTrail}

-- ---- an agent

-- a trigger of a call to `b`, and sixteen and more of them
abbrev pub trigger : Message
trigger = message.Trigger3 (codes "b") (codes "i") (codes "echo")

abbrev pub triggers : ℕ → List Message
triggers count = replicate count trigger

-- the same answer for all calls
abbrev pub always : Answer → List ℕ → Answer
always answer ident = answer

-- an agent with one unused end as a target and one as a caller
abbrev pub two_ends : Answers
two_ends = record { asked = []; unused = Payload 1 2 513 ∷ Payload 2 1 514 ∷ []; served = [] }

-- the first domain asks the agent of the second for `echo`, at this port
abbrev pub asked_at : ℕ → Message
asked_at port = message.Exec 1 port (exec_line (codes "echo") (codes "a"))

-- ---- the broker

-- `a` and `b`, and a journal: an accepted call, its end, a refused call
abbrev pub two : Domains
two = record { names = codes "a" ∷ codes "b" ∷ []; pages = 0 ∷ 1 ∷ 1 ∷ 0 ∷ [] }

abbrev pub short_journal : List Entry
short_journal =
    record { event = Trigger 1 (codes "b") (codes "echo") (codes "i"); decision = Accepted 2 513 }
    ∷ record { event = Terminated 2 1 513; decision = Ended 1 2 513 }
    ∷ record { event = Trigger 1 (codes "c") (codes "echo") (codes "j"); decision = Refused NoDomain }
    ∷ []

-- ---- a hostile domain

-- it signals, scribbles twice, and pokes: a data page of its own, one that it hasn't, and a word that it doesn't reach
abbrev pub evil : Orders → HostilePlan
evil orders = record {
  domain = 2;
  names = codes "a" ∷ codes "evil" ∷ [];
  acts =
      Rest 3 ∷ Signal ∷ Scribble 7 2 ∷ Poke (page.Payload (codes "a") 513) CliNotify 5 ∷ Poke (page.Payload (codes "a") 514) CliNotify 5
      ∷ Poke (page.Payload (codes "a") 513) CliPending 5 ∷ [];
  control = orders;
  payload = orders;
  places = Control 2 ∷ Payload 1 2 513 ∷ [];
}

-- ---- the rows

pub record RowsAreAsWorked : Type 0 where
  -- lines
  pub line : service_of_line (exec_line (codes "echo") (codes "work")) ≡ Some (codes "echo")
  pub no_source : service_of_line (codes "DEFAULT:QUBESRPC echo ") ≡ None
  pub two_sources : service_of_line (codes "DEFAULT:QUBESRPC echo a b") ≡ None
  pub no_service : service_of_line (codes "DEFAULT:QUBESRPC cat a") ≡ None
  pub other_user : service_of_line (codes "root:QUBESRPC echo a") ≡ None
  -- what is heard
  pub heard : hears 3 to_agent (written (message.Hello 2) ++ written (message.Refused (codes "i"))) ≡ record { version = Some 2; messages = message.Refused (codes "i") ∷ []; fault = None }
  pub not_heard : hears 3 to_broker (written (message.Hello 3) ++ written (message.Refused (codes "i"))) ≡ record { version = Some 3; messages = []; fault = Some (WrongSide 12 0x203) }
  pub no_greeting : hears 3 to_agent (written (message.Refused (codes "i"))) ≡ record { version = None; messages = []; fault = Some (BadHello (NotHello 0x203)) }
  -- the limit of sixteen
  pub sixteen : KeepsTo (always Waits) (codes "b") [] (triggers 16)
  pub seventeen : KeepsTo (always Waits) (codes "b") [] (triggers 17) → ⊥
  pub none_refused : KeepsTo (always IsRefused) (codes "b") [] (triggers 17)
  pub one_ended : KeepsTo (always (At 2 513)) (codes "b") [] (triggers 16 ++ message.Terminated 2 513 ∷ trigger ∷ [])
  pub other_ended : KeepsTo (always (At 2 513)) (codes "b") [] (triggers 16 ++ message.Terminated 2 515 ∷ trigger ∷ []) → ⊥
  -- what is served
  pub served_once : (takes_all 2 two_ends (asked_at 513 ∷ asked_at 513 ∷ asked_at 515 ∷ [])).served ≡ record { from = 1; port = 513; service = codes "echo" } ∷ []
  pub not_started : takes_all 2 two_ends (message.JustExec 1 513 (codes "DEFAULT:QUBESRPC echo a") ∷ []) ≡ two_ends
  pub no_call : takes_all 2 two_ends (message.Connect 1 514 (codes "call-1") ∷ []) ≡ two_ends
  -- outboxes
  pub callers : outbox two short_journal 1 ≡ message.Connect 2 513 (codes "i") ∷ message.Refused (codes "j") ∷ []
  pub targets : outbox two short_journal 2 ≡ message.Exec 1 513 (codes "DEFAULT:QUBESRPC echo a") ∷ []
  pub both_answered : answered short_journal 1 ≡ 2
  -- the six numbers after 7 are 599, 44999, 32612 and 21105, 10061, 33742: both stores fall on the data page
  pub trail : (orders : Orders) → IsTrail (evil orders) (Payload 1 2 513)
      (stored SrvPending 1 ∷ stored SrvNotify 32612 ∷ stored LeftProd 33742 ∷ stored CliNotify 5 ∷ stored CliGone 1 ∷ stored SrvPending 1 ∷ [])
