-- What an agent makes of the messages that it heard: which of its calls were answered, and which MSG_EXEC_CMDLINE it serves.
-- Source: the messages are those of the qrexec protocol; what is skipped is this project's own.
use Rattle.std.specs.Prelude.{ℕ, ◌&&◌, bytes_eq, Bool, true, false, List, [], ◌∷◌, ◌++◌, map, Option, Some, None, if◌then◌else◌}
use Rattle.std.specs.List.{list_any}
use Rattle.qrexec_frame.specs.declared.message.Message.{Message}
use Rattle.qrexec_frame.specs.declared.message.Message.TheVariants.{Exec, Connect, Refused}
use Rattle.scenario_file.specs.declared.scenario.CallPlan.{CallPlan}
use Rattle.task_duties.specs.declared.place.PagePlace.{PagePlace}
use Rattle.task_duties.specs.declared.place.PagePlace.TheVariants.{Payload}
use Rattle.task_duties.specs.Places.{has_place, without}
use Rattle.task_duties.specs.Words.{ident_of, service_of_line}
use Rattle.task_duties.specs.Agent.Given.{AgentPlan}

-- the answer to a call: nothing yet, a refusal, or a domain and the port at which it serves
pub data Answer : Type 0 where
  Waits : Answer
  IsRefused : Answer
  At : (to port : ℕ) → Answer

-- a call of the plan with its answer
pub record Asked : Type 0 where
  pub call : CallPlan
  pub answer : Answer

-- a session that the agent serves: the domain that calls, the port, the service's name
pub record Served : Type 0 where
  pub from : ℕ
  pub port : ℕ
  pub service : List ℕ

-- the calls with their answers, the unused data ends, and the sessions that are served, in order
pub record Answers : Type 0 where
  pub asked : List Asked
  pub unused : List PagePlace
  pub served : List Served

-- whether a call still waits
abbrev pub waits : Answer → Bool
waits Waits = true
waits answer = false

-- whether a call has this ident and still waits
abbrev pub waits_as : List ℕ → Asked → Bool
waits_as ident a = bytes_eq (ident_of a.call.number) ident && waits a.answer

-- the call of an ident is answered, if it waits
abbrev pub answered : List ℕ → Answer → List Asked → List Asked
answered ident answer asked = map (λ a. if waits_as ident a then record { call = a.call; answer = answer } else a) asked

-- a MSG_EXEC_CMDLINE is served if its line names a service and its end is unused
abbrev pub serves : ℕ → ℕ → ℕ → Option (List ℕ) → Answers → Answers
serves domain from port None a = a
serves domain from port (Some service) a =
    if has_place (Payload from domain port) a.unused
    then record a { unused = without (Payload from domain port) a.unused; served = a.served ++ record { from = from; port = port; service = service } ∷ [] }
    else a

-- one message to the agent of a domain: what is skipped changes nothing
abbrev pub takes : ℕ → Answers → Message → Answers
takes domain a (Refused ident) = record a { asked = answered ident IsRefused a.asked }
takes domain a (Connect to port ident) =
    if list_any (waits_as ident) a.asked && has_place (Payload domain to port) a.unused
    then record a { asked = answered ident (At to port) a.asked; unused = without (Payload domain to port) a.unused }
    else a
takes domain a (Exec from port line) = serves domain from port (service_of_line line) a
takes domain a message = a

-- one message after another
abbrev pub takes_all : ℕ → Answers → List Message → Answers
takes_all domain a [] = a
takes_all domain a (m ∷ messages) = takes_all domain (takes domain a m) messages

-- before any message all calls wait, and all data ends are unused
abbrev pub nothing_heard : AgentPlan → Answers
nothing_heard plan = record { asked = map (λ call. record { call = call; answer = Waits }) plan.calls; unused = plan.places; served = [] }

-- what an agent makes of all messages that it heard
abbrev pub answers : AgentPlan → List Message → Answers
answers plan heard = takes_all plan.domain (nothing_heard plan) heard

-- the answer to the call of an ident
abbrev pub answer_in : List Asked → List ℕ → Answer
answer_in [] ident = Waits
answer_in (a ∷ asked) ident = if bytes_eq (ident_of a.call.number) ident then a.answer else answer_in asked ident
