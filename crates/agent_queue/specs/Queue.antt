-- An agent's own calls in their order: which of them were requested, what they were answered, and which are open.
-- Source: the messages are those of the qrexec protocol; the order, the idents and the limit are this project's own.
use Rattle.std.specs.Prelude.{◌≡◌, ℕ, ◌+◌, ◌<◌, ◌≤◌, ◌&&◌, not, nat_lt, bytes_eq, Bool, false, List, [], ◌∷◌, ◌++◌, length, map, Option, Some, None, MatchOption, true, slice_get, slice_set, if◌then◌else◌}
use Rattle.qrexec_frame.specs.declared.message.Message.{Message}
use Rattle.qrexec_frame.specs.declared.message.Message.TheVariants.{Trigger3, Trigger}
use Rattle.qrexec_frame.specs.Messages.{written}
use Rattle.scenario_file.specs.declared.scenario.CallPlan.{CallPlan}
use Rattle.task_duties.specs.Words.{ident_of}
use Rattle.task_duties.specs.Agent.Answers.{Answer, Waits, IsRefused, At, Asked, waits_as}
use Rattle.task_duties.specs.Agent.Saying.{is_at, is_refusal}
use Rattle.agent_queue.specs.declared.call.CallAnswer.{CallAnswer}
use Rattle.agent_queue.specs.declared.call.CallAnswer.TheVariants as given

-- a call with its answer, and whether it is open: requested, not refused, and not reported as ended since
pub record Queued : Type 0 where
  pub call : CallPlan
  pub answer : Answer
  pub is_open : Bool

-- the calls in their order, and how many of them were requested
pub record QueueState : Type 0 where
  pub calls : List Queued
  pub next : ℕ

-- an answer as it is kept
abbrev pub answer_of : CallAnswer → Answer
answer_of given.Waits = Waits
answer_of given.Refused = IsRefused
answer_of (given.At to port) = At to port

-- the calls with their answers
abbrev pub asked_as : Queued → Asked
asked_as c = record { call = c.call; answer = c.answer }

abbrev pub asked_by : QueueState → List Asked
asked_by q = map asked_as q.calls

-- a call of which nothing was heard or sent
abbrev pub fresh : CallPlan → Queued
fresh call = record { call = call; answer = Waits; is_open = false }

-- ---- which trigger is next

-- whether a call to this target is open
abbrev pub is_open_to : List ℕ → Queued → Bool
is_open_to target c = c.is_open && bytes_eq c.call.to target

-- the idents of the open calls to a target, the newest first
abbrev pub open_idents : List ℕ → List Queued → List (List ℕ)
open_idents target [] = []
open_idents target (c ∷ calls) = open_idents target calls ++ (if is_open_to target c then ident_of c.call.number ∷ [] else [])

-- how many calls to a target are open
abbrev pub open_count : List ℕ → List Queued → ℕ
open_count target calls = length (open_idents target calls)

-- the trigger of this call is next, and the limit allows it
abbrev pub IsDue : QueueState → Queued → Type 0
IsDue q c = (slice_get q.calls q.next ≡ Some c) × (open_count c.call.to q.calls < 16)

-- all triggers were sent, or the limit holds the next one back
abbrev pub IsHeld : QueueState → Type 0
IsHeld q = MatchOption (slice_get q.calls q.next) (Unit {0}) (λ c. 16 ≤ open_count c.call.to q.calls)

-- the trigger of a call in the version that was agreed on
abbrev pub trigger_of : ℕ → CallPlan → Message
trigger_of version call =
    if nat_lt version 3 then Trigger call.to (ident_of call.number) call.service else Trigger3 call.to (ident_of call.number) call.service

-- what a queue has to send: the trigger that is due, or nothing
abbrev pub HasToSay : QueueState → ℕ → Option Message → Type 0
HasToSay q version None = IsHeld q
HasToSay q version (Some m) = (c : Queued) × IsDue q c × (m ≡ trigger_of version c.call)

-- the length of what it has to send, as it is written on a channel
abbrev pub HasToSayOfLen : QueueState → ℕ → Option ℕ → Type 0
HasToSayOfLen q version None = IsHeld q
HasToSayOfLen q version (Some len) = (m : Message) × HasToSay q version (Some m) × (len ≡ length (written m))

-- ---- what is left of it

-- after the next trigger: its call is open, unless it was refused before
abbrev pub after_trigger : QueueState → Queued → QueueState
after_trigger q c = record { calls = slice_set q.calls q.next (record c { is_open = not (is_refusal c.answer) }); next = q.next + 1 }

-- after an answer: the call with this ident has it, if it waited; a call that is refused is no longer open
abbrev pub answered_call : List ℕ → Answer → Queued → Queued
answered_call ident answer c =
    if waits_as ident (asked_as c) then record { call = c.call; answer = answer; is_open = (if is_refusal answer then false else c.is_open) } else c

abbrev pub after_answer : QueueState → List ℕ → Answer → QueueState
after_answer q ident answer = record { calls = map (answered_call ident answer) q.calls; next = q.next }

-- ---- what is required of the calls

-- the texts of a call fit a trigger of either version
abbrev pub FitsTrigger : CallPlan → Type 0
FitsTrigger call = (length call.to ≤ 31) × (length call.service ≤ 63)

-- the call at a place has this ident and waits
abbrev pub IsWaitingAt : QueueState → ℕ → List ℕ → Type 0
IsWaitingAt q place ident = (c : Queued) × (slice_get q.calls place ≡ Some c) × (waits_as ident (asked_as c) ≡ true)

-- the call at a place was answered with this domain and port
abbrev pub IsConnectedAt : QueueState → ℕ → ℕ → ℕ → Type 0
IsConnectedAt q place domain port = (c : Queued) × (slice_get q.calls place ≡ Some c) × (is_at domain port c.answer ≡ true)
