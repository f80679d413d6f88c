-- The calls of an agent: which of them are open, by their sessions and by what was sent.
-- Source: this project's own.
use Rattle.std.specs.Prelude.{◌≡◌, ◌⊎◌, ℕ, ◌<◌, ◌≤◌, Bool, true, false, List, ◌++◌, length, filter_map, slice_get, Some}
use Rattle.list_laws.specs.Lists.{SomeOf}
use Rattle.qrexec_frame.specs.declared.message.Message.{Message}
use Rattle.qrexec_frame.specs.declared.message.Message.TheVariants.{Terminated}
use Rattle.task_duties.specs.declared.done.SessionEnd.{SessionEnd}
use Rattle.task_duties.specs.Agent.Answers.{Answer, Waits, IsRefused, At}
use Rattle.task_duties.specs.Agent.Saying.{asking}
use Rattle.agent_queue.specs.Queue.{Queued, QueueState}

-- the session of the call at a place is open, or its end waits to be reported
abbrev pub IsUnderWay : List SessionEnd → List SessionEnd → ℕ → Type 0
IsUnderWay unsaid opened place = SomeOf (λ e. e.call ≡ Some place) unsaid ⊎ SomeOf (λ o. o.call ≡ Some place) opened

-- the end of a session was reported
abbrev pub IsReported : List Message → ℕ → ℕ → Type 0
IsReported said to port = SomeOf (λ m. m ≡ Terminated to port) said

-- it was reported before the trigger of the call at this place was sent, so after at most as many triggers as there are calls before that
pub record IsReportedEarly (said : List Message) (place to port : ℕ) : Type 0 where
  pub before : List Message
  pub after : List Message
  pub is : said ≡ before ++ after
  pub reported : IsReported before to port
  pub early : length (filter_map asking before) ≤ place

-- by its answer: a call that was refused isn't open; the session of one that was let through is under way, or its end was reported, and then the call isn't open, unless that was before its trigger
abbrev pub CallStands : List SessionEnd → List SessionEnd → List Message → ℕ → Bool → Answer → Type 0
CallStands unsaid opened said place is_open Waits = Unit {0}
CallStands unsaid opened said place is_open IsRefused = is_open ≡ false
CallStands unsaid opened said place is_open (At to port) = IsUnderWay unsaid opened place ⊎ (IsReported said to port × (is_open ≡ true → IsReportedEarly said place to port))

-- and a call that is open was asked for
abbrev pub CallsStand : QueueState → List SessionEnd → List SessionEnd → List Message → Type 0
CallsStand q unsaid opened said = (place : ℕ) (c : Queued) → slice_get q.calls place ≡ Some c → (c.is_open ≡ true → place < q.next) × CallStands unsaid opened said place c.is_open c.answer
