-- What a queue stands for: the messages that were sent for it.
use Rattle.std.specs.Prelude.{◌≡◌, ℕ, false, List, [], ◌∷◌, map, filter_map, take}
use Rattle.std.specs.List.{AllByRecursion as Each}
use Rattle.qrexec_frame.specs.declared.message.Message.{Message}
use Rattle.task_duties.specs.Words.{ident_of}
use Rattle.task_duties.specs.Agent.Answers.{Answer, Asked, waits}
use Rattle.task_duties.specs.Agent.Saying.{asking, asking_of, open_after, KeepsTo}
use Rattle.task_duties.proofs.SubLists.{Sub}
use Rattle.agent_queue.specs.Queue.{QueueState, asked_by, open_idents}

-- the idents of the open calls to a target after some messages, from these on
abbrev pub open_along : (List ℕ → Answer) → List ℕ → List (List ℕ) → List Message → List (List ℕ)
open_along answer target calls [] = calls
open_along answer target calls (m ∷ said) = open_along answer target (open_after answer target m calls) said

-- final answers that agree with those of the calls that no longer wait
abbrev pub Extends : List Asked → (List ℕ → Answer) → Type 0
Extends asked answer = Each (λ a. waits a.answer ≡ false → answer (ident_of a.call.number) ≡ a.answer) asked

-- by these final answers the limit was kept, and each open call to a target is one that the queue has as open
pub record IsWithin (q : QueueState) (said : List Message) (answer : List ℕ → Answer) (target : List ℕ) : Type 0 where
  pub keeps : KeepsTo answer target [] said
  pub some : Sub (open_along answer target [] said) (open_idents target q.calls)

-- the triggers that were sent are those of the first calls in their order, and the limit was kept, however the pending calls are answered
pub record Asks (q : QueueState) (said : List Message) : Type 0 where
  pub asked : filter_map asking said ≡ take q.next (map (λ c. asking_of c.call) q.calls)
  pub within : (answer : List ℕ → Answer) → Extends (asked_by q) answer → (target : List ℕ) → IsWithin q said answer target
