-- How a queue is kept inside.
use Rattle.std.specs.Prelude.{◌≡◌, ℕ, ◌≤◌, true, false, List, length, map, drop, Some, slice_index}
use Rattle.std.specs.BTreeMap.{BTreeMap}
use Rattle.std.specs.List.{AllByRecursion as Each}
use Rattle.list_laws.specs.Lists.{AreDifferent}
use Rattle.scenario_file.specs.declared.scenario.CallPlan.{CallPlan}
use Rattle.call_broker.specs.Domains.{place_of}
use Rattle.task_duties.specs.Words.{ident_of}
use Rattle.task_duties.specs.Agent.Answers.{waits}
use Rattle.agent_queue.specs.declared.call.QueuedCall.{QueuedCall}
use Rattle.agent_queue.specs.declared.call.CallAnswer.TheVariants.{Waits}
use Rattle.agent_queue.specs.declared.queue.CallQueue.TheInside.{Inside}
use Rattle.agent_queue.specs.Queue.{Queued, QueueState, answer_of, open_count}
use Rattle.agent_queue.specs.Index.{IsIndex}

-- what contracts see of a call
abbrev pub queued : QueuedCall → Queued
queued c = record { call = c.given.value; answer = answer_of c.answer; is_open = c.is_open }

-- the calls as contracts see them
abbrev pub all_queued : List QueuedCall → List Queued
all_queued calls = map queued calls

-- what contracts see of the queue
abbrev pub state_of : Inside → QueueState
state_of q = record { calls = all_queued q.calls.items; next = q.next }

-- a call is kept as it was given, with its input until its session takes it, and its texts fit a trigger
pub record IsFaithful (c : QueuedCall) : Type 0 where
  pub number : c.plan.number ≡ c.given.value.number
  pub to : c.plan.to ≡ c.given.value.to
  pub service : c.plan.service ≡ c.given.value.service
  pub stdin : waits (answer_of c.answer) ≡ true → c.plan.stdin ≡ c.given.value.stdin
  pub short_to : length c.given.value.to ≤ 31
  pub short_service : length c.given.value.service ≤ 63

abbrev pub idents : List QueuedCall → List (List ℕ)
idents calls = map (λ c. ident_of c.given.value.number) calls

abbrev pub targets : List QueuedCall → List (List ℕ)
targets calls = map (λ c. c.given.value.to) calls

-- the count at a call's target is that of the open calls to it
abbrev pub IsCounted : List Queued → List ℕ → QueuedCall → Type 0
IsCounted calls counts c = slice_index counts c.target ≡ open_count c.given.value.to calls

-- the calls, the index of their idents, the counts of open calls, and how many calls were requested
pub record AreKept (calls : List QueuedCall) (index : BTreeMap ℕ ℕ) (counts : List ℕ) (next : ℕ) : Type 0 where
  pub faithful : Each IsFaithful calls
  pub differ : AreDifferent (idents calls)
  pub indexed : IsIndex (idents calls) index
  -- the place of a target's count is that of the first call to it
  pub first : Each (λ c. place_of (targets calls) c.given.value.to ≡ Some c.target) calls
  pub as_many : length counts ≡ length calls
  pub counted : Each (IsCounted (all_queued calls) counts) calls
  -- no call is open that wasn't requested
  pub closed : Each (λ c. c.is_open ≡ false) (drop next calls)
  pub within : next ≤ length calls

abbrev pub IsKept : Inside → Type 0
IsKept q = AreKept q.calls.items q.by_ident q.counts.items q.next

-- a call before anything was heard or sent of it, with the first place of its target among the targets of all calls
pub record IsFresh (targets : List (List ℕ)) (call : CallPlan) (c : QueuedCall) : Type 0 where
  pub plan : c.plan ≡ call
  pub given : c.given.value ≡ call
  pub target : place_of targets call.to ≡ Some c.target
  pub waits : c.answer ≡ Waits
  pub closed : c.is_open ≡ false
