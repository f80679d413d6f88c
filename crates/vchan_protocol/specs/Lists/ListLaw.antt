-- Whole calls of two honest ends are calls on lists.
use Rattle.std.specs.Prelude.{◌≡◌, ◌≢◌, ℕ, ◌<◌, ◌^◌, Option, Some, None, List, [], ◌∷◌, length, take}
use Rattle.ring_words.specs.declared.order.Orders.{Orders}
use Rattle.ring_words.specs.declared.page.Role.{Role}
use Rattle.vchan_protocol.specs.declared.call.Answer.{Answer}
use Rattle.vchan_protocol.specs.declared.call.Answer.TheVariants.{Got}
use Rattle.vchan_protocol.specs.declared.call.Call.{Call}
use Rattle.vchan_protocol.specs.declared.call.EndState.{EndState}
use Rattle.vchan_protocol.specs.declared.call.EndState.TheVariants.{Shut}
use Rattle.vchan_protocol.specs.Table.Calls.{payload_of, IsAllowed}
use Rattle.vchan_protocol.specs.History.Core.{Core, opened, side_of, bytes_loaded}
use Rattle.vchan_protocol.specs.History.WholeCall.{called, call_answer}
use Rattle.vchan_protocol.specs.Honest.RingLaw.{AreBytes}
use Rattle.vchan_protocol.specs.Honest.Lawful.{Lawful}
use Rattle.vchan_protocol.specs.Honest.Reached.{MayBegin}
use Rattle.vchan_protocol.specs.Lists.ListCall.{ChannelLists, EndCall, end_of, lists_of, list_call, list_calls, waiting}

-- the answer is the one that the lists tell, if they tell one
abbrev pub IsTold : Option Answer → Answer → Type 0
IsTold None answer = Unit {0}
IsTold (Some told) answer = answer ≡ told

-- how many bytes a call got, by its answer
abbrev pub count_got : Answer → ℕ
count_got (Got count) = count
count_got _ = 0

-- a whole call does to the lists what the call on lists does, gives its answer, and loads the first bytes that waited
pub record FollowsLists (core : Core) (who : Role) (call : Call) (payload : List ℕ) : Type 0 where
  pub lists : lists_of (called core who call payload) ≡ (list_call (lists_of core) who call payload).0
  pub answer : IsTold (list_call (lists_of core) who call payload).1 (call_answer core who call payload)
  pub bytes : bytes_loaded (side_of (called core who call payload) who).trail ≡ take (count_got (call_answer core who call payload)) (waiting (lists_of core) who)

-- in a lawful core state each whole call is the call on lists; meanwhile the peer makes no event, wherever it stands in a call of its own
abbrev pub WholeCallsFollowLists : Type 0
WholeCallsFollowLists =
    (core : Core) (who : Role) (call : Call) (payload : List ℕ) → Lawful core → MayBegin who (side_of core who) call payload → FollowsLists core who call payload

-- ---- calls in a row

-- the core state after these whole calls, one after the other, and their answers
abbrev pub called_all : Core → List EndCall → Core × List Answer
called_all core [] = (core, [])
called_all core (one ∷ more) =
    let others = called_all (called core one.who one.call one.payload) more in
    (others.0, call_answer core one.who one.call one.payload ∷ others.1)

-- a call that an end may begin by the lists, with a payload of the call's length
abbrev pub MayCall : ChannelLists → Role → Call → List ℕ → Type 0
MayCall channel who call payload = IsAllowed who (end_of channel who).state call × (length payload ≡ payload_of call) × AreBytes payload

-- each end may begin its call when its turn comes
abbrev pub MayCallAll : ChannelLists → List EndCall → Type 0
MayCallAll channel [] = Unit {0}
MayCallAll channel (one ∷ more) = MayCall channel one.who one.call one.payload × MayCallAll (list_call channel one.who one.call one.payload).0 more

-- the answers are those that the lists tell
abbrev pub AreTold : List (Option Answer) → List Answer → Type 0
AreTold [] [] = Unit {0}
AreTold (told ∷ more) (answer ∷ others) = IsTold told answer × AreTold more others
AreTold _ _ = ⊥

-- these whole calls, one after the other, do to the lists what the calls on lists do, and give their answers
pub record AllFollowLists (core : Core) (calls : List EndCall) : Type 0 where
  pub lists : lists_of (called_all core calls).0 ≡ (list_calls (lists_of core) calls).0
  pub answers : AreTold (list_calls (lists_of core) calls).1 (called_all core calls).1

-- from a lawful core state on, whole calls of both ends in any order are the calls on lists
abbrev pub CallsInARowFollowLists : Type 0
CallsInARowFollowLists = (core : Core) (calls : List EndCall) → Lawful core → MayCallAll (lists_of core) calls → AllFollowLists core calls

-- the same from the opening of a page on
abbrev pub CallsFromTheOpeningFollowLists : Type 0
CallsFromTheOpeningFollowLists =
    (orders : Orders) (start : ℕ) (said : ℕ × ℕ) (state : EndState) (calls : List EndCall) → start < 2 ^ 32 → said.0 < 2 ^ 16 → said.1 < 2 ^ 16 → state ≢ Shut →
    MayCallAll (lists_of (opened orders start said state)) calls → AllFollowLists (opened orders start said state) calls
