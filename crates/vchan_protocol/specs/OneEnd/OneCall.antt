-- A call of one end by its own events, whatever values these took, and so whatever its peer does between them.
-- Source: libxenvchan's io.c for what a call's answer counts; the statements are this project's own.
use Rattle.std.specs.Prelude.{◌≡◌, ◌≤◌, ◌||◌, ℕ, ◌+◌, Option, Some, None, List, [], ◌∷◌, ◌++◌, length, take, slice_set, ◌%◌}
use Rattle.vchan_protocol.specs.declared.op.Op.{Op}
use Rattle.vchan_protocol.specs.declared.op.Op.TheVariants.{LoadByte}
use Rattle.vchan_protocol.specs.declared.op.PastEvent.{PastEvent}
use Rattle.vchan_protocol.specs.declared.call.Answer.{Answer}
use Rattle.vchan_protocol.specs.declared.call.Answer.TheVariants.{Wrote, Sent, Got}
use Rattle.vchan_protocol.specs.declared.call.Call.{Call}
use Rattle.vchan_protocol.specs.declared.side.Side.{Side}
use Rattle.vchan_protocol.specs.Table.Plan.{Leads, GoesOn, after}
use Rattle.vchan_protocol.specs.Table.Apply.{filled}
use Rattle.vchan_protocol.specs.Table.Calls.{plan_of, payload_of, loaded_most, most_events, Trace}
use Rattle.vchan_protocol.specs.History.Core.{begun_by, begins, made, answered, side_after, standing_of, plan_left, op_next, answer_in, count_stored, bytes_loaded, drains, ending, first_ended, misleads}

-- an end after these events of its own
abbrev pub side_along : Side → List PastEvent → Side
side_along s [] = s
side_along s (event ∷ events) = side_along (made s event.op event.taken) events

-- an end after a whole call of these events, with this answer
abbrev pub side_called : Side → Call → List ℕ → List PastEvent → Answer → Side
side_called s call payload events answer = answered (side_along (begins s call payload) events) answer

-- ---- what an answer tells of the bytes

-- how many bytes a call sent, and how many it got, by its answer
abbrev pub bytes_out : Answer → ℕ
bytes_out (Wrote count) = count
bytes_out (Sent count) = count
bytes_out _ = 0

abbrev pub bytes_in : Answer → ℕ
bytes_in (Got count) = count
bytes_in _ = 0

-- A whole call sends as many of the first bytes of its payload as its answer tells, and these are all that it stored. It gets all that it loaded, which are as
-- many as its answer tells.
pub record MovesAsAnswered (was : Side) (call : Call) (payload : List ℕ) (events : List PastEvent) (answer : Answer) : Type 0 where
  pub sent : (side_called was call payload events answer).sent ≡ was.sent ++ take (bytes_out answer) payload
  pub got : (side_called was call payload events answer).got ≡ was.got ++ bytes_loaded events
  pub stored : count_stored events ≡ bytes_out answer
  pub loaded : length (bytes_loaded events) ≡ bytes_in answer
  pub pays : bytes_out answer ≤ payload_of call
  pub takes : bytes_in answer ≤ loaded_most (standing_of was) call

abbrev pub AnswersTellBytes : Type 0
AnswersTellBytes =
    (was : Side) (call : Call) (payload : List ℕ) (events : List PastEvent) (answer : Answer) → Trace (standing_of was) call events answer → MovesAsAnswered was call payload events answer

-- ---- one event after the other

-- a buffer after the byte of a load, the low 8 bits of its word, has landed in it
abbrev pub landed : Op → ℕ → List ℕ → List ℕ
landed (LoadByte word at) value buffer = slice_set buffer at (value % 256)
landed _ value buffer = buffer

-- An end that was as `was` when it began a call is this end after the events of its trail. They lead to what is left of the call, and the buffer has the bytes
-- that they loaded.
pub record OnWay (was : Side) (call : Call) (payload start : List ℕ) (s : Side) (buffer : List ℕ) : Type 0 where
  pub is : s ≡ side_along (begins was call payload) s.trail
  pub led : Leads (plan_of (standing_of was) call) s.trail (plan_left s)
  pub fills : buffer ≡ filled start (bytes_loaded s.trail)

-- the call is over, with this answer
pub record IsOver (was : Side) (call : Call) (payload start : List ℕ) (s : Side) (buffer : List ℕ) (answer : Answer) : Type 0 where
  pub is : s ≡ side_called was call payload s.trail answer
  pub trace : Trace (standing_of was) call s.trail answer
  pub fills : buffer ≡ filled start (bytes_loaded s.trail)

-- since the end was as `was` it has made this one call, and no other. The events of its trail are those of the call, at most as many as the call's bound.
pub record MadeOneCall (was : Side) (call : Call) (s : Side) (answer : Answer) : Type 0 where
  pub calls : s.calls ≡ was.calls ++ record { begun = begun_by was call; trail = s.trail; answer = answer } ∷ []
  pub bound : length s.trail ≤ most_events (standing_of was) call

-- with no answer yet the call goes on, and with one it is over
abbrev pub IsThen : Side → Call → List ℕ → List ℕ → Side → List ℕ → Option Answer → Type 0
IsThen was call payload start s buffer None = OnWay was call payload start s buffer
IsThen was call payload start s buffer (Some answer) = IsOver was call payload start s buffer answer

-- a call that begins is on its way
abbrev pub WayBegins : Type 0
WayBegins = (was : Side) (call : Call) (payload start : List ℕ) → OnWay was call payload start (begins was call payload) start

-- whatever value its next event takes, it is on its way or over then; and it has made fewer events than it may make in all
pub record WayGoesOn (was : Side) (call : Call) (payload start : List ℕ) (s : Side) (buffer : List ℕ) : Type 0 where
  pub few : length s.trail + 1 ≤ most_events (standing_of was) call
  pub next : (taken : ℕ) → IsThen was call payload start (side_after s taken) (landed (op_next s) taken buffer) (answer_in (after (plan_left s) taken))

abbrev pub EachWayGoesOn : Type 0
EachWayGoesOn =
    (was : Side) (call : Call) (payload start : List ℕ) (s : Side) (buffer : List ℕ) → loaded_most (standing_of was) call ≤ length start → OnWay was call payload start s buffer → GoesOn (plan_left s) →
    WayGoesOn was call payload start s buffer

-- what a call that is over has made of its end, as its answer tells
pub record OverTells (was : Side) (payload : List ℕ) (s : Side) (buffer : List ℕ) (answer : Answer) : Type 0 where
  pub sent : s.sent ≡ was.sent ++ take (bytes_out answer) payload
  pub got : s.got ≡ was.got ++ take (bytes_in answer) buffer
  pub drained : s.drained ≡ (was.drained || drains answer)
  pub ended : s.ended ≡ first_ended was.ended (ending answer)
  pub misled : s.misled ≡ (was.misled || misleads answer)
  pub turned : s.turned ≡ was.turned
  pub idle : s.call ≡ None

abbrev pub EachOverTells : Type 0
EachOverTells =
    (was : Side) (call : Call) (payload start : List ℕ) (s : Side) (buffer : List ℕ) (answer : Answer) → IsOver was call payload start s buffer answer → OverTells was payload s buffer answer
