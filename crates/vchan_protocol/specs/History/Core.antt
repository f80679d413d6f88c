-- A core state: the words of a page, and all that each of its two ends has done.
-- Source: libxenvchan's io.c for when bytes are shown and released; what an end may rely on to be woken follows its notify bits.
use Rattle.std.specs.Prelude.{ℕ, ◌+◌, ◌==◌, Bool, true, false, not, ◌&&◌, ◌||◌, Option, Some, None, List, [], ◌∷◌, ◌++◌, take, if◌then◌else◌}
use Rattle.ring_words.specs.declared.order.Orders.{Orders}
use Rattle.ring_words.specs.declared.page.Role.{Role}
use Rattle.ring_words.specs.declared.page.Role.TheVariants.{Server, Client}
use Rattle.ring_words.specs.declared.page.Ring.{Ring}
use Rattle.ring_words.specs.declared.page.Ring.TheVariants.{Left, Right}
use Rattle.ring_words.specs.declared.page.WordName.{WordName}
use Rattle.ring_words.specs.declared.page.WordName.TheVariants.{LeftCons, LeftProd, RightCons, RightProd, CliLive, SrvLive, CliGone, SrvGone}
use Rattle.vchan_protocol.specs.declared.op.Op.{Op}
use Rattle.vchan_protocol.specs.declared.op.Op.TheVariants.{Load, LoadByte, Store, StoreByte, Or, Swap}
use Rattle.vchan_protocol.specs.declared.op.PastEvent.{PastEvent}
use Rattle.vchan_protocol.specs.declared.call.Answer.{Answer}
use Rattle.vchan_protocol.specs.declared.call.Answer.TheVariants.{AllRead, PeerGone, BadOrders, Done}
use Rattle.vchan_protocol.specs.declared.call.Call.{Call}
use Rattle.vchan_protocol.specs.declared.call.EndState.{EndState}
use Rattle.vchan_protocol.specs.declared.call.EndState.TheVariants.{Open, Shut}
use Rattle.vchan_protocol.specs.declared.side.Side.{Side}
use Rattle.vchan_protocol.specs.declared.side.Begun.{Begun}
use Rattle.vchan_protocol.specs.declared.side.PastCall.{PastCall}
use Rattle.vchan_protocol.specs.declared.side.Asked.{Asked}
use Rattle.vchan_protocol.specs.declared.side.Notes.{Notes}
use Rattle.vchan_protocol.specs.declared.side.EndedBy.{EndedBy}
use Rattle.vchan_protocol.specs.declared.side.EndedBy.TheVariants.{AllRead as ByAllRead, PeerGone as ByPeerGone}
use Rattle.vchan_protocol.specs.Table.Plan.{Plan, answers, does, next_op, after, rest_after, past}
use Rattle.vchan_protocol.specs.Table.Ends.{Standing, standing_after, state_after, prod_after, cons_after, low8, low32}
use Rattle.vchan_protocol.specs.Table.Calls.{plan_of}
use Rattle.vchan_protocol.specs.Table.Apply.{words_after, value_taken}
use Rattle.vchan_protocol.specs.History.Page.{start_words}

pub record Core : Type 0 where
  -- the number at which all indices began, and what the order words held then
  pub start : ℕ
  pub said : ℕ × ℕ
  pub orders : Orders
  pub words : List ℕ
  pub server : Side
  pub client : Side

-- ---- the ends of a core state

abbrev pub side_of : Core → Role → Side
side_of core Server = core.server
side_of core Client = core.client

abbrev pub writer_of : Core → Ring → Side
writer_of core Left = core.client
writer_of core Right = core.server

abbrev pub reader_of : Core → Ring → Side
reader_of core Left = core.server
reader_of core Right = core.client

-- the core state with another value for this end
abbrev pub with_side : Core → Role → Side → Core
with_side core Server side = record core { server = side }
with_side core Client side = record core { client = side }

-- ---- the opening

abbrev pub not_asked : Asked
not_asked = record { since = false; seen = None }

abbrev pub nothing_noted : Notes
nothing_noted = record { written = not_asked; consumed = not_asked; live = None; gone = None }

-- an end that has done nothing yet
abbrev pub new_side : Role → Orders → ℕ → EndState → Side
new_side role orders start state = record {
  role = role;
  orders = orders;
  state = state;
  prod = start;
  cons = start;
  call = None;
  trail = [];
  payload = [];
  calls = [];
  sent = [];
  got = [];
  saw = false;
  ended = None;
  misled = false;
  drained = false;
  retired = false;
  turned = false;
  consumed = 0;
  notes = nothing_noted;
}

-- a page on which nothing has happened yet, with this state of the client
abbrev pub opened : Orders → ℕ → ℕ × ℕ → EndState → Core
opened orders start said state = record {
  start = start;
  said = said;
  orders = orders;
  words = start_words orders start said state;
  server = new_side Server orders start Open;
  client = new_side Client orders start state;
}

-- ---- a call of an end

-- how the end stood when it began its call
abbrev pub begun_standing : Side → Begun → Standing
begun_standing s b = record { role = s.role; orders = s.orders; state = b.state; prod = b.prod; cons = b.cons }

-- how the end stands now
abbrev pub standing_of : Side → Standing
standing_of s = record { role = s.role; orders = s.orders; state = s.state; prod = s.prod; cons = s.cons }

-- how an end stands after these events of its own
abbrev pub standing_along : Standing → List PastEvent → Standing
standing_along e [] = e
standing_along e (event ∷ events) = standing_along (standing_after e event.op) events

-- what is left of its call, by its trail
abbrev pub plan_left : Side → Plan
plan_left s = elim s.call [ None ↦ answers Done | Some b ↦ rest_after (plan_of (begun_standing s b) b.call) s.trail ]

-- the event that it makes next
abbrev pub op_next : Side → Op
op_next s = next_op (plan_left s)

-- how the end stands when it begins this call
abbrev pub begun_by : Side → Call → Begun
begun_by s call = record { call = call; state = s.state; prod = s.prod; cons = s.cons }

-- the end after it begins a call with this payload
abbrev pub begins : Side → Call → List ℕ → Side
begins s call payload = record s {
  call = Some (begun_by s call);
  trail = [];
  payload = payload;
}

-- ---- what an event adds to its end

-- how many ring bytes an event stores, and which it loads
abbrev pub stored_by : Op → ℕ
stored_by (StoreByte word at) = 1
stored_by _ = 0

abbrev pub loaded_by : Op → ℕ → List ℕ
loaded_by (LoadByte word at) taken = low8 taken ∷ []
loaded_by _ taken = []

-- how many ring bytes a trail has stored so far, and which it has loaded
abbrev pub count_stored : List PastEvent → ℕ
count_stored [] = 0
count_stored (event ∷ events) = stored_by event.op + count_stored events

abbrev pub bytes_loaded : List PastEvent → List ℕ
bytes_loaded [] = []
bytes_loaded (event ∷ events) = loaded_by event.op event.taken ++ bytes_loaded events

-- `sent` grows when the end stores the producer index of the ring that it writes
abbrev pub sent_stored : WordName → Role → List PastEvent → List ℕ → List ℕ → List ℕ
sent_stored LeftProd Client trail payload sent = sent ++ take (count_stored trail) payload
sent_stored RightProd Server trail payload sent = sent ++ take (count_stored trail) payload
sent_stored _ _ trail payload sent = sent

abbrev pub sent_after : Op → Side → List ℕ
sent_after (Store word value) s = sent_stored word s.role s.trail s.payload s.sent
sent_after _ s = s.sent

-- `got` grows when the end stores the consumer index of the ring that it reads
abbrev pub got_stored : WordName → Role → List PastEvent → List ℕ → List ℕ
got_stored LeftCons Server trail got = got ++ bytes_loaded trail
got_stored RightCons Client trail got = got ++ bytes_loaded trail
got_stored _ _ trail got = got

abbrev pub got_after : Op → Side → List ℕ
got_after (Store word value) s = got_stored word s.role s.trail s.got
got_after _ s = s.got

-- the peer's live byte is loaded as 0, or its gone word as not 0
abbrev pub sees_end : WordName → Role → ℕ → Bool
sees_end CliLive Server taken = low8 taken == 0
sees_end SrvLive Client taken = low8 taken == 0
sees_end CliGone Server taken = not (taken == 0)
sees_end SrvGone Client taken = not (taken == 0)
sees_end _ _ taken = false

abbrev pub is_shut : EndState → Bool
is_shut Shut = true
is_shut _ = false

abbrev pub saw_after : Op → ℕ → Side → Bool
saw_after (Load word) taken s = s.saw || (not (is_shut s.state) && sees_end word s.role taken)
saw_after _ taken s = s.saw

-- the event stores to the gone word of this end
abbrev pub sets_gone_word : WordName → Role → Bool
sets_gone_word SrvGone Server = true
sets_gone_word CliGone Client = true
sets_gone_word _ role = false

abbrev pub sets_gone : Op → Role → Bool
sets_gone (Store word value) role = sets_gone_word word role
sets_gone _ role = false

-- an end is retired from its store to its own gone word on
abbrev pub retired_after : Op → Side → Bool
retired_after op s = sets_gone op s.role || s.retired

-- ---- what an event adds to the notes of its end

-- the peer's index is loaded: it counts if the end has asked
abbrev pub index_seen : ℕ → Asked → Asked
index_seen index a = record a { seen = if a.since then Some index else None }

abbrev pub noted_load : WordName → Role → ℕ → Notes → Notes
noted_load LeftProd Server taken n = record n { written = index_seen (low32 taken) n.written }
noted_load RightProd Client taken n = record n { written = index_seen (low32 taken) n.written }
noted_load LeftCons Client taken n = record n { consumed = index_seen (low32 taken) n.consumed }
noted_load RightCons Server taken n = record n { consumed = index_seen (low32 taken) n.consumed }
noted_load CliLive Server taken n = record n { live = Some (low8 taken) }
noted_load SrvLive Client taken n = record n { live = Some (low8 taken) }
noted_load CliGone Server taken n = record n { gone = Some taken }
noted_load SrvGone Client taken n = record n { gone = Some taken }
noted_load _ _ taken n = n

abbrev pub asks : Asked
asks = record { since = true; seen = None }

-- An end asks by an or, and tries to take an event by a swap: it makes no other or and no other swap. A swap that took 0 found no event, and leaves the notes.
abbrev pub noted : Op → Role → ℕ → Notes → Notes
noted (Load word) role taken n = noted_load word role taken n
noted (Or word bits) role taken n = if bits == 1 then record n { written = asks } else record n { consumed = asks }
noted (Swap word value) role taken n = if taken == 0 then n else nothing_noted
noted _ role taken n = n

-- ---- an end after an event, and after its answer

abbrev pub made : Side → Op → ℕ → Side
made s op taken = record s {
  state = state_after op s.role s.state;
  prod = prod_after op s.role s.prod;
  cons = cons_after op s.role s.cons;
  trail = s.trail ++ past op taken ∷ [];
  sent = sent_after op s;
  got = got_after op s;
  saw = saw_after op taken s;
  retired = retired_after op s;
  notes = noted op s.role taken s.notes;
}

-- how an answer ends a stream
abbrev pub ending : Answer → Option EndedBy
ending AllRead = Some ByAllRead
ending (PeerGone prod cons) = Some ByPeerGone
ending _ = None

-- the answer tells that all was read, and that nothing more is written
abbrev pub drains : Answer → Bool
drains AllRead = true
drains (PeerGone prod cons) = prod == cons
drains _ = false

abbrev pub misleads : Answer → Bool
misleads (BadOrders left right) = true
misleads _ = false

-- the first of two endings
abbrev pub first_ended : Option EndedBy → Option EndedBy → Option EndedBy
first_ended None later = later
first_ended (Some ended) later = Some ended

-- the call under way, as one that was made
abbrev pub ended_call : Option Begun → List PastEvent → Answer → List PastCall
ended_call None trail answer = []
ended_call (Some begun) trail answer = record { begun = begun; trail = trail; answer = answer } ∷ []

abbrev pub answered : Side → Answer → Side
answered s answer = record s {
  call = None;
  calls = s.calls ++ ended_call s.call s.trail answer;
  ended = first_ended s.ended (ending answer);
  drained = s.drained || drains answer;
  misled = s.misled || misleads answer;
}

-- ---- a core state after an event of an end

abbrev pub begun : Core → Role → Call → List ℕ → Core
begun core who call payload = with_side core who (begins (side_of core who) call payload)

-- an op of this end is carried out
abbrev pub carried_out : Core → Role → Op → Core
carried_out core who op =
    with_side (record core { words = words_after core.orders core.words (side_of core who).payload op }) who
    (made (side_of core who) op (value_taken core.orders core.words op))

-- the answer, if nothing else is left
abbrev pub answer_in : Plan → Option Answer
answer_in (answers answer) = Some answer
answer_in (does op next) = None

-- if nothing is left of its call, the end has its answer
abbrev pub settled : Side → Plan → Side
settled s (answers answer) = answered s answer
settled s (does op next) = s

-- an end after the next event of its call, which took this value, and after its answer if that was the last event
abbrev pub side_after : Side → ℕ → Side
side_after s taken = settled (made s (op_next s) taken) (after (plan_left s) taken)

-- the event that an end makes next, the value that it takes, and what is left of its call then
abbrev pub taken_next : Core → Role → ℕ
taken_next core who = value_taken core.orders core.words (op_next (side_of core who))

abbrev pub plan_next : Core → Role → Plan
plan_next core who = after (plan_left (side_of core who)) (taken_next core who)

-- the next event of an end, and its answer if that was the last event of the call
unfoldable pub event : Core → Role → Core
event core who =
    with_side (record core { words = words_after core.orders core.words (side_of core who).payload (op_next (side_of core who)) }) who
    (side_after (side_of core who) (taken_next core who))
