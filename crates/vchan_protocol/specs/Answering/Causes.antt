-- Why a call answers as it does, by what it loaded: for each call, one line for each answer.
-- Source: libxenvchan's io.c, non-blocking mode, and init.c for the order words. The causes of Drain and PeerGone are this project's.
use Rattle.std.specs.Prelude.{◌≡◌, ◌≢◌, ℕ, ◌<◌, ◌≤◌, ◌==◌, min, not, Option, Some, IsSomeAnd, List, [], ◌∷◌}
use Rattle.ring_words.specs.Rings.{ready, room, number_of}
use Rattle.vchan_protocol.specs.declared.call.Answer.{Answer}
use Rattle.vchan_protocol.specs.declared.call.Answer.TheVariants.{Wrote, Full, Sent, NoRoom, Got, Empty, Short, PeerClosed, Ready, Space, Connected, BadOrders, Done, Event, NotYet, AllRead, PeerGone, Gone}
use Rattle.vchan_protocol.specs.declared.call.Call.{Call}
use Rattle.vchan_protocol.specs.declared.call.Call.TheVariants.{Write, Send, Read, Recv, Drain, DataReady, BufferSpace, Connect, Close, TakeEvent, Retire, PeerGone as AskGone}
use Rattle.vchan_protocol.specs.Table.Ends.{Standing, write_order, read_order}
use Rattle.vchan_protocol.specs.Answering.Loads.{Pair, Loads, last_pair}

-- ---- what was found

-- how many bytes have room in the ring that the end writes
abbrev pub room_at : Standing → Pair → ℕ
room_at e pair = room pair.prod pair.cons (write_order e)

-- how many bytes wait in the ring that it reads
abbrev pub waiting_at : Standing → Pair → ℕ
waiting_at e pair = ready pair.prod pair.cons (read_order e)

-- the peer's live byte was loaded as 0
abbrev pub FoundShut : Loads → Type 0
FoundShut loads = loads.live ≡ Some 0

-- it was loaded as not 0
abbrev pub FoundOpen : Loads → Type 0
FoundOpen loads = IsSomeAnd loads.live (λ live. live ≢ 0)

-- the peer's gone word was loaded as 0
abbrev pub FoundHere : Loads → Type 0
FoundHere loads = loads.gone ≡ Some 0

-- it was loaded as not 0
abbrev pub FoundGone : Loads → Type 0
FoundGone loads = IsSomeAnd loads.gone (λ gone. gone ≢ 0)

-- no look found a byte
abbrev pub FoundNone : Standing → List Pair → Type 0
FoundNone e [] = Unit {0}
FoundNone e (pair ∷ older) = (waiting_at e pair ≡ 0) × FoundNone e older

-- all was read: the live byte was 0, and the two indices of the next pair are equal
abbrev pub FoundAllRead : Loads → Type 0
FoundAllRead loads = FoundShut loads × IsSomeAnd loads.next_pair (λ pair. pair.prod ≡ pair.cons)

-- two order words hold the orders of the page
abbrev pub SayOrders : Standing → ℕ → ℕ → Type 0
SayOrders e left right = (left ≡ number_of e.orders.left) × (right ≡ number_of e.orders.right)

-- ---- the causes

-- of a write of n bytes
pub data WriteCause (e : Standing) (n : ℕ) (loads : Loads) (answer : Answer) : Type 0 where
  write_closed : FoundShut loads → answer ≡ PeerClosed → WriteCause e n loads answer
  wrote_none : FoundOpen loads → n ≡ 0 → answer ≡ Wrote 0 → WriteCause e n loads answer
  write_full : (last : Pair) → last_pair loads ≡ Some last → FoundOpen loads → 0 < n → room_at e last ≡ 0 → answer ≡ Full last.prod last.cons → WriteCause e n loads answer
  wrote_some : (last : Pair) → last_pair loads ≡ Some last → FoundOpen loads → 0 < n → 0 < room_at e last → answer ≡ Wrote (min n (room_at e last)) → WriteCause e n loads answer

-- of a send of n bytes
pub data SendCause (e : Standing) (n : ℕ) (loads : Loads) (answer : Answer) : Type 0 where
  send_closed : FoundShut loads → answer ≡ PeerClosed → SendCause e n loads answer
  send_no_room : (last : Pair) → last_pair loads ≡ Some last → FoundOpen loads → room_at e last < n → answer ≡ NoRoom last.prod last.cons → SendCause e n loads answer
  sent_all : (last : Pair) → last_pair loads ≡ Some last → FoundOpen loads → n ≤ room_at e last → answer ≡ Sent n → SendCause e n loads answer

-- of a read of at most n bytes
pub data ReadCause (e : Standing) (n : ℕ) (loads : Loads) (answer : Answer) : Type 0 where
  read_got : (last : Pair) → last_pair loads ≡ Some last → 0 < waiting_at e last → answer ≡ Got (min n (waiting_at e last)) → ReadCause e n loads answer
  read_closed : (last : Pair) → last_pair loads ≡ Some last → waiting_at e last ≡ 0 → FoundShut loads → answer ≡ PeerClosed → ReadCause e n loads answer
  read_empty : (last : Pair) → last_pair loads ≡ Some last → waiting_at e last ≡ 0 → FoundOpen loads → answer ≡ Empty last.prod last.cons → ReadCause e n loads answer

-- of a recv of n bytes
pub data RecvCause (e : Standing) (n : ℕ) (loads : Loads) (answer : Answer) : Type 0 where
  recv_got : (last : Pair) → last_pair loads ≡ Some last → n ≤ waiting_at e last → answer ≡ Got n → RecvCause e n loads answer
  recv_closed : (last : Pair) → last_pair loads ≡ Some last → waiting_at e last < n → FoundShut loads → answer ≡ PeerClosed → RecvCause e n loads answer
  recv_short : (last : Pair) → last_pair loads ≡ Some last → waiting_at e last < n → FoundOpen loads → answer ≡ Short last.prod last.cons → RecvCause e n loads answer

-- of a drain of at most n bytes: the last look found bytes and none before it did, or all was read, or neither
pub data DrainCause (e : Standing) (n : ℕ) (loads : Loads) (answer : Answer) : Type 0 where
  drain_got : (last : Pair) (older : List Pair) → loads.pairs ≡ last ∷ older → FoundNone e older → ¬ FoundAllRead loads → 0 < waiting_at e last → answer ≡ Got (min n (waiting_at e last)) → DrainCause e n loads answer
  drain_all_read : FoundAllRead loads → answer ≡ AllRead → DrainCause e n loads answer
  drain_not_yet : (last : Pair) → last_pair loads ≡ Some last → FoundNone e loads.pairs → ¬ FoundAllRead loads → FoundHere loads → answer ≡ NotYet last.prod last.cons → DrainCause e n loads answer
  drain_peer_gone : (last : Pair) → last_pair loads ≡ Some last → FoundNone e loads.pairs → ¬ FoundAllRead loads → FoundGone loads → answer ≡ PeerGone last.prod last.cons → DrainCause e n loads answer

-- of a connect
pub data ConnectCause (e : Standing) (loads : Loads) (answer : Answer) : Type 0 where
  connect_agrees : (left right : ℕ) → loads.left_order ≡ Some left → loads.right_order ≡ Some right → SayOrders e left right → answer ≡ Connected → ConnectCause e loads answer
  connect_refused : (left right : ℕ) → loads.left_order ≡ Some left → loads.right_order ≡ Some right → ¬ SayOrders e left right → answer ≡ BadOrders left right → ConnectCause e loads answer

-- the answer tells the last pair
abbrev pub TellsPair : Loads → (Pair → Answer) → Answer → Type 0
TellsPair loads told answer = IsSomeAnd (last_pair loads) (λ last. answer ≡ told last)

-- the answer tells the one word that was loaded
abbrev pub TellsWord : Option ℕ → (ℕ → Answer) → Answer → Type 0
TellsWord word told answer = IsSomeAnd word (λ value. answer ≡ told value)

-- the cause of an answer to a call that began in this standing
abbrev pub Cause : Standing → Call → Loads → Answer → Type 0
Cause e (Write n) loads answer = WriteCause e n loads answer
Cause e (Send n) loads answer = SendCause e n loads answer
Cause e (Read n) loads answer = ReadCause e n loads answer
Cause e (Recv n) loads answer = RecvCause e n loads answer
Cause e (Drain n) loads answer = DrainCause e n loads answer
Cause e DataReady loads answer = TellsPair loads (λ last. Ready (waiting_at e last)) answer
Cause e BufferSpace loads answer = TellsPair loads (λ last. Space (room_at e last)) answer
Cause e Connect loads answer = ConnectCause e loads answer
Cause e Close loads answer = answer ≡ Done
Cause e TakeEvent loads answer = TellsWord loads.pending (λ pending. Event (not (pending == 0))) answer
Cause e AskGone loads answer = TellsWord loads.gone (λ gone. Gone (not (gone == 0))) answer
Cause e Retire loads answer = answer ≡ Done
