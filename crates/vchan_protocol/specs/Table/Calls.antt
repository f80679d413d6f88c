-- The events of each call as plans, one row for each call.
-- Source: libxenvchan's io.c, non-blocking mode. Own counts in place of own indices, and Drain, PeerGone and Retire, are this project's.
use Rattle.std.specs.Prelude.{ℕ, ◌+◌, ◌-◌, ◌%◌, ◌^◌, ◌≤◌, ◌==◌, nat_lt, min, not, ◌&&◌, bit_and, suc, zero, if◌then◌else◌, List}
use Rattle.ring_words.specs.Rings.{place}
use Rattle.ring_words.specs.declared.page.WordName.TheVariants.{LeftOrder, RightOrder, CliLive, RingByte}
use Rattle.ring_words.specs.declared.page.Role.{Role}
use Rattle.ring_words.specs.declared.page.Role.TheVariants.{Client}
use Rattle.vchan_protocol.specs.declared.op.Op.TheVariants.{Load, LoadByte, Store, StoreByte, Or, And, Swap}
use Rattle.vchan_protocol.specs.declared.op.PastEvent.{PastEvent}
use Rattle.vchan_protocol.specs.declared.call.Answer.{Answer}
use Rattle.vchan_protocol.specs.declared.call.Answer.TheVariants.{Wrote, Full, Sent, NoRoom, Got, Empty, Short, PeerClosed, Ready, Space, Connected, BadOrders, Done, Event, NotYet, AllRead, PeerGone, Gone}
use Rattle.vchan_protocol.specs.declared.call.Bit.{Bit}
use Rattle.vchan_protocol.specs.declared.call.Bit.TheVariants.{Written, Consumed}
use Rattle.vchan_protocol.specs.declared.call.Call.{Call}
use Rattle.vchan_protocol.specs.declared.call.Call.TheVariants.{Write, Send, Read, Recv, Drain, DataReady, BufferSpace, Connect, Close, TakeEvent, Retire, PeerGone as AskGone}
use Rattle.vchan_protocol.specs.declared.call.EndState.{EndState}
use Rattle.vchan_protocol.specs.declared.call.EndState.TheVariants.{Fresh, Open, Shut}
use Rattle.vchan_protocol.specs.Table.Plan.{Plan, answers, does, Leads}
use Rattle.vchan_protocol.specs.Table.Ends.{Standing, written_ring, read_ring, prod_word, cons_word, ask_word, notify_word, peer_live, own_live, own_pending, own_gone, peer_gone, peer_pending, mask, low8, low16, low32, write_order, read_order, write_size, read_size, free_at, ready_at}

-- ---- the pieces, each with the plan that follows it

abbrev pub look_read : Standing → (ℕ → Plan) → Plan
look_read e next = does (Load (prod_word (read_ring e.role))) (λ value. next (low32 value))

abbrev pub look_write : Standing → (ℕ → Plan) → Plan
look_write e next = does (Load (cons_word (written_ring e.role))) (λ value. next (low32 value))

abbrev pub ask : Standing → Bit → Plan → Plan
ask e bit next = does (Or (ask_word e.role) (mask bit)) (λ _. next)

abbrev pub signal : Standing → Plan → Plan
signal e next = does (Store (peer_pending e.role) 1) (λ _. next)

abbrev pub notify : Standing → Bit → Plan → Plan
notify e bit next =
    does (And (notify_word e.role) (18446744073709551615 - mask bit)) (λ old. if bit_and old (mask bit) == 0 then next else signal e next)

-- the last k bytes of a PUT, from byte i on
abbrev pub put_bytes : Standing → ℕ → ℕ → Plan → Plan
put_bytes e i zero next = next
put_bytes e i (suc k) next =
    does (StoreByte (RingByte (written_ring e.role) (place (e.prod + i) (write_order e))) i) (λ _. put_bytes e (i + 1) k next)

abbrev pub take_bytes : Standing → ℕ → ℕ → Plan → Plan
take_bytes e i zero next = next
take_bytes e i (suc k) next =
    does (LoadByte (RingByte (read_ring e.role) (place (e.cons + i) (read_order e))) i) (λ _. take_bytes e (i + 1) k next)

-- the index store of a PUT, and its NOTIFY
abbrev pub put_index : Standing → ℕ → Plan → Plan
put_index e k next = does (Store (prod_word (written_ring e.role)) ((e.prod + k) % 2 ^ 32)) (λ _. notify e Written next)

abbrev pub take_index : Standing → ℕ → Plan → Plan
take_index e k next = does (Store (cons_word (read_ring e.role)) ((e.cons + k) % 2 ^ 32)) (λ _. notify e Consumed next)

abbrev pub put : Standing → ℕ → Plan → Plan
put e k next = put_bytes e 0 k (put_index e k next)

abbrev pub take : Standing → ℕ → Plan → Plan
take e k next = take_bytes e 0 k (take_index e k next)

-- ---- the rows

-- a write after its last look
unfoldable pub write_looked : Standing → ℕ → ℕ → Plan
write_looked e n cons =
    if n == 0 then answers (Wrote 0)
    else (if free_at e cons == 0 then answers (Full e.prod cons)
    else put e (min n (free_at e cons)) (answers (Wrote (min n (free_at e cons)))))

unfoldable pub write_open : Standing → ℕ → Plan
write_open e n =
    look_write e (λ cons. if nat_lt (free_at e cons) n then ask e Consumed (look_write e (write_looked e n)) else write_looked e n cons)

unfoldable pub write : Standing → ℕ → Plan
write e n = does (Load (peer_live e.role)) (λ live. if low8 live == 0 then answers PeerClosed else write_open e n)

-- a read that found nothing loads the live byte
unfoldable pub read_live : Standing → ℕ → Plan
read_live e prod = does (Load (peer_live e.role)) (λ live. if low8 live == 0 then answers PeerClosed else answers (Empty prod e.cons))

unfoldable pub read_looked : Standing → ℕ → ℕ → Plan
read_looked e n prod =
    if ready_at e prod == 0 then read_live e prod
    else take e (min n (ready_at e prod)) (answers (Got (min n (ready_at e prod))))

unfoldable pub read : Standing → ℕ → Plan
read e n =
    look_read e (λ prod. if nat_lt (ready_at e prod) n then ask e Written (look_read e (read_looked e n)) else read_looked e n prod)

unfoldable pub send_looked : Standing → ℕ → ℕ → Plan
send_looked e n cons = if nat_lt (free_at e cons) n then answers (NoRoom e.prod cons) else put e n (answers (Sent n))

unfoldable pub send_open : Standing → ℕ → Plan
send_open e n =
    look_write e (λ cons. if nat_lt (free_at e cons) n then ask e Consumed (look_write e (send_looked e n)) else send_looked e n cons)

unfoldable pub send : Standing → ℕ → Plan
send e n = does (Load (peer_live e.role)) (λ live. if low8 live == 0 then answers PeerClosed else send_open e n)

unfoldable pub recv_live : Standing → ℕ → Plan
recv_live e prod = does (Load (peer_live e.role)) (λ live. if low8 live == 0 then answers PeerClosed else answers (Short prod e.cons))

unfoldable pub recv_looked : Standing → ℕ → ℕ → Plan
recv_looked e n prod = if nat_lt (ready_at e prod) n then recv_live e prod else take e n (answers (Got n))

unfoldable pub recv : Standing → ℕ → Plan
recv e n =
    look_read e (λ prod. if nat_lt (ready_at e prod) n then ask e Written (look_read e (recv_looked e n)) else recv_looked e n prod)

-- the first look that finds bytes is the last one; if it finds none, the drain goes on
abbrev pub drain_found : Standing → ℕ → ℕ → Plan → Plan
drain_found e n prod next =
    if ready_at e prod == 0 then next else take e (min n (ready_at e prod)) (answers (Got (min n (ready_at e prod))))

-- the last look
unfoldable pub drain_last : Standing → ℕ → ℕ → Plan
drain_last e n prod = drain_found e n prod (answers (PeerGone prod e.cons))

unfoldable pub drain_gone : Standing → ℕ → ℕ → Plan
drain_gone e n prod =
    does (Load (peer_gone e.role)) (λ gone. if gone == 0 then answers (NotYet prod e.cons) else look_read e (drain_last e n))

-- the further look, after a live byte of 0
unfoldable pub drain_further : Standing → ℕ → ℕ → Plan
drain_further e n prod = if prod == e.cons then answers AllRead else drain_found e n prod (drain_gone e n prod)

unfoldable pub drain_live : Standing → ℕ → ℕ → Plan
drain_live e n prod =
    does (Load (peer_live e.role)) (λ live. if low8 live == 0 then look_read e (drain_further e n) else drain_gone e n prod)

unfoldable pub drain_second : Standing → ℕ → ℕ → Plan
drain_second e n prod = drain_found e n prod (drain_live e n prod)

unfoldable pub drain : Standing → ℕ → Plan
drain e n = look_read e (λ prod. drain_found e n prod (ask e Written (look_read e (drain_second e n))))

abbrev pub connect_looked : Standing → ℕ → ℕ → Plan
connect_looked e left right =
    if (left == e.orders.left.number) && (right == e.orders.right.number)
    then does (Store CliLive 1) (λ _. answers Connected)
    else answers (BadOrders left right)

-- the second order of a connect
unfoldable pub connect_right : Standing → ℕ → Plan
connect_right e left = does (Load RightOrder) (λ value. connect_looked e left (low16 value))

unfoldable pub connect : Standing → Plan
connect e = does (Load LeftOrder) (λ value. connect_right e (low16 value))

abbrev pub close : Standing → Plan → Plan
close e next = does (Store (own_live e.role) 0) (λ _. signal e next)

-- a retire after the end is shut
abbrev pub retire_shut : Standing → Plan
retire_shut e = does (Store (own_gone e.role) 1) (λ _. signal e (answers Done))

abbrev pub retire : Standing → EndState → Plan
retire e Fresh = close e (retire_shut e)
retire e Open = close e (retire_shut e)
retire e Shut = retire_shut e

-- the plan of a call
abbrev pub plan_of : Standing → Call → Plan
plan_of e (Write n) = write e n
plan_of e (Send n) = send e n
plan_of e (Read n) = read e n
plan_of e (Recv n) = recv e n
plan_of e (Drain n) = drain e n
plan_of e DataReady = ask e Written (look_read e (λ prod. answers (Ready (ready_at e prod))))
plan_of e BufferSpace = ask e Consumed (look_write e (λ cons. answers (Space (free_at e cons))))
plan_of e Connect = connect e
plan_of e Close = close e (answers Done)
plan_of e TakeEvent = does (Swap (own_pending e.role) 0) (λ old. answers (Event (not (old == 0))))
plan_of e AskGone = does (Load (peer_gone e.role)) (λ gone. answers (Gone (not (gone == 0))))
plan_of e Retire = retire e e.state

-- ---- whole calls

-- these events are the whole call, with its answer
abbrev pub Trace : Standing → Call → List PastEvent → Answer → Type 0
Trace begun call events answer = Leads (plan_of begun call) events (answers answer)

-- these events begin the call
abbrev pub IsTrail : Standing → Call → List PastEvent → Type 0
IsTrail begun call events = (rest : Plan) × Leads (plan_of begun call) events rest

-- how many bytes of payload a call asks to send
abbrev pub payload_of : Call → ℕ
payload_of (Write n) = n
payload_of (Send n) = n
payload_of _ = 0

-- the most bytes that a call stores into a ring, and the most that it loads from one
abbrev pub stored_most : Standing → Call → ℕ
stored_most e (Write n) = min n (write_size e)
stored_most e (Send n) = min n (write_size e)
stored_most e _ = 0

abbrev pub loaded_most : Standing → Call → ℕ
loaded_most e (Read n) = min n (read_size e)
loaded_most e (Recv n) = min n (read_size e)
loaded_most e (Drain n) = min n (read_size e)
loaded_most e _ = 0

-- the most events of a call, whatever the page holds
abbrev pub most_events : Standing → Call → ℕ
most_events e (Write n) = 7 + min n (write_size e)
most_events e (Send n) = 7 + min n (write_size e)
most_events e (Read n) = 7 + min n (read_size e)
most_events e (Recv n) = 7 + min n (read_size e)
most_events e (Drain n) = 10 + min n (read_size e)
most_events e _ = 7

-- the calls that an end may begin in a state
abbrev pub IsAllowed : Role → EndState → Call → Type 0
IsAllowed role state Retire = Unit {0}
IsAllowed role Fresh Close = Unit {0}
IsAllowed role Open Close = Unit {0}
IsAllowed role Shut Close = ⊥
IsAllowed Client Fresh Connect = Unit {0}
IsAllowed role state Connect = ⊥
IsAllowed role Open (Drain n) = 1 ≤ n
IsAllowed role Open call = Unit {0}
IsAllowed role state call = ⊥
