-- What a machine still has to do of its call, and the pasts that it stands for.
use Rattle.std.specs.Prelude.{ℕ, ◌-◌, min, IsNone, Option, Some, None, List}
use Rattle.vchan_protocol.specs.declared.op.Op.TheVariants.{Store}
use Rattle.ring_words.specs.declared.page.WordName.TheVariants.{CliLive}
use Rattle.vchan_protocol.specs.declared.op.PastEvent.{PastEvent}
use Rattle.vchan_protocol.specs.declared.call.Answer.{Answer}
use Rattle.vchan_protocol.specs.declared.call.Answer.TheVariants.{PeerClosed, Ready, Space, Connected}
use Rattle.vchan_protocol.specs.declared.call.Call.{Call}
use Rattle.vchan_protocol.specs.declared.call.Call.TheVariants.{DataReady, BufferSpace, Close, TakeEvent, PeerGone as AskGone}
use Rattle.vchan_protocol.specs.declared.call.Bit.TheVariants.{Written, Consumed}
use Rattle.vchan_core.specs.declared.machine.Machine.{Machine}
use Rattle.vchan_core.specs.declared.phase.Phase.{Phase}
use Rattle.vchan_core.specs.declared.phase.Phase.TheVariants.{WriteLive, WriteLook, WriteAsk, WriteLookAgain, SendLive, SendLook, SendAsk, SendLookAgain, ReadLook, ReadAsk, ReadLookAgain, ReadLive, RecvLook, RecvAsk, RecvLookAgain, RecvLive, DrainLook, DrainAsk, DrainSecond, DrainLive, DrainFurther, DrainGone, DrainLast, ReadyAsk, ReadyLook, SpaceAsk, SpaceLook, ConnectLeft, ConnectRight, ConnectStore, CloseStore, TakePending, LoadGone, RetireStore, RetireSignal, GoneStore, Put, Take, Notify, Signal}
use Rattle.vchan_core.specs.declared.phase.Next.{Next}
use Rattle.vchan_core.specs.declared.phase.Next.TheVariants.{To, Done}
use Rattle.vchan_protocol.specs.Table.Plan.{Plan, answers, does, Leads}
use Rattle.vchan_protocol.specs.Table.Ends.{Standing, read_size, free_at, ready_at}
use Rattle.vchan_protocol.specs.Table.Calls.{write, write_open, write_looked, look_write, ask, read, read_looked, read_live, look_read, put_bytes, put_index, take_bytes, take_index, notify, signal, plan_of, send, send_open, send_looked, recv, recv_looked, recv_live, drain, drain_second, drain_live, drain_further, drain_gone, drain_last, connect, connect_right, close, retire_shut, IsAllowed}

-- what is left of a call at a phase
unfoldable pub rest_at : Standing → Phase → Plan
rest_at e (WriteLive n) = write e n
rest_at e (WriteLook n) = write_open e n
rest_at e (WriteAsk n) = ask e Consumed (look_write e (write_looked e n))
rest_at e (WriteLookAgain n) = look_write e (write_looked e n)
rest_at e (SendLive n) = send e n
rest_at e (SendLook n) = send_open e n
rest_at e (SendAsk n) = ask e Consumed (look_write e (send_looked e n))
rest_at e (SendLookAgain n) = look_write e (send_looked e n)
rest_at e (ReadLook n) = read e n
rest_at e (ReadAsk n) = ask e Written (look_read e (read_looked e n))
rest_at e (ReadLookAgain n) = look_read e (read_looked e n)
rest_at e (ReadLive prod) = read_live e prod
rest_at e (RecvLook n) = recv e n
rest_at e (RecvAsk n) = ask e Written (look_read e (recv_looked e n))
rest_at e (RecvLookAgain n) = look_read e (recv_looked e n)
rest_at e (RecvLive prod) = recv_live e prod
rest_at e (DrainLook n) = drain e n
rest_at e (DrainAsk n) = ask e Written (look_read e (drain_second e n))
rest_at e (DrainSecond n) = look_read e (drain_second e n)
rest_at e (DrainLive n prod) = drain_live e n prod
rest_at e (DrainFurther n) = look_read e (drain_further e n)
rest_at e (DrainGone n prod) = drain_gone e n prod
rest_at e (DrainLast n) = look_read e (drain_last e n)
rest_at e ReadyAsk = plan_of e DataReady
rest_at e ReadyLook = look_read e (λ prod. answers (Ready (ready_at e prod)))
rest_at e SpaceAsk = plan_of e BufferSpace
rest_at e SpaceLook = look_write e (λ cons. answers (Space (free_at e cons)))
rest_at e ConnectLeft = connect e
rest_at e (ConnectRight n) = connect_right e n
rest_at e ConnectStore = does (Store CliLive 1) (λ _. answers Connected)
rest_at e CloseStore = plan_of e Close
rest_at e TakePending = plan_of e TakeEvent
rest_at e LoadGone = plan_of e AskGone
rest_at e RetireStore = close e (retire_shut e)
rest_at e RetireSignal = signal e (retire_shut e)
rest_at e GoneStore = retire_shut e
rest_at e (Put i k answer) = put_bytes e i (k - i) (put_index e k (answers answer))
rest_at e (Take i k answer) = take_bytes e i (k - i) (take_index e k (answers answer))
rest_at e (Notify bit answer) = notify e bit (answers answer)
rest_at e (Signal answer) = signal e (answers answer)

abbrev pub standing : Machine → Standing
standing m = record { role = m.role; orders = m.orders; state = m.state; prod = m.prod; cons = m.cons }

abbrev pub rest : Machine → Plan
rest m = elim m.phase [ None ↦ answers PeerClosed | Some phase ↦ rest_at (standing m) phase ]

-- what is left after an event, by what came of it: a phase, or the answer
abbrev pub plan_at : Standing → Next → Plan
plan_at e (To phase) = rest_at e phase
plan_at e (Done answer) = answers answer

-- what is left if the machine gave this answer or none
abbrev pub rest_or_answer : Option Answer → Machine → Plan
rest_or_answer None m = rest m
rest_or_answer (Some answer) m = answers answer

-- the machine, at this phase of a call
abbrev pub at_phase : Machine → Phase → Machine
at_phase m phase = record m { phase = Some phase }

-- the machine is between calls
abbrev pub IsIdle : Machine → Type 0
IsIdle m = IsNone m.phase

-- A machine stands for a call that was begun with this standing, and for the events since.
abbrev pub Stands : Standing → Call → List PastEvent → Machine → Type 0
Stands begun call events m = Leads (plan_of begun call) events (rest m)

-- The same, if the answer came with the last event.
abbrev pub StandsOrAnswered : Standing → Call → List PastEvent → Option Answer → Machine → Type 0
StandsOrAnswered begun call events answer m = Leads (plan_of begun call) events (rest_or_answer answer m)

-- the bytes of data that a phase may still send, and those of the buffer that it may still fill
abbrev pub payload_at : Phase → ℕ
payload_at (WriteLive n) = n
payload_at (WriteLook n) = n
payload_at (WriteAsk n) = n
payload_at (WriteLookAgain n) = n
payload_at (SendLive n) = n
payload_at (SendLook n) = n
payload_at (SendAsk n) = n
payload_at (SendLookAgain n) = n
payload_at (Put i k answer) = k
payload_at _ = 0

abbrev pub buffer_at : ℕ → Phase → ℕ
buffer_at size (ReadLook n) = min n size
buffer_at size (ReadAsk n) = min n size
buffer_at size (ReadLookAgain n) = min n size
buffer_at size (RecvLook n) = min n size
buffer_at size (RecvAsk n) = min n size
buffer_at size (RecvLookAgain n) = min n size
buffer_at size (DrainLook n) = min n size
buffer_at size (DrainAsk n) = min n size
buffer_at size (DrainSecond n) = min n size
buffer_at size (DrainLive n prod) = min n size
buffer_at size (DrainFurther n) = min n size
buffer_at size (DrainGone n prod) = min n size
buffer_at size (DrainLast n) = min n size
buffer_at size (Take i k answer) = k
buffer_at size _ = 0

abbrev pub payload_needed : Machine → ℕ
payload_needed m = elim m.phase [ None ↦ 0 | Some phase ↦ payload_at phase ]

abbrev pub buffer_needed : Machine → ℕ
buffer_needed m = elim m.phase [ None ↦ 0 | Some phase ↦ buffer_at (read_size (standing m)) phase ]

abbrev pub payload_next : Next → ℕ
payload_next (To phase) = payload_at phase
payload_next (Done answer) = 0

abbrev pub buffer_next : ℕ → Next → ℕ
buffer_next size (To phase) = buffer_at size phase
buffer_next size (Done answer) = 0

-- between two calls, the call is one that this end may begin
abbrev pub Allows : Machine → Call → Type 0
Allows m call = IsIdle m × IsAllowed m.role m.state call
