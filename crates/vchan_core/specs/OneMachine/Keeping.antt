-- A machine as plain numbers, and back.
use Rattle.std.specs.Prelude.{◌<◌, ◌^◌, ◌%◌, ◌==◌, if◌then◌else◌, not, ℕ, Option, Some, None, true, false, option_map, option_and_then}
use Rattle.ring_words.specs.declared.page.Role.{Role}
use Rattle.ring_words.specs.declared.page.Role.TheVariants.{Server, Client}
use Rattle.ring_words.specs.Rings.{number_of}
use Rattle.vchan_protocol.specs.declared.call.Answer.{Answer}
use Rattle.vchan_protocol.specs.declared.call.Answer.TheVariants.{Wrote, Full, Sent, NoRoom, Got, Empty, Short, PeerClosed, Ready, Space, Connected, BadOrders, Done, Event, NotYet, AllRead, PeerGone, Gone}
use Rattle.vchan_protocol.specs.declared.call.EndState.{EndState}
use Rattle.vchan_protocol.specs.declared.call.EndState.TheVariants.{Fresh, Open, Shut}
use Rattle.vchan_protocol.specs.declared.call.Bit.{Bit}
use Rattle.vchan_protocol.specs.declared.call.Bit.TheVariants.{Written, Consumed}
use Rattle.vchan_core.specs.declared.machine.Machine.{Machine}
use Rattle.vchan_core.specs.declared.phase.Phase.{Phase}
use Rattle.vchan_core.specs.declared.phase.Phase.TheVariants.{WriteLive, WriteLook, WriteAsk, WriteLookAgain, SendLive, SendLook, SendAsk, SendLookAgain, ReadLook, ReadAsk, ReadLookAgain, ReadLive, RecvLook, RecvAsk, RecvLookAgain, RecvLive, DrainLook, DrainAsk, DrainSecond, DrainLive, DrainFurther, DrainGone, DrainLast, ReadyAsk, ReadyLook, SpaceAsk, SpaceLook, ConnectLeft, ConnectRight, ConnectStore, CloseStore, TakePending, LoadGone, RetireStore, RetireSignal, GoneStore, Put, Take, Notify, Signal}
use Rattle.vchan_core.specs.declared.kept.Kept.{Kept}

abbrev pub role_number : Role → ℕ
role_number Server = 0
role_number Client = 1

abbrev pub role_told : ℕ → Option Role
role_told number = if number == 0 then Some Server else (if number == 1 then Some Client else None)

abbrev pub state_number : EndState → ℕ
state_number Fresh = 0
state_number Open = 1
state_number Shut = 2

abbrev pub state_told : ℕ → Option EndState
state_told number = if number == 0 then Some Fresh else (if number == 1 then Some Open else (if number == 2 then Some Shut else None))

abbrev pub bit_number : Bit → ℕ
bit_number Written = 1
bit_number Consumed = 2

abbrev pub bit_told : ℕ → Option Bit
bit_told number = if number == 1 then Some Written else (if number == 2 then Some Consumed else None)

-- an answer: its kind, and its parts as they are declared
abbrev pub numbers_of_answer : Answer → ℕ × ℕ × ℕ
numbers_of_answer (Wrote count) = (1, count, 0)
numbers_of_answer (Full prod cons) = (2, prod, cons)
numbers_of_answer (Sent count) = (3, count, 0)
numbers_of_answer (NoRoom prod cons) = (4, prod, cons)
numbers_of_answer (Got count) = (5, count, 0)
numbers_of_answer (Empty prod cons) = (6, prod, cons)
numbers_of_answer (Short prod cons) = (7, prod, cons)
numbers_of_answer PeerClosed = (8, 0, 0)
numbers_of_answer (Ready count) = (9, count, 0)
numbers_of_answer (Space count) = (10, count, 0)
numbers_of_answer Connected = (11, 0, 0)
numbers_of_answer (BadOrders left right) = (12, left, right)
numbers_of_answer Done = (13, 0, 0)
numbers_of_answer (Event true) = (14, 1, 0)
numbers_of_answer (Event false) = (14, 0, 0)
numbers_of_answer (NotYet prod cons) = (15, prod, cons)
numbers_of_answer AllRead = (16, 0, 0)
numbers_of_answer (PeerGone prod cons) = (17, prod, cons)
numbers_of_answer (Gone true) = (18, 1, 0)
numbers_of_answer (Gone false) = (18, 0, 0)

-- the answer that such numbers tell
abbrev pub answer_told : ℕ → ℕ → ℕ → Option Answer
answer_told number first second =
    if number == 1 then Some (Wrote first) else (
    if number == 2 then Some (Full first second) else (
    if number == 3 then Some (Sent first) else (
    if number == 4 then Some (NoRoom first second) else (
    if number == 5 then Some (Got first) else (
    if number == 6 then Some (Empty first second) else (
    if number == 7 then Some (Short first second) else (
    if number == 8 then Some PeerClosed else (
    if number == 9 then Some (Ready first) else (
    if number == 10 then Some (Space first) else (
    if number == 11 then Some Connected else (
    if number == 12 then Some (BadOrders (first % 65536) (second % 65536)) else (
    if number == 13 then Some Done else (
    if number == 14 then Some (Event (not (first == 0))) else (
    if number == 15 then Some (NotYet first second) else (
    if number == 16 then Some AllRead else (
    if number == 17 then Some (PeerGone first second) else (
    if number == 18 then Some (Gone (not (first == 0))) else (
    None))))))))))))))))))

-- a phase, without its answer: its kind, and its parts as they are declared
abbrev pub numbers_of_phase : Phase → ℕ × ℕ × ℕ
numbers_of_phase (WriteLive len) = (1, len, 0)
numbers_of_phase (WriteLook len) = (2, len, 0)
numbers_of_phase (WriteAsk len) = (3, len, 0)
numbers_of_phase (WriteLookAgain len) = (4, len, 0)
numbers_of_phase (SendLive len) = (5, len, 0)
numbers_of_phase (SendLook len) = (6, len, 0)
numbers_of_phase (SendAsk len) = (7, len, 0)
numbers_of_phase (SendLookAgain len) = (8, len, 0)
numbers_of_phase (ReadLook most) = (9, most, 0)
numbers_of_phase (ReadAsk most) = (10, most, 0)
numbers_of_phase (ReadLookAgain most) = (11, most, 0)
numbers_of_phase (ReadLive prod) = (12, prod, 0)
numbers_of_phase (RecvLook len) = (13, len, 0)
numbers_of_phase (RecvAsk len) = (14, len, 0)
numbers_of_phase (RecvLookAgain len) = (15, len, 0)
numbers_of_phase (RecvLive prod) = (16, prod, 0)
numbers_of_phase (DrainLook most) = (17, most, 0)
numbers_of_phase (DrainAsk most) = (18, most, 0)
numbers_of_phase (DrainSecond most) = (19, most, 0)
numbers_of_phase (DrainLive most prod) = (20, most, prod)
numbers_of_phase (DrainFurther most) = (21, most, 0)
numbers_of_phase (DrainGone most prod) = (22, most, prod)
numbers_of_phase (DrainLast most) = (23, most, 0)
numbers_of_phase ReadyAsk = (24, 0, 0)
numbers_of_phase ReadyLook = (25, 0, 0)
numbers_of_phase SpaceAsk = (26, 0, 0)
numbers_of_phase SpaceLook = (27, 0, 0)
numbers_of_phase ConnectLeft = (28, 0, 0)
numbers_of_phase (ConnectRight left) = (29, left, 0)
numbers_of_phase ConnectStore = (30, 0, 0)
numbers_of_phase CloseStore = (31, 0, 0)
numbers_of_phase TakePending = (32, 0, 0)
numbers_of_phase LoadGone = (33, 0, 0)
numbers_of_phase RetireStore = (34, 0, 0)
numbers_of_phase RetireSignal = (35, 0, 0)
numbers_of_phase GoneStore = (36, 0, 0)
numbers_of_phase (Put at count answer) = (37, at, count)
numbers_of_phase (Take at count answer) = (38, at, count)
numbers_of_phase (Notify bit answer) = (39, bit_number bit, 0)
numbers_of_phase (Signal answer) = (40, 0, 0)

-- the phase that such numbers tell, with this answer
abbrev pub phase_told : ℕ → ℕ → ℕ → Option Answer → Option Phase
phase_told number first second answer =
    if number == 1 then Some (WriteLive first) else (
    if number == 2 then Some (WriteLook first) else (
    if number == 3 then Some (WriteAsk first) else (
    if number == 4 then Some (WriteLookAgain first) else (
    if number == 5 then Some (SendLive first) else (
    if number == 6 then Some (SendLook first) else (
    if number == 7 then Some (SendAsk first) else (
    if number == 8 then Some (SendLookAgain first) else (
    if number == 9 then Some (ReadLook first) else (
    if number == 10 then Some (ReadAsk first) else (
    if number == 11 then Some (ReadLookAgain first) else (
    if number == 12 then Some (ReadLive first) else (
    if number == 13 then Some (RecvLook first) else (
    if number == 14 then Some (RecvAsk first) else (
    if number == 15 then Some (RecvLookAgain first) else (
    if number == 16 then Some (RecvLive first) else (
    if number == 17 then Some (DrainLook first) else (
    if number == 18 then Some (DrainAsk first) else (
    if number == 19 then Some (DrainSecond first) else (
    if number == 20 then Some (DrainLive first second) else (
    if number == 21 then Some (DrainFurther first) else (
    if number == 22 then Some (DrainGone first second) else (
    if number == 23 then Some (DrainLast first) else (
    if number == 24 then Some ReadyAsk else (
    if number == 25 then Some ReadyLook else (
    if number == 26 then Some SpaceAsk else (
    if number == 27 then Some SpaceLook else (
    if number == 28 then Some ConnectLeft else (
    if number == 29 then Some (ConnectRight (first % 65536)) else (
    if number == 30 then Some ConnectStore else (
    if number == 31 then Some CloseStore else (
    if number == 32 then Some TakePending else (
    if number == 33 then Some LoadGone else (
    if number == 34 then Some RetireStore else (
    if number == 35 then Some RetireSignal else (
    if number == 36 then Some GoneStore else (
    if number == 37 then option_map (Put first second) answer else (
    if number == 38 then option_map (Take first second) answer else (
    if number == 39 then option_and_then (λ (bit : Bit). option_map (Notify bit) answer) (bit_told first) else (
    if number == 40 then option_map Signal answer else (
    None))))))))))))))))))))))))))))))))))))))))

-- the answer that a phase holds, as numbers
abbrev pub answer_within : Phase → ℕ × ℕ × ℕ
answer_within (Put at count answer) = numbers_of_answer answer
answer_within (Take at count answer) = numbers_of_answer answer
answer_within (Notify bit answer) = numbers_of_answer answer
answer_within (Signal answer) = numbers_of_answer answer
answer_within phase = (0, 0, 0)

-- between two calls there is no phase, and all these numbers are 0
abbrev pub numbers_at : Option Phase → ℕ × ℕ × ℕ
numbers_at None = (0, 0, 0)
numbers_at (Some phase) = numbers_of_phase phase

abbrev pub answer_at : Option Phase → ℕ × ℕ × ℕ
answer_at None = (0, 0, 0)
answer_at (Some phase) = answer_within phase

abbrev pub phase_at_told : ℕ → ℕ → ℕ → Option Answer → Option (Option Phase)
phase_at_told number first second answer = if number == 0 then Some None else option_map (λ (phase : Phase). Some phase) (phase_told number first second answer)

-- a machine as numbers
abbrev pub kept_of : Machine → Kept
kept_of m = record {
  role = role_number m.role;
  state = state_number m.state;
  left_order = number_of m.orders.left;
  right_order = number_of m.orders.right;
  phase = (numbers_at m.phase).0;
  answer = (answer_at m.phase).0;
  prod = m.prod;
  cons = m.cons;
  first = (numbers_at m.phase).1;
  second = (numbers_at m.phase).2;
  answer_first = (answer_at m.phase).1;
  answer_second = (answer_at m.phase).2;
}

-- An order that a page shows is a number of 16 bits, and so is each that a machine of the program holds.
abbrev pub IsShortAnswer : Answer → Type 0
IsShortAnswer (BadOrders left right) = (left < 2 ^ 16) × (right < 2 ^ 16)
IsShortAnswer answer = Unit {0}

abbrev pub IsShortPhase : Phase → Type 0
IsShortPhase (ConnectRight left) = left < 2 ^ 16
IsShortPhase (Put at count answer) = IsShortAnswer answer
IsShortPhase (Take at count answer) = IsShortAnswer answer
IsShortPhase (Notify bit answer) = IsShortAnswer answer
IsShortPhase (Signal answer) = IsShortAnswer answer
IsShortPhase phase = Unit {0}

abbrev pub IsShortAt : Option Phase → Type 0
IsShortAt None = Unit {0}
IsShortAt (Some phase) = IsShortPhase phase

abbrev pub IsShort : Machine → Type 0
IsShort m = IsShortAt m.phase
