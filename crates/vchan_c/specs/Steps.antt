-- A step of an end, as plain numbers.
use Rattle.std.specs.Prelude.{◌≡◌, ℕ, Bool, true, false, Option, Some, None, All}
use Rattle.ring_words.specs.declared.page.Ring.{Ring}
use Rattle.ring_words.specs.declared.page.Ring.TheVariants.{Left, Right}
use Rattle.ring_words.specs.declared.page.Role.TheVariants.{Client}
use Rattle.ring_words.specs.declared.page.WordName.{WordName}
use Rattle.ring_words.specs.declared.page.WordName.TheVariants.{LeftCons, LeftProd, RightCons, RightProd, LeftOrder, RightOrder, CliLive, SrvLive, CliNotify, SrvNotify, SrvPending, CliPending, SrvGone, CliGone, RingByte}
use Rattle.ring_words.specs.Image.{Field, fields}
use Rattle.vchan_protocol.specs.declared.op.Op.{Op}
use Rattle.vchan_protocol.specs.declared.op.Op.TheVariants.{Load, LoadByte, Store, StoreByte, Or, And, Swap, Nothing}
use Rattle.vchan_protocol.specs.declared.call.Bit.TheVariants.{Written}
use Rattle.vchan_protocol.specs.declared.call.Answer.{Answer}
use Rattle.vchan_protocol.specs.declared.call.Answer.TheVariants.{Connected}
use Rattle.vchan_protocol.specs.Table.Ends.{ask_word, mask}
use Rattle.vchan_core.specs.OneMachine.Keeping.{numbers_of_answer}
use Rattle.vchan_c.specs.declared.stretch.Bytes.{Bytes}
use Rattle.vchan_c.specs.declared.stretch.Moves.{Moves}
use Rattle.vchan_c.specs.declared.stretch.Moves.TheVariants.{Nothing as NoBytes, Puts, Takes}
use Rattle.vchan_c.specs.declared.stretch.Stored.{Stored}
use Rattle.vchan_c.specs.declared.stretch.Last.{Last}
use Rattle.vchan_c.specs.declared.stretch.Last.TheVariants.{Answer as Answered, Event, Notify, Further}
use Rattle.vchan_c.specs.declared.stretch.Stretch.{Stretch}
use Rattle.vchan_c.specs.declared.step.Step.{Step}

-- where a word lies in struct vchan_interface, and how wide it is there: a pending or gone word is none of its fields
abbrev pub offset_of : WordName → ℕ
offset_of LeftCons = 0
offset_of LeftProd = 4
offset_of RightCons = 8
offset_of RightProd = 12
offset_of LeftOrder = 16
offset_of RightOrder = 18
offset_of CliLive = 20
offset_of SrvLive = 21
offset_of CliNotify = 22
offset_of SrvNotify = 23
offset_of SrvPending = 0
offset_of CliPending = 0
offset_of SrvGone = 0
offset_of CliGone = 0
offset_of (RingByte ring at) = 0

abbrev pub width_of : WordName → ℕ
width_of LeftCons = 4
width_of LeftProd = 4
width_of RightCons = 4
width_of RightProd = 4
width_of LeftOrder = 2
width_of RightOrder = 2
width_of CliLive = 1
width_of SrvLive = 1
width_of CliNotify = 1
width_of SrvNotify = 1
width_of SrvPending = 0
width_of CliPending = 0
width_of SrvGone = 0
width_of CliGone = 0
width_of (RingByte ring at) = 0

-- these are the fields of a page's image
abbrev pub AreXenFields : Type 0
AreXenFields = All (λ (f : Field). (offset_of f.name ≡ f.offset) × (width_of f.name ≡ f.bytes)) fields

abbrev pub ring_number : Ring → ℕ
ring_number Left = 0
ring_number Right = 1

abbrev pub moves_number : Moves → ℕ
moves_number NoBytes = 0
moves_number (Puts bytes) = 1
moves_number (Takes bytes) = 2

abbrev pub bytes_in : Moves → Bytes
bytes_in NoBytes = record { ring = Left; place = 0; at = 0; first = 0; second = 0 }
bytes_in (Puts bytes) = bytes
bytes_in (Takes bytes) = bytes

abbrev pub store_offset : Option Stored → ℕ
store_offset None = 0
store_offset (Some s) = offset_of s.word

abbrev pub store_width : Option Stored → ℕ
store_width None = 0
store_width (Some s) = width_of s.word

abbrev pub store_value : Option Stored → ℕ
store_value None = 0
store_value (Some s) = s.value

abbrev pub bool_number : Bool → ℕ
bool_number false = 0
bool_number true = 1

-- an event that is awaited: its kind, the offset and the width of its word, and its number
abbrev pub numbers_of_event : Op → ℕ × ℕ × ℕ × ℕ
numbers_of_event (Load word) = (1, offset_of word, width_of word, 0)
numbers_of_event (Or word bits) = (2, offset_of word, width_of word, bits)
numbers_of_event (And word bits) = (5, 0, 0, 0)
numbers_of_event (Swap word value) = (4, offset_of word, width_of word, value)
numbers_of_event (LoadByte word at) = (5, 0, 0, 0)
numbers_of_event (Store word value) = (5, 0, 0, 0)
numbers_of_event (StoreByte word at) = (5, 0, 0, 0)
numbers_of_event Nothing = (5, 0, 0, 0)

-- What comes with an answer. Behind its connect a client announces itself: it sets the bit that asks for signals for data, and
-- signals the server. Source: libxenvchan_client_init in Xen's tools/libs/vchan/init.c; the table's Connect does neither.
abbrev pub numbers_of_answered : Answer → ℕ × ℕ × ℕ × ℕ
numbers_of_answered Connected = (6, offset_of (ask_word Client), width_of (ask_word Client), mask Written)
numbers_of_answered _ = (0, 0, 0, 0)

abbrev pub numbers_of_last : Last → ℕ × ℕ × ℕ × ℕ
numbers_of_last (Answered answer) = numbers_of_answered answer
numbers_of_last (Event op look) = numbers_of_event op
numbers_of_last (Notify last) = (3, offset_of last.word, width_of last.word, mask last.bit)
numbers_of_last Further = (5, 0, 0, 0)

abbrev pub answer_in : Last → ℕ × ℕ × ℕ
answer_in (Answered answer) = numbers_of_answer answer
answer_in (Event op look) = (0, 0, 0)
answer_in (Notify last) = numbers_of_answer last.answer
answer_in Further = (0, 0, 0)

-- the word that is loaded behind the one that is awaited
abbrev pub look_offset : Last → ℕ
look_offset (Event op (Some word)) = offset_of word
look_offset _ = 0

abbrev pub look_width : Last → ℕ
look_width (Event op (Some word)) = width_of word
look_width _ = 0

-- a stretch of events as numbers
abbrev pub step_of : Stretch → Step
step_of s = record {
  kind = (numbers_of_last s.last).0;
  width = (numbers_of_last s.last).2;
  offset = (numbers_of_last s.last).1;
  moves = moves_number s.moves;
  ring = ring_number (bytes_in s.moves).ring;
  store_width = store_width s.store;
  signals = bool_number s.signals;
  store_offset = store_offset s.store;
  answer = (answer_in s.last).0;
  look_width = look_width s.last;
  place = (bytes_in s.moves).place;
  at = (bytes_in s.moves).at;
  first = (bytes_in s.moves).first;
  second = (bytes_in s.moves).second;
  answer_first = (answer_in s.last).1;
  answer_second = (answer_in s.last).2;
  look_offset = look_offset s.last;
  spare = 0;
  stored = store_value s.store;
  bits = (numbers_of_last s.last).3;
}
