-- A reader inside the body of a data message, of which the header has come and the rest passes by its count.
use Rattle.std.specs.Prelude.{◌≡◌, ℕ, ◌+◌, ◌%◌, ◌^◌, ◌≤◌, List, [], ◌∷◌, ◌++◌, length, drop}
use Rattle.list_laws.specs.Lists.{IsPrefixOf}
use Rattle.qrexec_frame.specs.declared.kind.Channel.{Channel}
use Rattle.qrexec_frame.specs.declared.kind.Kind.{Kind}
use Rattle.qrexec_frame.specs.declared.message.Message.{Message}
use Rattle.qrexec_frame.specs.Kinds.{IsData}
use Rattle.qrexec_frame.specs.Grammar.{HasHeader, IsInRange}
use Rattle.qrexec_frame.specs.Fronts.{front, made, reading}
use Rattle.qrexec_frame.specs.Streams.{Whole, Short, Placed, Rest}
use Rattle.qrexec_c.specs.declared.pass.Passing.{Passing}
use Rattle.qrexec_c.specs.Readers.{Stands}

-- the numbers are those of a reader inside a data message
pub record AreUnder (p : Passing) : Type 0 where
  pub channel : p.reader.channel ≡ 1
  pub fault : p.reader.fault ≡ 0
  pub under : p.under ≡ 1
  pub from : 0x190 ≤ p.kind
  pub to : p.kind ≤ 0x192
  pub short : p.len ≤ 65536
  pub within : p.left ≤ p.len

-- this part of a data message has come: its header, and all of its body but the bytes that are left
pub record Under (channel : Channel) (p : Passing) (part : List ℕ) : Type 0 where
  pub kind : Kind
  pub header : HasHeader channel part p.kind p.len kind
  pub is_data : IsData kind
  pub range : IsInRange kind p.len
  pub size : length part + p.left ≡ 8 + p.len
  pub sound : p.reader.fault ≡ 0

-- the header is that of a message of another type
pub record IsOther (channel : Channel) (bytes : List ℕ) (p : Passing) : Type 0 where
  pub kind : Kind
  pub header : HasHeader channel bytes p.kind p.len kind
  pub range : IsInRange kind p.len
  pub other : IsData kind → ⊥

-- this larger part has come, and the reader stands where it stood
pub record PassesOn (channel : Channel) (part : List ℕ) (old new : Passing) : Type 0 where
  pub under : Under channel new part
  pub short : front channel part ≡ Short
  pub reader : new.reader ≡ old.reader

-- these bytes are the whole message, and the reader stands after it
pub record PassesWhole (channel : Channel) (bytes : List ℕ) (old new : Passing) : Type 0 where
  pub kind : Kind
  pub is_data : IsData kind
  pub whole : front channel bytes ≡ Whole (made kind (drop 8 bytes)) (length bytes)
  pub at : new.reader ≡ record old.reader { at = (old.reader.at + (8 + old.len)) % 2 ^ 64 }
  pub under : new.under ≡ 0

-- the stream ends with the part that has come
pub record ReadsPart (channel : Channel) (part : List ℕ) (new : Passing) (stream : List ℕ) (given : List (Placed Message)) : Type 0 where
  pub stands : Stands channel new.reader part stream given
  pub ends : reading channel stream ≡ record { placed = given; ending = Rest (length part) }

-- the message that has passed is the next one of the stream, and the reader stands after it
pub record ReadsWhole (channel : Channel) (bytes : List ℕ) (old new : Passing) (stream : List ℕ) (given : List (Placed Message)) : Type 0 where
  pub kind : Kind
  pub at : ℕ
  pub at_is : old.reader.at ≡ at % 2 ^ 64
  pub is_data : IsData kind
  pub stands : Stands channel new.reader [] stream (given ++ record { at = at; message = made kind (drop 8 bytes) } ∷ [])
  pub next : IsPrefixOf (given ++ record { at = at; message = made kind (drop 8 bytes) } ∷ []) (reading channel stream).placed
