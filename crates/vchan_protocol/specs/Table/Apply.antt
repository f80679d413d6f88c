-- What an event does to the one word that it is on, and the value that it takes.
use Rattle.std.specs.Prelude.{ℕ, ◌%◌, ◌<◌, List, ◌++◌, length, drop, slice_index, slice_set, bit_and, bit_or}
use Rattle.ring_words.specs.declared.order.Orders.{Orders}
use Rattle.ring_words.specs.Page.{index_of, Has}
use Rattle.vchan_protocol.specs.declared.op.Op.{Op}
use Rattle.vchan_protocol.specs.declared.op.Op.TheVariants.{Load, LoadByte, Store, StoreByte, Or, And, Swap, Nothing}

-- the number of the word that an event is on
abbrev pub word_of : Orders → Op → ℕ
word_of orders (Load word) = index_of orders word
word_of orders (LoadByte word at) = index_of orders word
word_of orders (Store word value) = index_of orders word
word_of orders (StoreByte word at) = index_of orders word
word_of orders (Or word bits) = index_of orders word
word_of orders (And word bits) = index_of orders word
word_of orders (Swap word value) = index_of orders word
word_of orders Nothing = 0

-- what an event leaves in its word, which held `old`, if the call has this payload
abbrev pub leaves : List ℕ → Op → ℕ → ℕ
leaves payload (Load word) old = old
leaves payload (LoadByte word at) old = old
leaves payload (Store word value) old = value
leaves payload (StoreByte word at) old = slice_index payload at
leaves payload (Or word bits) old = bit_or old bits
leaves payload (And word bits) old = bit_and old bits
leaves payload (Swap word value) old = value
leaves payload Nothing old = old

-- what an event takes of its word, which held `old`
abbrev pub takes : Op → ℕ → ℕ
takes (Store word value) old = 0
takes (StoreByte word at) old = 0
takes Nothing old = 0
takes _ old = old

-- the words of a page after an event
abbrev pub words_after : Orders → List ℕ → List ℕ → Op → List ℕ
words_after orders words payload op = slice_set words (word_of orders op) (leaves payload op (slice_index words (word_of orders op)))

-- the value that an event takes: the word as it was, except 0 for a plain store
abbrev pub value_taken : Orders → List ℕ → Op → ℕ
value_taken orders words op = takes op (slice_index words (word_of orders op))

-- the event is on a word of the page, and its byte within this many of payload, or this many of the buffer
abbrev pub Fits : Orders → ℕ → ℕ → Op → Type 0
Fits orders out into (Load word) = Has orders word
Fits orders out into (LoadByte word at) = Has orders word × (at < into)
Fits orders out into (Store word value) = Has orders word
Fits orders out into (StoreByte word at) = Has orders word × (at < out)
Fits orders out into (Or word bits) = Has orders word
Fits orders out into (And word bits) = Has orders word
Fits orders out into (Swap word value) = Has orders word
Fits orders out into Nothing = Unit {0}

-- the caller's buffer after an event: a ring byte that was loaded is put at its number, by its low 8 bits
abbrev pub buffer_after : Orders → List ℕ → List ℕ → Op → List ℕ
buffer_after orders words buffer (LoadByte word at) = slice_set buffer at (slice_index words (index_of orders word) % 256)
buffer_after orders words buffer _ = buffer

-- a buffer whose first bytes are these
abbrev pub filled : List ℕ → List ℕ → List ℕ
filled buffer bytes = bytes ++ drop (length bytes) buffer
