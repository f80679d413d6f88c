-- The numbers of a ring: how many bytes wait, how many have room, where a byte lies. Indices count bytes
-- modulo 2 ^ 32.
use Rattle.std.specs.Prelude.{ℕ, ◌+◌, ◌-◌, ◌%◌, ◌^◌, nat_le, if◌then◌else◌}
use Rattle.ring_words.specs.declared.order.Order.{Order}

-- the exponent of two that an order is: the fields left_order and right_order of public/io/libxenvchan.h
abbrev pub number_of : Order → ℕ
number_of order = order.number

-- the bytes of a ring: 1 << order in io.c
unfoldable pub size : Order → ℕ
size order = 2 ^ number_of order

-- prod less cons, modulo 2 ^ 32: how far the writer is ahead, as io.c counts
unfoldable pub diff : ℕ → ℕ → ℕ
diff prod cons = if nat_le cons prod then prod - cons else prod + 2 ^ 32 - cons

-- the bytes that wait to be read, as raw_get_data_ready of io.c; none if that is more than the ring's size
unfoldable pub ready : ℕ → ℕ → Order → ℕ
ready prod cons order = if nat_le (diff prod cons) (size order) then diff prod cons else 0

-- the bytes that may be written, as raw_get_buffer_space of io.c; none if more than the ring's size wait
unfoldable pub room : ℕ → ℕ → Order → ℕ
room prod cons order = if nat_le (diff prod cons) (size order) then size order - diff prod cons else 0

-- the place in its ring of the byte at an index; io.c masks an index by the size
unfoldable pub place : ℕ → Order → ℕ
place index order = index % size order
