-- The image of a page: its 4,096 bytes in memory. Each word lies as in struct vchan_interface of
-- public/io/libxenvchan.h, and the small rings lie as in libxenvchan's init.c.
use Rattle.std.specs.Prelude.{◌≡◌, ℕ, ◌+◌, ◌-◌, ◌*◌, ◌/◌, ◌%◌, ◌^◌, ◌≤◌, ◌<◌, ◌⊎◌, Bool, ◌&&◌, ◌==◌, nat_le, nat_lt, if◌then◌else◌, Option, Some, None, List, [], ◌∷◌, ◌++◌, length, map, replicate, slice_index, slice_range}
use Rattle.std.specs.Option.{option_map_or}
use Rattle.std.specs.List.{range_with_len}
use Rattle.ring_words.specs.declared.image.ImageError.{ImageError}
use Rattle.ring_words.specs.declared.image.ImageError.TheVariants.{BadOrders, Memory}
use Rattle.ring_words.specs.declared.order.Order.{Order}
use Rattle.ring_words.specs.declared.order.Orders.{Orders}
use Rattle.ring_words.specs.declared.page.Ring.{Ring}
use Rattle.ring_words.specs.declared.page.Ring.TheVariants.{Left, Right}
use Rattle.ring_words.specs.declared.page.WordName.{WordName}
use Rattle.ring_words.specs.declared.page.WordName.TheVariants.{LeftCons, LeftProd, RightCons, RightProd, LeftOrder, RightOrder, CliLive, SrvLive, CliNotify, SrvNotify, RingByte}
use Rattle.ring_words.specs.Page.{index_of, order_of}
use Rattle.ring_words.specs.PageWords.{PageWords}
use Rattle.ring_words.specs.Rings.{number_of, size}

-- a field of a page in memory: the word that lies there, the offset of its first byte, its number of bytes
pub record Field : Type 0 where
  pub name : WordName
  pub offset : ℕ
  pub bytes : ℕ

-- a line of the table of fields
abbrev pub field_at : ℕ → ℕ → WordName → Field
field_at offset bytes name = record { name = name; offset = offset; bytes = bytes }

-- the field left_order
abbrev pub left_order : Field
left_order = field_at 16 2 LeftOrder

-- the field right_order
abbrev pub right_order : Field
right_order = field_at 18 2 RightOrder

-- the fields of struct vchan_interface, in the order of their words; the grant list comes after them
abbrev pub fields : List Field
fields =
    field_at 0 4 LeftCons
    ∷ field_at 4 4 LeftProd
    ∷ field_at 8 4 RightCons
    ∷ field_at 12 4 RightProd
    ∷ left_order
    ∷ right_order
    ∷ field_at 20 1 CliLive
    ∷ field_at 21 1 SrvLive
    ∷ field_at 22 1 CliNotify
    ∷ field_at 23 1 SrvNotify
    ∷ []

-- the offset of a ring in the page: SMALL_RING_OFFSET and LARGE_RING_OFFSET of init.c. A ring of order 12 or above
-- lies in pages of its own
abbrev pub ring_offset : Order → Option ℕ
ring_offset order = if number_of order == 10 then Some 1024 else (if number_of order == 11 then Some 2048 else None)

-- some bytes of an image, from an offset on
pub record Piece : Type 0 where
  pub offset : ℕ
  pub count : ℕ
  pub byte : ℕ → ℕ

-- a byte of a number, the lowest being at place 0
abbrev pub byte_of : ℕ → ℕ → ℕ
byte_of number place = number / 256 ^ place % 256

-- a word of a page, by its name
abbrev pub word_of : PageWords → WordName → ℕ
word_of page name = slice_index page.list (index_of page.orders name)

-- a number's low bytes, little-endian
abbrev pub number_piece : ℕ → ℕ → ℕ → Piece
number_piece offset count number = record { offset = offset; count = count; byte = byte_of number }

-- the low byte of each word of a list
abbrev pub bytes_piece : ℕ → List ℕ → Piece
bytes_piece offset words =
    record { offset = offset; count = length words; byte = λ at. byte_of (slice_index words at) 0 }

-- what a field shows of its word
abbrev pub field_piece : PageWords → Field → Piece
field_piece page field = number_piece field.offset field.bytes (word_of page field.name)

-- what an image shows of a ring: the low byte of each of its words, if it lies in the page
abbrev pub ring_pieces : PageWords → Ring → List Piece
ring_pieces page ring =
    let order = order_of page.orders ring in
    option_map_or (λ offset. record { offset = offset; count = size order; byte = λ at. byte_of (word_of page (RingByte ring at)) 0 } ∷ []) (ring_offset order) []

-- all that an image shows of a page
abbrev pub pieces : PageWords → List Piece
pieces page = map (field_piece page) fields ++ ring_pieces page Left ++ ring_pieces page Right

-- the piece has a byte at the offset
abbrev pub covers : Piece → ℕ → Bool
covers piece at = nat_le piece.offset at && nat_lt at (piece.offset + piece.count)

-- the byte at an offset: that of the first piece that has one there, else the one that was there before
unfoldable pub byte_at : List Piece → ℕ → ℕ → ℕ
byte_at [] at before = before
byte_at (piece ∷ others) at before =
    if covers piece at then piece.byte (at - piece.offset) else byte_at others at before

-- the list of this many numbers, each computed from its place
unfoldable pub list_by : (ℕ → ℕ) → ℕ → List ℕ
list_by value count = map value (range_with_len 0 count)

-- the image of a page: 4,096 bytes, which are 0 wherever nothing of the page lies
unfoldable pub image_of : PageWords → List ℕ
image_of page = list_by (λ at. byte_at (pieces page) at 0) 4096

-- the new bytes are the old ones with these pieces put over them
pub record Puts (pieces : List Piece) (old new : List ℕ) : Type 0 where
  pub same_length : length new ≡ length old
  pub bytes : (at : ℕ) → slice_index new at ≡ byte_at pieces at (slice_index old at)

-- the number that bytes make, little-endian
abbrev pub number_from : List ℕ → ℕ
number_from [] = 0
number_from (byte ∷ bytes) = byte + 256 * number_from bytes

-- the number that an image shows in a field
abbrev pub shown : List ℕ → Field → ℕ
shown image field = number_from (slice_range image field.offset (field.offset + field.bytes))

-- the words of a ring that an image shows: its bytes if the ring lies in the page, else zeros
abbrev pub ring_shown : List ℕ → Order → List ℕ
ring_shown image order =
    option_map_or (λ offset. slice_range image offset (offset + size order)) (ring_offset order) (replicate (size order) 0)

-- the words of a header that an image shows: the fields, then the pending and the gone words, which are 0
abbrev pub header_shown : List ℕ → List ℕ
header_shown image = map (shown image) fields ++ 0 ∷ 0 ∷ 0 ∷ 0 ∷ []

-- the page that an image shows, if the rings have these orders
unfoldable pub page_shown : List ℕ → Orders → PageWords
page_shown image orders =
    record { orders = orders; list = header_shown image ++ ring_shown image orders.left ++ ring_shown image orders.right }

-- one of the pieces has a byte at the offset
abbrev pub IsCovered : List Piece → ℕ → Type 0
IsCovered [] at = ⊥
IsCovered (piece ∷ others) at = (piece.offset ≤ at) × (at < piece.offset + piece.count) ⊎ IsCovered others at

-- a field lies at the offset of a page's image, or a ring's byte
unfoldable pub IsShown : PageWords → ℕ → Type 0
IsShown page at = IsCovered (pieces page) at

-- both rings lie in the page
abbrev pub AreWithinPage : Orders → Type 0
AreWithinPage orders = (number_of orders.left < 12) × (number_of orders.right < 12)

-- the refusal of two order fields
abbrev pub IsBadOrders : ImageError → Type 0
IsBadOrders (BadOrders left right) = Unit {0}
IsBadOrders Memory = ⊥

-- if two order fields are refused, the error names them
abbrev pub AreNamed : ℕ → ℕ → ImageError → Type 0
AreNamed left right (BadOrders l r) = (l ≡ left) × (r ≡ right)
AreNamed left right Memory = Unit {0}
