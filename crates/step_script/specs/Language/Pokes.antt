-- The words of a page that a script can poke.
-- Source: this project's own; the fields are those of struct vchan_interface in public/io/libxenvchan.h.
use Rattle.std.specs.Prelude.{ℕ, ◌-◌, List, if◌then◌else◌, ok_or, Option, None, Some, Result, Ok, Err, codes, bytes_eq}
use Rattle.std.specs.Map.{lookup}
use Rattle.std.specs.Option.{option_map}
use Rattle.ring_words.specs.Page.{order_of, fields}
use Rattle.ring_words.specs.Rings.{size}
use Rattle.ring_words.specs.declared.order.Orders.{Orders}
use Rattle.ring_words.specs.declared.page.Ring.{Ring}
use Rattle.ring_words.specs.declared.page.Ring.TheVariants.{Left, Right}
use Rattle.ring_words.specs.declared.page.WordName.{WordName}
use Rattle.ring_words.specs.declared.page.WordName.TheVariants.{RingByte}
use Rattle.step_script.specs.declared.error.ScriptKind.{ScriptKind}
use Rattle.step_script.specs.declared.error.ScriptKind.TheVariants.{BadLine, BadNumber}
use Rattle.script_words.specs.Numbers.{is_number, number_of}
use Rattle.script_words.specs.Places.{place_in}

-- a byte of a ring, K being below the ring's size
abbrev pub ring_byte : Orders → Ring → List ℕ → Result WordName ScriptKind
ring_byte orders ring place =
    if is_number place
    then ok_or (option_map (RingByte ring) (number_of (size (order_of orders ring) - 1) place)) BadNumber
    else Err BadLine

-- a byte of the ring that the word names
abbrev pub byte_named : Orders → Option (List ℕ) → Option (List ℕ) → Result WordName ScriptKind
byte_named orders (Some left) right = ring_byte orders Left left
byte_named orders None (Some right) = ring_byte orders Right right
byte_named orders None None = Err BadLine

-- a header field, if there is one of that name, or a byte of a ring
abbrev pub field_or_byte : Orders → Option WordName → List ℕ → Result WordName ScriptKind
field_or_byte orders (Some field) word = Ok field
field_or_byte orders None word = byte_named orders (place_in (codes "left[") word) (place_in (codes "right[") word)

-- the word of a page that a word names
abbrev pub poked_word : Orders → List ℕ → Result WordName ScriptKind
poked_word orders word = field_or_byte orders (lookup (bytes_eq word) fields) word
