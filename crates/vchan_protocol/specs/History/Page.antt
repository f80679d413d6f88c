-- The start values of a page.
-- Source: libxenvchan's init.c for the fields' first values; that all indices may begin at another number is this project's.
use Rattle.std.specs.Prelude.{ℕ, ◌-◌, List, ◌∷◌, replicate}
use Rattle.ring_words.specs.Page.{word_count}
use Rattle.ring_words.specs.declared.order.Orders.{Orders}
use Rattle.vchan_protocol.specs.declared.call.EndState.{EndState}
use Rattle.vchan_protocol.specs.declared.call.EndState.TheVariants.{Fresh, Open, Shut}

-- a client's live byte
abbrev pub live_word : EndState → ℕ
live_word Fresh = 2
live_word Open = 1
live_word Shut = 0

-- the words of a page that begins at these indices, with the order words as `said`, and this state of the client
abbrev pub start_words : Orders → ℕ → ℕ × ℕ → EndState → List ℕ
start_words orders start said state =
    start ∷ start ∷ start ∷ start ∷ said.0 ∷ said.1 ∷ live_word state ∷ 1 ∷ 1 ∷ 1 ∷ 0 ∷ 0 ∷ 0 ∷ 0 ∷ replicate (word_count orders - 14) 0
