-- What the events of a call have loaded, by its trail: pairs of indices, the peer's live byte and its gone word, the order words, the end's own pending word.
-- Source: libxenvchan's io.c for what a call looks at, and init.c for the order words. The pending and gone words are this project's.
use Rattle.std.specs.Prelude.{ℕ, Option, Some, None, List, [], ◌∷◌}
use Rattle.ring_words.specs.declared.page.Role.{Role}
use Rattle.ring_words.specs.declared.page.Role.TheVariants.{Server, Client}
use Rattle.ring_words.specs.declared.page.WordName.{WordName}
use Rattle.ring_words.specs.declared.page.WordName.TheVariants.{LeftCons, LeftProd, RightCons, RightProd, LeftOrder, RightOrder, CliLive, SrvLive, CliGone, SrvGone}
use Rattle.vchan_protocol.specs.declared.op.Op.{Op}
use Rattle.vchan_protocol.specs.declared.op.Op.TheVariants.{Load, Swap}
use Rattle.vchan_protocol.specs.declared.op.PastEvent.{PastEvent}
use Rattle.vchan_protocol.specs.Table.Ends.{Standing, standing_after, low8, low16, low32}

-- the two indices of a ring at a look: the peer's as it was loaded, and the end's own count at that event
pub record Pair : Type 0 where
  pub prod : ℕ
  pub cons : ℕ

-- what was loaded so far
pub record Loads : Type 0 where
  -- the pairs of all looks, the last one first
  pub pairs : List Pair
  -- the next pair: that of the first look after the load of the live byte
  pub next_pair : Option Pair
  -- the peer's live byte, and its gone word
  pub live : Option ℕ
  pub gone : Option ℕ
  -- the two order words
  pub left_order : Option ℕ
  pub right_order : Option ℕ
  -- the own pending word, as a swap took it
  pub pending : Option ℕ

-- nothing was loaded yet
abbrev pub nothing_loaded : Loads
nothing_loaded = record { pairs = []; next_pair = None; live = None; gone = None; left_order = None; right_order = None; pending = None }

-- the first of some pairs
abbrev pub first_of : List Pair → Option Pair
first_of [] = None
first_of (pair ∷ older) = Some pair

-- the last pair: that of the last look
abbrev pub last_pair : Loads → Option Pair
last_pair loads = first_of loads.pairs

-- a pair is the next one if the live byte was loaded before it, and no pair since
abbrev pub next_after : Option ℕ → Option Pair → Pair → Option Pair
next_after None next pair = next
next_after (Some live) None pair = Some pair
next_after (Some live) (Some next) pair = Some next

-- after one more look
abbrev pub looked : Pair → Loads → Loads
looked pair loads = record loads { pairs = pair ∷ loads.pairs; next_pair = next_after loads.live loads.next_pair pair }

-- after one more load, by an end that has these two own counts
abbrev pub word_loaded : WordName → Role → ℕ → ℕ → ℕ → Loads → Loads
word_loaded LeftProd Server prod cons taken loads = looked (record { prod = low32 taken; cons = cons }) loads
word_loaded RightProd Client prod cons taken loads = looked (record { prod = low32 taken; cons = cons }) loads
word_loaded LeftCons Client prod cons taken loads = looked (record { prod = prod; cons = low32 taken }) loads
word_loaded RightCons Server prod cons taken loads = looked (record { prod = prod; cons = low32 taken }) loads
word_loaded CliLive Server prod cons taken loads = record loads { live = Some (low8 taken) }
word_loaded SrvLive Client prod cons taken loads = record loads { live = Some (low8 taken) }
word_loaded CliGone Server prod cons taken loads = record loads { gone = Some taken }
word_loaded SrvGone Client prod cons taken loads = record loads { gone = Some taken }
word_loaded LeftOrder role prod cons taken loads = record loads { left_order = Some (low16 taken) }
word_loaded RightOrder role prod cons taken loads = record loads { right_order = Some (low16 taken) }
word_loaded _ role prod cons taken loads = loads

-- after one more event of an end in this standing: it swaps no word but its pending word
abbrev pub loads_after : Standing → Op → ℕ → Loads → Loads
loads_after now (Load word) taken loads = word_loaded word now.role now.prod now.cons taken loads
loads_after now (Swap word value) taken loads = record loads { pending = Some taken }
loads_after now _ taken loads = loads

-- after more events
abbrev pub loads_along : Standing → Loads → List PastEvent → Loads
loads_along now loads [] = loads
loads_along now loads (event ∷ events) = loads_along (standing_after now event.op) (loads_after now event.op event.taken loads) events

-- what the whole trail of a call that began in this standing has loaded
abbrev pub loads_of : Standing → List PastEvent → Loads
loads_of begun trail = loads_along begun nothing_loaded trail
