-- The words that an end watches for its signals, and the bits that it asks with.
use Rattle.std.proofs.Common.{◌≡◌, ◌≢◌, ℕ, ◌-◌, ◌<◌, ◌≤◌, ◌==◌, false, List, length, slice_index, slice_set, bit_and, bit_or, refl, sym, ap, ◌∙◌, arith}
use Rattle.std.proofs.lemmas.Bool.{eqb-false, ne_eqb}
use Rattle.std.proofs.lemmas.Nat.{and_or_self, and_or_apart, and_assoc}
use Rattle.std.proofs.lemmas.List.{get_or-set_same, get_or-set_other, set-get_or}
use Rattle.ring_words.specs.Page.{index_of}
use Rattle.ring_words.specs.declared.order.Orders.{Orders}
use Rattle.ring_words.specs.declared.page.Role.{Role}
use Rattle.ring_words.specs.declared.page.Role.TheVariants.{Server, Client}
use Rattle.ring_words.specs.declared.page.WordName.{WordName}
use Rattle.ring_words.specs.declared.page.WordName.TheVariants.{LeftProd, RightCons, CliLive}
use Rattle.vchan_protocol.specs.declared.call.Bit.{Bit}
use Rattle.vchan_protocol.specs.declared.call.Bit.TheVariants.{Written, Consumed}
use Rattle.vchan_protocol.specs.Table.Ends.{written_ring, read_ring, prod_word, cons_word, ask_word, notify_word, peer_live, own_live, peer_gone, own_gone, own_pending, peer_pending, mask, low8}
use Rattle.vchan_protocol.specs.History.Core.{Core}
use Rattle.vchan_protocol.specs.History.Peer.{held, peer}
use Rattle.vchan_protocol.specs.Signals.SignalLaw.{own_index, peer_index}

-- ---- the words that an end watches

-- its ask word, its pending word, the two indices of its peer, and its peer's live byte and gone word
pub record WatchedKept (old new : Core) (who : Role) : Type 0 where
  pub asks : held new (ask_word who) ≡ held old (ask_word who)
  pub pending : held new (own_pending who) ≡ held old (own_pending who)
  pub index : (bit : Bit) → held new (peer_index who bit) ≡ held old (peer_index who bit)
  -- a live byte may be made other than 0
  pub live : low8 (held new (peer_live who)) ≡ 0 → held new (peer_live who) ≡ held old (peer_live who)
  pub gone : held new (peer_gone who) ≡ held old (peer_gone who)

-- the word of this number is none of these
abbrev pub Unwatched : Orders → Role → ℕ → Type 0
Unwatched orders who n =
    ((index_of orders (ask_word who) == n) ≡ false) × ((index_of orders (own_pending who) == n) ≡ false) × ((index_of orders (prod_word (read_ring who)) == n) ≡ false) ×
    ((index_of orders (cons_word (written_ring who)) == n) ≡ false) × ((index_of orders (peer_live who) == n) ≡ false) × ((index_of orders (peer_gone who) == n) ≡ false)

pub held_other : (old new : Core) (n value : ℕ) (word : WordName) → new.orders ≡ old.orders → new.words ≡ slice_set old.words n value → (index_of old.orders word == n) ≡ false → held new word ≡ held old word
held_other old new n value word orders words other =
    ap (λ (o : Orders). slice_index new.words (index_of o word)) orders ∙ ap (λ (w : List ℕ). slice_index w (index_of old.orders word)) words
    ∙ get_or-set_other old.words n (index_of old.orders word) value 0 (eqb-false _ _ other)

pub held_written : (old new : Core) (value : ℕ) (word : WordName) → new.orders ≡ old.orders → new.words ≡ slice_set old.words (index_of old.orders word) value → index_of old.orders word < length old.words → held new word ≡ value
held_written old new value word orders words within =
    ap (λ (o : Orders). slice_index new.words (index_of o word)) orders ∙ ap (λ (w : List ℕ). slice_index w (index_of old.orders word)) words
    ∙ get_or-set_same old.words (index_of old.orders word) value 0 within

pub kept_elsewhere : (old new : Core) (who : Role) (n value : ℕ) → new.orders ≡ old.orders → new.words ≡ slice_set old.words n value → Unwatched old.orders who n → WatchedKept old new who
kept_elsewhere old new who n value orders words un = record {
  asks = held_other old new n value (ask_word who) orders words un.0;
  pending = held_other old new n value (own_pending who) orders words un.1;
  index = index;
  live = λ _. held_other old new n value (peer_live who) orders words un.4;
  gone = held_other old new n value (peer_gone who) orders words un.5;
}
  where
    index : (bit : Bit) → held new (peer_index who bit) ≡ held old (peer_index who bit)
    index Written = held_other old new n value (prod_word (read_ring who)) orders words un.2
    index Consumed = held_other old new n value (cons_word (written_ring who)) orders words un.3

-- a load leaves all words
pub kept_all : (old new : Core) (who : Role) (n : ℕ) → new.orders ≡ old.orders → new.words ≡ slice_set old.words n (slice_index old.words n) → WatchedKept old new who
kept_all old new who n orders words = record { asks = same (ask_word who); pending = same (own_pending who); index = λ bit. same (peer_index who bit); live = λ _. same (peer_live who); gone = same (peer_gone who) }
  where
    same : (word : WordName) → held new word ≡ held old word
    same word =
        ap (λ (o : Orders). slice_index new.words (index_of o word)) orders ∙ ap (λ (w : List ℕ). slice_index w (index_of old.orders word)) (words ∙ set-get_or old.words n 0)

-- ---- words of the header

-- the other bit
abbrev pub other_bit : Bit → Bit
other_bit Written = Consumed
other_bit Consumed = Written

pub ask_within : (orders : Orders) (who : Role) (n : ℕ) → 14 ≤ n → index_of orders (ask_word who) < n
ask_within orders Server n h = omega (arith, h)
ask_within orders Client n h = omega (arith, h)

pub pending_within : (orders : Orders) (who : Role) (n : ℕ) → 14 ≤ n → index_of orders (own_pending who) < n
pending_within orders Server n h = omega (arith, h)
pending_within orders Client n h = omega (arith, h)

pub live_within : (orders : Orders) (n : ℕ) → 14 ≤ n → index_of orders CliLive < n
live_within orders n h = omega (arith, h)

pub ask_pending : (orders : Orders) (who : Role) → (index_of orders (own_pending who) == index_of orders (ask_word who)) ≡ false
ask_pending orders Server = refl
ask_pending orders Client = refl

pub ask_index : (orders : Orders) (who : Role) (bit : Bit) → (index_of orders (peer_index who bit) == index_of orders (ask_word who)) ≡ false
ask_index orders Server Written = refl
ask_index orders Server Consumed = refl
ask_index orders Client Written = refl
ask_index orders Client Consumed = refl

pub ask_live : (orders : Orders) (who : Role) → (index_of orders (peer_live who) == index_of orders (ask_word who)) ≡ false
ask_live orders Server = refl
ask_live orders Client = refl

pub ask_gone : (orders : Orders) (who : Role) → (index_of orders (peer_gone who) == index_of orders (ask_word who)) ≡ false
ask_gone orders Server = refl
ask_gone orders Client = refl

pub index_ask : (orders : Orders) (who : Role) (bit : Bit) → (index_of orders (ask_word who) == index_of orders (peer_index who bit)) ≡ false
index_ask orders Server Written = refl
index_ask orders Server Consumed = refl
index_ask orders Client Written = refl
index_ask orders Client Consumed = refl

pub index_pending : (orders : Orders) (who : Role) (bit : Bit) → (index_of orders (own_pending who) == index_of orders (peer_index who bit)) ≡ false
index_pending orders Server Written = refl
index_pending orders Server Consumed = refl
index_pending orders Client Written = refl
index_pending orders Client Consumed = refl

pub index_live : (orders : Orders) (who : Role) (bit : Bit) → (index_of orders (peer_live who) == index_of orders (peer_index who bit)) ≡ false
index_live orders Server Written = refl
index_live orders Server Consumed = refl
index_live orders Client Written = refl
index_live orders Client Consumed = refl

pub index_gone : (orders : Orders) (who : Role) (bit : Bit) → (index_of orders (peer_gone who) == index_of orders (peer_index who bit)) ≡ false
index_gone orders Server Written = refl
index_gone orders Server Consumed = refl
index_gone orders Client Written = refl
index_gone orders Client Consumed = refl

pub index_other : (orders : Orders) (who : Role) (bit : Bit) → (index_of orders (peer_index who (other_bit bit)) == index_of orders (peer_index who bit)) ≡ false
index_other orders Server Written = refl
index_other orders Server Consumed = refl
index_other orders Client Written = refl
index_other orders Client Consumed = refl

pub live_ask : (orders : Orders) (who : Role) → (index_of orders (ask_word who) == index_of orders (peer_live who)) ≡ false
live_ask orders Server = refl
live_ask orders Client = refl

pub live_pending : (orders : Orders) (who : Role) → (index_of orders (own_pending who) == index_of orders (peer_live who)) ≡ false
live_pending orders Server = refl
live_pending orders Client = refl

pub live_index : (orders : Orders) (who : Role) (bit : Bit) → (index_of orders (peer_index who bit) == index_of orders (peer_live who)) ≡ false
live_index orders Server Written = refl
live_index orders Server Consumed = refl
live_index orders Client Written = refl
live_index orders Client Consumed = refl

pub live_gone : (orders : Orders) (who : Role) → (index_of orders (peer_gone who) == index_of orders (peer_live who)) ≡ false
live_gone orders Server = refl
live_gone orders Client = refl

pub gone_ask : (orders : Orders) (who : Role) → (index_of orders (ask_word who) == index_of orders (peer_gone who)) ≡ false
gone_ask orders Server = refl
gone_ask orders Client = refl

pub gone_pending : (orders : Orders) (who : Role) → (index_of orders (own_pending who) == index_of orders (peer_gone who)) ≡ false
gone_pending orders Server = refl
gone_pending orders Client = refl

pub gone_index : (orders : Orders) (who : Role) (bit : Bit) → (index_of orders (peer_index who bit) == index_of orders (peer_gone who)) ≡ false
gone_index orders Server Written = refl
gone_index orders Server Consumed = refl
gone_index orders Client Written = refl
gone_index orders Client Consumed = refl

pub gone_live : (orders : Orders) (who : Role) → (index_of orders (peer_live who) == index_of orders (peer_gone who)) ≡ false
gone_live orders Server = refl
gone_live orders Client = refl

-- ---- words that an end doesn't watch

pub unwatched_notify : (orders : Orders) (who : Role) → Unwatched orders who (index_of orders (notify_word who))
unwatched_notify orders Server = (refl, refl, refl, refl, refl, refl)
unwatched_notify orders Client = (refl, refl, refl, refl, refl, refl)

pub unwatched_index : (orders : Orders) (who : Role) (bit : Bit) → Unwatched orders who (index_of orders (own_index who bit))
unwatched_index orders Server Written = (refl, refl, refl, refl, refl, refl)
unwatched_index orders Server Consumed = (refl, refl, refl, refl, refl, refl)
unwatched_index orders Client Written = (refl, refl, refl, refl, refl, refl)
unwatched_index orders Client Consumed = (refl, refl, refl, refl, refl, refl)

pub unwatched_own_live : (orders : Orders) (who : Role) → Unwatched orders who (index_of orders (own_live who))
unwatched_own_live orders Server = (refl, refl, refl, refl, refl, refl)
unwatched_own_live orders Client = (refl, refl, refl, refl, refl, refl)

pub unwatched_peer_pending : (orders : Orders) (who : Role) → Unwatched orders who (index_of orders (peer_pending who))
unwatched_peer_pending orders Server = (refl, refl, refl, refl, refl, refl)
unwatched_peer_pending orders Client = (refl, refl, refl, refl, refl, refl)

pub unwatched_gone : (orders : Orders) (who : Role) → Unwatched orders who (index_of orders (own_gone who))
unwatched_gone orders Server = (refl, refl, refl, refl, refl, refl)
unwatched_gone orders Client = (refl, refl, refl, refl, refl, refl)

-- what the peer asks with, and takes its events from
pub unwatched_peer_ask : (orders : Orders) (who : Role) → Unwatched orders who (index_of orders (ask_word (peer who)))
unwatched_peer_ask orders Server = (refl, refl, refl, refl, refl, refl)
unwatched_peer_ask orders Client = (refl, refl, refl, refl, refl, refl)

pub unwatched_peer_own : (orders : Orders) (who : Role) → Unwatched orders who (index_of orders (own_pending (peer who)))
unwatched_peer_own orders Server = (refl, refl, refl, refl, refl, refl)
unwatched_peer_own orders Client = (refl, refl, refl, refl, refl, refl)

-- a ring byte
pub unwatched_high : (orders : Orders) (who : Role) (n : ℕ) → 14 ≤ n → Unwatched orders who n
unwatched_high orders Server n h = (ne_eqb _ _ (λ is. omega (arith, h, is)), ne_eqb _ _ (λ is. omega (arith, h, is)), ne_eqb _ _ (λ is. omega (arith, h, is)), ne_eqb _ _ (λ is. omega (arith, h, is)), ne_eqb _ _ (λ is. omega (arith, h, is)), ne_eqb _ _ (λ is. omega (arith, h, is)))
unwatched_high orders Client n h = (ne_eqb _ _ (λ is. omega (arith, h, is)), ne_eqb _ _ (λ is. omega (arith, h, is)), ne_eqb _ _ (λ is. omega (arith, h, is)), ne_eqb _ _ (λ is. omega (arith, h, is)), ne_eqb _ _ (λ is. omega (arith, h, is)), ne_eqb _ _ (λ is. omega (arith, h, is)))

-- a client that opens makes its live byte 1, and touches no other word that an end watches
pub kept_connect : (old new : Core) (who : Role) → 14 ≤ length old.words → new.orders ≡ old.orders → new.words ≡ slice_set old.words (index_of old.orders CliLive) 1 → WatchedKept old new who
kept_connect old new Client header orders words = kept_elsewhere old new Client (index_of old.orders CliLive) 1 orders words (refl, refl, refl, refl, refl, refl)
kept_connect old new Server header orders words = record {
  asks = held_other old new 6 1 (ask_word Server) orders words refl;
  pending = held_other old new 6 1 (own_pending Server) orders words refl;
  index = index;
  live = λ none. absurd (eqb-false 1 0 refl (sym (ap low8 (held_written old new 1 CliLive orders words (live_within old.orders (length old.words) header))) ∙ none));
  gone = held_other old new 6 1 (peer_gone Server) orders words refl;
}
  where
    index : (bit : Bit) → held new (peer_index Server bit) ≡ held old (peer_index Server bit)
    index Written = held_other old new 6 1 LeftProd orders words refl
    index Consumed = held_other old new 6 1 RightCons orders words refl

-- ---- whose words they are

pub ask_is : (who : Role) → notify_word (peer who) ≡ ask_word who
ask_is Server = refl
ask_is Client = refl

pub pending_is : (who : Role) → peer_pending (peer who) ≡ own_pending who
pending_is Server = refl
pending_is Client = refl

pub index_is : (who : Role) (bit : Bit) → own_index (peer who) bit ≡ peer_index who bit
index_is Server Written = refl
index_is Server Consumed = refl
index_is Client Written = refl
index_is Client Consumed = refl

pub live_is : (who : Role) → own_live (peer who) ≡ peer_live who
live_is Server = refl
live_is Client = refl

pub gone_is : (who : Role) → own_gone (peer who) ≡ peer_gone who
gone_is Server = refl
gone_is Client = refl

-- ---- bits

-- a bit that is set
pub or_sets : (bit : Bit) (word : ℕ) → bit_and (bit_or word (mask bit)) (mask bit) ≢ 0
or_sets Written word = λ none. eqb-false 1 0 refl (sym (and_or_self 1 word) ∙ none)
or_sets Consumed word = λ none. eqb-false 2 0 refl (sym (and_or_self 2 word) ∙ none)

-- to set a bit clears none
pub or_keeps : (set bit : Bit) (word : ℕ) → bit_and word (mask bit) ≢ 0 → bit_and (bit_or word (mask set)) (mask bit) ≢ 0
or_keeps Written Written word h = or_sets Written word
or_keeps Consumed Consumed word h = or_sets Consumed word
or_keeps Written Consumed word h = λ none. h (sym (and_or_apart 2 word 1 refl) ∙ none)
or_keeps Consumed Written word h = λ none. h (sym (and_or_apart 1 word 2 refl) ∙ none)

-- to clear a bit leaves the other
pub and_keeps : (bit : Bit) (word : ℕ) → bit_and word (mask (other_bit bit)) ≢ 0 → bit_and (bit_and word (18446744073709551615 - mask bit)) (mask (other_bit bit)) ≢ 0
and_keeps Written word h = λ none. h (sym (and_assoc 2 word 18446744073709551614) ∙ none)
and_keeps Consumed word h = λ none. h (sym (and_assoc 1 word 18446744073709551613) ∙ none)

-- what holds of a bit and of the other one holds of each
pub each_bit : (P : Bit → Type 0) (set : Bit) → P set → P (other_bit set) → (bit : Bit) → P bit
each_bit P Written one two Written = one
each_bit P Written one two Consumed = two
each_bit P Consumed one two Written = two
each_bit P Consumed one two Consumed = one
