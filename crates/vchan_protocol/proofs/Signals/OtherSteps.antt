-- What the notes of an end say after an event of the other end.
use Rattle.std.proofs.Common.{◌≡◌, ◌≢◌, ◌⊎◌, inl, inr, ℕ, ◌-◌, ◌≤◌, ◌==◌, Bool, true, false, length, slice_set, bit_and, refl, sym, ap, ◌∙◌}
use Rattle.std.proofs.lemmas.Bool.{false≢true, eqb-false}
use Rattle.ring_words.specs.Page.{index_of}
use Rattle.ring_words.specs.declared.order.Orders.{Orders}
use Rattle.ring_words.specs.declared.page.Role.{Role}
use Rattle.ring_words.specs.declared.page.WordName.{WordName}
use Rattle.vchan_protocol.specs.declared.op.Op.{Op}
use Rattle.vchan_protocol.specs.declared.op.Op.TheVariants.{Store, And}
use Rattle.vchan_protocol.specs.declared.call.Bit.{Bit}
use Rattle.vchan_protocol.specs.declared.call.Bit.TheVariants.{Written, Consumed}
use Rattle.vchan_protocol.specs.declared.side.Side.{Side}
use Rattle.vchan_protocol.specs.Table.Ends.{ask_word, peer_live, own_live, own_pending, peer_gone, own_gone, mask, low8, low32}
use Rattle.vchan_protocol.specs.Table.Apply.{word_of}
use Rattle.vchan_protocol.specs.History.Core.{Core, side_of, op_next}
use Rattle.vchan_protocol.specs.History.Peer.{held, peer}
use Rattle.vchan_protocol.specs.Signals.SignalLaw.{peer_index, asked_of, test_of, signal_of, HasJust, OwesSignal, OwesTest, IsWoken, AskStands, IndexIsTold, CloseIsTold, GoneIsTold}
use Rattle.vchan_protocol.proofs.Signals.Watched.{held_other, held_written, ask_within, ask_pending, ask_index, ask_live, ask_gone, index_ask, index_pending, index_live, index_gone, index_other, live_ask, live_pending, live_index, live_gone, gone_ask, gone_pending, gone_index, gone_live, pending_is, and_keeps, each_bit, other_bit, WatchedKept}
use Rattle.vchan_protocol.proofs.Signals.OwnSteps.{Told, woken_kept}

-- ---- the other end acts

-- an event that is neither a test nor the signal
abbrev pub is_store : Op → Bool
is_store (Store word value) = true
is_store _ = false

abbrev pub is_test : Op → Bool
is_test (And word bits) = true
is_test _ = false

pub no_signal : (op : Op) (who : Role) → is_store op ≡ false → op ≢ signal_of who
no_signal op who not is = false≢true (sym not ∙ ap is_store is)

pub no_test : (op : Op) (who : Role) (bit : Bit) → is_test op ≡ false → op ≢ test_of who bit
no_test op who bit not is = false≢true (sym not ∙ ap is_test is)

-- a store of another word
pub other_store : (orders : Orders) (word : WordName) (value : ℕ) (who : Role) → (index_of orders (own_pending who) == index_of orders word) ≡ false → Store word value ≢ signal_of (peer who)
other_store orders word value who other is =
    eqb-false (index_of orders (own_pending who)) (index_of orders word) other (ap (λ (w : WordName). index_of orders w) (sym (pending_is who)) ∙ sym (ap (λ (op : Op). word_of orders op) is))

-- the test of the other bit
masks_apart : (bit : Bit) → 18446744073709551615 - mask bit ≢ 18446744073709551615 - mask (other_bit bit)
masks_apart Written is = eqb-false 18446744073709551614 18446744073709551613 refl is
masks_apart Consumed is = eqb-false 18446744073709551613 18446744073709551614 refl is

abbrev pub bits_of : Op → ℕ
bits_of (And word bits) = bits
bits_of _ = 0

other_test : (who : Role) (bit : Bit) → test_of who bit ≢ test_of who (other_bit bit)
other_test who bit is = masks_apart bit (ap bits_of is)

-- the peer makes the event, and the end whose notes these are makes none
module _ (old new : Core) (who : Role) (op : Op) (same : side_of new who ≡ side_of old who) (did : op_next (side_of old (peer who)) ≡ op) (silent : op ≢ signal_of (peer who))
    (pending : held new (own_pending who) ≡ held old (own_pending who)) where
  other_ask : (bit : Bit) → (bit_and (held old (ask_word who)) (mask bit) ≢ 0 → bit_and (held new (ask_word who)) (mask bit) ≢ 0 ⊎ OwesSignal new (peer who) (test_of (peer who) bit)) →
      AskStands old who bit → AskStands new who bit
  other_ask bit bits old_told = λ asked. go (old_told (ap (λ (s : Side). (asked_of s.notes bit).since) (sym same) ∙ asked))
    where
      still : bit_and (held new (ask_word who)) (mask bit) ≢ 0 ⊎ OwesSignal new (peer who) (test_of (peer who) bit) →
          (bit_and (held new (ask_word who)) (mask bit) ≢ 0) ⊎ (OwesSignal new (peer who) (test_of (peer who) bit) ⊎ IsWoken new who)
      still (inl set) = inl set
      still (inr owes) = inr (inl owes)

      go : (bit_and (held old (ask_word who)) (mask bit) ≢ 0) ⊎ (OwesSignal old (peer who) (test_of (peer who) bit) ⊎ IsWoken old who) →
          (bit_and (held new (ask_word who)) (mask bit) ≢ 0) ⊎ (OwesSignal new (peer who) (test_of (peer who) bit) ⊎ IsWoken new who)
      go (inl set) = still (bits set)
      go (inr (inl owes)) = absurd (silent (sym did ∙ owes.1))
      go (inr (inr woken)) = inr (inr (woken_kept old new who pending woken))

  other_index : (bit : Bit) → op ≢ test_of (peer who) bit → held new (peer_index who bit) ≡ held old (peer_index who bit) → IndexIsTold old who bit → IndexIsTold new who bit
  other_index bit untested index_same old_told = λ index asked seen differs.
      go (old_told index (ap (λ (s : Side). (asked_of s.notes bit).since) (sym same) ∙ asked) (ap (λ (s : Side). (asked_of s.notes bit).seen) (sym same) ∙ seen) (λ is. differs (ap low32 index_same ∙ is)))
    where
      go : OwesTest old (peer who) bit ⊎ (OwesSignal old (peer who) (test_of (peer who) bit) ⊎ IsWoken old who) →
          OwesTest new (peer who) bit ⊎ (OwesSignal new (peer who) (test_of (peer who) bit) ⊎ IsWoken new who)
      go (inl owes) = absurd (untested (sym did ∙ owes.2))
      go (inr (inl owes)) = absurd (silent (sym did ∙ owes.1))
      go (inr (inr woken)) = inr (inr (woken_kept old new who pending woken))

  -- the peer that owes the signal after a store makes it next
  other_owed : (owed : Op) → OwesSignal old (peer who) owed ⊎ IsWoken old who → IsWoken new who
  other_owed owed (inl owes) = absurd (silent (sym did ∙ owes.1))
  other_owed owed (inr woken) = woken_kept old new who pending woken

  other_close : (low8 (held new (peer_live who)) ≡ 0 → held new (peer_live who) ≡ held old (peer_live who)) → CloseIsTold old who → CloseIsTold new who
  other_close live_same old_told = λ live seen alive shut.
      inr (other_owed (Store (own_live (peer who)) 0) (old_told live (ap (λ (s : Side). s.notes.live) (sym same) ∙ seen) alive (ap low8 (sym (live_same shut)) ∙ shut)))

  other_gone : held new (peer_gone who) ≡ held old (peer_gone who) → GoneIsTold old who → GoneIsTold new who
  other_gone gone_same old_told = λ seen gone.
      inr (other_owed (Store (own_gone (peer who)) 1) (old_told (ap (λ (s : Side). s.notes.gone) (sym same) ∙ seen) (λ none. gone (gone_same ∙ none))))

  -- an event on a word that the end doesn't watch
  pub other_same : ((bit : Bit) → op ≢ test_of (peer who) bit) → WatchedKept old new who → Told old who → Told new who
  other_same untested kept told = record {
    asks_stand = λ bit. other_ask bit (λ set. inl (λ none. set (ap (λ (w : ℕ). bit_and w (mask bit)) (sym kept.asks) ∙ none))) (told.asks_stand bit);
    indices_told = λ bit. other_index bit (untested bit) (kept.index bit) (told.indices_told bit);
    closes_told = other_close kept.live told.closes_told;
    gone_told = other_gone kept.gone told.gone_told;
  }

-- the signal wakes the end
pub woken_told : (core : Core) (who : Role) → IsWoken core who → Told core who
woken_told core who woken = record {
  asks_stand = λ bit asked. inr (inr woken);
  indices_told = λ bit index asked seen differs. inr (inr woken);
  closes_told = λ live seen alive shut. inr woken;
  gone_told = λ seen gone. inr woken;
}

-- the peer tests a bit
pub other_tests : (old new : Core) (who : Role) (bit : Bit) → 14 ≤ length old.words → side_of new who ≡ side_of old who → new.orders ≡ old.orders →
    new.words ≡ slice_set old.words (index_of old.orders (ask_word who)) (bit_and (held old (ask_word who)) (18446744073709551615 - mask bit)) →
    op_next (side_of old (peer who)) ≡ test_of (peer who) bit → HasJust (side_of new (peer who)) (test_of (peer who) bit) →
    (bit_and (held old (ask_word who)) (mask bit) ≢ 0 → op_next (side_of new (peer who)) ≡ signal_of (peer who)) → Told old who → Told new who
other_tests old new who bit header same orders words did just told_if told = record {
  asks_stand = each_bit (λ b. AskStands new who b) bit (other_ask old new who (test_of (peer who) bit) same did silent pending bit (λ set. inr (just, told_if set)) (told.asks_stand bit))
      (other_ask old new who (test_of (peer who) bit) same did silent pending (other_bit bit)
      (λ set. inl (λ none. and_keeps bit (held old (ask_word who)) set (ap (λ (w : ℕ). bit_and w (mask (other_bit bit))) (sym asks_are) ∙ none))) (told.asks_stand (other_bit bit)));
  indices_told = each_bit (λ b. IndexIsTold new who b) bit tested
      (other_index old new who (test_of (peer who) bit) same did silent pending (other_bit bit) (other_test (peer who) bit)
      (held_other old new _ _ (peer_index who (other_bit bit)) orders words (ask_index old.orders who (other_bit bit))) (told.indices_told (other_bit bit)));
  closes_told = other_close old new who (test_of (peer who) bit) same did silent pending (λ _. held_other old new _ _ (peer_live who) orders words (ask_live old.orders who)) told.closes_told;
  gone_told = other_gone old new who (test_of (peer who) bit) same did silent pending (held_other old new _ _ (peer_gone who) orders words (ask_gone old.orders who)) told.gone_told;
}
  where
    silent : test_of (peer who) bit ≢ signal_of (peer who)
    silent = no_signal (test_of (peer who) bit) (peer who) refl

    asks_are : held new (ask_word who) ≡ bit_and (held old (ask_word who)) (18446744073709551615 - mask bit)
    asks_are = held_written old new _ (ask_word who) orders words (ask_within old.orders who (length old.words) header)

    pending : held new (own_pending who) ≡ held old (own_pending who)
    pending = held_other old new _ _ (own_pending who) orders words (ask_pending old.orders who)

    -- if the bit is clear, the end is woken already, since it asked and its peer owes no signal
    told_or_woken : AskStands old who bit → (asked_of (side_of old who).notes bit).since ≡ true → OwesSignal new (peer who) (test_of (peer who) bit) ⊎ IsWoken new who
    told_or_woken stands asked = go (stands asked)
      where
        go : (bit_and (held old (ask_word who)) (mask bit) ≢ 0) ⊎ (OwesSignal old (peer who) (test_of (peer who) bit) ⊎ IsWoken old who) →
            OwesSignal new (peer who) (test_of (peer who) bit) ⊎ IsWoken new who
        go (inl set) = inl (just, told_if set)
        go (inr (inl owes)) = absurd (silent (sym did ∙ owes.1))
        go (inr (inr woken)) = inr (woken_kept old new who pending woken)

    tested : IndexIsTold new who bit
    tested = λ index asked seen differs. inr (told_or_woken (told.asks_stand bit) (ap (λ (s : Side). (asked_of s.notes bit).since) (sym same) ∙ asked))

-- the peer stores its index
pub other_indexes : (old new : Core) (who : Role) (bit : Bit) (value : ℕ) → side_of new who ≡ side_of old who → new.orders ≡ old.orders →
    new.words ≡ slice_set old.words (index_of old.orders (peer_index who bit)) value → (op : Op) → op ≡ Store (peer_index who bit) value →
    op_next (side_of old (peer who)) ≡ op → OwesTest new (peer who) bit → Told old who → Told new who
other_indexes old new who bit value same orders words op is did owes told = record {
  asks_stand = λ b. other_ask old new who op same did silent pending b
      (λ set. inl (λ none. set (ap (λ (w : ℕ). bit_and w (mask b)) (sym (held_other old new _ _ (ask_word who) orders words (index_ask old.orders who bit))) ∙ none))) (told.asks_stand b);
  indices_told = each_bit (λ b. IndexIsTold new who b) bit (λ index asked seen differs. inl owes)
      (other_index old new who op same did silent pending (other_bit bit) untested
      (held_other old new _ _ (peer_index who (other_bit bit)) orders words (index_other old.orders who bit)) (told.indices_told (other_bit bit)));
  closes_told = other_close old new who op same did silent pending (λ _. held_other old new _ _ (peer_live who) orders words (index_live old.orders who bit)) told.closes_told;
  gone_told = other_gone old new who op same did silent pending (held_other old new _ _ (peer_gone who) orders words (index_gone old.orders who bit)) told.gone_told;
}
  where
    silent : op ≢ signal_of (peer who)
    silent signal = other_store old.orders (peer_index who bit) value who (index_pending old.orders who bit) (sym is ∙ signal)

    untested : op ≢ test_of (peer who) (other_bit bit)
    untested test = no_test (Store (peer_index who bit) value) (peer who) (other_bit bit) refl (sym is ∙ test)

    pending : held new (own_pending who) ≡ held old (own_pending who)
    pending = held_other old new _ _ (own_pending who) orders words (index_pending old.orders who bit)

-- the peer closes
pub other_closes : (old new : Core) (who : Role) → side_of new who ≡ side_of old who → new.orders ≡ old.orders →
    new.words ≡ slice_set old.words (index_of old.orders (peer_live who)) 0 → (op : Op) → op ≡ Store (peer_live who) 0 →
    op_next (side_of old (peer who)) ≡ op → OwesSignal new (peer who) (Store (own_live (peer who)) 0) → Told old who → Told new who
other_closes old new who same orders words op is did owes told = record {
  asks_stand = λ b. other_ask old new who op same did silent pending b
      (λ set. inl (λ none. set (ap (λ (w : ℕ). bit_and w (mask b)) (sym (held_other old new _ _ (ask_word who) orders words (live_ask old.orders who))) ∙ none))) (told.asks_stand b);
  indices_told = λ b. other_index old new who op same did silent pending b (untested b)
      (held_other old new _ _ (peer_index who b) orders words (live_index old.orders who b)) (told.indices_told b);
  closes_told = λ live seen alive shut. inl owes;
  gone_told = other_gone old new who op same did silent pending (held_other old new _ _ (peer_gone who) orders words (live_gone old.orders who)) told.gone_told;
}
  where
    silent : op ≢ signal_of (peer who)
    silent signal = other_store old.orders (peer_live who) 0 who (live_pending old.orders who) (sym is ∙ signal)

    untested : (b : Bit) → op ≢ test_of (peer who) b
    untested b test = no_test (Store (peer_live who) 0) (peer who) b refl (sym is ∙ test)

    pending : held new (own_pending who) ≡ held old (own_pending who)
    pending = held_other old new _ _ (own_pending who) orders words (live_pending old.orders who)

-- the peer stores its gone word
pub other_retires : (old new : Core) (who : Role) → side_of new who ≡ side_of old who → new.orders ≡ old.orders →
    new.words ≡ slice_set old.words (index_of old.orders (peer_gone who)) 1 → (op : Op) → op ≡ Store (peer_gone who) 1 →
    op_next (side_of old (peer who)) ≡ op → OwesSignal new (peer who) (Store (own_gone (peer who)) 1) → Told old who → Told new who
other_retires old new who same orders words op is did owes told = record {
  asks_stand = λ b. other_ask old new who op same did silent pending b
      (λ set. inl (λ none. set (ap (λ (w : ℕ). bit_and w (mask b)) (sym (held_other old new _ _ (ask_word who) orders words (gone_ask old.orders who))) ∙ none))) (told.asks_stand b);
  indices_told = λ b. other_index old new who op same did silent pending b (untested b)
      (held_other old new _ _ (peer_index who b) orders words (gone_index old.orders who b)) (told.indices_told b);
  closes_told = other_close old new who op same did silent pending (λ _. held_other old new _ _ (peer_live who) orders words (gone_live old.orders who)) told.closes_told;
  gone_told = λ seen gone. inl owes;
}
  where
    silent : op ≢ signal_of (peer who)
    silent signal = other_store old.orders (peer_gone who) 1 who (gone_pending old.orders who) (sym is ∙ signal)

    untested : (b : Bit) → op ≢ test_of (peer who) b
    untested b test = no_test (Store (peer_gone who) 1) (peer who) b refl (sym is ∙ test)

    pending : held new (own_pending who) ≡ held old (own_pending who)
    pending = held_other old new _ _ (own_pending who) orders words (gone_pending old.orders who)
