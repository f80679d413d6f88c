-- What the notes of an end say after an event of its own.
use Rattle.std.proofs.Common.{◌≡◌, ◌≢◌, ◌⊎◌, inl, inr, ℕ, ◌≤◌, Bool, true, cond, Option, Some, None, List, [], ◌∷◌, ◌++◌, length, slice_set, bit_and, bit_or, refl, subst, sym, ap, ◌∙◌}
use Rattle.std.proofs.lemmas.Option.{none-some, same_Some}
use Rattle.ring_words.specs.Page.{index_of}
use Rattle.ring_words.specs.declared.page.Role.{Role}
use Rattle.ring_words.specs.declared.page.Role.TheVariants.{Server, Client}
use Rattle.ring_words.specs.declared.page.WordName.{WordName}
use Rattle.ring_words.specs.declared.page.WordName.TheVariants.{LeftCons, LeftProd, RightCons, RightProd, CliLive, SrvLive, CliGone, SrvGone}
use Rattle.vchan_protocol.specs.declared.op.Op.{Op}
use Rattle.vchan_protocol.specs.declared.op.Op.TheVariants.{Store, Or}
use Rattle.vchan_protocol.specs.declared.op.PastEvent.{PastEvent}
use Rattle.vchan_protocol.specs.declared.call.Answer.TheVariants.{Done}
use Rattle.vchan_protocol.specs.declared.call.Bit.{Bit}
use Rattle.vchan_protocol.specs.declared.call.Bit.TheVariants.{Written, Consumed}
use Rattle.vchan_protocol.specs.declared.side.Side.{Side}
use Rattle.vchan_protocol.specs.declared.side.Begun.{Begun}
use Rattle.vchan_protocol.specs.declared.side.Notes.{Notes}
use Rattle.vchan_protocol.specs.Table.Plan.{Plan, answers, does, next_op, after, rest_after, past}
use Rattle.vchan_protocol.specs.Table.Ends.{ask_word, peer_live, own_live, own_pending, peer_gone, own_gone, mask, low8, low32}
use Rattle.vchan_protocol.specs.Table.Calls.{plan_of}
use Rattle.vchan_protocol.specs.Table.Apply.{words_after, value_taken}
use Rattle.vchan_protocol.specs.History.Core.{Core, side_of, plan_left, op_next, begun_standing, noted, noted_load, made, event}
use Rattle.vchan_protocol.specs.History.Peer.{held, peer}
use Rattle.vchan_protocol.specs.Signals.SignalLaw.{own_index, peer_index, asked_of, test_of, signal_of, HasJust, OwesSignal, OwesTest, IsWoken, AskStands, IndexIsTold, CloseIsTold, GoneIsTold}
use Rattle.vchan_protocol.proofs.Signals.Watched.{held_other, held_written, ask_within, ask_pending, ask_index, ask_live, ask_gone, or_sets, or_keeps, each_bit, other_bit, WatchedKept}
use Rattle.vchan_protocol.proofs.Signals.Notifies.{Notifies, notifies_answers, notifies_call, Notifies_left}

-- ---- an end after an event

pub rest_after_push : (plan : Plan) (events : List PastEvent) (op : Op) (value : ℕ) → rest_after plan (events ++ past op value ∷ []) ≡ after (rest_after plan events) value
rest_after_push (answers answer) [] op value = refl
rest_after_push (does first next) [] op value = refl
rest_after_push (answers answer) (event ∷ events) op value = refl
rest_after_push (does first next) (event ∷ events) op value = rest_after_push (next event.taken) events op value

-- what is left of a call after one more event
pub plan_left_made : (s : Side) (op : Op) (taken : ℕ) → plan_left (made s op taken) ≡ after (plan_left s) taken
plan_left_made s op taken = go s.call
  where
    go : (call : Option Begun) →
        elim call [ None ↦ answers Done | Some b ↦ rest_after (plan_of (begun_standing s b) b.call) (s.trail ++ past op taken ∷ []) ] ≡
        after (elim call [ None ↦ answers Done | Some b ↦ rest_after (plan_of (begun_standing s b) b.call) s.trail ]) taken
    go None = refl
    go (Some b) = rest_after_push (plan_of (begun_standing s b) b.call) s.trail op taken

-- what is left of any call is made of deeds
pub plan_notifies : (s : Side) → Notifies s.role (plan_left s)
plan_notifies s = go s.call
  where
    go : (call : Option Begun) → Notifies s.role (elim call [ None ↦ answers Done | Some b ↦ rest_after (plan_of (begun_standing s b) b.call) s.trail ])
    go None = notifies_answers s.role Done
    go (Some b) = Notifies_left s.role (plan_of (begun_standing s b) b.call) s.trail (notifies_call (begun_standing s b) b.call)

-- ---- one event, made by an end while the other stands

pub record Step (old new : Core) (who other : Role) (op : Op) (next : ℕ → Plan) : Type 0 where
  pub payload : List ℕ
  pub orders_are : new.orders ≡ old.orders
  pub words_are : new.words ≡ words_after old.orders old.words payload op
  pub notes_are : (side_of new who).notes ≡ noted op who (value_taken old.orders old.words op) (side_of old who).notes
  pub just : HasJust (side_of new who) op
  pub did : op_next (side_of old who) ≡ op
  pub does_next : op_next (side_of new who) ≡ next_op (next (value_taken old.orders old.words op))
  pub other_is : side_of new other ≡ side_of old other

-- what holds of one end's signals
pub record Told (core : Core) (who : Role) : Type 0 where
  pub asks_stand : (bit : Bit) → AskStands core who bit
  pub indices_told : (bit : Bit) → IndexIsTold core who bit
  pub closes_told : CloseIsTold core who
  pub gone_told : GoneIsTold core who

-- ---- what still holds when little changes

pub woken_kept : (old new : Core) (who : Role) → held new (own_pending who) ≡ held old (own_pending who) → IsWoken old who → IsWoken new who
woken_kept old new who same woken = λ none. woken (sym same ∙ none)

owes_kept : (old new : Core) (who : Role) (op : Op) → side_of new who ≡ side_of old who → OwesSignal old who op → OwesSignal new who op
owes_kept old new who op same owes = subst (λ (s : Side). HasJust s op × (op_next s ≡ signal_of who)) (sym same) owes

tests_kept : (old new : Core) (who : Role) (bit : Bit) → side_of new who ≡ side_of old who → OwesTest old who bit → OwesTest new who bit
tests_kept old new who bit same owes =
    subst (λ (s : Side). (index : ℕ) × HasJust s (Store (own_index who bit) index) × (op_next s ≡ test_of who bit)) (sym same) owes

-- the end whose notes these are makes the event, and its peer makes none
module _ (old new : Core) (who : Role) (peer_same : side_of new (peer who) ≡ side_of old (peer who)) (pending : held new (own_pending who) ≡ held old (own_pending who)) where
  own_ask : (bit : Bit) → ((asked_of (side_of new who).notes bit).since ≡ true → (asked_of (side_of old who).notes bit).since ≡ true) →
      (bit_and (held old (ask_word who)) (mask bit) ≢ 0 → bit_and (held new (ask_word who)) (mask bit) ≢ 0) → AskStands old who bit → AskStands new who bit
  own_ask bit since bits old_told = λ asked. go (old_told (since asked))
    where
      go : (bit_and (held old (ask_word who)) (mask bit) ≢ 0) ⊎ (OwesSignal old (peer who) (test_of (peer who) bit) ⊎ IsWoken old who) →
          (bit_and (held new (ask_word who)) (mask bit) ≢ 0) ⊎ (OwesSignal new (peer who) (test_of (peer who) bit) ⊎ IsWoken new who)
      go (inl set) = inl (bits set)
      go (inr (inl owes)) = inr (inl (owes_kept old new (peer who) (test_of (peer who) bit) peer_same owes))
      go (inr (inr woken)) = inr (inr (woken_kept old new who pending woken))

  own_index_told : (bit : Bit) → held new (peer_index who bit) ≡ held old (peer_index who bit) →
      ((index : ℕ) → (asked_of (side_of new who).notes bit).since ≡ true → (asked_of (side_of new who).notes bit).seen ≡ Some index → low32 (held old (peer_index who bit)) ≢ index →
      ((asked_of (side_of old who).notes bit).since ≡ true) × ((asked_of (side_of old who).notes bit).seen ≡ Some index)) →
      IndexIsTold old who bit → IndexIsTold new who bit
  own_index_told bit same noted old_told = λ index since seen differs.
      let apart : low32 (held old (peer_index who bit)) ≢ index = λ is. differs (ap low32 same ∙ is) in
      let was = noted index since seen apart in
      go (old_told index was.0 was.1 apart)
    where
      go : OwesTest old (peer who) bit ⊎ (OwesSignal old (peer who) (test_of (peer who) bit) ⊎ IsWoken old who) →
          OwesTest new (peer who) bit ⊎ (OwesSignal new (peer who) (test_of (peer who) bit) ⊎ IsWoken new who)
      go (inl tested) = inl (tests_kept old new (peer who) bit peer_same tested)
      go (inr (inl owes)) = inr (inl (owes_kept old new (peer who) (test_of (peer who) bit) peer_same owes))
      go (inr (inr woken)) = inr (inr (woken_kept old new who pending woken))

  -- the signal that is owed after a store of the peer stays owed
  own_owed : (op : Op) → OwesSignal old (peer who) op ⊎ IsWoken old who → OwesSignal new (peer who) op ⊎ IsWoken new who
  own_owed op (inl owes) = inl (owes_kept old new (peer who) op peer_same owes)
  own_owed op (inr woken) = inr (woken_kept old new who pending woken)

  own_close_told : (low8 (held new (peer_live who)) ≡ 0 → held new (peer_live who) ≡ held old (peer_live who)) →
      ((live : ℕ) → (side_of new who).notes.live ≡ Some live → live ≢ 0 → low8 (held old (peer_live who)) ≡ 0 → (side_of old who).notes.live ≡ Some live) → CloseIsTold old who → CloseIsTold new who
  own_close_told same noted old_told = λ live seen alive shut.
      let was_shut : low8 (held old (peer_live who)) ≡ 0 = ap low8 (sym (same shut)) ∙ shut in
      own_owed (Store (own_live (peer who)) 0) (old_told live (noted live seen alive was_shut) alive was_shut)

  own_gone_told : held new (peer_gone who) ≡ held old (peer_gone who) →
      ((side_of new who).notes.gone ≡ Some 0 → held old (peer_gone who) ≢ 0 → (side_of old who).notes.gone ≡ Some 0) → GoneIsTold old who → GoneIsTold new who
  own_gone_told same noted old_told = λ seen gone.
      let was_gone : held old (peer_gone who) ≢ 0 = λ none. gone (same ∙ none) in
      own_owed (Store (own_gone (peer who)) 1) (old_told (noted seen was_gone) was_gone)

-- an event of which the end notes nothing, on a word that it doesn't watch
pub own_same : (old new : Core) (who : Role) → side_of new (peer who) ≡ side_of old (peer who) → WatchedKept old new who → (side_of new who).notes ≡ (side_of old who).notes → Told old who → Told new who
own_same old new who peer_same kept notes told = record {
  asks_stand = λ bit. own_ask old new who peer_same kept.pending bit (λ since. ap (λ (n : Notes). (asked_of n bit).since) (sym notes) ∙ since)
      (λ set. λ none. set (ap (λ (w : ℕ). bit_and w (mask bit)) (sym kept.asks) ∙ none)) (told.asks_stand bit);
  indices_told = λ bit. own_index_told old new who peer_same kept.pending bit (kept.index bit)
      (λ index since seen differs. (ap (λ (n : Notes). (asked_of n bit).since) (sym notes) ∙ since, ap (λ (n : Notes). (asked_of n bit).seen) (sym notes) ∙ seen)) (told.indices_told bit);
  closes_told = own_close_told old new who peer_same kept.pending kept.live (λ live seen alive shut. ap (λ (n : Notes). n.live) (sym notes) ∙ seen) told.closes_told;
  gone_told = own_gone_told old new who peer_same kept.pending kept.gone (λ seen gone. ap (λ (n : Notes). n.gone) (sym notes) ∙ seen) told.gone_told;
}

-- ---- a load of one's own

since_load : (word : WordName) (who : Role) (taken : ℕ) (n : Notes) (bit : Bit) → (asked_of (noted_load word who taken n) bit).since ≡ (asked_of n bit).since
since_load LeftProd Server taken n Written = refl
since_load LeftProd Server taken n Consumed = refl
since_load RightProd Client taken n Written = refl
since_load RightProd Client taken n Consumed = refl
since_load LeftCons Client taken n Written = refl
since_load LeftCons Client taken n Consumed = refl
since_load RightCons Server taken n Written = refl
since_load RightCons Server taken n Consumed = refl
since_load CliLive Server taken n Written = refl
since_load CliLive Server taken n Consumed = refl
since_load SrvLive Client taken n Written = refl
since_load SrvLive Client taken n Consumed = refl
since_load CliGone Server taken n Written = refl
since_load CliGone Server taken n Consumed = refl
since_load SrvGone Client taken n Written = refl
since_load SrvGone Client taken n Consumed = refl
since_load _ _ taken n bit = refl

-- it notes the peer's index, or leaves what is noted of that
abbrev pub SeesIndex : WordName → Role → ℕ → Notes → Bit → Type 0
SeesIndex word who taken n bit =
    ((asked_of (noted_load word who taken n) bit).seen ≡ (asked_of n bit).seen) ⊎
    ((word ≡ peer_index who bit) × ((asked_of (noted_load word who taken n) bit).seen ≡ cond (asked_of n bit).since (Some (low32 taken)) None))

sees_index : (word : WordName) (who : Role) (taken : ℕ) (n : Notes) (bit : Bit) → SeesIndex word who taken n bit
sees_index LeftProd Server taken n Written = inr (refl, refl)
sees_index LeftProd Server taken n Consumed = inl refl
sees_index RightProd Client taken n Written = inr (refl, refl)
sees_index RightProd Client taken n Consumed = inl refl
sees_index LeftCons Client taken n Written = inl refl
sees_index LeftCons Client taken n Consumed = inr (refl, refl)
sees_index RightCons Server taken n Written = inl refl
sees_index RightCons Server taken n Consumed = inr (refl, refl)
sees_index CliLive Server taken n Written = inl refl
sees_index CliLive Server taken n Consumed = inl refl
sees_index SrvLive Client taken n Written = inl refl
sees_index SrvLive Client taken n Consumed = inl refl
sees_index CliGone Server taken n Written = inl refl
sees_index CliGone Server taken n Consumed = inl refl
sees_index SrvGone Client taken n Written = inl refl
sees_index SrvGone Client taken n Consumed = inl refl
sees_index _ _ taken n bit = inl refl

abbrev pub SeesLive : WordName → Role → ℕ → Notes → Type 0
SeesLive word who taken n = ((noted_load word who taken n).live ≡ n.live) ⊎ ((word ≡ peer_live who) × ((noted_load word who taken n).live ≡ Some (low8 taken)))

sees_live : (word : WordName) (who : Role) (taken : ℕ) (n : Notes) → SeesLive word who taken n
sees_live CliLive Server taken n = inr (refl, refl)
sees_live SrvLive Client taken n = inr (refl, refl)
sees_live LeftCons Server taken n = inl refl
sees_live LeftCons Client taken n = inl refl
sees_live LeftProd Server taken n = inl refl
sees_live LeftProd Client taken n = inl refl
sees_live RightCons Server taken n = inl refl
sees_live RightCons Client taken n = inl refl
sees_live RightProd Server taken n = inl refl
sees_live RightProd Client taken n = inl refl
sees_live CliGone Server taken n = inl refl
sees_live CliGone Client taken n = inl refl
sees_live SrvGone Server taken n = inl refl
sees_live SrvGone Client taken n = inl refl
sees_live _ _ taken n = inl refl

abbrev pub SeesGone : WordName → Role → ℕ → Notes → Type 0
SeesGone word who taken n = ((noted_load word who taken n).gone ≡ n.gone) ⊎ ((word ≡ peer_gone who) × ((noted_load word who taken n).gone ≡ Some taken))

sees_gone : (word : WordName) (who : Role) (taken : ℕ) (n : Notes) → SeesGone word who taken n
sees_gone CliGone Server taken n = inr (refl, refl)
sees_gone SrvGone Client taken n = inr (refl, refl)
sees_gone LeftCons Server taken n = inl refl
sees_gone LeftCons Client taken n = inl refl
sees_gone LeftProd Server taken n = inl refl
sees_gone LeftProd Client taken n = inl refl
sees_gone RightCons Server taken n = inl refl
sees_gone RightCons Client taken n = inl refl
sees_gone RightProd Server taken n = inl refl
sees_gone RightProd Client taken n = inl refl
sees_gone CliLive Server taken n = inl refl
sees_gone CliLive Client taken n = inl refl
sees_gone SrvLive Server taken n = inl refl
sees_gone SrvLive Client taken n = inl refl
sees_gone _ _ taken n = inl refl

pub own_load : (old new : Core) (who : Role) (word : WordName) → side_of new (peer who) ≡ side_of old (peer who) → WatchedKept old new who →
    (side_of new who).notes ≡ noted_load word who (held old word) (side_of old who).notes → Told old who → Told new who
own_load old new who word peer_same kept notes told = record {
  asks_stand = λ bit. own_ask old new who peer_same kept.pending bit (since bit) (λ set. λ none. set (ap (λ (w : ℕ). bit_and w (mask bit)) (sym kept.asks) ∙ none)) (told.asks_stand bit);
  indices_told = λ bit. own_index_told old new who peer_same kept.pending bit (kept.index bit) (index_noted bit) (told.indices_told bit);
  closes_told = own_close_told old new who peer_same kept.pending kept.live live_noted told.closes_told;
  gone_told = own_gone_told old new who peer_same kept.pending kept.gone gone_noted told.gone_told;
}
  where
    n : Notes
    n = (side_of old who).notes

    since : (bit : Bit) → (asked_of (side_of new who).notes bit).since ≡ true → (asked_of (side_of old who).notes bit).since ≡ true
    since bit now = sym (since_load word who (held old word) (side_of old who).notes bit) ∙ ap (λ (m : Notes). (asked_of m bit).since) (sym notes) ∙ now

    index_noted : (bit : Bit) (index : ℕ) → (asked_of (side_of new who).notes bit).since ≡ true → (asked_of (side_of new who).notes bit).seen ≡ Some index →
        low32 (held old (peer_index who bit)) ≢ index → ((asked_of (side_of old who).notes bit).since ≡ true) × ((asked_of (side_of old who).notes bit).seen ≡ Some index)
    index_noted bit index now seen differs = (since bit now, go (sees_index word who (held old word) (side_of old who).notes bit))
      where
        noted_seen : (asked_of (noted_load word who (held old word) (side_of old who).notes) bit).seen ≡ Some index
        noted_seen = ap (λ (m : Notes). (asked_of m bit).seen) (sym notes) ∙ seen

        go : SeesIndex word who (held old word) (side_of old who).notes bit → (asked_of (side_of old who).notes bit).seen ≡ Some index
        go (inl same) = sym same ∙ noted_seen
        go (inr (is, loaded)) =
            let fresh : cond (asked_of (side_of old who).notes bit).since (Some (low32 (held old word))) None ≡ Some (low32 (held old word)) =
            ap (λ (b : Bool). cond b (Some (low32 (held old word))) None) (since bit now) in
            let taken : low32 (held old word) ≡ index = same_Some _ _ (sym fresh ∙ sym loaded ∙ noted_seen) in
            absurd (differs (ap (λ (w : WordName). low32 (held old w)) (sym is) ∙ taken))

    live_noted : (live : ℕ) → (side_of new who).notes.live ≡ Some live → live ≢ 0 → low8 (held old (peer_live who)) ≡ 0 → (side_of old who).notes.live ≡ Some live
    live_noted live seen alive shut = go (sees_live word who (held old word) (side_of old who).notes)
      where
        noted_seen : (noted_load word who (held old word) (side_of old who).notes).live ≡ Some live
        noted_seen = ap (λ (m : Notes). m.live) (sym notes) ∙ seen

        go : SeesLive word who (held old word) (side_of old who).notes → (side_of old who).notes.live ≡ Some live
        go (inl same) = sym same ∙ noted_seen
        go (inr (is, loaded)) =
            let taken : low8 (held old word) ≡ live = same_Some _ _ (sym loaded ∙ noted_seen) in
            absurd (alive (sym taken ∙ ap (λ (w : WordName). low8 (held old w)) is ∙ shut))

    gone_noted : (side_of new who).notes.gone ≡ Some 0 → held old (peer_gone who) ≢ 0 → (side_of old who).notes.gone ≡ Some 0
    gone_noted seen gone = go (sees_gone word who (held old word) (side_of old who).notes)
      where
        noted_seen : (noted_load word who (held old word) (side_of old who).notes).gone ≡ Some 0
        noted_seen = ap (λ (m : Notes). m.gone) (sym notes) ∙ seen

        go : SeesGone word who (held old word) (side_of old who).notes → (side_of old who).notes.gone ≡ Some 0
        go (inl same) = sym same ∙ noted_seen
        go (inr (is, loaded)) =
            let taken : held old word ≡ 0 = same_Some _ _ (sym loaded ∙ noted_seen) in
            absurd (gone (ap (λ (w : WordName). held old w) (sym is) ∙ taken))

-- ---- an ask of one's own

since_ask : (set : Bit) (who : Role) (word : WordName) (taken : ℕ) (n : Notes) → (asked_of (noted (Or word (mask set)) who taken n) (other_bit set)).since ≡ (asked_of n (other_bit set)).since
since_ask Written who word taken n = refl
since_ask Consumed who word taken n = refl

seen_ask : (set : Bit) (who : Role) (word : WordName) (taken : ℕ) (n : Notes) → (asked_of (noted (Or word (mask set)) who taken n) (other_bit set)).seen ≡ (asked_of n (other_bit set)).seen
seen_ask Written who word taken n = refl
seen_ask Consumed who word taken n = refl

-- nothing was loaded since
fresh_ask : (set : Bit) (who : Role) (word : WordName) (taken : ℕ) (n : Notes) → (asked_of (noted (Or word (mask set)) who taken n) set).seen ≡ None
fresh_ask Written who word taken n = refl
fresh_ask Consumed who word taken n = refl

live_ask_noted : (set : Bit) (who : Role) (word : WordName) (taken : ℕ) (n : Notes) → (noted (Or word (mask set)) who taken n).live ≡ n.live
live_ask_noted Written who word taken n = refl
live_ask_noted Consumed who word taken n = refl

gone_ask_noted : (set : Bit) (who : Role) (word : WordName) (taken : ℕ) (n : Notes) → (noted (Or word (mask set)) who taken n).gone ≡ n.gone
gone_ask_noted Written who word taken n = refl
gone_ask_noted Consumed who word taken n = refl

pub own_asks : (old new : Core) (who : Role) (set : Bit) → 14 ≤ length old.words → side_of new (peer who) ≡ side_of old (peer who) → new.orders ≡ old.orders →
    new.words ≡ slice_set old.words (index_of old.orders (ask_word who)) (bit_or (held old (ask_word who)) (mask set)) →
    (side_of new who).notes ≡ noted (Or (ask_word who) (mask set)) who (held old (ask_word who)) (side_of old who).notes → Told old who → Told new who
own_asks old new who set header peer_same orders words notes told = record {
  asks_stand = each_bit (λ bit. AskStands new who bit) set (λ asked. inl (λ none. or_sets set (held old (ask_word who)) (ap (λ (w : ℕ). bit_and w (mask set)) (sym asks_are) ∙ none)))
      (own_ask old new who peer_same pending (other_bit set) since (λ was. λ none. or_keeps set (other_bit set) (held old (ask_word who)) was (ap (λ (w : ℕ). bit_and w (mask (other_bit set))) (sym asks_are) ∙ none)) (told.asks_stand (other_bit set)));
  indices_told = each_bit (λ bit. IndexIsTold new who bit) set
      (λ index asked seen differs. absurd (none-some index (sym (fresh_ask set who (ask_word who) (held old (ask_word who)) (side_of old who).notes) ∙ ap (λ (n : Notes). (asked_of n set).seen) (sym notes) ∙ seen)))
      (own_index_told old new who peer_same pending (other_bit set) (held_other old new _ _ (peer_index who (other_bit set)) orders words (ask_index old.orders who (other_bit set)))
      (λ index asked seen differs. (since asked, sym (seen_ask set who (ask_word who) (held old (ask_word who)) (side_of old who).notes) ∙ ap (λ (n : Notes). (asked_of n (other_bit set)).seen) (sym notes) ∙ seen))
      (told.indices_told (other_bit set)));
  closes_told = own_close_told old new who peer_same pending (λ _. held_other old new _ _ (peer_live who) orders words (ask_live old.orders who))
      (λ live seen alive shut. sym (live_ask_noted set who (ask_word who) (held old (ask_word who)) (side_of old who).notes) ∙ ap (λ (n : Notes). n.live) (sym notes) ∙ seen) told.closes_told;
  gone_told = own_gone_told old new who peer_same pending (held_other old new _ _ (peer_gone who) orders words (ask_gone old.orders who))
      (λ seen gone. sym (gone_ask_noted set who (ask_word who) (held old (ask_word who)) (side_of old who).notes) ∙ ap (λ (n : Notes). n.gone) (sym notes) ∙ seen) told.gone_told;
}
  where
    asks_are : held new (ask_word who) ≡ bit_or (held old (ask_word who)) (mask set)
    asks_are = held_written old new _ (ask_word who) orders words (ask_within old.orders who (length old.words) header)

    pending : held new (own_pending who) ≡ held old (own_pending who)
    pending = held_other old new _ _ (own_pending who) orders words (ask_pending old.orders who)

    since : (asked_of (side_of new who).notes (other_bit set)).since ≡ true → (asked_of (side_of old who).notes (other_bit set)).since ≡ true
    since asked = sym (since_ask set who (ask_word who) (held old (ask_word who)) (side_of old who).notes) ∙ ap (λ (n : Notes). (asked_of n (other_bit set)).since) (sym notes) ∙ asked
