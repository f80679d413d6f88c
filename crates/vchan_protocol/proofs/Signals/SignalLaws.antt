-- No event of an honest end loses a signal.
use Rattle.std.proofs.Common.{◌≡◌, ◌≢◌, ◌⊎◌, inl, inr, ℕ, ◌-◌, ◌≤◌, ◌==◌, Bool, true, false, cond, Option, Some, None, List, length, slice_index, slice_set, bit_and, refl, subst, sym, ap, ◌∙◌, arith}
use Rattle.std.proofs.lemmas.Bool.{false≢true, eqb-true, eqb-false, cases_eq}
use Rattle.std.proofs.lemmas.List.{length-set}
use Rattle.std.proofs.lemmas.Option.{none-some}
use Rattle.ring_words.specs.Page.{index_of}
use Rattle.ring_words.specs.declared.order.Orders.{Orders}
use Rattle.ring_words.specs.declared.page.Role.{Role}
use Rattle.ring_words.specs.declared.page.Role.TheVariants.{Server, Client}
use Rattle.ring_words.specs.declared.page.WordName.{WordName}
use Rattle.ring_words.specs.declared.page.WordName.TheVariants.{CliLive, RingByte}
use Rattle.ring_words.proofs.PageLaws.{byte_above}
use Rattle.vchan_protocol.specs.declared.op.Op.{Op}
use Rattle.vchan_protocol.specs.declared.op.Op.TheVariants.{Load, LoadByte, Store, StoreByte, Or, Swap, Nothing}
use Rattle.vchan_protocol.specs.declared.call.Answer.TheVariants.{Done}
use Rattle.vchan_protocol.specs.declared.call.Bit.{Bit}
use Rattle.vchan_protocol.specs.declared.call.Bit.TheVariants.{Written, Consumed}
use Rattle.vchan_protocol.specs.declared.call.Call.{Call}
use Rattle.vchan_protocol.specs.declared.call.EndState.{EndState}
use Rattle.vchan_protocol.specs.declared.side.Side.{Side}
use Rattle.vchan_protocol.specs.declared.side.Begun.{Begun}
use Rattle.vchan_protocol.specs.declared.side.Notes.{Notes}
use Rattle.vchan_protocol.specs.Table.Plan.{Plan, answers, does, next_op, after, rest_after, GoesOn}
use Rattle.vchan_protocol.specs.Table.Ends.{ask_word, peer_live, own_live, own_pending, peer_gone, own_gone, mask, low8, low32}
use Rattle.vchan_protocol.specs.Table.Calls.{plan_of}
use Rattle.vchan_protocol.specs.Table.Apply.{word_of, leaves, words_after, value_taken}
use Rattle.vchan_protocol.specs.History.Core.{Core, opened, plan_next, side_of, with_side, plan_left, op_next, begun_standing, begins, begun, noted, nothing_noted, settled, answered, carried_out, event}
use Rattle.vchan_protocol.specs.History.WholeCall.{alone, called}
use Rattle.vchan_protocol.specs.History.Peer.{held, peer}
use Rattle.vchan_protocol.specs.Honest.Reached.{IsReached, opens, begins_call, makes_event}
use Rattle.vchan_protocol.specs.Signals.SignalLaw.{own_index, peer_index, asked_of, test_of, signal_of, HasJust, OwesSignal, OwesTest, IsWoken, NoLostSignal, HasEnds, IsWaiting, MissesNothing}
use Rattle.vchan_protocol.proofs.History.EventLaws.{event_by}
use Rattle.vchan_protocol.proofs.Signals.Watched.{held_written, kept_elsewhere, kept_all, pending_within, unwatched_notify, unwatched_index, unwatched_own_live, unwatched_peer_pending, unwatched_gone, unwatched_peer_ask, unwatched_peer_own, unwatched_high, kept_connect, ask_is, pending_is, index_is, live_is, gone_is, WatchedKept, Unwatched}
use Rattle.vchan_protocol.proofs.Signals.Notifies.{Deed, Notifies, deed_of}
use Rattle.vchan_protocol.proofs.Signals.Notifies.{loads, loads_byte, stores_byte, asks, takes_event, tests, stores_index, closes, signals, connects, retires}
use Rattle.vchan_protocol.proofs.Signals.OwnSteps.{plan_left_made, plan_notifies, Step, Told, own_same, own_load, own_asks}
use Rattle.vchan_protocol.proofs.Signals.OtherSteps.{other_same, is_store, is_test, no_signal, no_test, other_store, woken_told, other_tests, other_indexes, other_closes, other_retires}

-- ---- a try to take an event

-- of an end that has noted nothing, nothing is claimed
told_nothing : (core : Core) (who : Role) → (side_of core who).notes ≡ nothing_noted → Told core who
told_nothing core who notes = record {
  asks_stand = λ bit asked. absurd (false≢true (sym (unasked bit) ∙ ap (λ (m : Notes). (asked_of m bit).since) (sym notes) ∙ asked));
  indices_told = λ bit index asked. absurd (false≢true (sym (unasked bit) ∙ ap (λ (m : Notes). (asked_of m bit).since) (sym notes) ∙ asked));
  closes_told = λ live seen. absurd (none-some live (ap (λ (m : Notes). m.live) (sym notes) ∙ seen));
  gone_told = λ seen. absurd (none-some 0 (ap (λ (m : Notes). m.gone) (sym notes) ∙ seen));
}
  where
    unasked : (bit : Bit) → (asked_of nothing_noted bit).since ≡ false
    unasked Written = refl
    unasked Consumed = refl

-- ---- each deed, for the end that makes it and for the other one

-- a client that opens gives no signal
connect_pending : (orders : Orders) (who : Role) → (index_of orders (own_pending who) == index_of orders CliLive) ≡ false
connect_pending orders Server = refl
connect_pending orders Client = refl

module _ (old new : Core) (who other : Role) (op : Op) (next : ℕ → Plan) (step : Step old new who other op next) where
  words_at : (known : Op) → op ≡ known → new.words ≡ words_after old.orders old.words step.payload known
  words_at known is = step.words_are ∙ ap (λ (o : Op). words_after old.orders old.words step.payload o) is

  notes_at : (known : Op) → op ≡ known → (side_of new who).notes ≡ noted known who (value_taken old.orders old.words known) (side_of old who).notes
  notes_at known is = step.notes_are ∙ ap (λ (o : Op). noted o who (value_taken old.orders old.words o) (side_of old who).notes) is

  just_at : (known : Op) → op ≡ known → HasJust (side_of new who) known
  just_at known is = subst (λ (o : Op). HasJust (side_of new who) o) is step.just

told_own : (old new : Core) (who : Role) (op : Op) (next : ℕ → Plan) → 14 ≤ length old.words → Step old new who (peer who) op next → Deed who op next → Told old who → Told new who
told_own old new who op next header step deed told = go deed
  where
    words : (known : Op) → op ≡ known → new.words ≡ words_after old.orders old.words step.payload known
    words = words_at old new who (peer who) op next step

    notes : (known : Op) → op ≡ known → (side_of new who).notes ≡ noted known who (value_taken old.orders old.words known) (side_of old who).notes
    notes = notes_at old new who (peer who) op next step

    elsewhere : (n value : ℕ) → new.words ≡ slice_set old.words n value → Unwatched old.orders who n → (side_of new who).notes ≡ (side_of old who).notes → Told new who
    elsewhere n value is un same = own_same old new who step.other_is (kept_elsewhere old new who n value step.orders_are is un) same told

    -- a try that found no event leaves all words and all notes
    tried : op ≡ Swap (own_pending who) 0 → (none : Bool) → (held old (own_pending who) == 0) ≡ none → Told new who
    tried is true none =
        own_same old new who step.other_is
        (kept_all old new who (index_of old.orders (own_pending who)) step.orders_are (words (Swap (own_pending who) 0) is ∙ ap (λ (v : ℕ). slice_set old.words (index_of old.orders (own_pending who)) v) (sym (eqb-true _ _ none))))
        (notes (Swap (own_pending who) 0) is ∙ ap (λ (b : Bool). cond b (side_of old who).notes nothing_noted) none) told
    tried is false some = told_nothing new who (notes (Swap (own_pending who) 0) is ∙ ap (λ (b : Bool). cond b (side_of old who).notes nothing_noted) some)

    go : Deed who op next → Told new who
    go (loads word is) = own_load old new who word step.other_is (kept_all old new who (index_of old.orders word) step.orders_are (words (Load word) is)) (notes (Load word) is) told
    go (loads_byte word at is) = own_same old new who step.other_is (kept_all old new who (index_of old.orders word) step.orders_are (words (LoadByte word at) is)) (notes (LoadByte word at) is) told
    go (stores_byte ring at i is) = elsewhere _ _ (words (StoreByte (RingByte ring at) i) is) (unwatched_high old.orders who _ (byte_above old.orders ring at)) (notes (StoreByte (RingByte ring at) i) is)
    go (asks bit is) = own_asks old new who bit header step.other_is step.orders_are (words (Or (ask_word who) (mask bit)) is) (notes (Or (ask_word who) (mask bit)) is) told
    go (takes_event is) = tried is (held old (own_pending who) == 0) refl
    go (tests bit is more) = elsewhere _ _ (words (test_of who bit) is) (unwatched_notify old.orders who) (notes (test_of who bit) is)
    go (stores_index bit index is more) = elsewhere _ _ (words (Store (own_index who bit) index) is) (unwatched_index old.orders who bit) (notes (Store (own_index who bit) index) is)
    go (closes is more) = elsewhere _ _ (words (Store (own_live who) 0) is) (unwatched_own_live old.orders who) (notes (Store (own_live who) 0) is)
    go (signals is) = elsewhere _ _ (words (signal_of who) is) (unwatched_peer_pending old.orders who) (notes (signal_of who) is)
    go (connects is) = own_same old new who step.other_is (kept_connect old new who header step.orders_are (words (Store CliLive 1) is)) (notes (Store CliLive 1) is) told
    go (retires is more) = elsewhere _ _ (words (Store (own_gone who) 1) is) (unwatched_gone old.orders who) (notes (Store (own_gone who) 1) is)

told_other : (old new : Core) (who : Role) (op : Op) (next : ℕ → Plan) → 14 ≤ length old.words → Step old new (peer who) who op next → Deed (peer who) op next → Told old who → Told new who
told_other old new who op next header step deed told = go deed
  where
    words : (known : Op) → op ≡ known → new.words ≡ words_after old.orders old.words step.payload known
    words = words_at old new (peer who) who op next step

    -- an event that is no store and no test
    quiet : (known : Op) → op ≡ known → is_store known ≡ false → is_test known ≡ false → WatchedKept old new who → Told new who
    quiet known is plain untested kept =
        other_same old new who op step.other_is step.did (λ signal. no_signal known (peer who) plain (sym is ∙ signal)) kept.pending (λ bit test. no_test known (peer who) bit untested (sym is ∙ test)) kept told

    -- a store of a word that the end doesn't watch
    stored : (word : WordName) (value : ℕ) → op ≡ Store word value → (index_of old.orders (own_pending who) == index_of old.orders word) ≡ false → WatchedKept old new who → Told new who
    stored word value is unwoken kept =
        other_same old new who op step.other_is step.did (λ signal. other_store old.orders word value who unwoken (sym is ∙ signal)) kept.pending (λ bit test. no_test (Store word value) (peer who) bit refl (sym is ∙ test)) kept told

    elsewhere : (n value : ℕ) → new.words ≡ slice_set old.words n value → Unwatched old.orders who n → WatchedKept old new who
    elsewhere n value is un = kept_elsewhere old new who n value step.orders_are is un

    tested : (bit : Bit) → op ≡ test_of (peer who) bit → ((value : ℕ) → bit_and value (mask bit) ≢ 0 → next_op (next value) ≡ signal_of (peer who)) → Told new who
    tested bit is more =
        let taken : value_taken old.orders old.words op ≡ held old (ask_word who) = ap (λ (o : Op). value_taken old.orders old.words o) is ∙ ap (λ (w : WordName). held old w) (ask_is who) in
        other_tests old new who bit header step.other_is step.orders_are
        (subst (λ (w : WordName). new.words ≡ slice_set old.words (index_of old.orders w) (bit_and (held old w) (18446744073709551615 - mask bit))) (ask_is who) (words (test_of (peer who) bit) is))
        (step.did ∙ is) (just_at old new (peer who) who op next step (test_of (peer who) bit) is)
        (λ set. step.does_next ∙ more (value_taken old.orders old.words op) (λ none. set (ap (λ (v : ℕ). bit_and v (mask bit)) (sym taken) ∙ none))) told

    indexed : (bit : Bit) (index : ℕ) → op ≡ Store (own_index (peer who) bit) index → ((value : ℕ) → next_op (next value) ≡ test_of (peer who) bit) → Told new who
    indexed bit index is more =
        let there : op ≡ Store (peer_index who bit) index = is ∙ ap (λ (w : WordName). Store w index) (index_is who bit) in
        other_indexes old new who bit index step.other_is step.orders_are (words (Store (peer_index who bit) index) there) op there step.did
        (index, just_at old new (peer who) who op next step (Store (own_index (peer who) bit) index) is, step.does_next ∙ more _) told

    closed : op ≡ Store (own_live (peer who)) 0 → ((value : ℕ) → next_op (next value) ≡ signal_of (peer who)) → Told new who
    closed is more =
        let there : op ≡ Store (peer_live who) 0 = is ∙ ap (λ (w : WordName). Store w 0) (live_is who) in
        other_closes old new who step.other_is step.orders_are (words (Store (peer_live who) 0) there) op there step.did
        (just_at old new (peer who) who op next step (Store (own_live (peer who)) 0) is, step.does_next ∙ more _) told

    retired : op ≡ Store (own_gone (peer who)) 1 → ((value : ℕ) → next_op (next value) ≡ signal_of (peer who)) → Told new who
    retired is more =
        let there : op ≡ Store (peer_gone who) 1 = is ∙ ap (λ (w : WordName). Store w 1) (gone_is who) in
        other_retires old new who step.other_is step.orders_are (words (Store (peer_gone who) 1) there) op there step.did
        (just_at old new (peer who) who op next step (Store (own_gone (peer who)) 1) is, step.does_next ∙ more _) told

    woken : op ≡ signal_of (peer who) → Told new who
    woken is =
        let there : op ≡ Store (own_pending who) 1 = is ∙ ap (λ (w : WordName). Store w 1) (pending_is who) in
        let one : held new (own_pending who) ≡ 1 = held_written old new 1 (own_pending who) step.orders_are (words (Store (own_pending who) 1) there) (pending_within old.orders who (length old.words) header) in
        woken_told new who (λ none. eqb-false 1 0 refl (sym one ∙ none))

    go : Deed (peer who) op next → Told new who
    go (loads word is) = quiet (Load word) is refl refl (kept_all old new who (index_of old.orders word) step.orders_are (words (Load word) is))
    go (loads_byte word at is) = quiet (LoadByte word at) is refl refl (kept_all old new who (index_of old.orders word) step.orders_are (words (LoadByte word at) is))
    go (stores_byte ring at i is) = quiet (StoreByte (RingByte ring at) i) is refl refl (elsewhere _ _ (words (StoreByte (RingByte ring at) i) is) (unwatched_high old.orders who _ (byte_above old.orders ring at)))
    go (asks bit is) = quiet (Or (ask_word (peer who)) (mask bit)) is refl refl (elsewhere _ _ (words (Or (ask_word (peer who)) (mask bit)) is) (unwatched_peer_ask old.orders who))
    go (takes_event is) = quiet (Swap (own_pending (peer who)) 0) is refl refl (elsewhere _ _ (words (Swap (own_pending (peer who)) 0) is) (unwatched_peer_own old.orders who))
    go (tests bit is more) = tested bit is more
    go (stores_index bit index is more) = indexed bit index is more
    go (closes is more) = closed is more
    go (signals is) = woken is
    go (connects is) = stored CliLive 1 is (connect_pending old.orders who) (kept_connect old new who header step.orders_are (words (Store CliLive 1) is))
    go (retires is more) = retired is more

-- ---- events of a core state

told_of : (core : Core) (who : Role) → NoLostSignal core → Told core who
told_of core who h = record { asks_stand = h.asks_stand who; indices_told = h.indices_told who; closes_told = h.closes_told who; gone_told = h.gone_told who }

both_told : (core : Core) → Told core Server → Told core Client → NoLostSignal core
both_told core server client = record { asks_stand = λ who. (each who).asks_stand; indices_told = λ who. (each who).indices_told; closes_told = λ who. (each who).closes_told; gone_told = λ who. (each who).gone_told }
  where
    each : (who : Role) → Told core who
    each Server = server
    each Client = client

role_of : (core : Core) (who : Role) → HasEnds core → (side_of core who).role ≡ who
role_of core Server h = h.server_is
role_of core Client h = h.client_is

-- an op of an end is a step
step_of : (core : Core) (who : Role) (op : Op) (next : ℕ → Plan) → (side_of core who).role ≡ who → plan_left (side_of core who) ≡ does op next → Step core (carried_out core who op) who (peer who) op next
step_of core Server op next role left = record {
  payload = core.server.payload;
  orders_are = refl;
  words_are = refl;
  notes_are = ap (λ (r : Role). noted op r (value_taken core.orders core.words op) core.server.notes) role;
  just = (core.server.trail, value_taken core.orders core.words op, refl);
  did = ap next_op left;
  does_next = ap next_op (plan_left_made core.server op (value_taken core.orders core.words op) ∙ ap (λ (p : Plan). after p (value_taken core.orders core.words op)) left);
  other_is = refl;
}
step_of core Client op next role left = record {
  payload = core.client.payload;
  orders_are = refl;
  words_are = refl;
  notes_are = ap (λ (r : Role). noted op r (value_taken core.orders core.words op) core.client.notes) role;
  just = (core.client.trail, value_taken core.orders core.words op, refl);
  did = ap next_op left;
  does_next = ap next_op (plan_left_made core.client op (value_taken core.orders core.words op) ∙ ap (λ (p : Plan). after p (value_taken core.orders core.words op)) left);
  other_is = refl;
}

pub deed_next : (core : Core) (who : Role) (op : Op) (next : ℕ → Plan) → (side_of core who).role ≡ who → plan_left (side_of core who) ≡ does op next → Deed who op next
deed_next core who op next role left =
    deed_of who op next (subst (λ (p : Plan). Notifies who p) left (subst (λ (r : Role). Notifies r (plan_left (side_of core who))) role (plan_notifies (side_of core who))))

-- an event without the answer
carried_keeps : (core : Core) (who : Role) (op : Op) (next : ℕ → Plan) → HasEnds core → plan_left (side_of core who) ≡ does op next → NoLostSignal core → NoLostSignal (carried_out core who op)
carried_keeps core Server op next ends left h =
    let step = step_of core Server op next ends.server_is left in
    let deed = deed_next core Server op next ends.server_is left in
    both_told (carried_out core Server op) (told_own core (carried_out core Server op) Server op next ends.header step deed (told_of core Server h))
    (told_other core (carried_out core Server op) Client op next ends.header step deed (told_of core Client h))
carried_keeps core Client op next ends left h =
    let step = step_of core Client op next ends.client_is left in
    let deed = deed_next core Client op next ends.client_is left in
    both_told (carried_out core Client op) (told_other core (carried_out core Client op) Server op next ends.header step deed (told_of core Server h))
    (told_own core (carried_out core Client op) Client op next ends.header step deed (told_of core Client h))

-- an end that is between two events, of which none is a test or the signal, may be replaced by one with the same notes
renewed : (core : Core) (who : Role) (s : Side) → s.notes ≡ (side_of core who).notes → op_next (side_of core who) ≡ Nothing → NoLostSignal core → NoLostSignal (with_side core who s)
renewed core Server s notes idle h =
    let new = with_side core Server s in
    both_told new (own_same core new Server refl (record { asks = refl; pending = refl; index = λ bit. refl; live = λ _. refl; gone = refl }) notes (told_of core Server h))
    (other_same core new Client Nothing refl idle (no_signal Nothing Server refl) refl (λ bit. no_test Nothing Server bit refl) (record { asks = refl; pending = refl; index = λ bit. refl; live = λ _. refl; gone = refl }) (told_of core Client h))
renewed core Client s notes idle h =
    let new = with_side core Client s in
    both_told new (other_same core new Server Nothing refl idle (no_signal Nothing Client refl) refl (λ bit. no_test Nothing Client bit refl) (record { asks = refl; pending = refl; index = λ bit. refl; live = λ _. refl; gone = refl }) (told_of core Server h))
    (own_same core new Client refl (record { asks = refl; pending = refl; index = λ bit. refl; live = λ _. refl; gone = refl }) notes (told_of core Client h))

-- the answer, if nothing is left
settled_keeps : (core : Core) (who : Role) (rest : Plan) → plan_left (side_of core who) ≡ rest → NoLostSignal core → NoLostSignal (with_side core who (settled (side_of core who) rest))
settled_keeps core who (answers answer) left h = renewed core who (answered (side_of core who) answer) refl (ap next_op left) h
settled_keeps core Server (does op next) left h = h
settled_keeps core Client (does op next) left h = h

-- what is left once the op is carried out
pub left_then : (core : Core) (who : Role) (op : Op) (next : ℕ → Plan) → plan_left (side_of core who) ≡ does op next → plan_left (side_of (carried_out core who op) who) ≡ next (value_taken core.orders core.words op)
left_then core Server op next left = plan_left_made core.server op (value_taken core.orders core.words op) ∙ ap (λ (p : Plan). after p (value_taken core.orders core.words op)) left
left_then core Client op next left = plan_left_made core.client op (value_taken core.orders core.words op) ∙ ap (λ (p : Plan). after p (value_taken core.orders core.words op)) left

pub event_keeps : (core : Core) (who : Role) → HasEnds core → GoesOn (plan_left (side_of core who)) → NoLostSignal core → NoLostSignal (event core who)
unfolding event
event_keeps core who ends more h = go who (plan_left (side_of core who)) refl more
  where
    go : (who : Role) (plan : Plan) → plan_left (side_of core who) ≡ plan → GoesOn plan → NoLostSignal (event_by core who plan)
    go who (answers answer) left on = absurd on
    go Server (does op next) left on = settled_keeps (carried_out core Server op) Server _ (left_then core Server op next left) (carried_keeps core Server op next ends left h)
    go Client (does op next) left on = settled_keeps (carried_out core Client op) Client _ (left_then core Client op next left) (carried_keeps core Client op next ends left h)

-- ---- begins, and whole calls

op_next_idle : (s : Side) → s.call ≡ None → op_next s ≡ Nothing
op_next_idle s is = ap (λ (c : Option Begun). next_op (elim c [ None ↦ answers Done | Some b ↦ rest_after (plan_of (begun_standing s b) b.call) s.trail ])) is

pub begin_keeps : (core : Core) (who : Role) (call : Call) (payload : List ℕ) → (side_of core who).call ≡ None → NoLostSignal core → NoLostSignal (begun core who call payload)
begin_keeps core who call payload idle h = renewed core who (begins (side_of core who) call payload) refl (op_next_idle (side_of core who) idle) h

ends_carried : (core : Core) (who : Role) (op : Op) → HasEnds core → HasEnds (carried_out core who op)
ends_carried core Server op h = record {
  header = omega (arith, h.header, length-set core.words (word_of core.orders op) (leaves core.server.payload op (slice_index core.words (word_of core.orders op))));
  server_is = h.server_is;
  client_is = h.client_is;
}
ends_carried core Client op h = record {
  header = omega (arith, h.header, length-set core.words (word_of core.orders op) (leaves core.client.payload op (slice_index core.words (word_of core.orders op))));
  server_is = h.server_is;
  client_is = h.client_is;
}

ends_begun : (core : Core) (who : Role) (call : Call) (payload : List ℕ) → HasEnds core → HasEnds (begun core who call payload)
ends_begun core Server call payload h = record { header = h.header; server_is = h.server_is; client_is = h.client_is }
ends_begun core Client call payload h = record { header = h.header; server_is = h.server_is; client_is = h.client_is }

alone_keeps : (plan : Plan) (core : Core) (who : Role) → HasEnds core → plan_left (side_of core who) ≡ plan → NoLostSignal core → NoLostSignal (alone core who plan).0
unfolding alone
alone_keeps (answers answer) core who ends left h = settled_keeps core who (answers answer) left h
alone_keeps (does op next) core who ends left h =
    alone_keeps (next (value_taken core.orders core.words op)) (carried_out core who op) who (ends_carried core who op ends) (left_then core who op next left) (carried_keeps core who op next ends left h)

pub call_keeps : (core : Core) (who : Role) (call : Call) (payload : List ℕ) → HasEnds core → (side_of core who).call ≡ None → NoLostSignal core → NoLostSignal (called core who call payload)
call_keeps core Server call payload ends idle h =
    alone_keeps _ (begun core Server call payload) Server (ends_begun core Server call payload ends) refl (begin_keeps core Server call payload idle h)
call_keeps core Client call payload ends idle h =
    alone_keeps _ (begun core Client call payload) Client (ends_begun core Client call payload ends) refl (begin_keeps core Client call payload idle h)

-- ---- whatever honest ends reach

ends_opened : (orders : Orders) (start : ℕ) (said : ℕ × ℕ) (state : EndState) → HasEnds (opened orders start said state)
ends_opened orders start said state = record { header = omega arith; server_is = refl; client_is = refl }

ends_settled : (core : Core) (who : Role) (rest : Plan) → HasEnds core → HasEnds (with_side core who (settled (side_of core who) rest))
ends_settled core Server (answers answer) h = record { header = h.header; server_is = h.server_is; client_is = h.client_is }
ends_settled core Client (answers answer) h = record { header = h.header; server_is = h.server_is; client_is = h.client_is }
ends_settled core Server (does op next) h = h
ends_settled core Client (does op next) h = h

ends_event : (core : Core) (who : Role) → HasEnds core → HasEnds (event core who)
unfolding event
ends_event core Server h = ends_settled (carried_out core Server (op_next core.server)) Server (plan_next core Server) (ends_carried core Server (op_next core.server) h)
ends_event core Client h = ends_settled (carried_out core Client (op_next core.client)) Client (plan_next core Client) (ends_carried core Client (op_next core.client) h)

opened_keeps : (orders : Orders) (start : ℕ) (said : ℕ × ℕ) (state : EndState) → NoLostSignal (opened orders start said state)
opened_keeps orders start said state = both_told (opened orders start said state) (told_nothing (opened orders start said state) Server refl) (told_nothing (opened orders start said state) Client refl)

reached : (core : Core) → IsReached core → HasEnds core × NoLostSignal core
reached core (opens orders start said state low left right open_or_fresh) = (ends_opened orders start said state, opened_keeps orders start said state)
reached core (begins_call before who call payload there may) =
    let was = reached before there in
    (ends_begun before who call payload was.0, begin_keeps before who call payload may.idle was.1)
reached core (makes_event before who there more) =
    let was = reached before there in
    (ends_event before who was.0, event_keeps before who was.0 more was.1)

pub no_signal_lost : (core : Core) → IsReached core → NoLostSignal core
no_signal_lost core there = (reached core there).1

-- ---- an end that waits

pub misses_nothing : (core : Core) (who : Role) (bit : Bit) → NoLostSignal core → IsWaiting core who bit → MissesNothing core who bit
misses_nothing core who bit h w = record { bit_stands = bit_stands (h.asks_stand who bit w.asked); index_stands = index_stands; peer_open = peer_open; peer_here = peer_here }
  where
    idle : op_next (side_of core (peer who)) ≡ Nothing
    idle = op_next_idle (side_of core (peer who)) w.peer_idle

    silent : (op : Op) → OwesSignal core (peer who) op → ⊥
    silent op owes = no_signal Nothing (peer who) refl (sym idle ∙ owes.1)

    unowed : (op : Op) → OwesSignal core (peer who) op ⊎ IsWoken core who → ⊥
    unowed op (inl owes) = silent op owes
    unowed op (inr woken) = woken w.unwoken

    bit_stands : (bit_and (held core (ask_word who)) (mask bit) ≢ 0) ⊎ (OwesSignal core (peer who) (test_of (peer who) bit) ⊎ IsWoken core who) → bit_and (held core (ask_word who)) (mask bit) ≢ 0
    bit_stands (inl set) = set
    bit_stands (inr (inl owes)) = absurd (silent (test_of (peer who) bit) owes)
    bit_stands (inr (inr woken)) = absurd (woken w.unwoken)

    index_stands : (index : ℕ) → (asked_of (side_of core who).notes bit).seen ≡ Some index → low32 (held core (peer_index who bit)) ≡ index
    index_stands index seen = go (cases_eq (low32 (held core (peer_index who bit))) index)
      where
        told : OwesTest core (peer who) bit ⊎ (OwesSignal core (peer who) (test_of (peer who) bit) ⊎ IsWoken core who) → ⊥
        told (inl owes) = no_test Nothing (peer who) bit refl (sym idle ∙ owes.2)
        told (inr (inl owes)) = silent (test_of (peer who) bit) owes
        told (inr (inr woken)) = woken w.unwoken

        go : (low32 (held core (peer_index who bit)) ≡ index) ⊎ (low32 (held core (peer_index who bit)) ≢ index) → low32 (held core (peer_index who bit)) ≡ index
        go (inl is) = is
        go (inr differs) = absurd (told (h.indices_told who bit index w.asked seen differs))

    peer_open : (live : ℕ) → (side_of core who).notes.live ≡ Some live → live ≢ 0 → low8 (held core (peer_live who)) ≢ 0
    peer_open live seen alive shut = unowed (Store (own_live (peer who)) 0) (h.closes_told who live seen alive shut)

    peer_here : (side_of core who).notes.gone ≡ Some 0 → held core (peer_gone who) ≡ 0
    peer_here seen = go (cases_eq (held core (peer_gone who)) 0)
      where
        go : (held core (peer_gone who) ≡ 0) ⊎ (held core (peer_gone who) ≢ 0) → held core (peer_gone who) ≡ 0
        go (inl is) = is
        go (inr gone) = absurd (unowed (Store (own_gone (peer who)) 1) (h.gone_told who seen gone))
