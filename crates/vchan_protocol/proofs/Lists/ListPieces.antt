-- The pieces of a whole call, on a page that tells its lists: what each leaves of the lists, and with which answer it ends.
use Rattle.std.proofs.Common.{◌≡◌, ◌≢◌, ℕ, suc, zero, ◌+◌, ◌-◌, ◌%◌, ◌^◌, ◌<◌, ◌≤◌, ◌==◌, ◌⊎◌, ◌||◌, inl, inr, Bool, true, false, cond, if◌then◌else◌, List, [], ◌∷◌, ◌++◌, length, take, drop, get_or, set, slice_index, refl, subst, sym, ap, ◌∙◌, arith, append-nil}
use Rattle.std.proofs.lemmas.Bool.{cases_lt}
use Rattle.std.proofs.lemmas.Bool.Decides.{nat_tests}
use Rattle.std.proofs.lemmas.List.{get_or-set_same, get_or-set_other, length-append, length-take, length-drop, set-get_or, get_or-drop, get_or-take, take_more, take-append-drop}
use Rattle.std.proofs.lemmas.List.Elements.{All-take}
use Rattle.ring_words.specs.Rings.{size, place, ready, room}
use Rattle.ring_words.specs.Page.{index_of, order_of, word_count}
use Rattle.ring_words.proofs.RingLaws.{place_apart, place_wraps, diff_counts, size_within, place_within}
use Rattle.ring_words.specs.declared.order.Order.{Order}
use Rattle.ring_words.specs.declared.order.Orders.{Orders}
use Rattle.ring_words.specs.declared.page.Role.{Role}
use Rattle.ring_words.specs.declared.page.Role.TheVariants.{Server, Client}
use Rattle.ring_words.specs.declared.page.Ring.{Ring}
use Rattle.ring_words.specs.declared.page.Ring.TheVariants.{Left, Right}
use Rattle.ring_words.specs.declared.page.WordName.{WordName}
use Rattle.ring_words.specs.declared.page.WordName.TheVariants.{RingByte, CliLive}
use Rattle.ring_words.proofs.ImageLaws.{index_of_byte}
use Rattle.vchan_protocol.specs.declared.op.Op.{Op}
use Rattle.vchan_protocol.specs.declared.op.Op.TheVariants.{Load, LoadByte, Store, StoreByte, Or, And, Swap}
use Rattle.vchan_protocol.specs.declared.op.PastEvent.{PastEvent}
use Rattle.vchan_protocol.specs.declared.call.Answer.{Answer}
use Rattle.vchan_protocol.specs.declared.call.Answer.TheVariants.{Got, Done, Connected}
use Rattle.vchan_protocol.specs.declared.call.Bit.{Bit}
use Rattle.vchan_protocol.specs.declared.call.Bit.TheVariants.{Written, Consumed}
use Rattle.vchan_protocol.specs.declared.call.EndState.{EndState}
use Rattle.vchan_protocol.specs.declared.call.EndState.TheVariants.{Fresh, Open, Shut}
use Rattle.vchan_protocol.specs.declared.side.Side.{Side}
use Rattle.vchan_protocol.specs.Table.Plan.{Plan, does, answers, past}
use Rattle.vchan_protocol.specs.Table.Ends.{Standing, written_ring, read_ring, prod_word, cons_word, ask_word, notify_word, own_live, own_gone, own_pending, peer_live, peer_gone, peer_pending, mask, low8, low32, free_at, ready_at, prod_stored, cons_stored, live_stored}
use Rattle.vchan_protocol.specs.Table.Calls.{look_read, look_write, ask, signal, notify, put_bytes, take_bytes, put_index, take_index, put, take as take_plan, close, retire_shut}
use Rattle.vchan_protocol.specs.Table.Apply.{words_after, value_taken}
use Rattle.vchan_protocol.specs.History.Page.{live_word}
use Rattle.vchan_protocol.specs.History.Core.{Core, made, answered, count_stored, bytes_loaded, stored_by, loaded_by, sent_stored, got_stored, is_shut, sets_gone_word}
use Rattle.vchan_protocol.specs.History.WholeCall.{alone}
use Rattle.vchan_protocol.specs.Honest.RingLaw.{AreBytes}
use Rattle.vchan_protocol.specs.Lists.ListCall.{ListEnd, ChannelLists, Outcome, end_of, with_end, index, waiting, avail, free, only, sent_out, got_in}
use Rattle.vchan_protocol.specs.Lists.ListLaw.{IsTold, count_got}
use Rattle.vchan_protocol.proofs.History.WholeCallLaws.{bytes_loaded_push}
use Rattle.vchan_protocol.proofs.Lists.ListTells.{Told, told, at, Tells, tells_flags, tells_byte, tells_sent, tells_got, tells_state, tells_gone}
use Rattle.vchan_protocol.specs.History.Peer.{peer}

-- ---- a plan, carried out on the words and on its end only

unfoldable pub run : Orders → List ℕ → Side → Plan → List ℕ × Side × Answer
run orders words mine (answers answer) = (words, answered mine answer, answer)
run orders words mine (does op next) = run orders (words_after orders words mine.payload op) (made mine op (value_taken orders words op)) (next (value_taken orders words op))

-- a core state, by its two ends
abbrev pub core_by : Role → ChannelLists → List ℕ → Side → Side → Core
core_by Server channel words mine theirs = record { start = channel.start; said = channel.said; orders = channel.orders; words = words; server = mine; client = theirs }
core_by Client channel words mine theirs = record { start = channel.start; said = channel.said; orders = channel.orders; words = words; server = theirs; client = mine }

pub alone_run : (who : Role) (channel : ChannelLists) (words : List ℕ) (mine theirs : Side) (plan : Plan) →
    alone (core_by who channel words mine theirs) who plan ≡ (core_by who channel (run channel.orders words mine plan).0 (run channel.orders words mine plan).1 theirs, (run channel.orders words mine plan).2)
unfolding alone run
alone_run Server channel words mine theirs (answers answer) = refl
alone_run Server channel words mine theirs (does op next) =
    alone_run Server channel (words_after channel.orders words mine.payload op) (made mine op (value_taken channel.orders words op)) theirs (next (value_taken channel.orders words op))
alone_run Client channel words mine theirs (answers answer) = refl
alone_run Client channel words mine theirs (does op next) =
    alone_run Client channel (words_after channel.orders words mine.payload op) (made mine op (value_taken channel.orders words op)) theirs (next (value_taken channel.orders words op))

-- how an end stands that begins a call
abbrev pub standing_by : Role → ChannelLists → Standing
standing_by who channel = record {
  role = who;
  orders = channel.orders;
  state = (end_of channel who).state;
  prod = index channel.start (end_of channel who).sent;
  cons = index channel.start (end_of channel who).got;
}

-- ---- numbers

pub low32_index : (start : ℕ) (list : List ℕ) → low32 (index start list) ≡ index start list
low32_index start list = omega arith

place_index : (start i : ℕ) (list : List ℕ) (order : Order) → place (index start list + i) order ≡ place (start + length list + i) order
place_index start i list order =
    sym (place_wraps (index start list + i) order) ∙ ap (λ (n : ℕ). place n order) (omega arith) ∙ place_wraps (start + length list + i) order

index_more : (start k : ℕ) (list more : List ℕ) → length more ≡ k → (index start list + k) % 2 ^ 32 ≡ index start (list ++ more)
index_more start k list more is = omega (arith, is, length-append list more)

room_is : (start : ℕ) (sent got : List ℕ) (order : Order) → length got ≤ length sent → length sent ≤ length got + size order →
    room (index start sent) (index start got) order ≡ size order - (length sent - length got)
unfolding room
room_is start sent got order low fits =
    let large = size_within order in
    let d = diff_counts start (length sent) (length got) low (omega (arith, fits, large.1)) in
    rw d (grind (arith, nat_tests))

ready_is : (start : ℕ) (sent got : List ℕ) (order : Order) → length got ≤ length sent → length sent ≤ length got + size order →
    ready (index start sent) (index start got) order ≡ length sent - length got
unfolding ready
ready_is start sent got order low fits =
    let large = size_within order in
    let d = diff_counts start (length sent) (length got) low (omega (arith, fits, large.1)) in
    rw d (grind (arith, nat_tests))

count_stored_push : (events : List PastEvent) (op : Op) (taken : ℕ) → count_stored (events ++ past op taken ∷ []) ≡ count_stored events + stored_by op
count_stored_push [] op taken = omega arith
count_stored_push (event ∷ events) op taken = omega (arith, count_stored_push events op taken)

pub byte_in : (orders : Orders) (ring : Ring) (k : ℕ) → k < size (order_of orders ring) → index_of orders (RingByte ring k) < word_count orders
byte_in orders Left k h = omega (arith, h)
byte_in orders Right k h = omega (arith, h)

ask_flag : (orders : Orders) (who : Role) → (8 ≤ index_of orders (ask_word who)) × (index_of orders (ask_word who) < 12)
ask_flag orders Server = (omega arith, omega arith)
ask_flag orders Client = (omega arith, omega arith)

notify_flag : (orders : Orders) (who : Role) → (8 ≤ index_of orders (notify_word who)) × (index_of orders (notify_word who) < 12)
notify_flag orders Server = (omega arith, omega arith)
notify_flag orders Client = (omega arith, omega arith)

peer_flag : (orders : Orders) (who : Role) → (8 ≤ index_of orders (peer_pending who)) × (index_of orders (peer_pending who) < 12)
peer_flag orders Server = (omega arith, omega arith)
peer_flag orders Client = (omega arith, omega arith)

own_flag : (orders : Orders) (who : Role) → (8 ≤ index_of orders (own_pending who)) × (index_of orders (own_pending who) < 12)
own_flag orders Server = (omega arith, omega arith)
own_flag orders Client = (omega arith, omega arith)

-- ---- what an end's stores tell of it

told_pending : (who : Role) (s : Side) (v x : ℕ) → told (made s (Store (peer_pending who) v) x) ≡ told s
told_pending Server s v x = refl
told_pending Client s v x = refl

told_prod : (who : Role) (s : Side) (v x : ℕ) → s.role ≡ who → told (made s (Store (prod_word (written_ring who)) v) x) ≡ record (told s) { prod = low32 v; sent = s.sent ++ take (count_stored s.trail) s.payload }
told_prod Server s v x is = ap (λ (r : Role). record (told s) { prod = prod_stored (prod_word Right) r v s.prod; sent = sent_stored (prod_word Right) r s.trail s.payload s.sent }) is
told_prod Client s v x is = ap (λ (r : Role). record (told s) { prod = prod_stored (prod_word Left) r v s.prod; sent = sent_stored (prod_word Left) r s.trail s.payload s.sent }) is

told_cons : (who : Role) (s : Side) (v x : ℕ) → s.role ≡ who → told (made s (Store (cons_word (read_ring who)) v) x) ≡ record (told s) { cons = low32 v; got = s.got ++ bytes_loaded s.trail }
told_cons Server s v x is = ap (λ (r : Role). record (told s) { cons = cons_stored (cons_word Left) r v s.cons; got = got_stored (cons_word Left) r s.trail s.got }) is
told_cons Client s v x is = ap (λ (r : Role). record (told s) { cons = cons_stored (cons_word Right) r v s.cons; got = got_stored (cons_word Right) r s.trail s.got }) is

told_shut : (who : Role) (s : Side) (x : ℕ) → s.role ≡ who → told (made s (Store (own_live who) 0) x) ≡ record (told s) { state = Shut }
told_shut Server s x is = ap (λ (r : Role). record (told s) { state = live_stored (own_live Server) r 0 s.state }) is
told_shut Client s x is = ap (λ (r : Role). record (told s) { state = live_stored (own_live Client) r 0 s.state }) is

told_open : (s : Side) (x : ℕ) → s.role ≡ Client → told (made s (Store (own_live Client) 1) x) ≡ record (told s) { state = Open }
told_open s x is = ap (λ (r : Role). record (told s) { state = live_stored (own_live Client) r 1 s.state }) is

told_gone : (who : Role) (s : Side) (v x : ℕ) → s.role ≡ who → told (made s (Store (own_gone who) v) x) ≡ record (told s) { retired = true }
told_gone Server s v x is = ap (λ (r : Role). record (told s) { retired = sets_gone_word (own_gone Server) r || s.retired }) is
told_gone Client s v x is = ap (λ (r : Role). record (told s) { retired = sets_gone_word (own_gone Client) r || s.retired }) is

-- ---- a call on its way

-- the lists as they stood when the call began: what was got begins what was sent, and the rest fits its ring
pub record Begins (who : Role) (channel : ChannelLists) : Type 0 where
  pub written_low : length (end_of channel (peer who)).got ≤ length (end_of channel who).sent
  pub written_fits : length (end_of channel who).sent ≤ length (end_of channel (peer who)).got + size (order_of channel.orders (written_ring who))
  pub read_low : length (end_of channel who).got ≤ length (end_of channel (peer who)).sent
  pub read_fits : length (end_of channel (peer who)).sent ≤ length (end_of channel who).got + size (order_of channel.orders (read_ring who))
  pub read_split : (end_of channel who).got ++ waiting channel who ≡ (end_of channel (peer who)).sent

module _ (who : Role) (channel : ChannelLists) (theirs : Told) (payload : List ℕ) (b : Begins who channel) where
  -- nothing was moved yet
  pub record Calm (words : List ℕ) (mine : Side) : Type 0 where
    pub tells : Tells who channel (end_of channel who) words (told mine) theirs
    pub pays : mine.payload ≡ payload
    pub stored : count_stored mine.trail ≡ 0
    pub loaded : bytes_loaded mine.trail ≡ []

  -- inside a put, this many bytes stand in their places
  pub record Putting (i : ℕ) (words : List ℕ) (mine : Side) : Type 0 where
    pub tells : Tells who channel (end_of channel who) words (told mine) theirs
    pub pays : mine.payload ≡ payload
    pub stored : count_stored mine.trail ≡ i
    pub loaded : bytes_loaded mine.trail ≡ []
    pub placed : (j : ℕ) → j < i →
        at channel.orders words (RingByte (written_ring who) (place (channel.start + length (end_of channel who).sent + j) (order_of channel.orders (written_ring who)))) ≡ slice_index payload j

  -- inside a take, this many bytes are loaded
  pub record Taking (i : ℕ) (words : List ℕ) (mine : Side) : Type 0 where
    pub tells : Tells who channel (end_of channel who) words (told mine) theirs
    pub loaded : bytes_loaded mine.trail ≡ take i (waiting channel who)

  -- the lists are as the call leaves them, and this many bytes are loaded
  pub record After (it : ListEnd) (count : ℕ) (words : List ℕ) (mine : Side) : Type 0 where
    pub tells : Tells who channel it words (told mine) theirs
    pub loaded : bytes_loaded mine.trail ≡ take count (waiting channel who)

  -- the call is at its end
  pub record Gives (outcome : Outcome) (r : List ℕ × Side × Answer) : Type 0 where
    pub it : ListEnd
    pub is : outcome.0 ≡ with_end channel who it
    pub tells : Tells who channel it r.0 (told r.1) theirs
    pub answer : IsTold outcome.1 r.2
    pub bytes : bytes_loaded r.1.trail ≡ take (count_got r.2) (waiting channel who)

  -- from there on the plan comes to this outcome
  abbrev pub Ends : Plan → Outcome → Type 0
  Ends plan outcome = (words : List ℕ) (mine : Side) → Calm words mine → Gives outcome (run channel.orders words mine plan)

  abbrev pub EndsAfter : ListEnd → ℕ → Plan → Outcome → Type 0
  EndsAfter it count plan outcome = (words : List ℕ) (mine : Side) → After it count words mine → Gives outcome (run channel.orders words mine plan)

  -- ---- answers and choices

  pub after_answers : (it : ListEnd) (answer : Answer) (outcome : Outcome) → outcome.0 ≡ with_end channel who it → IsTold outcome.1 answer → EndsAfter it (count_got answer) (answers answer) outcome
  unfolding run
  after_answers it answer outcome is told words mine a = record { it = it; is = is; tells = a.tells; answer = told; bytes = a.loaded }

  pub calm_after : (words : List ℕ) (mine : Side) → Calm words mine → After (end_of channel who) 0 words mine
  calm_after words mine c = record { tells = c.tells; loaded = c.loaded }

  with_same : (who : Role) (channel : ChannelLists) → channel ≡ with_end channel who (end_of channel who)
  with_same Server channel = refl
  with_same Client channel = refl

  -- an answer that moves nothing
  pub ends_only : (answer : Answer) → count_got answer ≡ 0 → Ends (answers answer) (only channel answer)
  ends_only answer none words mine c =
      after_answers (end_of channel who) answer (only channel answer) (with_same who channel) refl words mine
      (subst (λ (n : ℕ). After (end_of channel who) n words mine) (sym none) (calm_after words mine c))

  pub ends_if : (test : Bool) (p q : Plan) (outcome : Outcome) → Ends p outcome → Ends q outcome → Ends (cond test p q) outcome
  ends_if true p q outcome first second = first
  ends_if false p q outcome first second = second

  pub ends_cond : (test known : Bool) (p q : Plan) (one two : Outcome) → test ≡ known → (known ≡ true → Ends p one) → (known ≡ false → Ends q two) → Ends (cond test p q) (cond known one two)
  ends_cond test known p q one two is first second = subst (λ (t : Bool). Ends (cond t p q) (cond known one two)) (sym is) (go known first second)
    where
      go : (t : Bool) → (t ≡ true → Ends p one) → (t ≡ false → Ends q two) → Ends (cond t p q) (cond t one two)
      go true first second = first refl
      go false first second = second refl

  pub ends_true : (test : Bool) (p q : Plan) (outcome : Outcome) → test ≡ true → Ends p outcome → Ends (cond test p q) outcome
  ends_true test p q outcome is first = subst (λ (t : Bool). Ends (cond t p q) outcome) (sym is) first

  pub ends_false : (test : Bool) (p q : Plan) (outcome : Outcome) → test ≡ false → Ends q outcome → Ends (cond test p q) outcome
  ends_false test p q outcome is second = subst (λ (t : Bool). Ends (cond t p q) outcome) (sym is) second

  -- ---- loads and flags, which leave the lists alone

  nothing_loaded : (trail : List PastEvent) (op : Op) (taken : ℕ) (bytes : List ℕ) → loaded_by op taken ≡ [] → bytes_loaded trail ≡ bytes → bytes_loaded (trail ++ past op taken ∷ []) ≡ bytes
  nothing_loaded trail op taken bytes none is = bytes_loaded_push trail op taken ∙ ap (λ (xs : List ℕ). bytes_loaded trail ++ xs) none ∙ append-nil (bytes_loaded trail) ∙ is

  nothing_stored : (trail : List PastEvent) (op : Op) (taken count : ℕ) → stored_by op ≡ 0 → count_stored trail ≡ count → count_stored (trail ++ past op taken ∷ []) ≡ count
  nothing_stored trail op taken count none is = count_stored_push trail op taken ∙ omega (arith, none, is)

  calm_load : (word : WordName) (words : List ℕ) (mine : Side) → Calm words mine → Calm (words_after channel.orders words mine.payload (Load word)) (made mine (Load word) (at channel.orders words word))
  calm_load word words mine c = record {
    tells = subst (λ (ws : List ℕ). Tells who channel (end_of channel who) ws (told mine) theirs) (sym (set-get_or words (index_of channel.orders word) 0)) c.tells;
    pays = c.pays;
    stored = nothing_stored mine.trail (Load word) (at channel.orders words word) 0 refl c.stored;
    loaded = nothing_loaded mine.trail (Load word) (at channel.orders words word) [] refl c.loaded;
  }

  pub ends_load : (word : WordName) (value : ℕ) (next : ℕ → Plan) (outcome : Outcome) → ((words : List ℕ) (mine : Side) → Calm words mine → at channel.orders words word ≡ value) →
      Ends (next value) outcome → Ends (does (Load word) next) outcome
  unfolding run
  ends_load word value next outcome is on words mine c =
      let then_words : List ℕ = words_after channel.orders words mine.payload (Load word) in
      let then_mine : Side = made mine (Load word) (at channel.orders words word) in
      subst (λ (v : ℕ). Gives outcome (run channel.orders then_words then_mine (next v))) (sym (is words mine c)) (on then_words then_mine (calm_load word words mine c))

  calm_or : (word : WordName) (bits : ℕ) → (8 ≤ index_of channel.orders word) × (index_of channel.orders word < 12) → (words : List ℕ) (mine : Side) → Calm words mine →
      Calm (words_after channel.orders words mine.payload (Or word bits)) (made mine (Or word bits) (at channel.orders words word))
  calm_or word bits flag words mine c = record {
    tells = tells_flags who channel (end_of channel who) words (told mine) theirs (index_of channel.orders word) _ flag.0 flag.1 c.tells;
    pays = c.pays;
    stored = nothing_stored mine.trail (Or word bits) (at channel.orders words word) 0 refl c.stored;
    loaded = nothing_loaded mine.trail (Or word bits) (at channel.orders words word) [] refl c.loaded;
  }

  pub ends_ask : (bit : Bit) (next : Plan) (outcome : Outcome) → Ends next outcome → Ends (ask (standing_by who channel) bit next) outcome
  unfolding run
  ends_ask bit next outcome on words mine c = on _ _ (calm_or (ask_word who) (mask bit) (ask_flag channel.orders who) words mine c)

  after_and : (it : ListEnd) (count : ℕ) (word : WordName) (bits : ℕ) → (8 ≤ index_of channel.orders word) × (index_of channel.orders word < 12) → (words : List ℕ) (mine : Side) → After it count words mine →
      After it count (words_after channel.orders words mine.payload (And word bits)) (made mine (And word bits) (at channel.orders words word))
  after_and it count word bits flag words mine a = record {
    tells = tells_flags who channel it words (told mine) theirs (index_of channel.orders word) _ flag.0 flag.1 a.tells;
    loaded = nothing_loaded mine.trail (And word bits) (at channel.orders words word) _ refl a.loaded;
  }

  after_swap : (it : ListEnd) (count : ℕ) (word : WordName) (v : ℕ) → (8 ≤ index_of channel.orders word) × (index_of channel.orders word < 12) → (words : List ℕ) (mine : Side) → After it count words mine →
      After it count (words_after channel.orders words mine.payload (Swap word v)) (made mine (Swap word v) (at channel.orders words word))
  after_swap it count word v flag words mine a = record {
    tells = tells_flags who channel it words (told mine) theirs (index_of channel.orders word) _ flag.0 flag.1 a.tells;
    loaded = nothing_loaded mine.trail (Swap word v) (at channel.orders words word) _ refl a.loaded;
  }

  after_pending : (it : ListEnd) (count v : ℕ) (words : List ℕ) (mine : Side) → After it count words mine →
      After it count (words_after channel.orders words mine.payload (Store (peer_pending who) v)) (made mine (Store (peer_pending who) v) 0)
  after_pending it count v words mine a =
      let flag = peer_flag channel.orders who in
      record {
        tells = subst (λ (m : Told). Tells who channel it (set words (index_of channel.orders (peer_pending who)) v) m theirs) (sym (told_pending who mine v 0))
            (tells_flags who channel it words (told mine) theirs (index_of channel.orders (peer_pending who)) v flag.0 flag.1 a.tells);
        loaded = nothing_loaded mine.trail (Store (peer_pending who) v) 0 _ refl a.loaded;
      }

  pub after_signal : (it : ListEnd) (count : ℕ) (next : Plan) (outcome : Outcome) → EndsAfter it count next outcome → EndsAfter it count (signal (standing_by who channel) next) outcome
  unfolding run
  after_signal it count next outcome on words mine a = on _ _ (after_pending it count 1 words mine a)

  after_if : (it : ListEnd) (count : ℕ) (test : Bool) (p q : Plan) (outcome : Outcome) → EndsAfter it count p outcome → EndsAfter it count q outcome → EndsAfter it count (cond test p q) outcome
  after_if it count true p q outcome first second = first
  after_if it count false p q outcome first second = second

  pub after_notify : (it : ListEnd) (count : ℕ) (bit : Bit) (next : Plan) (outcome : Outcome) → EndsAfter it count next outcome → EndsAfter it count (notify (standing_by who channel) bit next) outcome
  unfolding run
  after_notify it count bit next outcome on words mine a =
      after_if it count _ next (signal (standing_by who channel) next) outcome on (after_signal it count next outcome on) _ _
      (after_and it count (notify_word who) (18446744073709551615 - mask bit) (notify_flag channel.orders who) words mine a)

  -- ---- looks: what they find is told by the lists

  pub ends_look_read : (next : ℕ → Plan) (outcome : Outcome) → Ends (next (index channel.start (end_of channel (peer who)).sent)) outcome → Ends (look_read (standing_by who channel) next) outcome
  ends_look_read next outcome on =
      ends_load (prod_word (read_ring who)) (index channel.start (end_of channel (peer who)).sent) (λ value. next (low32 value)) outcome (λ words mine c. c.tells.reading.prod_is)
      (subst (λ (n : ℕ). Ends (next n) outcome) (sym (low32_index channel.start (end_of channel (peer who)).sent)) on)

  pub ends_look_write : (next : ℕ → Plan) (outcome : Outcome) → Ends (next (index channel.start (end_of channel (peer who)).got)) outcome → Ends (look_write (standing_by who channel) next) outcome
  ends_look_write next outcome on =
      ends_load (cons_word (written_ring who)) (index channel.start (end_of channel (peer who)).got) (λ value. next (low32 value)) outcome (λ words mine c. c.tells.written.cons_is)
      (subst (λ (n : ℕ). Ends (next n) outcome) (sym (low32_index channel.start (end_of channel (peer who)).got)) on)

  -- the peer's live byte tells whether it is shut
  shut_is : (state : EndState) → (low8 (live_word state) == 0) ≡ is_shut state
  shut_is Fresh = refl
  shut_is Open = refl
  shut_is Shut = refl

  pub ends_live : (p q : Plan) (one two : Outcome) → (is_shut (end_of channel (peer who)).state ≡ true → Ends p one) → (is_shut (end_of channel (peer who)).state ≡ false → Ends q two) →
      Ends (does (Load (peer_live who)) (λ live. if low8 live == 0 then p else q)) (if is_shut (end_of channel (peer who)).state then one else two)
  ends_live p q one two first second =
      ends_load (peer_live who) (live_word (end_of channel (peer who)).state) (λ live. if low8 live == 0 then p else q) _ (λ words mine c. c.tells.theirs_words.live_is)
      (ends_cond (low8 (live_word (end_of channel (peer who)).state) == 0) (is_shut (end_of channel (peer who)).state) p q one two (shut_is (end_of channel (peer who)).state) first second)

  pub ends_gone : (next : ℕ → Plan) (outcome : Outcome) → Ends (next (if (end_of channel (peer who)).retired then 1 else 0)) outcome → Ends (does (Load (peer_gone who)) next) outcome
  ends_gone next outcome on = ends_load (peer_gone who) (if (end_of channel (peer who)).retired then 1 else 0) next outcome (λ words mine c. c.tells.theirs_words.gone_is) on

  pub free_is : free_at (standing_by who channel) (index channel.start (end_of channel (peer who)).got) ≡ free channel who
  free_is = room_is channel.start (end_of channel who).sent (end_of channel (peer who)).got (order_of channel.orders (written_ring who)) b.written_low b.written_fits

  pub avail_is : ready_at (standing_by who channel) (index channel.start (end_of channel (peer who)).sent) ≡ avail channel who
  avail_is = ready_is channel.start (end_of channel (peer who)).sent (end_of channel who).got (order_of channel.orders (read_ring who)) b.read_low b.read_fits

  -- ---- a put

  -- the place of the next byte
  next_place : ℕ → ℕ
  next_place i = place (index channel.start (end_of channel who).sent + i) (order_of channel.orders (written_ring who))

  next_place_is : (i : ℕ) → next_place i ≡ place (channel.start + length (end_of channel who).sent + i) (order_of channel.orders (written_ring who))
  unfolding next_place
  next_place_is i = place_index channel.start i (end_of channel who).sent (order_of channel.orders (written_ring who))

  putting_more : (i : ℕ) (words : List ℕ) (mine : Side) → length (end_of channel who).sent + i < length (end_of channel (peer who)).got + size (order_of channel.orders (written_ring who)) → Putting i words mine →
      Putting (i + 1) (words_after channel.orders words mine.payload (StoreByte (RingByte (written_ring who) (next_place i)) i)) (made mine (StoreByte (RingByte (written_ring who) (next_place i)) i) 0)
  unfolding next_place
  putting_more i words mine room p = record {
    tells = tells_byte who channel (end_of channel who) words (told mine) theirs (next_place i) (slice_index mine.payload i) (place_within _ _) behind p.tells;
    pays = p.pays;
    stored = count_stored_push mine.trail op 0 ∙ ap (λ (n : ℕ). n + 1) p.stored;
    loaded = nothing_loaded mine.trail op 0 [] refl p.loaded;
    placed = λ j less. go j less (cases_lt j i);
  }
    where
      op : Op
      op = StoreByte (RingByte (written_ring who) (next_place i)) i

      behind : (n : ℕ) → length (end_of channel (peer who)).got ≤ n → n < length (end_of channel who).sent → place (channel.start + n) (order_of channel.orders (written_ring who)) ≢ next_place i
      behind n low high e =
          place_apart (channel.start + n) (channel.start + length (end_of channel who).sent + i) (order_of channel.orders (written_ring who)) (omega (arith, high)) (omega (arith, low, room)) (e ∙ next_place_is i)

      go : (j : ℕ) → j < i + 1 → (j < i) ⊎ (i ≤ j) →
          at channel.orders (set words (index_of channel.orders (RingByte (written_ring who) (next_place i))) (slice_index mine.payload i)) (RingByte (written_ring who) (place (channel.start + length (end_of channel who).sent + j) (order_of channel.orders (written_ring who)))) ≡ slice_index payload j
      go j less (inl old) =
          get_or-set_other words (index_of channel.orders (RingByte (written_ring who) (next_place i))) (index_of channel.orders (RingByte (written_ring who) (place (channel.start + length (end_of channel who).sent + j) (order_of channel.orders (written_ring who))))) (slice_index mine.payload i) 0
          (λ e. place_apart (channel.start + length (end_of channel who).sent + j) (channel.start + length (end_of channel who).sent + i) (order_of channel.orders (written_ring who)) (omega (arith, old)) (omega (arith, room, b.written_low))
          (omega (arith, e, index_of_byte channel.orders (written_ring who) (next_place i), index_of_byte channel.orders (written_ring who) (place (channel.start + length (end_of channel who).sent + j) (order_of channel.orders (written_ring who)))) ∙ next_place_is i))
          ∙ p.placed j old
      go j less (inr new) =
          let same : j ≡ i = omega (arith, less, new) in
          let there : place (channel.start + length (end_of channel who).sent + j) (order_of channel.orders (written_ring who)) ≡ next_place i = ap (λ (n : ℕ). place (channel.start + length (end_of channel who).sent + n) (order_of channel.orders (written_ring who))) same ∙ sym (next_place_is i) in
          let within : index_of channel.orders (RingByte (written_ring who) (next_place i)) < length words = subst (λ (n : ℕ). index_of channel.orders (RingByte (written_ring who) (next_place i)) < n) (sym p.tells.sized) (byte_in channel.orders (written_ring who) (next_place i) (place_within _ _)) in
          ap (λ (k : ℕ). at channel.orders (set words (index_of channel.orders (RingByte (written_ring who) (next_place i))) (slice_index mine.payload i)) (RingByte (written_ring who) k)) there
          ∙ get_or-set_same words (index_of channel.orders (RingByte (written_ring who) (next_place i))) (slice_index mine.payload i) 0 within
          ∙ ap (λ (xs : List ℕ). slice_index xs i) p.pays ∙ ap (λ (n : ℕ). slice_index payload n) (sym same)

  put_bytes_on : (k i : ℕ) (next : Plan) (outcome : Outcome) → length (end_of channel who).sent + (i + k) ≤ length (end_of channel (peer who)).got + size (order_of channel.orders (written_ring who)) →
      ((words : List ℕ) (mine : Side) → Putting (i + k) words mine → Gives outcome (run channel.orders words mine next)) →
      (words : List ℕ) (mine : Side) → Putting i words mine → Gives outcome (run channel.orders words mine (put_bytes (standing_by who channel) i k next))
  unfolding run next_place
  put_bytes_on zero i next outcome room on words mine p = on words mine (subst (λ (n : ℕ). Putting n words mine) (omega arith) p)
  put_bytes_on (suc k) i next outcome room on words mine p =
      put_bytes_on k (i + 1) next outcome (omega (arith, room)) (λ ws m q. on ws m (subst (λ (n : ℕ). Putting n ws m) (omega arith) q)) _ _
      (putting_more i words mine (omega (arith, room)) p)

  -- the index store of a put
  shown : (k : ℕ) (words : List ℕ) (mine : Side) → length (end_of channel who).sent + k ≤ length (end_of channel (peer who)).got + size (order_of channel.orders (written_ring who)) → k ≤ length payload → AreBytes payload →
      Putting k words mine →
      After (record (end_of channel who) { sent = (end_of channel who).sent ++ take k payload }) 0
      (words_after channel.orders words mine.payload (Store (prod_word (written_ring who)) ((index channel.start (end_of channel who).sent + k) % 2 ^ 32)))
      (made mine (Store (prod_word (written_ring who)) ((index channel.start (end_of channel who).sent + k) % 2 ^ 32)) 0)
  shown k words mine room enough bytes p =
      let it = end_of channel who in
      let v : ℕ = (index channel.start it.sent + k) % 2 ^ 32 in
      let long : length (take k payload) ≡ k = omega (arith, length-take k payload, enough) in
      let is : v ≡ index channel.start (it.sent ++ take k payload) = index_more channel.start k it.sent (take k payload) long in
      let own : low32 v ≡ index channel.start (it.sent ++ take k payload) = ap low32 is ∙ low32_index channel.start (it.sent ++ take k payload) in
      let stands : (i : ℕ) → i < length (take k payload) → at channel.orders words (RingByte (written_ring who) (place (channel.start + length it.sent + i) (order_of channel.orders (written_ring who)))) ≡ slice_index (take k payload) i =
      λ i less. p.placed i (omega (arith, less, long)) ∙ sym (get_or-take k payload i 0 (omega (arith, less, long))) in
      let then_told : told (made mine (Store (prod_word (written_ring who)) v) 0) ≡ record (told mine) { prod = low32 v; sent = mine.sent ++ take k payload } =
      told_prod who mine v 0 p.tells.mine_is.role_is ∙ ap (λ (n : ℕ). record (told mine) { prod = low32 v; sent = mine.sent ++ take n mine.payload }) p.stored
      ∙ ap (λ (xs : List ℕ). record (told mine) { prod = low32 v; sent = mine.sent ++ take k xs }) p.pays in
      record {
        tells = subst (λ (m : Told). Tells who channel (record it { sent = it.sent ++ take k payload }) (set words (index_of channel.orders (prod_word (written_ring who))) v) m theirs) (sym then_told)
            (tells_sent who channel it words (told mine) theirs (take k payload) v (low32 v) is own (omega (arith, room, long)) (All-take (λ (byte : ℕ). byte < 256) k payload bytes) stands p.tells);
        loaded = nothing_loaded mine.trail (Store (prod_word (written_ring who)) v) 0 [] refl p.loaded;
      }

  pub ends_put : (k : ℕ) (answer : ℕ → Answer) → k ≤ free channel who → k ≤ length payload → AreBytes payload → count_got (answer k) ≡ 0 →
      Ends (put (standing_by who channel) k (answers (answer k))) (sent_out channel who payload k answer)
  unfolding run
  ends_put k answer fits enough bytes none words mine c =
      let it = record (end_of channel who) { sent = (end_of channel who).sent ++ take k payload } in
      let room : length (end_of channel who).sent + k ≤ length (end_of channel (peer who)).got + size (order_of channel.orders (written_ring who)) = omega (arith, fits, b.written_low, b.written_fits) in
      put_bytes_on k 0 (put_index (standing_by who channel) k (answers (answer k))) (sent_out channel who payload k answer) (omega (arith, room))
      (λ ws m p. after_notify it 0 Written (answers (answer k)) (sent_out channel who payload k answer)
      (subst (λ (n : ℕ). EndsAfter it n (answers (answer k)) (sent_out channel who payload k answer)) none (after_answers it (answer k) (sent_out channel who payload k answer) refl refl)) _ _
      (shown k ws m room enough bytes (subst (λ (n : ℕ). Putting n ws m) (omega arith) p)))
      words mine (record { tells = c.tells; pays = c.pays; stored = c.stored; loaded = c.loaded; placed = λ j less. absurd (omega (arith, less)) })

  -- ---- a take

  wait_place : ℕ → ℕ
  wait_place i = place (index channel.start (end_of channel who).got + i) (order_of channel.orders (read_ring who))

  length_waiting : length (waiting channel who) ≡ avail channel who
  length_waiting = length-drop (length (end_of channel who).got) (end_of channel (peer who)).sent

  -- the next byte that waits stands in its place
  waits_there : (i : ℕ) (words : List ℕ) (mine : Side) → i < avail channel who → Taking i words mine → at channel.orders words (RingByte (read_ring who) (wait_place i)) ≡ get_or (waiting channel who) i 0
  unfolding wait_place
  waits_there i words mine more t =
      let got = (end_of channel who).got in
      let sent = (end_of channel (peer who)).sent in
      ap (λ (k : ℕ). at channel.orders words (RingByte (read_ring who) k)) (place_index channel.start i got (order_of channel.orders (read_ring who)) ∙ ap (λ (n : ℕ). place n (order_of channel.orders (read_ring who))) (omega arith))
      ∙ t.tells.reading.waits (length got + i) (omega arith) (omega (arith, more))
      ∙ sym (get_or-drop (length got) sent i 0)

  taking_more : (i : ℕ) (words : List ℕ) (mine : Side) → i < avail channel who → Taking i words mine →
      Taking (i + 1) (words_after channel.orders words mine.payload (LoadByte (RingByte (read_ring who) (wait_place i)) i)) (made mine (LoadByte (RingByte (read_ring who) (wait_place i)) i) (at channel.orders words (RingByte (read_ring who) (wait_place i))))
  taking_more i words mine more t =
      let got = (end_of channel who).got in
      let sent = (end_of channel (peer who)).sent in
      let word = RingByte (read_ring who) (wait_place i) in
      let value : ℕ = at channel.orders words word in
      let small : slice_index sent (length got + i) < 256 = t.tells.reading.bytes_sent (length got + i) 0 (omega (arith, more)) in
      let is : value ≡ get_or (waiting channel who) i 0 = waits_there i words mine more t in
      let low : low8 value ≡ get_or (waiting channel who) i 0 = ap low8 is ∙ omega (arith, small, get_or-drop (length got) sent i 0) in
      record {
        tells = subst (λ (ws : List ℕ). Tells who channel (end_of channel who) ws (told mine) theirs) (sym (set-get_or words (index_of channel.orders word) 0)) t.tells;
        loaded = bytes_loaded_push mine.trail (LoadByte word i) value ∙ ap (λ (xs : List ℕ). xs ++ low8 value ∷ []) t.loaded
            ∙ ap (λ (byte : ℕ). take i (waiting channel who) ++ byte ∷ []) low ∙ sym (take_more (waiting channel who) i 0 (omega (arith, more, length_waiting)));
      }

  take_bytes_on : (k i : ℕ) (next : Plan) (outcome : Outcome) → i + k ≤ avail channel who → ((words : List ℕ) (mine : Side) → Taking (i + k) words mine → Gives outcome (run channel.orders words mine next)) →
      (words : List ℕ) (mine : Side) → Taking i words mine → Gives outcome (run channel.orders words mine (take_bytes (standing_by who channel) i k next))
  unfolding run wait_place
  take_bytes_on zero i next outcome room on words mine t = on words mine (subst (λ (n : ℕ). Taking n words mine) (omega arith) t)
  take_bytes_on (suc k) i next outcome room on words mine t =
      take_bytes_on k (i + 1) next outcome (omega (arith, room)) (λ ws m q. on ws m (subst (λ (n : ℕ). Taking n ws m) (omega arith) q)) _ _ (taking_more i words mine (omega (arith, room)) t)

  -- the index store of a take
  released : (k : ℕ) (words : List ℕ) (mine : Side) → k ≤ avail channel who → Taking k words mine →
      After (record (end_of channel who) { got = (end_of channel who).got ++ take k (waiting channel who) }) k
      (words_after channel.orders words mine.payload (Store (cons_word (read_ring who)) ((index channel.start (end_of channel who).got + k) % 2 ^ 32)))
      (made mine (Store (cons_word (read_ring who)) ((index channel.start (end_of channel who).got + k) % 2 ^ 32)) 0)
  released k words mine room t =
      let it = end_of channel who in
      let v : ℕ = (index channel.start it.got + k) % 2 ^ 32 in
      let long : length (take k (waiting channel who)) ≡ k = omega (arith, length-take k (waiting channel who), length_waiting, room) in
      let is : v ≡ index channel.start (it.got ++ take k (waiting channel who)) = index_more channel.start k it.got (take k (waiting channel who)) long in
      let own : low32 v ≡ index channel.start (it.got ++ take k (waiting channel who)) = ap low32 is ∙ low32_index channel.start (it.got ++ take k (waiting channel who)) in
      let split : it.got ++ (take k (waiting channel who) ++ drop k (waiting channel who)) ≡ (end_of channel (peer who)).sent =
      ap (λ (xs : List ℕ). it.got ++ xs) (take-append-drop k (waiting channel who)) ∙ b.read_split in
      let then_told : told (made mine (Store (cons_word (read_ring who)) v) 0) ≡ record (told mine) { cons = low32 v; got = mine.got ++ take k (waiting channel who) } =
      told_cons who mine v 0 t.tells.mine_is.role_is ∙ ap (λ (xs : List ℕ). record (told mine) { cons = low32 v; got = mine.got ++ xs }) t.loaded in
      record {
        tells = subst (λ (m : Told). Tells who channel (record it { got = it.got ++ take k (waiting channel who) }) (set words (index_of channel.orders (cons_word (read_ring who))) v) m theirs) (sym then_told)
            (tells_got who channel it words (told mine) theirs (take k (waiting channel who)) (drop k (waiting channel who)) v (low32 v) is own split t.tells);
        loaded = nothing_loaded mine.trail (Store (cons_word (read_ring who)) v) 0 (take k (waiting channel who)) refl t.loaded;
      }

  pub ends_take : (k : ℕ) → k ≤ avail channel who → Ends (take_plan (standing_by who channel) k (answers (Got k))) (got_in channel who k)
  unfolding run
  ends_take k fits words mine c =
      let it = record (end_of channel who) { got = (end_of channel who).got ++ take k (waiting channel who) } in
      take_bytes_on k 0 (take_index (standing_by who channel) k (answers (Got k))) (got_in channel who k) (omega (arith, fits))
      (λ ws m t. after_notify it k Consumed (answers (Got k)) (got_in channel who k) (after_answers it (Got k) (got_in channel who k) refl refl) _ _
      (released k ws m fits (subst (λ (n : ℕ). Taking n ws m) (omega arith) t)))
      words mine (record { tells = c.tells; loaded = c.loaded })

  -- ---- coming and going

  after_shut : (it : ListEnd) (count : ℕ) (words : List ℕ) (mine : Side) → After it count words mine →
      After (record it { state = Shut }) count (words_after channel.orders words mine.payload (Store (own_live who) 0)) (made mine (Store (own_live who) 0) 0)
  after_shut it count words mine a = record {
    tells = subst (λ (m : Told). Tells who channel (record it { state = Shut }) (set words (index_of channel.orders (own_live who)) 0) m theirs) (sym (told_shut who mine 0 a.tells.mine_is.role_is))
        (tells_state who channel it words (told mine) theirs Shut (λ _. refl) a.tells);
    loaded = nothing_loaded mine.trail (Store (own_live who) 0) 0 _ refl a.loaded;
  }

  -- an end closes
  pub after_close : (it : ListEnd) (count : ℕ) (next : Plan) (outcome : Outcome) → EndsAfter (record it { state = Shut }) count next outcome → EndsAfter it count (close (standing_by who channel) next) outcome
  unfolding run
  after_close it count next outcome on words mine a = after_signal (record it { state = Shut }) count next outcome on _ _ (after_shut it count words mine a)

  after_gone : (it : ListEnd) (count : ℕ) (words : List ℕ) (mine : Side) → it.state ≡ Shut → After it count words mine →
      After (record it { retired = true }) count (words_after channel.orders words mine.payload (Store (own_gone who) 1)) (made mine (Store (own_gone who) 1) 0)
  after_gone it count words mine shut a = record {
    tells = subst (λ (m : Told). Tells who channel (record it { retired = true }) (set words (index_of channel.orders (own_gone who)) 1) m theirs) (sym (told_gone who mine 1 0 a.tells.mine_is.role_is))
        (tells_gone who channel it words (told mine) theirs shut a.tells);
    loaded = nothing_loaded mine.trail (Store (own_gone who) 1) 0 _ refl a.loaded;
  }

  -- a shut end retires
  pub after_retire : (it : ListEnd) (outcome : Outcome) → it.state ≡ Shut → outcome.0 ≡ with_end channel who (record it { retired = true }) → IsTold outcome.1 Done → EndsAfter it 0 (retire_shut (standing_by who channel)) outcome
  unfolding run
  after_retire it outcome shut is told words mine a =
      after_signal (record it { retired = true }) 0 (answers Done) outcome (after_answers (record it { retired = true }) Done outcome is told) _ _ (after_gone it 0 words mine shut a)

  -- a client that connects
  after_open : (words : List ℕ) (mine : Side) → who ≡ Client → (end_of channel who).state ≡ Fresh → Calm words mine →
      After (record (end_of channel who) { state = Open }) 0 (words_after channel.orders words mine.payload (Store CliLive 1)) (made mine (Store CliLive 1) 0)
  after_open words mine is fresh c =
      let live : CliLive ≡ own_live who = ap own_live (sym is) in
      let open_told : told (made mine (Store CliLive 1) 0) ≡ record (told mine) { state = Open } = told_open mine 0 (c.tells.mine_is.role_is ∙ is) in
      record {
        tells = subst (λ (m : Told). Tells who channel (record (end_of channel who) { state = Open }) (set words (index_of channel.orders CliLive) 1) m theirs) (sym open_told)
            (subst (λ (w : WordName). Tells who channel (record (end_of channel who) { state = Open }) (set words (index_of channel.orders w) 1) (record (told mine) { state = Open }) theirs) (sym live)
            (tells_state who channel (end_of channel who) words (told mine) theirs Open (λ r. absurd (fresh_shut (sym fresh ∙ c.tells.mine_words.retired_shut r))) c.tells));
        loaded = nothing_loaded mine.trail (Store CliLive 1) 0 _ refl c.loaded;
      }
    where
      fresh_shut : Fresh ≢ Shut
      fresh_shut e = cc

  pub ends_open : (outcome : Outcome) → who ≡ Client → (end_of channel who).state ≡ Fresh → outcome.0 ≡ with_end channel who (record (end_of channel who) { state = Open }) → IsTold outcome.1 Connected →
      Ends (does (Store CliLive 1) (λ _. answers Connected)) outcome
  unfolding run
  ends_open outcome client fresh is told words mine c =
      after_answers (record (end_of channel who) { state = Open }) Connected outcome is told _ _ (after_open words mine client fresh c)

  pub ends_swap : (next : ℕ → Plan) (outcome : Outcome) → ((value : ℕ) → EndsAfter (end_of channel who) 0 (next value) outcome) → Ends (does (Swap (own_pending who) 0) next) outcome
  unfolding run
  ends_swap next outcome on words mine c =
      on _ _ _ (after_swap (end_of channel who) 0 (own_pending who) 0 (own_flag channel.orders who) words mine (calm_after words mine c))
