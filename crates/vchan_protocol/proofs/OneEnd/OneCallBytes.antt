-- What an answer tells of the bytes that its call sent and got, whatever values its events took.
use Rattle.std.proofs.Common.{◌≡◌, ℕ, suc, zero, ◌+◌, ◌==◌, ◌≤◌, min, nat_lt, Bool, true, false, cond, List, [], ◌∷◌, ◌++◌, length, take, refl, subst, sym, ap, ◌∙◌, arith, append_assoc, append-nil, length-append, add-zero, zero-add}
use Rattle.std.proofs.lemmas.List.{take_all, take-append-le}
use Rattle.ring_words.specs.declared.page.Role.{Role}
use Rattle.ring_words.specs.declared.page.Role.TheVariants.{Server, Client}
use Rattle.ring_words.specs.declared.page.WordName.{WordName}
use Rattle.ring_words.specs.declared.page.WordName.TheVariants.{LeftCons, LeftProd, RightCons, RightProd, CliLive}
use Rattle.vchan_protocol.specs.declared.op.Op.{Op}
use Rattle.vchan_protocol.specs.declared.op.Op.TheVariants.{Load, LoadByte, Store, StoreByte, Or, And, Swap, Nothing}
use Rattle.vchan_protocol.specs.declared.op.PastEvent.{PastEvent}
use Rattle.vchan_protocol.specs.declared.call.Answer.{Answer}
use Rattle.vchan_protocol.specs.declared.call.Answer.TheVariants.{Wrote, Full, NoRoom, Sent, Got, Empty, Short, PeerClosed, NotYet, AllRead, Ready, Space, Connected, BadOrders, Done, Event, Gone, PeerGone as IsGone}
use Rattle.vchan_protocol.specs.declared.call.Bit.{Bit}
use Rattle.vchan_protocol.specs.declared.call.Bit.TheVariants.{Written, Consumed}
use Rattle.vchan_protocol.specs.declared.call.Call.{Call}
use Rattle.vchan_protocol.specs.declared.call.Call.TheVariants.{Write, Send, Read, Recv, Drain, DataReady, BufferSpace, Connect, Close, TakeEvent, Retire, PeerGone}
use Rattle.vchan_protocol.specs.declared.call.EndState.{EndState}
use Rattle.vchan_protocol.specs.declared.call.EndState.TheVariants.{Fresh, Open, Shut}
use Rattle.vchan_protocol.specs.declared.side.Side.{Side}
use Rattle.vchan_protocol.specs.Table.Plan.{Plan, does, answers, Leads, past}
use Rattle.vchan_protocol.specs.Table.Ends.{Standing, written_ring, read_ring, prod_word, cons_word, own_live, own_gone, peer_pending, free_at, ready_at, low8, low32}
use Rattle.vchan_protocol.specs.Table.Calls.{put_bytes, take_bytes, put_index, take_index, put, take as takes_out, notify, ask, write, write_open, write_looked, read, read_live, read_looked, drain_found, drain_last, drain_gone, drain_further, drain_live, drain_second, drain, connect, connect_right, close, retire, retire_shut, plan_of, send, send_open, send_looked, recv, recv_live, recv_looked, Trace}
use Rattle.vchan_protocol.specs.History.Core.{begins, made, standing_of, stored_by, loaded_by, count_stored, bytes_loaded, sent_stored, got_stored, sent_after, got_after}
use Rattle.vchan_protocol.proofs.Table.Counted.{stored_then, counts_within, loaded_then}
use Rattle.vchan_protocol.proofs.History.EventLaws.{stored_most_payload}
use Rattle.vchan_protocol.proofs.History.WholeCallLaws.{bytes_loaded_push}
use Rattle.vchan_protocol.specs.OneEnd.OneCall.{side_along, bytes_out, bytes_in, MovesAsAnswered}

-- ---- what is shown and released, by the events

-- an own index is stored only once
abbrev pub OnceStored : WordName → Role → ℕ → ℕ → Type 0
OnceStored LeftProd Client o g = o ≡ 0
OnceStored RightProd Server o g = o ≡ 0
OnceStored LeftCons Server o g = g ≡ 0
OnceStored RightCons Client o g = g ≡ 0
OnceStored _ _ o g = Unit {0}

abbrev pub Once : Role → ℕ → ℕ → Op → Type 0
Once role o g (Store word value) = OnceStored word role o g
Once role o g _ = Unit {0}

-- how many bytes are shown after a store if s are stored, and how many are released if l are loaded
abbrev pub shown_stored : WordName → Role → ℕ → ℕ → ℕ
shown_stored LeftProd Client s o = s
shown_stored RightProd Server s o = s
shown_stored _ _ s o = o

abbrev pub shown_then : Role → Op → ℕ → ℕ → ℕ
shown_then role (Store word value) s o = shown_stored word role s o
shown_then role _ s o = o

abbrev pub released_stored : WordName → Role → ℕ → ℕ → ℕ
released_stored LeftCons Server l g = l
released_stored RightCons Client l g = l
released_stored _ _ l g = g

abbrev pub released_then : Role → Op → ℕ → ℕ → ℕ
released_then role (Store word value) l g = released_stored word role l g
released_then role _ l g = g

-- whatever the values are, the answer tells how many bytes were shown, which are all that were stored, and how many places were released, which are those of all
-- that were loaded; s are stored, o shown, l loaded, g released so far
unfoldable pub Moves : Role → ℕ → ℕ → ℕ → ℕ → Plan → Type 0
Moves role s o l g (answers answer) = (bytes_out answer ≡ o) × (bytes_in answer ≡ g) × (l ≡ g) × (s ≡ o)
Moves role s o l g (does op next) = Once role o g op × ((value : ℕ) → Moves role (stored_then op s) (shown_then role op s o) (loaded_then op l) (released_then role op l g) (next value))

-- ---- the pieces

moves_answers : (role : Role) (s o l g : ℕ) (answer : Answer) → bytes_out answer ≡ o → bytes_in answer ≡ g → l ≡ g → s ≡ o → Moves role s o l g (answers answer)
unfolding Moves
moves_answers role s o l g answer out into all shown = (out, into, all, shown)

moves_load : (role : Role) (s o l g : ℕ) (word : WordName) (next : ℕ → Plan) → ((value : ℕ) → Moves role s o l g (next value)) → Moves role s o l g (does (Load word) next)
unfolding Moves
moves_load role s o l g word next on = (tt, on)

moves_or : (role : Role) (s o l g : ℕ) (word : WordName) (bits : ℕ) (next : ℕ → Plan) → ((value : ℕ) → Moves role s o l g (next value)) → Moves role s o l g (does (Or word bits) next)
unfolding Moves
moves_or role s o l g word bits next on = (tt, on)

moves_and : (role : Role) (s o l g : ℕ) (word : WordName) (bits : ℕ) (next : ℕ → Plan) → ((value : ℕ) → Moves role s o l g (next value)) → Moves role s o l g (does (And word bits) next)
unfolding Moves
moves_and role s o l g word bits next on = (tt, on)

moves_swap : (role : Role) (s o l g : ℕ) (word : WordName) (bits : ℕ) (next : ℕ → Plan) → ((value : ℕ) → Moves role s o l g (next value)) → Moves role s o l g (does (Swap word bits) next)
unfolding Moves
moves_swap role s o l g word bits next on = (tt, on)

moves_if : (role : Role) (s o l g : ℕ) (b : Bool) (x y : Plan) → Moves role s o l g x → Moves role s o l g y → Moves role s o l g (cond b x y)
moves_if role s o l g true x y one two = one
moves_if role s o l g false x y one two = two

-- a store of a word that is no index
moves_signal : (role : Role) (s o l g value : ℕ) (next : ℕ → Plan) → ((v : ℕ) → Moves role s o l g (next v)) → Moves role s o l g (does (Store (peer_pending role) value) next)
unfolding Moves
moves_signal Server s o l g value next on = (tt, on)
moves_signal Client s o l g value next on = (tt, on)

moves_live : (role : Role) (s o l g value : ℕ) (next : ℕ → Plan) → ((v : ℕ) → Moves role s o l g (next v)) → Moves role s o l g (does (Store (own_live role) value) next)
unfolding Moves
moves_live Server s o l g value next on = (tt, on)
moves_live Client s o l g value next on = (tt, on)

moves_gone : (role : Role) (s o l g value : ℕ) (next : ℕ → Plan) → ((v : ℕ) → Moves role s o l g (next v)) → Moves role s o l g (does (Store (own_gone role) value) next)
unfolding Moves
moves_gone Server s o l g value next on = (tt, on)
moves_gone Client s o l g value next on = (tt, on)

moves_prod : (role : Role) (s l g value : ℕ) (next : ℕ → Plan) → ((v : ℕ) → Moves role s s l g (next v)) → Moves role s 0 l g (does (Store (prod_word (written_ring role)) value) next)
unfolding Moves
moves_prod Server s l g value next on = (refl, on)
moves_prod Client s l g value next on = (refl, on)

moves_cons : (role : Role) (s o l value : ℕ) (next : ℕ → Plan) → ((v : ℕ) → Moves role s o l l (next v)) → Moves role s o l 0 (does (Store (cons_word (read_ring role)) value) next)
unfolding Moves
moves_cons Server s o l value next on = (refl, on)
moves_cons Client s o l value next on = (refl, on)

module _ (e : Standing) where
  moves_notify : (bit : Bit) (s o l g : ℕ) (next : Plan) → Moves e.role s o l g next → Moves e.role s o l g (notify e bit next)
  moves_notify bit s o l g next on = moves_and e.role s o l g _ _ _ (λ old. moves_if e.role s o l g _ next _ on (moves_signal e.role s o l g 1 _ (λ _. on)))

  moves_put_bytes : (i k s : ℕ) (next : Plan) → Moves e.role (s + k) 0 0 0 next → Moves e.role s 0 0 0 (put_bytes e i k next)
  unfolding Moves
  moves_put_bytes i zero s next on = subst (λ (n : ℕ). Moves e.role n 0 0 0 next) (add-zero s) on
  moves_put_bytes i (suc k) s next on = (tt, λ _. moves_put_bytes (i + 1) k (s + 1) next (subst (λ (n : ℕ). Moves e.role n 0 0 0 next) (omega arith) on))

  moves_take_bytes : (i k l : ℕ) (next : Plan) → Moves e.role 0 0 (l + k) 0 next → Moves e.role 0 0 l 0 (take_bytes e i k next)
  unfolding Moves
  moves_take_bytes i zero l next on = subst (λ (n : ℕ). Moves e.role 0 0 n 0 next) (add-zero l) on
  moves_take_bytes i (suc k) l next on = (tt, λ _. moves_take_bytes (i + 1) k (l + 1) next (subst (λ (n : ℕ). Moves e.role 0 0 n 0 next) (omega arith) on))

  moves_put : (k : ℕ) (answer : Answer) → bytes_out answer ≡ k → bytes_in answer ≡ 0 → Moves e.role 0 0 0 0 (put e k (answers answer))
  moves_put k answer out into =
      moves_put_bytes 0 k 0 _ (subst (λ (n : ℕ). Moves e.role n 0 0 0 (put_index e k (answers answer))) (sym (zero-add k))
      (moves_prod e.role k 0 0 _ _ (λ _. moves_notify Written k k 0 0 _ (moves_answers e.role k k 0 0 answer out into refl refl))))

  moves_take : (k : ℕ) (answer : Answer) → bytes_in answer ≡ k → bytes_out answer ≡ 0 → Moves e.role 0 0 0 0 (takes_out e k (answers answer))
  moves_take k answer into out =
      moves_take_bytes 0 k 0 _ (subst (λ (n : ℕ). Moves e.role 0 0 n 0 (take_index e k (answers answer))) (sym (zero-add k))
      (moves_cons e.role 0 0 k _ _ (λ _. moves_notify Consumed 0 0 k k _ (moves_answers e.role 0 0 k k answer out into refl refl))))

  nothing_moves : (answer : Answer) → bytes_out answer ≡ 0 → bytes_in answer ≡ 0 → Moves e.role 0 0 0 0 (answers answer)
  nothing_moves answer out into = moves_answers e.role 0 0 0 0 answer out into refl refl

  load : (word : WordName) (next : ℕ → Plan) → ((value : ℕ) → Moves e.role 0 0 0 0 (next value)) → Moves e.role 0 0 0 0 (does (Load word) next)
  load word next on = moves_load e.role 0 0 0 0 word next on

  asks_first : (bit : Bit) (next : Plan) → Moves e.role 0 0 0 0 next → Moves e.role 0 0 0 0 (ask e bit next)
  asks_first bit next on = moves_or e.role 0 0 0 0 _ _ _ (λ _. on)

  branch : (b : Bool) (x y : Plan) → Moves e.role 0 0 0 0 x → Moves e.role 0 0 0 0 y → Moves e.role 0 0 0 0 (cond b x y)
  branch b x y one two = moves_if e.role 0 0 0 0 b x y one two

  -- ---- the rows

  moves_write_looked : (n cons : ℕ) → Moves e.role 0 0 0 0 (write_looked e n cons)
  unfolding write_looked
  moves_write_looked n cons =
      branch (n == 0) _ _ (nothing_moves (Wrote 0) refl refl)
      (branch (free_at e cons == 0) _ _ (nothing_moves (Full e.prod cons) refl refl) (moves_put (min n (free_at e cons)) (Wrote (min n (free_at e cons))) refl refl))

  moves_write_open : (n : ℕ) → Moves e.role 0 0 0 0 (write_open e n)
  unfolding write_open
  moves_write_open n = load _ _ (λ v. branch (nat_lt (free_at e (low32 v)) n) _ _ (asks_first Consumed _ (load _ _ (λ w. moves_write_looked n (low32 w)))) (moves_write_looked n (low32 v)))

  moves_write : (n : ℕ) → Moves e.role 0 0 0 0 (write e n)
  unfolding write
  moves_write n = load _ _ (λ live. branch (low8 live == 0) _ _ (nothing_moves PeerClosed refl refl) (moves_write_open n))

  moves_send_looked : (n cons : ℕ) → Moves e.role 0 0 0 0 (send_looked e n cons)
  unfolding send_looked
  moves_send_looked n cons = branch (nat_lt (free_at e cons) n) _ _ (nothing_moves (NoRoom e.prod cons) refl refl) (moves_put n (Sent n) refl refl)

  moves_send_open : (n : ℕ) → Moves e.role 0 0 0 0 (send_open e n)
  unfolding send_open
  moves_send_open n = load _ _ (λ v. branch (nat_lt (free_at e (low32 v)) n) _ _ (asks_first Consumed _ (load _ _ (λ w. moves_send_looked n (low32 w)))) (moves_send_looked n (low32 v)))

  moves_send : (n : ℕ) → Moves e.role 0 0 0 0 (send e n)
  unfolding send
  moves_send n = load _ _ (λ live. branch (low8 live == 0) _ _ (nothing_moves PeerClosed refl refl) (moves_send_open n))

  moves_read_live : (prod : ℕ) → Moves e.role 0 0 0 0 (read_live e prod)
  unfolding read_live
  moves_read_live prod = load _ _ (λ live. branch (low8 live == 0) _ _ (nothing_moves PeerClosed refl refl) (nothing_moves (Empty prod e.cons) refl refl))

  moves_read_looked : (n prod : ℕ) → Moves e.role 0 0 0 0 (read_looked e n prod)
  unfolding read_looked
  moves_read_looked n prod = branch (ready_at e prod == 0) _ _ (moves_read_live prod) (moves_take (min n (ready_at e prod)) (Got (min n (ready_at e prod))) refl refl)

  moves_read : (n : ℕ) → Moves e.role 0 0 0 0 (read e n)
  unfolding read
  moves_read n = load _ _ (λ v. branch (nat_lt (ready_at e (low32 v)) n) _ _ (asks_first Written _ (load _ _ (λ w. moves_read_looked n (low32 w)))) (moves_read_looked n (low32 v)))

  moves_recv_live : (prod : ℕ) → Moves e.role 0 0 0 0 (recv_live e prod)
  unfolding recv_live
  moves_recv_live prod = load _ _ (λ live. branch (low8 live == 0) _ _ (nothing_moves PeerClosed refl refl) (nothing_moves (Short prod e.cons) refl refl))

  moves_recv_looked : (n prod : ℕ) → Moves e.role 0 0 0 0 (recv_looked e n prod)
  unfolding recv_looked
  moves_recv_looked n prod = branch (nat_lt (ready_at e prod) n) _ _ (moves_recv_live prod) (moves_take n (Got n) refl refl)

  moves_recv : (n : ℕ) → Moves e.role 0 0 0 0 (recv e n)
  unfolding recv
  moves_recv n = load _ _ (λ v. branch (nat_lt (ready_at e (low32 v)) n) _ _ (asks_first Written _ (load _ _ (λ w. moves_recv_looked n (low32 w)))) (moves_recv_looked n (low32 v)))

  moves_found : (n prod : ℕ) (next : Plan) → Moves e.role 0 0 0 0 next → Moves e.role 0 0 0 0 (drain_found e n prod next)
  moves_found n prod next on = branch (ready_at e prod == 0) _ _ on (moves_take (min n (ready_at e prod)) (Got (min n (ready_at e prod))) refl refl)

  moves_drain_gone : (n prod : ℕ) → Moves e.role 0 0 0 0 (drain_gone e n prod)
  unfolding drain_gone drain_last
  moves_drain_gone n prod = load _ _ (λ gone. branch (gone == 0) _ _ (nothing_moves (NotYet prod e.cons) refl refl) (load _ _ (λ v. moves_found n (low32 v) _ (nothing_moves (IsGone (low32 v) e.cons) refl refl))))

  moves_drain_further : (n prod : ℕ) → Moves e.role 0 0 0 0 (drain_further e n prod)
  unfolding drain_further
  moves_drain_further n prod = branch (prod == e.cons) _ _ (nothing_moves AllRead refl refl) (moves_found n prod _ (moves_drain_gone n prod))

  moves_drain_live : (n prod : ℕ) → Moves e.role 0 0 0 0 (drain_live e n prod)
  unfolding drain_live
  moves_drain_live n prod = load _ _ (λ live. branch (low8 live == 0) _ _ (load _ _ (λ v. moves_drain_further n (low32 v))) (moves_drain_gone n prod))

  moves_drain : (n : ℕ) → Moves e.role 0 0 0 0 (drain e n)
  unfolding drain drain_second
  moves_drain n = load _ _ (λ v. moves_found n (low32 v) _ (asks_first Written _ (load _ _ (λ w. moves_found n (low32 w) _ (moves_drain_live n (low32 w))))))

  moves_connected : Moves e.role 0 0 0 0 (does (Store CliLive 1) (λ _. answers Connected))
  unfolding Moves
  moves_connected = (tt, λ _. (refl, refl, refl, refl))

  moves_connect : Moves e.role 0 0 0 0 (connect e)
  unfolding connect connect_right
  moves_connect = load _ _ (λ v. load _ _ (λ w. branch _ _ _ moves_connected (nothing_moves (BadOrders _ _) refl refl)))

  moves_close : (next : Plan) → Moves e.role 0 0 0 0 next → Moves e.role 0 0 0 0 (close e next)
  moves_close next on = moves_live e.role 0 0 0 0 0 _ (λ _. moves_signal e.role 0 0 0 0 1 _ (λ _. on))

  moves_retire_shut : Moves e.role 0 0 0 0 (retire_shut e)
  moves_retire_shut = moves_gone e.role 0 0 0 0 1 _ (λ _. moves_signal e.role 0 0 0 0 1 _ (λ _. nothing_moves Done refl refl))

  moves_retire : (state : EndState) → Moves e.role 0 0 0 0 (retire e state)
  moves_retire Fresh = moves_close _ moves_retire_shut
  moves_retire Open = moves_close _ moves_retire_shut
  moves_retire Shut = moves_retire_shut

  pub moves_call : (call : Call) → Moves e.role 0 0 0 0 (plan_of e call)
  moves_call (Write n) = moves_write n
  moves_call (Send n) = moves_send n
  moves_call (Read n) = moves_read n
  moves_call (Recv n) = moves_recv n
  moves_call (Drain n) = moves_drain n
  moves_call DataReady = asks_first Written _ (load _ _ (λ v. nothing_moves (Ready _) refl refl))
  moves_call BufferSpace = asks_first Consumed _ (load _ _ (λ v. nothing_moves (Space _) refl refl))
  moves_call Connect = moves_connect
  moves_call Close = moves_close _ (nothing_moves Done refl refl)
  moves_call TakeEvent = moves_swap e.role 0 0 0 0 _ 0 _ (λ old. nothing_moves (Event _) refl refl)
  moves_call PeerGone = load _ _ (λ gone. nothing_moves (Gone _) refl refl)
  moves_call Retire = moves_retire e.state

-- ---- along the events of a call

count_stored_push : (events : List PastEvent) (op : Op) (taken : ℕ) → count_stored (events ++ past op taken ∷ []) ≡ stored_then op (count_stored events)
count_stored_push [] (StoreByte word at) taken = refl
count_stored_push [] (Load word) taken = refl
count_stored_push [] (LoadByte word at) taken = refl
count_stored_push [] (Store word value) taken = refl
count_stored_push [] (Or word bits) taken = refl
count_stored_push [] (And word bits) taken = refl
count_stored_push [] (Swap word value) taken = refl
count_stored_push [] Nothing taken = refl
count_stored_push (event ∷ events) op taken = ap (λ (n : ℕ). stored_by event.op + n) (count_stored_push events op taken) ∙ stored_on op (stored_by event.op) (count_stored events)
  where
    stored_on : (op : Op) (a b : ℕ) → a + stored_then op b ≡ stored_then op (a + b)
    stored_on (StoreByte word at) a b = omega arith
    stored_on (Load word) a b = refl
    stored_on (LoadByte word at) a b = refl
    stored_on (Store word value) a b = refl
    stored_on (Or word bits) a b = refl
    stored_on (And word bits) a b = refl
    stored_on (Swap word value) a b = refl
    stored_on Nothing a b = refl

loaded_push : (xs : List ℕ) (op : Op) (taken : ℕ) → length (xs ++ loaded_by op taken) ≡ loaded_then op (length xs)
loaded_push xs (LoadByte word at) taken = omega (arith, length-append xs (low8 taken ∷ []))
loaded_push xs (Load word) taken = ap (λ (z : List ℕ). length z) (append-nil xs)
loaded_push xs (Store word value) taken = ap (λ (z : List ℕ). length z) (append-nil xs)
loaded_push xs (StoreByte word at) taken = ap (λ (z : List ℕ). length z) (append-nil xs)
loaded_push xs (Or word bits) taken = ap (λ (z : List ℕ). length z) (append-nil xs)
loaded_push xs (And word bits) taken = ap (λ (z : List ℕ). length z) (append-nil xs)
loaded_push xs (Swap word value) taken = ap (λ (z : List ℕ). length z) (append-nil xs)
loaded_push xs Nothing taken = ap (λ (z : List ℕ). length z) (append-nil xs)

-- what an end has shown and released on the way of its call
record Shows (sent got : List ℕ) (s o l g : ℕ) (side : Side) : Type 0 where
  stored : count_stored side.trail ≡ s
  loaded : length (bytes_loaded side.trail) ≡ l
  within : g ≤ l
  sent_is : side.sent ≡ sent ++ take o side.payload
  got_is : side.got ≡ got ++ take g (bytes_loaded side.trail)

no_more : (xs ys : List ℕ) (n : ℕ) → n ≡ 0 → xs ++ take n ys ≡ xs
no_more xs ys n is = ap (λ (k : ℕ). xs ++ take k ys) is ∙ append-nil xs

sent_on : (word : WordName) (role : Role) (sent trail_sent payload : List ℕ) (trail : List PastEvent) (s o g : ℕ) → OnceStored word role o g → count_stored trail ≡ s → trail_sent ≡ sent ++ take o payload →
    sent_stored word role trail payload trail_sent ≡ sent ++ take (shown_stored word role s o) payload
sent_on LeftProd Client sent now payload trail s o g once stored is = (λ i. (is ∙ no_more sent payload o once) i ++ take (stored i) payload)
sent_on RightProd Server sent now payload trail s o g once stored is = (λ i. (is ∙ no_more sent payload o once) i ++ take (stored i) payload)
sent_on _ _ sent now payload trail s o g once stored is = is

got_on : (word : WordName) (role : Role) (got now : List ℕ) (trail : List PastEvent) (l o g : ℕ) → OnceStored word role o g → length (bytes_loaded trail) ≡ l → now ≡ got ++ take g (bytes_loaded trail) →
    got_stored word role trail now ≡ got ++ take (released_stored word role l g) (bytes_loaded trail)
got_on LeftCons Server got now trail l o g once loaded is = (λ i. (is ∙ no_more got (bytes_loaded trail) g once) i ++ sym (take_all l (bytes_loaded trail) (omega (arith, loaded))) i)
got_on RightCons Client got now trail l o g once loaded is = (λ i. (is ∙ no_more got (bytes_loaded trail) g once) i ++ sym (take_all l (bytes_loaded trail) (omega (arith, loaded))) i)
got_on _ _ got now trail l o g once loaded is = is

released_within : (word : WordName) (role : Role) (l g : ℕ) → g ≤ l → released_stored word role l g ≤ l
released_within LeftCons Server l g within = omega arith
released_within RightCons Client l g within = omega arith
released_within _ _ l g within = within

module _ (sent got : List ℕ) (s o l g : ℕ) (side : Side) (taken : ℕ) (h : Shows sent got s o l g side) where
  within_on : (op : Op) → released_then side.role op l g ≤ l
  within_on (Store word value) = released_within word side.role l g h.within
  within_on (Load word) = h.within
  within_on (LoadByte word at) = h.within
  within_on (StoreByte word at) = h.within
  within_on (Or word bits) = h.within
  within_on (And word bits) = h.within
  within_on (Swap word value) = h.within
  within_on Nothing = h.within

  more_loaded : (op : Op) → l ≤ loaded_then op l
  more_loaded (LoadByte word at) = omega arith
  more_loaded (Store word value) = omega arith
  more_loaded (Load word) = omega arith
  more_loaded (StoreByte word at) = omega arith
  more_loaded (Or word bits) = omega arith
  more_loaded (And word bits) = omega arith
  more_loaded (Swap word value) = omega arith
  more_loaded Nothing = omega arith

  sent_step : (op : Op) → Once side.role o g op → sent_after op side ≡ sent ++ take (shown_then side.role op s o) side.payload
  sent_step (Store word value) once = sent_on word side.role sent side.sent side.payload side.trail s o g once h.stored h.sent_is
  sent_step (Load word) once = h.sent_is
  sent_step (LoadByte word at) once = h.sent_is
  sent_step (StoreByte word at) once = h.sent_is
  sent_step (Or word bits) once = h.sent_is
  sent_step (And word bits) once = h.sent_is
  sent_step (Swap word value) once = h.sent_is
  sent_step Nothing once = h.sent_is

  got_step : (op : Op) → Once side.role o g op → got_after op side ≡ got ++ take (released_then side.role op l g) (bytes_loaded side.trail)
  got_step (Store word value) once = got_on word side.role got side.got side.trail l o g once h.loaded h.got_is
  got_step (Load word) once = h.got_is
  got_step (LoadByte word at) once = h.got_is
  got_step (StoreByte word at) once = h.got_is
  got_step (Or word bits) once = h.got_is
  got_step (And word bits) once = h.got_is
  got_step (Swap word value) once = h.got_is
  got_step Nothing once = h.got_is

  shows_on : (op : Op) → Once side.role o g op → Shows sent got (stored_then op s) (shown_then side.role op s o) (loaded_then op l) (released_then side.role op l g) (made side op taken)
  shows_on op once =
      let few : released_then side.role op l g ≤ length (bytes_loaded side.trail) = omega (arith, within_on op, h.loaded) in
      record {
        stored = count_stored_push side.trail op taken ∙ ap (λ (n : ℕ). stored_then op n) h.stored;
        loaded = ap (λ (z : List ℕ). length z) (bytes_loaded_push side.trail op taken) ∙ loaded_push (bytes_loaded side.trail) op taken ∙ ap (λ (n : ℕ). loaded_then op n) h.loaded;
        within = omega (arith, within_on op, more_loaded op);
        sent_is = sent_step op once;
        got_is = got_step op once ∙ ap (λ (z : List ℕ). got ++ z)
            (sym (take-append-le (released_then side.role op l g) (bytes_loaded side.trail) (loaded_by op taken) few) ∙ ap (λ (z : List ℕ). take (released_then side.role op l g) z) (sym (bytes_loaded_push side.trail op taken)));
      }

-- what holds of an end after the last event of its call
record Tells (sent got : List ℕ) (side : Side) (answer : Answer) : Type 0 where
  sent_is : side.sent ≡ sent ++ take (bytes_out answer) side.payload
  got_is : side.got ≡ got ++ bytes_loaded side.trail
  stored : count_stored side.trail ≡ bytes_out answer
  loaded : length (bytes_loaded side.trail) ≡ bytes_in answer

tells_last : (sent got : List ℕ) (s o l g : ℕ) (side : Side) (answer : Answer) → Shows sent got s o l g side → Moves side.role s o l g (answers answer) → Tells sent got side answer
unfolding Moves
tells_last sent got s o l g side answer h m = record {
  sent_is = h.sent_is ∙ ap (λ (n : ℕ). sent ++ take n side.payload) (sym m.0);
  got_is = h.got_is ∙ ap (λ (z : List ℕ). got ++ z) (take_all g (bytes_loaded side.trail) (omega (arith, h.loaded, m.2)));
  stored = h.stored ∙ m.3 ∙ sym m.0;
  loaded = h.loaded ∙ m.2 ∙ sym m.1;
}

moves_first : (role : Role) (s o l g : ℕ) (op : Op) (next : ℕ → Plan) → Moves role s o l g (does op next) → Once role o g op × ((value : ℕ) → Moves role (stored_then op s) (shown_then role op s o) (loaded_then op l) (released_then role op l g) (next value))
unfolding Moves
moves_first role s o l g op next m = m

tells_along : (sent got : List ℕ) (s o l g : ℕ) (side : Side) (plan : Plan) (events : List PastEvent) (answer : Answer) → Shows sent got s o l g side → Moves side.role s o l g plan → Leads plan events (answers answer) → Tells sent got (side_along side events) answer
tells_along sent got s o l g side plan [] answer h m led = tells_last sent got s o l g side answer h (subst (λ (p : Plan). Moves side.role s o l g p) led m)
tells_along sent got s o l g side (answers other) (event ∷ events) answer h m led = absurd led
tells_along sent got s o l g side (does op next) (event ∷ events) answer h m led =
    let first = moves_first side.role s o l g event.op next (subst (λ (x : Op). Moves side.role s o l g (does x next)) (sym led.0) m) in
    tells_along sent got (stored_then event.op s) (shown_then side.role event.op s o) (loaded_then event.op l) (released_then side.role event.op l g) (made side event.op event.taken) (next event.taken) events answer
    (shows_on sent got s o l g side event.taken h event.op first.0) (first.1 event.taken) led.1

pub along_trail : (s : Side) (events : List PastEvent) → (side_along s events).trail ≡ s.trail ++ events
along_trail s [] = sym (append-nil s.trail)
along_trail s (event ∷ events) = along_trail (made s event.op event.taken) events ∙ append_assoc s.trail (past event.op event.taken ∷ []) events

pub along_payload : (s : Side) (events : List PastEvent) → (side_along s events).payload ≡ s.payload
along_payload s [] = refl
along_payload s (event ∷ events) = along_payload (made s event.op event.taken) events

pub answers_tell : (was : Side) (call : Call) (payload : List ℕ) (events : List PastEvent) (answer : Answer) → Trace (standing_of was) call events answer → MovesAsAnswered was call payload events answer
answers_tell was call payload events answer trace =
    let began = begins was call payload in
    let t = tells_along was.sent was.got 0 0 0 0 began (plan_of (standing_of was) call) events answer
    (record { stored = refl; loaded = refl; within = omega arith; sent_is = sym (append-nil was.sent); got_is = sym (append-nil was.got) }) (moves_call (standing_of was) call) trace in
    let all = along_trail began events in
    let e = standing_of was in
    let most = counts_within e call events (answers answer) trace in
    let stored : count_stored events ≡ bytes_out answer = sym (ap (λ (z : List PastEvent). count_stored z) all) ∙ t.stored in
    let loaded : length (bytes_loaded events) ≡ bytes_in answer = sym (ap (λ (z : List PastEvent). length (bytes_loaded z)) all) ∙ t.loaded in
    record {
      sent = t.sent_is ∙ ap (λ (z : List ℕ). was.sent ++ take (bytes_out answer) z) (along_payload began events);
      got = t.got_is ∙ ap (λ (z : List PastEvent). was.got ++ bytes_loaded z) all;
      stored = stored;
      loaded = loaded;
      pays = omega (arith, stored, most.0, stored_most_payload e call);
      takes = omega (arith, loaded, most.1);
    }
