-- What each event of a call is to the signals: which word it is on, and what follows it.
use Rattle.std.proofs.Common.{◌≡◌, ◌≢◌, ℕ, suc, zero, ◌+◌, ◌==◌, min, nat_lt, Bool, true, false, cond, List, [], ◌∷◌, refl, ap, bit_and}
use Rattle.std.proofs.lemmas.Bool.{ne_eqb}
use Rattle.ring_words.specs.declared.page.Role.{Role}
use Rattle.ring_words.specs.declared.page.Ring.{Ring}
use Rattle.ring_words.specs.declared.page.WordName.{WordName}
use Rattle.ring_words.specs.declared.page.WordName.TheVariants.{CliLive, RingByte}
use Rattle.vchan_protocol.specs.declared.op.Op.{Op}
use Rattle.vchan_protocol.specs.declared.op.Op.TheVariants.{Load, LoadByte, Store, StoreByte, Or, Swap}
use Rattle.vchan_protocol.specs.declared.op.PastEvent.{PastEvent}
use Rattle.vchan_protocol.specs.declared.call.Answer.{Answer}
use Rattle.vchan_protocol.specs.declared.call.Answer.TheVariants.{Wrote, Full, NoRoom, Sent, Got, AllRead, Ready, Space, PeerGone as IsGone}
use Rattle.vchan_protocol.specs.declared.call.Bit.{Bit}
use Rattle.vchan_protocol.specs.declared.call.Bit.TheVariants.{Written, Consumed}
use Rattle.vchan_protocol.specs.declared.call.Call.{Call}
use Rattle.vchan_protocol.specs.declared.call.Call.TheVariants.{Write, Send, Read, Recv, Drain, DataReady, BufferSpace, Connect, Close, TakeEvent, Retire, PeerGone}
use Rattle.vchan_protocol.specs.declared.call.EndState.{EndState}
use Rattle.vchan_protocol.specs.declared.call.EndState.TheVariants.{Fresh, Open, Shut}
use Rattle.vchan_protocol.specs.Table.Plan.{Plan, does, answers, next_op, rest_after}
use Rattle.vchan_protocol.specs.Table.Ends.{Standing, ask_word, own_live, own_pending, own_gone, mask, free_at, ready_at}
use Rattle.vchan_protocol.specs.Table.Calls.{put_bytes, take_bytes, put, take, notify, signal, ask, look_read, look_write, write, write_open, write_looked, read, read_live, read_looked, drain_found, drain_last, drain_gone, drain_further, drain_live, drain_second, drain, connect, connect_right, close, retire, retire_shut, plan_of, send, send_open, send_looked, recv, recv_live, recv_looked}
use Rattle.vchan_protocol.specs.Signals.SignalLaw.{own_index, test_of, signal_of}

-- an event of an end in this role, and the way on from it
pub data Deed (role : Role) (op : Op) (next : ℕ → Plan) : Type 0 where
  loads : (word : WordName) → op ≡ Load word → Deed role op next
  loads_byte : (word : WordName) (at : ℕ) → op ≡ LoadByte word at → Deed role op next
  stores_byte : (ring : Ring) (at i : ℕ) → op ≡ StoreByte (RingByte ring at) i → Deed role op next
  asks : (bit : Bit) → op ≡ Or (ask_word role) (mask bit) → Deed role op next
  takes_event : op ≡ Swap (own_pending role) 0 → Deed role op next
  -- if the peer had asked, the signal follows
  tests : (bit : Bit) → op ≡ test_of role bit → ((old : ℕ) → bit_and old (mask bit) ≢ 0 → next_op (next old) ≡ signal_of role) → Deed role op next
  -- the test follows the store of an index, and the signal that of the live byte, and that of the gone word
  stores_index : (bit : Bit) (index : ℕ) → op ≡ Store (own_index role bit) index → ((old : ℕ) → next_op (next old) ≡ test_of role bit) → Deed role op next
  closes : op ≡ Store (own_live role) 0 → ((old : ℕ) → next_op (next old) ≡ signal_of role) → Deed role op next
  signals : op ≡ signal_of role → Deed role op next
  connects : op ≡ Store CliLive 1 → Deed role op next
  retires : op ≡ Store (own_gone role) 1 → ((old : ℕ) → next_op (next old) ≡ signal_of role) → Deed role op next

-- each event of a plan is such a deed
unfoldable pub Notifies : Role → Plan → Type 0
Notifies role (answers answer) = Unit {0}
Notifies role (does op next) = Deed role op next × ((value : ℕ) → Notifies role (next value))

-- ---- the pieces

module _ (role : Role) where
  pub notifies_answers : (answer : Answer) → Notifies role (answers answer)
  unfolding Notifies
  notifies_answers answer = tt

  notifies_does : (op : Op) (next : ℕ → Plan) → Deed role op next → ((value : ℕ) → Notifies role (next value)) → Notifies role (does op next)
  unfolding Notifies
  notifies_does op next deed w = (deed, w)

  notifies_if : (b : Bool) (p q : Plan) → Notifies role p → Notifies role q → Notifies role (cond b p q)
  notifies_if true p q first second = first
  notifies_if false p q first second = second

  notifies_load : (word : WordName) (next : ℕ → Plan) → ((value : ℕ) → Notifies role (next value)) → Notifies role (does (Load word) next)
  notifies_load word next w = notifies_does (Load word) next (loads word refl) w

  notifies_connect : (next : ℕ → Plan) → ((value : ℕ) → Notifies role (next value)) → Notifies role (does (Store CliLive 1) next)
  notifies_connect next w = notifies_does (Store CliLive 1) next (connects refl) w

module _ (e : Standing) where
  notifies_look_read : (next : ℕ → Plan) → ((index : ℕ) → Notifies e.role (next index)) → Notifies e.role (look_read e next)
  notifies_look_read next w = notifies_load e.role _ _ (λ value. w _)

  notifies_look_write : (next : ℕ → Plan) → ((index : ℕ) → Notifies e.role (next index)) → Notifies e.role (look_write e next)
  notifies_look_write next w = notifies_load e.role _ _ (λ value. w _)

  notifies_ask : (bit : Bit) (next : Plan) → Notifies e.role next → Notifies e.role (ask e bit next)
  notifies_ask bit next w = notifies_does e.role _ _ (asks bit refl) (λ value. w)

  notifies_signal : (next : Plan) → Notifies e.role next → Notifies e.role (signal e next)
  notifies_signal next w = notifies_does e.role _ _ (signals refl) (λ value. w)

  -- a bit that was set is answered by the signal
  test_told : (bit : Bit) (next : Plan) (old : ℕ) → bit_and old (mask bit) ≢ 0 → next_op (cond (bit_and old (mask bit) == 0) next (signal e next)) ≡ signal_of e.role
  test_told bit next old set = ap (λ (b : Bool). next_op (cond b next (signal e next))) (ne_eqb (bit_and old (mask bit)) 0 set)

  notifies_notify : (bit : Bit) (next : Plan) → Notifies e.role next → Notifies e.role (notify e bit next)
  notifies_notify bit next w =
      notifies_does e.role _ _ (tests bit refl (test_told bit next)) (λ old. notifies_if e.role (bit_and old (mask bit) == 0) next (signal e next) w (notifies_signal next w))

  notifies_put_bytes : (k i : ℕ) (next : Plan) → Notifies e.role next → Notifies e.role (put_bytes e i k next)
  notifies_put_bytes zero i next w = w
  notifies_put_bytes (suc k) i next w = notifies_does e.role _ _ (stores_byte _ _ _ refl) (λ value. notifies_put_bytes k (i + 1) next w)

  notifies_take_bytes : (k i : ℕ) (next : Plan) → Notifies e.role next → Notifies e.role (take_bytes e i k next)
  notifies_take_bytes zero i next w = w
  notifies_take_bytes (suc k) i next w = notifies_does e.role _ _ (loads_byte _ _ refl) (λ value. notifies_take_bytes k (i + 1) next w)

  notifies_put : (k : ℕ) (answer : Answer) → Notifies e.role (put e k (answers answer))
  notifies_put k answer =
      notifies_put_bytes k 0 _ (notifies_does e.role _ _ (stores_index Written _ refl (λ old. refl)) (λ value. notifies_notify Written _ (notifies_answers e.role answer)))

  notifies_take : (k : ℕ) (answer : Answer) → Notifies e.role (take e k (answers answer))
  notifies_take k answer =
      notifies_take_bytes k 0 _ (notifies_does e.role _ _ (stores_index Consumed _ refl (λ old. refl)) (λ value. notifies_notify Consumed _ (notifies_answers e.role answer)))

-- ---- the rows

module _ (e : Standing) (n : ℕ) where
  notifies_write_looked : (cons : ℕ) → Notifies e.role (write_looked e n cons)
  unfolding write_looked
  notifies_write_looked cons =
      notifies_if e.role (n == 0) _ _ (notifies_answers e.role (Wrote 0))
      (notifies_if e.role (free_at e cons == 0) _ _ (notifies_answers e.role (Full e.prod cons)) (notifies_put e (min n (free_at e cons)) (Wrote (min n (free_at e cons)))))

  notifies_write : Notifies e.role (write e n)
  unfolding write write_open
  notifies_write =
      notifies_load e.role _ _ (λ live. notifies_if e.role _ _ _ (notifies_answers e.role _)
      (notifies_look_write e _ (λ cons. notifies_if e.role (nat_lt (free_at e cons) n) _ _
      (notifies_ask e Consumed _ (notifies_look_write e _ notifies_write_looked)) (notifies_write_looked cons))))

  notifies_send_looked : (cons : ℕ) → Notifies e.role (send_looked e n cons)
  unfolding send_looked
  notifies_send_looked cons = notifies_if e.role (nat_lt (free_at e cons) n) _ _ (notifies_answers e.role (NoRoom e.prod cons)) (notifies_put e n (Sent n))

  notifies_send : Notifies e.role (send e n)
  unfolding send send_open
  notifies_send =
      notifies_load e.role _ _ (λ live. notifies_if e.role _ _ _ (notifies_answers e.role _)
      (notifies_look_write e _ (λ cons. notifies_if e.role (nat_lt (free_at e cons) n) _ _
      (notifies_ask e Consumed _ (notifies_look_write e _ notifies_send_looked)) (notifies_send_looked cons))))

  notifies_read_looked : (prod : ℕ) → Notifies e.role (read_looked e n prod)
  unfolding read_looked read_live
  notifies_read_looked prod =
      notifies_if e.role (ready_at e prod == 0) _ _ (notifies_load e.role _ _ (λ live. notifies_if e.role _ _ _ (notifies_answers e.role _) (notifies_answers e.role _)))
      (notifies_take e (min n (ready_at e prod)) (Got (min n (ready_at e prod))))

  notifies_read : Notifies e.role (read e n)
  unfolding read
  notifies_read =
      notifies_look_read e _ (λ prod. notifies_if e.role (nat_lt (ready_at e prod) n) _ _
      (notifies_ask e Written _ (notifies_look_read e _ notifies_read_looked)) (notifies_read_looked prod))

  notifies_recv_looked : (prod : ℕ) → Notifies e.role (recv_looked e n prod)
  unfolding recv_looked recv_live
  notifies_recv_looked prod =
      notifies_if e.role (nat_lt (ready_at e prod) n) _ _ (notifies_load e.role _ _ (λ live. notifies_if e.role _ _ _ (notifies_answers e.role _) (notifies_answers e.role _)))
      (notifies_take e n (Got n))

  notifies_recv : Notifies e.role (recv e n)
  unfolding recv
  notifies_recv =
      notifies_look_read e _ (λ prod. notifies_if e.role (nat_lt (ready_at e prod) n) _ _
      (notifies_ask e Written _ (notifies_look_read e _ notifies_recv_looked)) (notifies_recv_looked prod))

  notifies_found : (prod : ℕ) (next : Plan) → Notifies e.role next → Notifies e.role (drain_found e n prod next)
  notifies_found prod next w = notifies_if e.role (ready_at e prod == 0) _ _ w (notifies_take e (min n (ready_at e prod)) (Got (min n (ready_at e prod))))

  notifies_drain_gone : (prod : ℕ) → Notifies e.role (drain_gone e n prod)
  unfolding drain_gone drain_last
  notifies_drain_gone prod =
      notifies_load e.role _ _ (λ gone. notifies_if e.role _ _ _ (notifies_answers e.role _)
      (notifies_look_read e _ (λ again. notifies_found again _ (notifies_answers e.role (IsGone again e.cons)))))

  notifies_drain_live : (prod : ℕ) → Notifies e.role (drain_live e n prod)
  unfolding drain_live drain_further
  notifies_drain_live prod =
      notifies_load e.role _ _ (λ live. notifies_if e.role _ _ _
      (notifies_look_read e _ (λ again. notifies_if e.role (again == e.cons) _ _ (notifies_answers e.role AllRead) (notifies_found again _ (notifies_drain_gone again))))
      (notifies_drain_gone prod))

  notifies_drain : Notifies e.role (drain e n)
  unfolding drain drain_second
  notifies_drain =
      notifies_look_read e _ (λ prod. notifies_found prod _ (notifies_ask e Written _
      (notifies_look_read e _ (λ again. notifies_found again _ (notifies_drain_live again)))))

module _ (e : Standing) where
  notifies_close : (next : Plan) → Notifies e.role next → Notifies e.role (close e next)
  notifies_close next w = notifies_does e.role _ _ (closes refl (λ old. refl)) (λ value. notifies_signal e next w)

  notifies_retire_shut : Notifies e.role (retire_shut e)
  notifies_retire_shut = notifies_does e.role _ _ (retires refl (λ old. refl)) (λ value. notifies_signal e _ (notifies_answers e.role _))

  notifies_retire : (state : EndState) → Notifies e.role (retire e state)
  notifies_retire Fresh = notifies_close _ notifies_retire_shut
  notifies_retire Open = notifies_close _ notifies_retire_shut
  notifies_retire Shut = notifies_retire_shut

  notifies_connect_call : Notifies e.role (connect e)
  unfolding connect connect_right
  notifies_connect_call =
      notifies_load e.role _ _ (λ left. notifies_load e.role _ _ (λ right. notifies_if e.role _ _ _
      (notifies_connect e.role _ (λ value. notifies_answers e.role _)) (notifies_answers e.role _)))

  -- each call
  pub notifies_call : (call : Call) → Notifies e.role (plan_of e call)
  notifies_call (Write n) = notifies_write e n
  notifies_call (Send n) = notifies_send e n
  notifies_call (Read n) = notifies_read e n
  notifies_call (Recv n) = notifies_recv e n
  notifies_call (Drain n) = notifies_drain e n
  notifies_call DataReady = notifies_ask e Written _ (notifies_look_read e _ (λ prod. notifies_answers e.role (Ready (ready_at e prod))))
  notifies_call BufferSpace = notifies_ask e Consumed _ (notifies_look_write e _ (λ cons. notifies_answers e.role (Space (free_at e cons))))
  notifies_call Connect = notifies_connect_call
  notifies_call Close = notifies_close _ (notifies_answers e.role _)
  notifies_call TakeEvent = notifies_does e.role _ _ (takes_event refl) (λ old. notifies_answers e.role _)
  notifies_call PeerGone = notifies_load e.role _ _ (λ gone. notifies_answers e.role _)
  notifies_call Retire = notifies_retire e.state

-- ---- along a trail

-- what is left of such a plan is such a plan
pub Notifies_left : (role : Role) (plan : Plan) (events : List PastEvent) → Notifies role plan → Notifies role (rest_after plan events)
unfolding Notifies
Notifies_left role plan [] w = w
Notifies_left role (answers answer) (event ∷ events) w = tt
Notifies_left role (does op next) (event ∷ events) w = Notifies_left role (next event.taken) events (w.1 event.taken)

-- the next event of such a plan is such a deed
pub deed_of : (role : Role) (op : Op) (next : ℕ → Plan) → Notifies role (does op next) → Deed role op next
unfolding Notifies
deed_of role op next w = w.0
