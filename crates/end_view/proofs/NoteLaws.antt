-- What an end has noted after a whole call: its state, whether it has seen its peer's end, and whether it is retired. Each row is walked once.
use Rattle.std.proofs.Common.{◌≡◌, ℕ, suc, zero, ◌+◌, ◌==◌, min, nat_lt, Bool, true, false, not, ◌&&◌, ◌||◌, cond, List, [], ◌∷◌, refl, subst, sym, ap, ◌∙◌}
use Rattle.std.proofs.Math.Bool.{or-false}
use Rattle.ring_words.specs.declared.page.Role.{Role}
use Rattle.ring_words.specs.declared.page.Role.TheVariants.{Server, Client}
use Rattle.ring_words.specs.declared.page.WordName.{WordName}
use Rattle.ring_words.specs.declared.page.WordName.TheVariants.{CliLive, LeftOrder, RightOrder}
use Rattle.vchan_protocol.specs.declared.op.Op.{Op}
use Rattle.vchan_protocol.specs.declared.op.Op.TheVariants.{Load, LoadByte, Store, StoreByte, Or, And, Swap, Nothing}
use Rattle.vchan_protocol.specs.declared.op.PastEvent.{PastEvent}
use Rattle.vchan_protocol.specs.declared.call.Answer.{Answer}
use Rattle.vchan_protocol.specs.declared.call.Answer.TheVariants.{Wrote, Full, NoRoom, Sent, Got, Empty, Short, PeerClosed, NotYet, AllRead, Ready, Space, Connected, BadOrders, Done, Event, Gone, PeerGone as IsGone}
use Rattle.vchan_protocol.specs.declared.call.Bit.{Bit}
use Rattle.vchan_protocol.specs.declared.call.Bit.TheVariants.{Written, Consumed}
use Rattle.vchan_protocol.specs.declared.call.Call.{Call}
use Rattle.vchan_protocol.specs.declared.call.Call.TheVariants.{Write, Send, Read, Recv, Drain, DataReady, BufferSpace, Connect, Close, TakeEvent, Retire, PeerGone}
use Rattle.vchan_protocol.specs.declared.call.EndState.{EndState}
use Rattle.vchan_protocol.specs.declared.call.EndState.TheVariants.{Fresh, Open, Shut}
use Rattle.vchan_protocol.specs.declared.side.Side.{Side}
use Rattle.vchan_protocol.specs.Table.Plan.{Plan, does, answers, Leads}
use Rattle.vchan_protocol.specs.Table.Ends.{Standing, written_ring, read_ring, prod_word, cons_word, peer_live, own_live, own_gone, peer_gone, peer_pending, state_after, free_at, ready_at, low8, low16, low32}
use Rattle.vchan_protocol.specs.Table.Calls.{Trace, put_bytes, take_bytes, put, take, notify, ask, write, write_open, write_looked, read, read_live, read_looked, drain_found, drain_last, drain_gone, drain_further, drain_live, drain_second, drain, connect, connect_right, close, retire, retire_shut, plan_of, send, send_open, send_looked, recv, recv_live, recv_looked, IsAllowed}
use Rattle.vchan_protocol.specs.History.Core.{standing_of, begins, is_shut, sees_end, sets_gone, saw_after, made}
use Rattle.vchan_protocol.specs.OneEnd.OneCall.{side_along}
use Rattle.end_view.specs.AfterCall.{state_told, retires, SeesAsTold}

-- ---- along the events

-- whether an end in this state has seen its peer's end after an event
abbrev saw_then : Op → Role → EndState → Bool → ℕ → Bool
saw_then (Load word) role state saw taken = saw || (not (is_shut state) && sees_end word role taken)
saw_then _ role state saw taken = saw

-- what is to hold of the state, of whether the end has seen its peer's end, of whether it is retired, and of the answer
abbrev pub Noted : Type 1
Noted = EndState → Bool → Bool → Answer → Type 0

-- whatever the values are, it holds at the answer
unfoldable Notes : Role → Noted → EndState → Bool → Bool → Plan → Type 0
Notes role P state saw retired (answers answer) = P state saw retired answer
Notes role P state saw retired (does op next) = (value : ℕ) → Notes role P (state_after op role state) (saw_then op role state saw value) (sets_gone op role || retired) (next value)

saw_is : (s : Side) (op : Op) (taken : ℕ) → saw_after op taken s ≡ saw_then op s.role s.state s.saw taken
saw_is s (Load word) taken = refl
saw_is s (LoadByte word at) taken = refl
saw_is s (Store word value) taken = refl
saw_is s (StoreByte word at) taken = refl
saw_is s (Or word bits) taken = refl
saw_is s (And word bits) taken = refl
saw_is s (Swap word value) taken = refl
saw_is s Nothing taken = refl

notes_last : (role : Role) (P : Noted) (state : EndState) (saw retired : Bool) (answer : Answer) → Notes role P state saw retired (answers answer) → P state saw retired answer
unfolding Notes
notes_last role P state saw retired answer h = h

notes_next : (role : Role) (P : Noted) (state : EndState) (saw retired : Bool) (op : Op) (next : ℕ → Plan) → Notes role P state saw retired (does op next) →
    (value : ℕ) → Notes role P (state_after op role state) (saw_then op role state saw value) (sets_gone op role || retired) (next value)
unfolding Notes
notes_next role P state saw retired op next h = h

notes_along : (P : Noted) (side : Side) (plan : Plan) (events : List PastEvent) (answer : Answer) → Notes side.role P side.state side.saw side.retired plan → Leads plan events (answers answer) →
    P (side_along side events).state (side_along side events).saw (side_along side events).retired answer
notes_along P side plan [] answer h led = notes_last side.role P side.state side.saw side.retired answer (subst (λ (p : Plan). Notes side.role P side.state side.saw side.retired p) led h)
notes_along P side (answers other) (event ∷ events) answer h led = absurd led
notes_along P side (does op next) (event ∷ events) answer h led =
    let on = notes_next side.role P side.state side.saw side.retired event.op next (subst (λ (x : Op). Notes side.role P side.state side.saw side.retired (does x next)) (sym led.0) h) event.taken in
    notes_along P (made side event.op event.taken) (next event.taken) events answer
    (subst (λ (b : Bool). Notes side.role P (state_after event.op side.role side.state) b (sets_gone event.op side.role || side.retired) (next event.taken)) (sym (saw_is side event.op event.taken)) on) led.1

-- ---- the pieces

not_seen : (saw here : Bool) → (saw || (here && false)) ≡ saw
not_seen true here = refl
not_seen false true = refl
not_seen false false = refl

module _ (P : Noted) where
  n_answers : (role : Role) (state : EndState) (saw retired : Bool) (answer : Answer) → P state saw retired answer → Notes role P state saw retired (answers answer)
  unfolding Notes
  n_answers role state saw retired answer h = h

  n_if : (role : Role) (state : EndState) (saw retired b : Bool) (x y : Plan) → Notes role P state saw retired x → Notes role P state saw retired y → Notes role P state saw retired (cond b x y)
  n_if role state saw retired true x y one two = one
  n_if role state saw retired false x y one two = two

  -- a load that can't show the peer's end
  n_load : (role : Role) (state : EndState) (saw retired : Bool) (word : WordName) (next : ℕ → Plan) → ((value : ℕ) → sees_end word role value ≡ false) → ((value : ℕ) → Notes role P state saw retired (next value)) →
      Notes role P state saw retired (does (Load word) next)
  unfolding Notes
  n_load role state saw retired word next blind on value =
      subst (λ (b : Bool). Notes role P state b retired (next value)) (sym (ap (λ (b : Bool). saw || (not (is_shut state) && b)) (blind value) ∙ not_seen saw (not (is_shut state)))) (on value)

  -- the loads of the two indices
  n_look_read : (role : Role) (state : EndState) (saw retired : Bool) (next : ℕ → Plan) → ((value : ℕ) → Notes role P state saw retired (next value)) → Notes role P state saw retired (does (Load (prod_word (read_ring role))) next)
  n_look_read Server state saw retired next on = n_load Server state saw retired _ next (λ v. refl) on
  n_look_read Client state saw retired next on = n_load Client state saw retired _ next (λ v. refl) on

  n_look_write : (role : Role) (state : EndState) (saw retired : Bool) (next : ℕ → Plan) → ((value : ℕ) → Notes role P state saw retired (next value)) → Notes role P state saw retired (does (Load (cons_word (written_ring role))) next)
  n_look_write Server state saw retired next on = n_load Server state saw retired _ next (λ v. refl) on
  n_look_write Client state saw retired next on = n_load Client state saw retired _ next (λ v. refl) on

  -- an or, an and, a swap
  n_or : (role : Role) (state : EndState) (saw retired : Bool) (word : WordName) (bits : ℕ) (next : ℕ → Plan) → ((value : ℕ) → Notes role P state saw retired (next value)) → Notes role P state saw retired (does (Or word bits) next)
  unfolding Notes
  n_or role state saw retired word bits next on = on

  n_and : (role : Role) (state : EndState) (saw retired : Bool) (word : WordName) (bits : ℕ) (next : ℕ → Plan) → ((value : ℕ) → Notes role P state saw retired (next value)) → Notes role P state saw retired (does (And word bits) next)
  unfolding Notes
  n_and role state saw retired word bits next on = on

  n_swap : (role : Role) (state : EndState) (saw retired : Bool) (word : WordName) (bits : ℕ) (next : ℕ → Plan) → ((value : ℕ) → Notes role P state saw retired (next value)) → Notes role P state saw retired (does (Swap word bits) next)
  unfolding Notes
  n_swap role state saw retired word bits next on = on

  -- the stores
  n_signal : (role : Role) (state : EndState) (saw retired : Bool) (value : ℕ) (next : ℕ → Plan) → ((v : ℕ) → Notes role P state saw retired (next v)) → Notes role P state saw retired (does (Store (peer_pending role) value) next)
  unfolding Notes
  n_signal Server state saw retired value next on = on
  n_signal Client state saw retired value next on = on

  n_shows : (role : Role) (state : EndState) (saw retired : Bool) (value : ℕ) (next : ℕ → Plan) → ((v : ℕ) → Notes role P state saw retired (next v)) → Notes role P state saw retired (does (Store (prod_word (written_ring role)) value) next)
  unfolding Notes
  n_shows Server state saw retired value next on = on
  n_shows Client state saw retired value next on = on

  n_gives : (role : Role) (state : EndState) (saw retired : Bool) (value : ℕ) (next : ℕ → Plan) → ((v : ℕ) → Notes role P state saw retired (next v)) → Notes role P state saw retired (does (Store (cons_word (read_ring role)) value) next)
  unfolding Notes
  n_gives Server state saw retired value next on = on
  n_gives Client state saw retired value next on = on

  n_shuts : (role : Role) (state : EndState) (saw retired : Bool) (next : ℕ → Plan) → ((v : ℕ) → Notes role P Shut saw retired (next v)) → Notes role P state saw retired (does (Store (own_live role) 0) next)
  unfolding Notes
  n_shuts Server state saw retired next on = on
  n_shuts Client state saw retired next on = on

  n_goes : (role : Role) (state : EndState) (saw retired : Bool) (next : ℕ → Plan) → ((v : ℕ) → Notes role P state saw true (next v)) → Notes role P state saw retired (does (Store (own_gone role) 1) next)
  unfolding Notes
  n_goes Server state saw retired next on = on
  n_goes Client state saw retired next on = on

  n_opens : (state : EndState) (saw retired : Bool) (next : ℕ → Plan) → ((v : ℕ) → Notes Client P Open saw retired (next v)) → Notes Client P state saw retired (does (Store CliLive 1) next)
  unfolding Notes
  n_opens state saw retired next on = on

  -- the loads that may show an open end its peer's end
  n_live : (role : Role) (saw retired : Bool) (next : ℕ → Plan) → ((value : ℕ) → Notes role P Open (saw || (low8 value == 0)) retired (next value)) → Notes role P Open saw retired (does (Load (peer_live role)) next)
  unfolding Notes
  n_live Server saw retired next on = on
  n_live Client saw retired next on = on

  n_gone : (role : Role) (saw retired : Bool) (next : ℕ → Plan) → ((value : ℕ) → Notes role P Open (saw || not (value == 0)) retired (next value)) → Notes role P Open saw retired (does (Load (peer_gone role)) next)
  unfolding Notes
  n_gone Server saw retired next on = on
  n_gone Client saw retired next on = on

  -- the call goes on by what they show
  n_if_shut : (role : Role) (saw retired b : Bool) (closed going : Plan) → Notes role P Open (saw || true) retired closed → Notes role P Open saw retired going → Notes role P Open (saw || b) retired (cond b closed going)
  n_if_shut role saw retired true closed going one two = one
  n_if_shut role saw retired false closed going one two = subst (λ (b : Bool). Notes role P Open b retired going) (sym (or-false saw)) two

  n_if_here : (role : Role) (saw retired b : Bool) (here away : Plan) → Notes role P Open saw retired here → Notes role P Open (saw || true) retired away → Notes role P Open (saw || not b) retired (cond b here away)
  n_if_here role saw retired true here away one two = subst (λ (b : Bool). Notes role P Open b retired here) (sym (or-false saw)) one
  n_if_here role saw retired false here away one two = two

  module _ (e : Standing) (state : EndState) (saw retired : Bool) where
    n_notify : (bit : Bit) (next : Plan) → Notes e.role P state saw retired next → Notes e.role P state saw retired (notify e bit next)
    n_notify bit next on = n_and e.role state saw retired _ _ _ (λ old. n_if e.role state saw retired _ next _ on (n_signal e.role state saw retired 1 _ (λ _. on)))

    n_put_bytes : (i k : ℕ) (next : Plan) → Notes e.role P state saw retired next → Notes e.role P state saw retired (put_bytes e i k next)
    unfolding Notes
    n_put_bytes i zero next on = on
    n_put_bytes i (suc k) next on = λ _. n_put_bytes (i + 1) k next on

    n_take_bytes : (i k : ℕ) (next : Plan) → Notes e.role P state saw retired next → Notes e.role P state saw retired (take_bytes e i k next)
    unfolding Notes
    n_take_bytes i zero next on = on
    n_take_bytes i (suc k) next on = λ _. n_take_bytes (i + 1) k next on

    n_put : (k : ℕ) (answer : Answer) → P state saw retired answer → Notes e.role P state saw retired (put e k (answers answer))
    n_put k answer h = n_put_bytes 0 k _ (n_shows e.role state saw retired _ _ (λ _. n_notify Written _ (n_answers e.role state saw retired answer h)))

    n_take : (k : ℕ) (answer : Answer) → P state saw retired answer → Notes e.role P state saw retired (take e k (answers answer))
    n_take k answer h = n_take_bytes 0 k _ (n_gives e.role state saw retired _ _ (λ _. n_notify Consumed _ (n_answers e.role state saw retired answer h)))

    n_ask : (bit : Bit) (next : Plan) → Notes e.role P state saw retired next → Notes e.role P state saw retired (ask e bit next)
    n_ask bit next on = n_or e.role state saw retired _ _ _ (λ _. on)

    n_close : (next : Plan) → Notes e.role P Shut saw retired next → Notes e.role P state saw retired (close e next)
    n_close next on = n_shuts e.role state saw retired _ (λ _. n_signal e.role Shut saw retired 1 _ (λ _. on))

    n_retire_shut : P state saw true Done → Notes e.role P state saw retired (retire_shut e)
    n_retire_shut h = n_goes e.role state saw retired _ (λ _. n_signal e.role state saw true 1 _ (λ _. n_answers e.role state saw true Done h))

-- ---- the rows

-- what is noted after a call
abbrev pub Told : EndState → Bool → Bool → Call → Noted
Told state saw retired call state' saw' retired' answer = (state' ≡ state_told call answer state) × SeesAsTold call answer saw saw' × (retired' ≡ (retired || retires call))

module _ (e : Standing) (saw retired : Bool) where
  abbrev Rows : Call → Bool → Plan → Type 0
  Rows call now plan = Notes e.role (Told Open saw retired call) Open now retired plan

  same : retired ≡ (retired || false)
  same = sym (or-false retired)

  unseen : saw ≡ (saw || false)
  unseen = sym (or-false saw)

  -- ---- a write and a send

  r_write_looked : (n cons : ℕ) → Rows (Write n) saw (write_looked e n cons)
  unfolding write_looked
  r_write_looked n cons =
      let P = Told Open saw retired (Write n) in
      n_if P e.role Open saw retired (n == 0) _ _ (n_answers P e.role Open saw retired (Wrote 0) (refl, unseen, same))
      (n_if P e.role Open saw retired (free_at e cons == 0) _ _ (n_answers P e.role Open saw retired (Full e.prod cons) (refl, unseen, same)) (n_put P e Open saw retired (min n (free_at e cons)) (Wrote (min n (free_at e cons))) (refl, unseen, same)))

  r_write_open : (n : ℕ) → Rows (Write n) saw (write_open e n)
  unfolding write_open
  r_write_open n =
      let P = Told Open saw retired (Write n) in
      n_look_write P e.role Open saw retired _ (λ v. n_if P e.role Open saw retired (nat_lt (free_at e (low32 v)) n) _ _ (n_ask P e Open saw retired Consumed _ (n_look_write P e.role Open saw retired _ (λ w. r_write_looked n (low32 w)))) (r_write_looked n (low32 v)))

  r_write : (n : ℕ) → Rows (Write n) saw (write e n)
  unfolding write
  r_write n =
      let P = Told Open saw retired (Write n) in
      n_live P e.role saw retired _ (λ live. n_if_shut P e.role saw retired (low8 live == 0) _ _ (n_answers P e.role Open (saw || true) retired PeerClosed (refl, refl, same)) (r_write_open n))

  r_send_looked : (n cons : ℕ) → Rows (Send n) saw (send_looked e n cons)
  unfolding send_looked
  r_send_looked n cons =
      let P = Told Open saw retired (Send n) in
      n_if P e.role Open saw retired (nat_lt (free_at e cons) n) _ _ (n_answers P e.role Open saw retired (NoRoom e.prod cons) (refl, unseen, same)) (n_put P e Open saw retired n (Sent n) (refl, unseen, same))

  r_send_open : (n : ℕ) → Rows (Send n) saw (send_open e n)
  unfolding send_open
  r_send_open n =
      let P = Told Open saw retired (Send n) in
      n_look_write P e.role Open saw retired _ (λ v. n_if P e.role Open saw retired (nat_lt (free_at e (low32 v)) n) _ _ (n_ask P e Open saw retired Consumed _ (n_look_write P e.role Open saw retired _ (λ w. r_send_looked n (low32 w)))) (r_send_looked n (low32 v)))

  r_send : (n : ℕ) → Rows (Send n) saw (send e n)
  unfolding send
  r_send n =
      let P = Told Open saw retired (Send n) in
      n_live P e.role saw retired _ (λ live. n_if_shut P e.role saw retired (low8 live == 0) _ _ (n_answers P e.role Open (saw || true) retired PeerClosed (refl, refl, same)) (r_send_open n))

  -- ---- a read and a recv

  r_read_live : (n prod : ℕ) → Rows (Read n) saw (read_live e prod)
  unfolding read_live
  r_read_live n prod =
      let P = Told Open saw retired (Read n) in
      n_live P e.role saw retired _ (λ live. n_if_shut P e.role saw retired (low8 live == 0) _ _ (n_answers P e.role Open (saw || true) retired PeerClosed (refl, refl, same)) (n_answers P e.role Open saw retired (Empty prod e.cons) (refl, unseen, same)))

  r_read_looked : (n prod : ℕ) → Rows (Read n) saw (read_looked e n prod)
  unfolding read_looked
  r_read_looked n prod =
      let P = Told Open saw retired (Read n) in
      n_if P e.role Open saw retired (ready_at e prod == 0) _ _ (r_read_live n prod) (n_take P e Open saw retired (min n (ready_at e prod)) (Got (min n (ready_at e prod))) (refl, unseen, same))

  r_read : (n : ℕ) → Rows (Read n) saw (read e n)
  unfolding read
  r_read n =
      let P = Told Open saw retired (Read n) in
      n_look_read P e.role Open saw retired _ (λ v. n_if P e.role Open saw retired (nat_lt (ready_at e (low32 v)) n) _ _ (n_ask P e Open saw retired Written _ (n_look_read P e.role Open saw retired _ (λ w. r_read_looked n (low32 w)))) (r_read_looked n (low32 v)))

  r_recv_live : (n prod : ℕ) → Rows (Recv n) saw (recv_live e prod)
  unfolding recv_live
  r_recv_live n prod =
      let P = Told Open saw retired (Recv n) in
      n_live P e.role saw retired _ (λ live. n_if_shut P e.role saw retired (low8 live == 0) _ _ (n_answers P e.role Open (saw || true) retired PeerClosed (refl, refl, same)) (n_answers P e.role Open saw retired (Short prod e.cons) (refl, unseen, same)))

  r_recv_looked : (n prod : ℕ) → Rows (Recv n) saw (recv_looked e n prod)
  unfolding recv_looked
  r_recv_looked n prod =
      let P = Told Open saw retired (Recv n) in
      n_if P e.role Open saw retired (nat_lt (ready_at e prod) n) _ _ (r_recv_live n prod) (n_take P e Open saw retired n (Got n) (refl, unseen, same))

  r_recv : (n : ℕ) → Rows (Recv n) saw (recv e n)
  unfolding recv
  r_recv n =
      let P = Told Open saw retired (Recv n) in
      n_look_read P e.role Open saw retired _ (λ v. n_if P e.role Open saw retired (nat_lt (ready_at e (low32 v)) n) _ _ (n_ask P e Open saw retired Written _ (n_look_read P e.role Open saw retired _ (λ w. r_recv_looked n (low32 w)))) (r_recv_looked n (low32 v)))

  -- ---- a drain, which may have seen the end of its peer already

  after_all : (now : Bool) → (saw ≡ true → now ≡ true) → saw ≡ true → (now || true) ≡ true
  after_all true known was = refl
  after_all false known was = refl

  sure : (now : Bool) → (now || true) ≡ true
  sure true = refl
  sure false = refl

  r_drain_found : (n prod : ℕ) (now : Bool) (next : Plan) → (saw ≡ true → now ≡ true) → Rows (Drain n) now next → Rows (Drain n) now (drain_found e n prod next)
  r_drain_found n prod now next known on =
      let P = Told Open saw retired (Drain n) in
      n_if P e.role Open now retired (ready_at e prod == 0) _ _ on (n_take P e Open now retired (min n (ready_at e prod)) (Got (min n (ready_at e prod))) (refl, record { told = λ told. absurd (no_end told); known = known }, same))
    where
      no_end : false ≡ true → ⊥
      no_end is = cc

  r_drain_gone : (n prod : ℕ) (now : Bool) → (saw ≡ true → now ≡ true) → Rows (Drain n) now (drain_gone e n prod)
  unfolding drain_gone drain_last
  r_drain_gone n prod now known =
      let P = Told Open saw retired (Drain n) in
      n_gone P e.role now retired _ (λ gone. n_if_here P e.role now retired (gone == 0) _ _ (n_answers P e.role Open now retired (NotYet prod e.cons) (refl, record { told = λ told. absurd (no_end told); known = known }, same))
      (n_look_read P e.role Open (now || true) retired _ (λ v. r_drain_found n (low32 v) (now || true) _ (after_all now known)
      (n_answers P e.role Open (now || true) retired (IsGone (low32 v) e.cons) (refl, record { told = λ told. sure now; known = after_all now known }, same)))))
    where
      no_end : false ≡ true → ⊥
      no_end is = cc

  r_drain_further : (n prod : ℕ) (now : Bool) → (saw ≡ true → now ≡ true) → now ≡ true → Rows (Drain n) now (drain_further e n prod)
  unfolding drain_further
  r_drain_further n prod now known sees =
      let P = Told Open saw retired (Drain n) in
      n_if P e.role Open now retired (prod == e.cons) _ _ (n_answers P e.role Open now retired AllRead (refl, record { told = λ told. sees; known = known }, same)) (r_drain_found n prod now _ known (r_drain_gone n prod now known))

  r_drain_live : (n prod : ℕ) → Rows (Drain n) saw (drain_live e n prod)
  unfolding drain_live
  r_drain_live n prod =
      let P = Told Open saw retired (Drain n) in
      n_live P e.role saw retired _ (λ live. n_if_shut P e.role saw retired (low8 live == 0) _ _ (n_look_read P e.role Open (saw || true) retired _ (λ v. r_drain_further n (low32 v) (saw || true) (after_all saw (λ is. is)) (sure saw))) (r_drain_gone n prod saw (λ is. is)))

  r_drain : (n : ℕ) → Rows (Drain n) saw (drain e n)
  unfolding drain drain_second
  r_drain n =
      let P = Told Open saw retired (Drain n) in
      n_look_read P e.role Open saw retired _ (λ v. r_drain_found n (low32 v) saw _ (λ is. is) (n_ask P e Open saw retired Written _ (n_look_read P e.role Open saw retired _ (λ w. r_drain_found n (low32 w) saw _ (λ is. is) (r_drain_live n (low32 w))))))

-- ---- each call, by the state in which it begins

always : (b : Bool) → true ≡ (b || true)
always true = refl
always false = refl

module _ (e : Standing) (saw retired : Bool) where
  same_saw : saw ≡ (saw || false)
  same_saw = sym (or-false saw)

  same_gone : retired ≡ (retired || false)
  same_gone = sym (or-false retired)

  n_retires : (state : EndState) → e.state ≡ state → Notes e.role (Told state saw retired Retire) state saw retired (retire e state)
  n_retires Fresh is = let P = Told Fresh saw retired Retire in n_close P e Fresh saw retired _ (n_retire_shut P e Shut saw retired (refl, same_saw, always retired))
  n_retires Open is = let P = Told Open saw retired Retire in n_close P e Open saw retired _ (n_retire_shut P e Shut saw retired (refl, same_saw, always retired))
  n_retires Shut is = n_retire_shut (Told Shut saw retired Retire) e Shut saw retired (refl, same_saw, always retired)

  n_closes : (state : EndState) → Notes e.role (Told state saw retired Close) state saw retired (close e (answers Done))
  n_closes state = let P = Told state saw retired Close in n_close P e state saw retired _ (n_answers P e.role Shut saw retired Done (refl, same_saw, same_gone))

  n_connected : (role : Role) → role ≡ Client → Notes role (Told Fresh saw retired Connect) Fresh saw retired (does (Store CliLive 1) (λ _. answers Connected))
  n_connected Client is = let P = Told Fresh saw retired Connect in n_opens P Fresh saw retired _ (λ _. n_answers P Client Open saw retired Connected (refl, same_saw, same_gone))
  n_connected Server is = cc

  n_connect : e.role ≡ Client → Notes e.role (Told Fresh saw retired Connect) Fresh saw retired (connect e)
  unfolding connect connect_right
  n_connect client =
      let P = Told Fresh saw retired Connect in
      n_load P e.role Fresh saw retired LeftOrder _ (λ v. refl) (λ v. n_load P e.role Fresh saw retired RightOrder _ (λ w. refl)
      (λ w. n_if P e.role Fresh saw retired ((low16 v == e.orders.left.number) && (low16 w == e.orders.right.number)) _ _ (n_connected e.role client) (n_answers P e.role Fresh saw retired (BadOrders (low16 v) (low16 w)) (refl, same_saw, same_gone))))

  client_of : (role : Role) → IsAllowed role Fresh Connect → role ≡ Client
  client_of Client may = refl
  client_of Server may = absurd may

  n_open : (call : Call) → e.state ≡ Open → IsAllowed e.role Open call → Notes e.role (Told Open saw retired call) Open saw retired (plan_of e call)
  n_open (Write n) is may = r_write e saw retired n
  n_open (Send n) is may = r_send e saw retired n
  n_open (Read n) is may = r_read e saw retired n
  n_open (Recv n) is may = r_recv e saw retired n
  n_open (Drain n) is may = r_drain e saw retired n
  n_open DataReady is may = let P = Told Open saw retired DataReady in n_ask P e Open saw retired Written _ (n_look_read P e.role Open saw retired _ (λ v. n_answers P e.role Open saw retired (Ready (ready_at e (low32 v))) (refl, same_saw, same_gone)))
  n_open BufferSpace is may = let P = Told Open saw retired BufferSpace in n_ask P e Open saw retired Consumed _ (n_look_write P e.role Open saw retired _ (λ v. n_answers P e.role Open saw retired (Space (free_at e (low32 v))) (refl, same_saw, same_gone)))
  n_open TakeEvent is may = let P = Told Open saw retired TakeEvent in n_swap P e.role Open saw retired _ 0 _ (λ old. n_answers P e.role Open saw retired (Event (not (old == 0))) (refl, same_saw, same_gone))
  n_open PeerGone is may = let P = Told Open saw retired PeerGone in n_gone P e.role saw retired _ (λ gone. n_answers P e.role Open (saw || not (gone == 0)) retired (Gone (not (gone == 0))) (refl, refl, same_gone))
  n_open Connect is may = absurd (never e.role may)
    where
      never : (role : Role) → IsAllowed role Open Connect → ⊥
      never Server may' = may'
      never Client may' = may'
  n_open Close is may = n_closes Open
  n_open Retire is may = subst (λ (z : EndState). Notes e.role (Told Open saw retired Retire) Open saw retired (retire e z)) (sym is) (n_retires Open is)

  n_fresh : (call : Call) → e.state ≡ Fresh → IsAllowed e.role Fresh call → Notes e.role (Told Fresh saw retired call) Fresh saw retired (plan_of e call)
  n_fresh Connect is may = n_connect (client_of e.role may)
  n_fresh Close is may = n_closes Fresh
  n_fresh Retire is may = subst (λ (z : EndState). Notes e.role (Told Fresh saw retired Retire) Fresh saw retired (retire e z)) (sym is) (n_retires Fresh is)
  n_fresh (Write n) is may = absurd may
  n_fresh (Send n) is may = absurd may
  n_fresh (Read n) is may = absurd may
  n_fresh (Recv n) is may = absurd may
  n_fresh (Drain n) is may = absurd may
  n_fresh DataReady is may = absurd may
  n_fresh BufferSpace is may = absurd may
  n_fresh TakeEvent is may = absurd may
  n_fresh PeerGone is may = absurd may

  n_shut : (call : Call) → e.state ≡ Shut → IsAllowed e.role Shut call → Notes e.role (Told Shut saw retired call) Shut saw retired (plan_of e call)
  n_shut Retire is may = subst (λ (z : EndState). Notes e.role (Told Shut saw retired Retire) Shut saw retired (retire e z)) (sym is) (n_retires Shut is)
  n_shut Connect is may = absurd (never e.role may)
    where
      never : (role : Role) → IsAllowed role Shut Connect → ⊥
      never Server may' = may'
      never Client may' = may'
  n_shut Close is may = absurd may
  n_shut (Write n) is may = absurd may
  n_shut (Send n) is may = absurd may
  n_shut (Read n) is may = absurd may
  n_shut (Recv n) is may = absurd may
  n_shut (Drain n) is may = absurd may
  n_shut DataReady is may = absurd may
  n_shut BufferSpace is may = absurd may
  n_shut TakeEvent is may = absurd may
  n_shut PeerGone is may = absurd may

  n_call : (call : Call) (state : EndState) → e.state ≡ state → IsAllowed e.role state call → Notes e.role (Told state saw retired call) state saw retired (plan_of e call)
  n_call call Open is may = n_open call is may
  n_call call Fresh is may = n_fresh call is may
  n_call call Shut is may = n_shut call is may

-- what a whole call of an end has noted when it answers
pub notes_told : (was : Side) (call : Call) (payload : List ℕ) (events : List PastEvent) (answer : Answer) → IsAllowed was.role was.state call → Trace (standing_of was) call events answer →
    Told was.state was.saw was.retired call (side_along (begins was call payload) events).state (side_along (begins was call payload) events).saw (side_along (begins was call payload) events).retired answer
notes_told was call payload events answer may trace =
    notes_along (Told was.state was.saw was.retired call) (begins was call payload) (plan_of (standing_of was) call) events answer (n_call (standing_of was) was.saw was.retired call was.state refl may) trace
