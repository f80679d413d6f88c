-- What each event of a call owes to the lives of the two ends, and what an answer that ends a stream rests on.
use Rattle.std.proofs.Common.{◌≡◌, ◌≢◌, ℕ, suc, zero, ◌+◌, ◌%◌, ◌^◌, ◌==◌, min, nat_lt, Bool, true, false, not, cond, ◌||◌, ◌&&◌, List, [], ◌∷◌, refl, subst, sym, ap, ◌∙◌, arith}
use Rattle.std.proofs.lemmas.Bool.{eqb-true, eq-eqb, false≢true}
use Rattle.std.proofs.Math.Bool.{or-false}
use Rattle.ring_words.specs.Rings.{ready, number_of}
use Rattle.ring_words.specs.Page.{order_of}
use Rattle.ring_words.specs.declared.order.Orders.{Orders}
use Rattle.ring_words.specs.declared.page.Role.{Role}
use Rattle.ring_words.specs.declared.page.Role.TheVariants.{Server, Client}
use Rattle.ring_words.specs.declared.page.WordName.{WordName}
use Rattle.ring_words.specs.declared.page.WordName.TheVariants.{LeftCons, LeftProd, RightCons, RightProd, LeftOrder, RightOrder, CliLive, SrvLive, CliNotify, SrvNotify, SrvPending, CliPending, SrvGone, CliGone, RingByte}
use Rattle.vchan_protocol.specs.declared.op.Op.{Op}
use Rattle.vchan_protocol.specs.declared.op.Op.TheVariants.{Load, LoadByte, Store, StoreByte, Or, And, Swap, Nothing}
use Rattle.vchan_protocol.specs.declared.op.PastEvent.{PastEvent}
use Rattle.vchan_protocol.specs.declared.call.Answer.{Answer}
use Rattle.vchan_protocol.specs.declared.call.Answer.TheVariants.{Wrote, Full, Sent, NoRoom, Got, Empty, Short, PeerClosed, Ready, Space, Connected, BadOrders, Done, Event, NotYet, AllRead, Gone, PeerGone as IsGone}
use Rattle.vchan_protocol.specs.declared.call.Bit.{Bit}
use Rattle.vchan_protocol.specs.declared.call.Bit.TheVariants.{Written, Consumed}
use Rattle.vchan_protocol.specs.declared.call.Call.{Call}
use Rattle.vchan_protocol.specs.declared.call.Call.TheVariants.{Write, Send, Read, Recv, Drain, DataReady, BufferSpace, Connect, Close, TakeEvent, Retire, PeerGone}
use Rattle.vchan_protocol.specs.declared.call.EndState.{EndState}
use Rattle.vchan_protocol.specs.declared.call.EndState.TheVariants.{Fresh, Open, Shut}
use Rattle.vchan_protocol.specs.Table.Plan.{Plan, does, answers, Leads}
use Rattle.vchan_protocol.specs.Table.Ends.{Standing, standing_after, state_after, cons_after, written_ring, read_ring, prod_word, cons_word, peer_live, own_live, own_gone, peer_gone, peer_pending, low8, low16, low32, free_at, ready_at}
use Rattle.vchan_protocol.specs.Table.Calls.{put_bytes, take_bytes, put, take, notify, signal, ask, look_read, look_write, write, write_open, write_looked, read, read_live, read_looked, drain_found, drain_last, drain_gone, drain_further, drain_live, drain_second, drain, connect, connect_right, close, retire, retire_shut, plan_of, send, send_open, send_looked, recv, recv_live, recv_looked, IsAllowed}
use Rattle.vchan_protocol.specs.History.Core.{standing_along, sees_end}
use Rattle.vchan_protocol.specs.Honest.LifeLaw.{shows_end, has_seen, LoadGives, LookGives, LooksGive, SaidGives, OrderGives, OrdersGive, SaysOrders}
use Rattle.vchan_protocol.proofs.Table.Sound.{flag_ask, flag_notify, flag_pending}

-- ---- what is owed

-- an end stores only its own words; it isn't shut when it shows bytes or opens, and it is shut when it sets its gone word
abbrev pub OwesStore : WordName → Role → EndState → ℕ → Type 0
OwesStore LeftProd Client state value = state ≢ Shut
OwesStore RightProd Server state value = state ≢ Shut
OwesStore LeftCons Server state value = Unit {0}
OwesStore RightCons Client state value = Unit {0}
OwesStore CliLive Client state zero = Unit {0}
OwesStore CliLive Client state (suc value) = (value ≡ 0) × (state ≢ Shut)
OwesStore SrvLive Server state value = value ≡ 0
OwesStore CliGone Client state value = (value ≡ 1) × (state ≡ Shut)
OwesStore SrvGone Server state value = (value ≡ 1) × (state ≡ Shut)
OwesStore CliPending Server state value = Unit {0}
OwesStore SrvPending Client state value = Unit {0}
OwesStore _ _ state value = ⊥

-- a notify byte or a pending word
abbrev pub IsFlag : WordName → Type 0
IsFlag CliNotify = Unit {0}
IsFlag SrvNotify = Unit {0}
IsFlag SrvPending = Unit {0}
IsFlag CliPending = Unit {0}
IsFlag _ = ⊥

abbrev pub IsRingByte : WordName → Type 0
IsRingByte (RingByte ring at) = Unit {0}
IsRingByte _ = ⊥

-- what an event owes if its end is in this state
abbrev pub OwesLife : Op → Role → EndState → Type 0
OwesLife (Load word) role state = Unit {0}
OwesLife (LoadByte word at) role state = Unit {0}
OwesLife (Store word value) role state = OwesStore word role state value
OwesLife (StoreByte word at) role state = IsRingByte word
OwesLife (Or word bits) role state = IsFlag word
OwesLife (And word bits) role state = IsFlag word
OwesLife (Swap word value) role state = IsFlag word
OwesLife Nothing role state = ⊥

-- an answer that ends a stream comes after the peer's end was seen, and after a look at the last index, at which nothing waits.
-- A connect is refused only if the order words of the start are not those of the page
abbrev pub OwesAnswer : ℕ × ℕ → ℕ → Role → Orders → ℕ → Bool → Answer → Type 0
OwesAnswer said final role orders cons seen AllRead = (seen ≡ true) × (final ≡ cons)
OwesAnswer said final role orders cons seen (IsGone p c) = (seen ≡ true) × (p ≡ final) × (c ≡ cons) × (ready final cons (order_of orders (read_ring role)) ≡ 0)
OwesAnswer said final role orders cons seen (BadOrders l r) = ¬ SaysOrders said orders
OwesAnswer said final role orders cons seen _ = Unit {0}

-- each event and the answer give what they owe, whatever the values are that fit: order words of the start, and after the peer's end this last index
unfoldable pub Lives : ℕ × ℕ → ℕ → Role → Orders → EndState → ℕ → Bool → Plan → Type 0
Lives said final role orders state cons seen (answers answer) = OwesAnswer said final role orders cons seen answer
Lives said final role orders state cons seen (does op next) =
    OwesLife op role state × ((value : ℕ) → (seen ≡ true → LookGives final op role value) → OrderGives said op value →
    Lives said final role orders (state_after op role state) (cons_after op role cons) (seen || shows_end op role value) (next value))

-- ---- words by role

pub or_assoc : (a b c : Bool) → ((a || b) || c) ≡ (a || (b || c))
or_assoc true b c = refl
or_assoc false b c = refl

look_shows : (role : Role) (value : ℕ) → sees_end (prod_word (read_ring role)) role value ≡ false
look_shows Server value = refl
look_shows Client value = refl

room_shows : (role : Role) (value : ℕ) → sees_end (cons_word (written_ring role)) role value ≡ false
room_shows Server value = refl
room_shows Client value = refl

pub live_shows : (role : Role) (value : ℕ) → sees_end (peer_live role) role value ≡ (low8 value == 0)
live_shows Server value = refl
live_shows Client value = refl

pub gone_shows : (role : Role) (value : ℕ) → sees_end (peer_gone role) role value ≡ not (value == 0)
gone_shows Server value = refl
gone_shows Client value = refl

look_is : (final : ℕ) (role : Role) (value : ℕ) → LoadGives final (prod_word (read_ring role)) role value → low32 value ≡ final
look_is final Server value is = is
look_is final Client value is = is

owes_signal : (role : Role) (state : EndState) (value : ℕ) → OwesStore (peer_pending role) role state value
owes_signal Server state value = tt
owes_signal Client state value = tt

owes_cons : (role : Role) (state : EndState) (value : ℕ) → OwesStore (cons_word (read_ring role)) role state value
owes_cons Server state value = tt
owes_cons Client state value = tt

owes_prod : (role : Role) (state : EndState) (value : ℕ) → state ≢ Shut → OwesStore (prod_word (written_ring role)) role state value
owes_prod Server state value unshut = unshut
owes_prod Client state value unshut = unshut

owes_close : (role : Role) (state : EndState) → OwesStore (own_live role) role state 0
owes_close Server state = refl
owes_close Client state = tt

shut_closed : (role : Role) (state : EndState) → state_after (Store (own_live role) 0) role state ≡ Shut
shut_closed Server state = refl
shut_closed Client state = refl

owes_gone : (role : Role) (state : EndState) → state ≡ Shut → OwesStore (own_gone role) role state 1
owes_gone Server state shut = (refl, shut)
owes_gone Client state shut = (refl, shut)

pub shut_signal : (role : Role) (state : EndState) → state_after (Store (peer_pending role) 1) role state ≡ state
shut_signal Server state = refl
shut_signal Client state = refl

-- ---- the pieces

module _ (said : ℕ × ℕ) (final : ℕ) (e : Standing) where
  lives_answers : (state : EndState) (cons : ℕ) (seen : Bool) (answer : Answer) → OwesAnswer said final e.role e.orders cons seen answer → Lives said final e.role e.orders state cons seen (answers answer)
  unfolding Lives
  lives_answers state cons seen answer owes = owes

  lives_if : (state : EndState) (cons : ℕ) (seen b : Bool) (p q : Plan) → (b ≡ true → Lives said final e.role e.orders state cons seen p) → (b ≡ false → Lives said final e.role e.orders state cons seen q) →
      Lives said final e.role e.orders state cons seen (cond b p q)
  lives_if state cons seen true p q first second = first refl
  lives_if state cons seen false p q first second = second refl

  lives_load : (state : EndState) (cons : ℕ) (seen : Bool) (word : WordName) (next : ℕ → Plan) →
      ((value : ℕ) → (seen ≡ true → LoadGives final word e.role value) → SaidGives said word value → Lives said final e.role e.orders state cons (seen || sees_end word e.role value) (next value)) →
      Lives said final e.role e.orders state cons seen (does (Load word) next)
  unfolding Lives
  lives_load state cons seen word next w = (tt, λ value looks says. w value looks says)

  lives_or : (state : EndState) (cons : ℕ) (seen : Bool) (word : WordName) (bits : ℕ) (next : ℕ → Plan) → IsFlag word → ((value : ℕ) → Lives said final e.role e.orders state cons seen (next value)) →
      Lives said final e.role e.orders state cons seen (does (Or word bits) next)
  unfolding Lives
  lives_or state cons seen word bits next flag w = (flag, λ value looks says. subst (λ (b : Bool). Lives said final e.role e.orders state cons b (next value)) (sym (or-false seen)) (w value))

  lives_and : (state : EndState) (cons : ℕ) (seen : Bool) (word : WordName) (bits : ℕ) (next : ℕ → Plan) → IsFlag word → ((value : ℕ) → Lives said final e.role e.orders state cons seen (next value)) →
      Lives said final e.role e.orders state cons seen (does (And word bits) next)
  unfolding Lives
  lives_and state cons seen word bits next flag w = (flag, λ value looks says. subst (λ (b : Bool). Lives said final e.role e.orders state cons b (next value)) (sym (or-false seen)) (w value))

  lives_swap : (state : EndState) (cons : ℕ) (seen : Bool) (word : WordName) (swapped : ℕ) (next : ℕ → Plan) → IsFlag word → ((value : ℕ) → Lives said final e.role e.orders state cons seen (next value)) →
      Lives said final e.role e.orders state cons seen (does (Swap word swapped) next)
  unfolding Lives
  lives_swap state cons seen word swapped next flag w = (flag, λ value looks says. subst (λ (b : Bool). Lives said final e.role e.orders state cons b (next value)) (sym (or-false seen)) (w value))

  lives_load_byte : (state : EndState) (cons : ℕ) (seen : Bool) (word : WordName) (at : ℕ) (next : ℕ → Plan) → ((value : ℕ) → Lives said final e.role e.orders state cons seen (next value)) →
      Lives said final e.role e.orders state cons seen (does (LoadByte word at) next)
  unfolding Lives
  lives_load_byte state cons seen word at next w = (tt, λ value looks says. subst (λ (b : Bool). Lives said final e.role e.orders state cons b (next value)) (sym (or-false seen)) (w value))

  lives_store_byte : (state : EndState) (cons : ℕ) (seen : Bool) (word : WordName) (at : ℕ) (next : ℕ → Plan) → IsRingByte word → ((value : ℕ) → Lives said final e.role e.orders state cons seen (next value)) →
      Lives said final e.role e.orders state cons seen (does (StoreByte word at) next)
  unfolding Lives
  lives_store_byte state cons seen word at next byte w = (byte, λ value looks says. subst (λ (b : Bool). Lives said final e.role e.orders state cons b (next value)) (sym (or-false seen)) (w value))

  lives_store : (state : EndState) (cons : ℕ) (seen : Bool) (word : WordName) (stored : ℕ) (next : ℕ → Plan) → OwesStore word e.role state stored →
      ((then_state : EndState) (then_cons value : ℕ) → then_state ≡ state_after (Store word stored) e.role state → Lives said final e.role e.orders then_state then_cons seen (next value)) →
      Lives said final e.role e.orders state cons seen (does (Store word stored) next)
  unfolding Lives
  lives_store state cons seen word stored next owes w = (owes, λ value looks says. subst (λ (b : Bool). Lives said final e.role e.orders (state_after (Store word stored) e.role state) (cons_after (Store word stored) e.role cons) b (next value)) (sym (or-false seen)) (w _ _ value refl))

  lives_look_read : (state : EndState) (cons : ℕ) (seen : Bool) (next : ℕ → Plan) → ((index : ℕ) → (seen ≡ true → index ≡ final) → Lives said final e.role e.orders state cons seen (next index)) →
      Lives said final e.role e.orders state cons seen (look_read e next)
  lives_look_read state cons seen next w =
      lives_load state cons seen _ _ (λ value looks says. subst (λ (b : Bool). Lives said final e.role e.orders state cons b (next (low32 value)))
      (sym (ap (λ (b : Bool). seen || b) (look_shows e.role value) ∙ or-false seen)) (w (low32 value) (λ is. look_is final e.role value (looks is))))

  lives_look_write : (state : EndState) (cons : ℕ) (seen : Bool) (next : ℕ → Plan) → ((index : ℕ) → Lives said final e.role e.orders state cons seen (next index)) →
      Lives said final e.role e.orders state cons seen (look_write e next)
  lives_look_write state cons seen next w =
      lives_load state cons seen _ _ (λ value looks says. subst (λ (b : Bool). Lives said final e.role e.orders state cons b (next (low32 value)))
      (sym (ap (λ (b : Bool). seen || b) (room_shows e.role value) ∙ or-false seen)) (w (low32 value)))

  lives_ask : (state : EndState) (cons : ℕ) (seen : Bool) (bit : Bit) (next : Plan) → Lives said final e.role e.orders state cons seen next → Lives said final e.role e.orders state cons seen (ask e bit next)
  lives_ask state cons seen bit next w = lives_or state cons seen _ _ _ (flag_ask e.role) (λ value. w)

  lives_signal : (state : EndState) (cons : ℕ) (seen : Bool) (next : Plan) → ((then_cons : ℕ) → Lives said final e.role e.orders state then_cons seen next) → Lives said final e.role e.orders state cons seen (signal e next)
  lives_signal state cons seen next w =
      lives_store state cons seen _ _ _ (owes_signal e.role state 1) (λ then_state then_cons value is. subst (λ (s : EndState). Lives said final e.role e.orders s then_cons seen next) (sym (is ∙ shut_signal e.role state)) (w then_cons))

  lives_notify : (state : EndState) (cons : ℕ) (seen : Bool) (bit : Bit) (next : Plan) → ((then_cons : ℕ) → Lives said final e.role e.orders state then_cons seen next) → Lives said final e.role e.orders state cons seen (notify e bit next)
  lives_notify state cons seen bit next w =
      lives_and state cons seen _ _ _ (flag_notify e.role) (λ value. lives_if state cons seen _ _ _ (λ clear. w cons) (λ was. lives_signal state cons seen next w))

  -- the test of the peer's live byte
  lives_live : (state : EndState) (cons : ℕ) (seen : Bool) (p : Plan) (q : ℕ → Plan) → Lives said final e.role e.orders state cons true p → ((value : ℕ) → Lives said final e.role e.orders state cons seen (q value)) →
      Lives said final e.role e.orders state cons seen (does (Load (peer_live e.role)) (λ live. cond (low8 live == 0) p (q live)))
  lives_live state cons seen p q first second =
      lives_load state cons seen _ _ (λ value looks says. subst (λ (b : Bool). Lives said final e.role e.orders state cons (seen || b) (cond (low8 value == 0) p (q value))) (sym (live_shows e.role value)) (go seen (low8 value == 0) (q value) first (second value)))
    where
      go : (was b : Bool) (other : Plan) → Lives said final e.role e.orders state cons true p → Lives said final e.role e.orders state cons was other → Lives said final e.role e.orders state cons (was || b) (cond b p other)
      go true true other first second = first
      go true false other first second = second
      go false true other first second = first
      go false false other first second = second

  -- the test of the peer's gone word
  lives_gone : (state : EndState) (cons : ℕ) (seen : Bool) (p q : Plan) → Lives said final e.role e.orders state cons seen p → Lives said final e.role e.orders state cons true q →
      Lives said final e.role e.orders state cons seen (does (Load (peer_gone e.role)) (λ gone. cond (gone == 0) p q))
  lives_gone state cons seen p q first second =
      lives_load state cons seen _ _ (λ value looks says. subst (λ (b : Bool). Lives said final e.role e.orders state cons (seen || b) (cond (value == 0) p q)) (sym (gone_shows e.role value)) (go seen (value == 0) first second))
    where
      go : (was b : Bool) → Lives said final e.role e.orders state cons was p → Lives said final e.role e.orders state cons true q → Lives said final e.role e.orders state cons (was || not b) (cond b p q)
      go true true first second = first
      go true false first second = second
      go false true first second = first
      go false false first second = second

  lives_put_bytes : (k i : ℕ) (state : EndState) (cons : ℕ) (seen : Bool) (next : Plan) → Lives said final e.role e.orders state cons seen next → Lives said final e.role e.orders state cons seen (put_bytes e i k next)
  lives_put_bytes zero i state cons seen next w = w
  lives_put_bytes (suc k) i state cons seen next w = lives_store_byte state cons seen _ _ _ tt (λ value. lives_put_bytes k (i + 1) state cons seen next w)

  lives_take_bytes : (k i : ℕ) (state : EndState) (cons : ℕ) (seen : Bool) (next : Plan) → Lives said final e.role e.orders state cons seen next → Lives said final e.role e.orders state cons seen (take_bytes e i k next)
  lives_take_bytes zero i state cons seen next w = w
  lives_take_bytes (suc k) i state cons seen next w = lives_load_byte state cons seen _ _ _ (λ value. lives_take_bytes k (i + 1) state cons seen next w)

  lives_put : (k : ℕ) (state : EndState) (cons : ℕ) (seen : Bool) (next : Plan) → state ≢ Shut → ((then_state : EndState) (then_cons : ℕ) → Lives said final e.role e.orders then_state then_cons seen next) → Lives said final e.role e.orders state cons seen (put e k next)
  lives_put k state cons seen next unshut w =
      lives_put_bytes k 0 state cons seen _ (lives_store state cons seen _ _ _ (owes_prod e.role state ((e.prod + k) % 2 ^ 32) unshut) (λ then_state then_cons value is. lives_notify then_state then_cons seen Written next (w then_state)))

  lives_take : (k : ℕ) (state : EndState) (cons : ℕ) (seen : Bool) (next : Plan) → ((then_state : EndState) (then_cons : ℕ) → Lives said final e.role e.orders then_state then_cons seen next) → Lives said final e.role e.orders state cons seen (take e k next)
  lives_take k state cons seen next w =
      lives_take_bytes k 0 state cons seen _ (lives_store state cons seen _ _ _ (owes_cons e.role state ((e.cons + k) % 2 ^ 32)) (λ then_state then_cons value is. lives_notify then_state then_cons seen Consumed next (w then_state)))

-- ---- the rows

module _ (said : ℕ × ℕ) (final : ℕ) (e : Standing) (n : ℕ) where
  lives_write_looked : (seen : Bool) (cons : ℕ) → e.state ≢ Shut → Lives said final e.role e.orders e.state e.cons seen (write_looked e n cons)
  unfolding write_looked
  lives_write_looked seen cons unshut =
      lives_if said final e e.state e.cons seen (n == 0) _ _ (λ is. lives_answers said final e e.state e.cons seen (Wrote 0) tt)
      (λ is. lives_if said final e e.state e.cons seen (free_at e cons == 0) _ _ (λ full. lives_answers said final e e.state e.cons seen (Full e.prod cons) tt)
      (λ fits. lives_put said final e _ e.state e.cons seen _ unshut (λ then_state then_cons. lives_answers said final e then_state then_cons seen (Wrote (min n (free_at e cons))) tt)))

  lives_write : e.state ≢ Shut → Lives said final e.role e.orders e.state e.cons false (write e n)
  unfolding write write_open
  lives_write unshut =
      lives_live said final e e.state e.cons false _ _ (lives_answers said final e e.state e.cons true PeerClosed tt)
      (λ live. lives_look_write said final e e.state e.cons false _ (λ cons. lives_if said final e e.state e.cons false (nat_lt (free_at e cons) n) _ _
      (λ less. lives_ask said final e e.state e.cons false Consumed _ (lives_look_write said final e e.state e.cons false _ (λ again. lives_write_looked false again unshut))) (λ enough. lives_write_looked false cons unshut)))

  lives_send_looked : (cons : ℕ) → e.state ≢ Shut → Lives said final e.role e.orders e.state e.cons false (send_looked e n cons)
  unfolding send_looked
  lives_send_looked cons unshut =
      lives_if said final e e.state e.cons false (nat_lt (free_at e cons) n) _ _ (λ less. lives_answers said final e e.state e.cons false (NoRoom e.prod cons) tt)
      (λ enough. lives_put said final e _ e.state e.cons false _ unshut (λ then_state then_cons. lives_answers said final e then_state then_cons false (Sent n) tt))

  lives_send : e.state ≢ Shut → Lives said final e.role e.orders e.state e.cons false (send e n)
  unfolding send send_open
  lives_send unshut =
      lives_live said final e e.state e.cons false _ _ (lives_answers said final e e.state e.cons true PeerClosed tt)
      (λ live. lives_look_write said final e e.state e.cons false _ (λ cons. lives_if said final e e.state e.cons false (nat_lt (free_at e cons) n) _ _
      (λ less. lives_ask said final e e.state e.cons false Consumed _ (lives_look_write said final e e.state e.cons false _ (λ again. lives_send_looked again unshut))) (λ enough. lives_send_looked cons unshut)))

  lives_read_looked : (prod : ℕ) → Lives said final e.role e.orders e.state e.cons false (read_looked e n prod)
  unfolding read_looked read_live
  lives_read_looked prod =
      lives_if said final e e.state e.cons false (ready_at e prod == 0) _ _
      (λ none. lives_live said final e e.state e.cons false _ _ (lives_answers said final e e.state e.cons true PeerClosed tt) (λ live. lives_answers said final e e.state e.cons false (Empty prod e.cons) tt))
      (λ some. lives_take said final e _ e.state e.cons false _ (λ then_state then_cons. lives_answers said final e then_state then_cons false (Got (min n (ready_at e prod))) tt))

  lives_read : Lives said final e.role e.orders e.state e.cons false (read e n)
  unfolding read
  lives_read =
      lives_look_read said final e e.state e.cons false _ (λ prod was. lives_if said final e e.state e.cons false (nat_lt (ready_at e prod) n) _ _
      (λ less. lives_ask said final e e.state e.cons false Written _ (lives_look_read said final e e.state e.cons false _ (λ again last. lives_read_looked again))) (λ enough. lives_read_looked prod))

  lives_recv_looked : (prod : ℕ) → Lives said final e.role e.orders e.state e.cons false (recv_looked e n prod)
  unfolding recv_looked recv_live
  lives_recv_looked prod =
      lives_if said final e e.state e.cons false (nat_lt (ready_at e prod) n) _ _
      (λ less. lives_live said final e e.state e.cons false _ _ (lives_answers said final e e.state e.cons true PeerClosed tt) (λ live. lives_answers said final e e.state e.cons false (Short prod e.cons) tt))
      (λ enough. lives_take said final e _ e.state e.cons false _ (λ then_state then_cons. lives_answers said final e then_state then_cons false (Got n) tt))

  lives_recv : Lives said final e.role e.orders e.state e.cons false (recv e n)
  unfolding recv
  lives_recv =
      lives_look_read said final e e.state e.cons false _ (λ prod was. lives_if said final e e.state e.cons false (nat_lt (ready_at e prod) n) _ _
      (λ less. lives_ask said final e e.state e.cons false Written _ (lives_look_read said final e e.state e.cons false _ (λ again last. lives_recv_looked again))) (λ enough. lives_recv_looked prod))

  lives_found : (seen : Bool) (prod : ℕ) (next : Plan) → (ready_at e prod ≡ 0 → Lives said final e.role e.orders e.state e.cons seen next) → Lives said final e.role e.orders e.state e.cons seen (drain_found e n prod next)
  lives_found seen prod next w =
      lives_if said final e e.state e.cons seen (ready_at e prod == 0) _ _ (λ none. w (eqb-true _ _ none))
      (λ some. lives_take said final e _ e.state e.cons seen _ (λ then_state then_cons. lives_answers said final e then_state then_cons seen (Got (min n (ready_at e prod))) tt))

  lives_drain_gone : (seen : Bool) (prod : ℕ) → Lives said final e.role e.orders e.state e.cons seen (drain_gone e n prod)
  unfolding drain_gone drain_last
  lives_drain_gone seen prod =
      lives_gone said final e e.state e.cons seen _ _ (lives_answers said final e e.state e.cons seen (NotYet prod e.cons) tt)
      (lives_look_read said final e e.state e.cons true _ (λ again last. lives_found true again _ (λ none.
      lives_answers said final e e.state e.cons true (IsGone again e.cons) (refl, last refl, refl, subst (λ (i : ℕ). ready_at e i ≡ 0) (last refl) none))))

  lives_drain_live : (prod : ℕ) → Lives said final e.role e.orders e.state e.cons false (drain_live e n prod)
  unfolding drain_live drain_further
  lives_drain_live prod =
      lives_live said final e e.state e.cons false _ _
      (lives_look_read said final e e.state e.cons true _ (λ again last. lives_if said final e e.state e.cons true (again == e.cons) _ _
      (λ same. lives_answers said final e e.state e.cons true AllRead (refl, sym (last refl) ∙ eqb-true _ _ same)) (λ other. lives_found true again _ (λ none. lives_drain_gone true again))))
      (λ live. lives_drain_gone false prod)

  lives_drain : Lives said final e.role e.orders e.state e.cons false (drain e n)
  unfolding drain drain_second
  lives_drain =
      lives_look_read said final e e.state e.cons false _ (λ prod was. lives_found false prod _ (λ none. lives_ask said final e e.state e.cons false Written _
      (lives_look_read said final e e.state e.cons false _ (λ again last. lives_found false again _ (λ still. lives_drain_live again)))))

-- ---- the calls without bytes

module _ (said : ℕ × ℕ) (final : ℕ) (e : Standing) where
  lives_close : (state : EndState) (next : Plan) → ((then_cons : ℕ) → Lives said final e.role e.orders Shut then_cons false next) → Lives said final e.role e.orders state e.cons false (close e next)
  lives_close state next w =
      lives_store said final e state e.cons false _ _ _ (owes_close e.role state) (λ then_state then_cons value is. subst (λ (s : EndState). Lives said final e.role e.orders s then_cons false (signal e next)) (sym (is ∙ shut_closed e.role state))
      (lives_signal said final e Shut then_cons false next w))

  lives_retire_shut : (cons : ℕ) → Lives said final e.role e.orders Shut cons false (retire_shut e)
  lives_retire_shut cons =
      lives_store said final e Shut cons false _ _ _ (owes_gone e.role Shut refl) (λ then_state then_cons value is. lives_signal said final e then_state then_cons false _ (λ last. lives_answers said final e then_state last false Done tt))

  lives_retire : (state : EndState) → Lives said final e.role e.orders state e.cons false (retire e state)
  lives_retire Fresh = lives_close Fresh _ lives_retire_shut
  lives_retire Open = lives_close Open _ lives_retire_shut
  lives_retire Shut = lives_retire_shut e.cons

fresh_shut : Fresh ≢ Shut
fresh_shut is = cc

open_shut : Open ≢ Shut
open_shut is = cc

-- a connect refuses the order words of the start only if they are not the page's
refuses : (said : ℕ × ℕ) (orders : Orders) (left right : ℕ) → left ≡ said.0 → right ≡ said.1 → ((low16 left == number_of orders.left) && (low16 right == number_of orders.right)) ≡ false → ¬ SaysOrders said orders
refuses said orders left right l r differ says =
    let first : low16 left ≡ number_of orders.left = omega (arith, l, says.0, orders.left.in_range) in
    let second : low16 right ≡ number_of orders.right = omega (arith, r, says.1, orders.right.in_range) in
    false≢true (sym differ ∙ ap (λ (b : Bool). b && (low16 right == number_of orders.right)) (eq-eqb _ _ first) ∙ eq-eqb _ _ second)

owes_connect : (role : Role) (state : EndState) → role ≡ Client → state ≡ Fresh → OwesStore CliLive role state 1
owes_connect role state client fresh =
    subst (λ (r : Role). OwesStore CliLive r state 1) (sym client) (refl, λ is. fresh_shut (sym fresh ∙ is))

lives_connect : (said : ℕ × ℕ) (final : ℕ) (e : Standing) → IsAllowed e.role e.state Connect → Lives said final e.role e.orders e.state e.cons false (connect e)
unfolding connect connect_right
lives_connect said final e allowed = go e.role e.state refl refl allowed
  where
    first : e.role ≡ Client → e.state ≡ Fresh → Lives said final e.role e.orders e.state e.cons false (connect e)
    first client fresh =
        lives_load said final e e.state e.cons false LeftOrder _ (λ left looks l. lives_load said final e e.state e.cons false RightOrder _ (λ right also r. lives_if said final e e.state e.cons false _ _ _
        (λ same. lives_store said final e e.state e.cons false CliLive 1 _ (owes_connect e.role e.state client fresh) (λ then_state then_cons value is. lives_answers said final e then_state then_cons false Connected tt))
        (λ differ. lives_answers said final e e.state e.cons false (BadOrders (low16 left) (low16 right)) (refuses said e.orders left right l r differ))))

    go : (role : Role) (state : EndState) → e.role ≡ role → e.state ≡ state → IsAllowed role state Connect → Lives said final e.role e.orders e.state e.cons false (connect e)
    go Client Fresh client fresh allowed = first client fresh
    go Client Open client fresh allowed = absurd allowed
    go Client Shut client fresh allowed = absurd allowed
    go Server Fresh client fresh allowed = absurd allowed
    go Server Open client fresh allowed = absurd allowed
    go Server Shut client fresh allowed = absurd allowed

allowed_write : (role : Role) (state : EndState) (n : ℕ) → IsAllowed role state (Write n) → state ≢ Shut
allowed_write role Fresh n allowed is = absurd allowed
allowed_write role Open n allowed is = open_shut is
allowed_write role Shut n allowed is = absurd allowed

allowed_send : (role : Role) (state : EndState) (n : ℕ) → IsAllowed role state (Send n) → state ≢ Shut
allowed_send role Fresh n allowed is = absurd allowed
allowed_send role Open n allowed is = open_shut is
allowed_send role Shut n allowed is = absurd allowed

-- each call that is allowed
pub lives_call : (said : ℕ × ℕ) (final : ℕ) (e : Standing) (call : Call) → IsAllowed e.role e.state call → Lives said final e.role e.orders e.state e.cons false (plan_of e call)
lives_call said final e (Write n) allowed = lives_write said final e n (allowed_write e.role e.state n allowed)
lives_call said final e (Send n) allowed = lives_send said final e n (allowed_send e.role e.state n allowed)
lives_call said final e (Read n) allowed = lives_read said final e n
lives_call said final e (Recv n) allowed = lives_recv said final e n
lives_call said final e (Drain n) allowed = lives_drain said final e n
lives_call said final e DataReady allowed = lives_ask said final e e.state e.cons false Written _ (lives_look_read said final e e.state e.cons false _ (λ prod was. lives_answers said final e e.state e.cons false (Ready (ready_at e prod)) tt))
lives_call said final e BufferSpace allowed = lives_ask said final e e.state e.cons false Consumed _ (lives_look_write said final e e.state e.cons false _ (λ cons. lives_answers said final e e.state e.cons false (Space (free_at e cons)) tt))
lives_call said final e Connect allowed = lives_connect said final e allowed
lives_call said final e Close allowed = lives_close said final e e.state _ (λ then_cons. lives_answers said final e Shut then_cons false Done tt)
lives_call said final e TakeEvent allowed = lives_swap said final e e.state e.cons false _ _ _ (flag_pending e.role) (λ old. lives_answers said final e e.state e.cons false (Event (not (old == 0))) tt)
lives_call said final e PeerGone allowed = lives_load said final e e.state e.cons false _ _ (λ gone looks says. lives_answers said final e e.state e.cons _ (Gone (not (gone == 0))) tt)
lives_call said final e Retire allowed = lives_retire said final e e.state

-- ---- along a trail

-- what an end lives by stays so along events that fit
pub Lives_Leads : (said : ℕ × ℕ) (final : ℕ) (e : Standing) (seen : Bool) (plan : Plan) (events : List PastEvent) (rest : Plan) → Lives said final e.role e.orders e.state e.cons seen plan → Leads plan events rest →
    LooksGive final e.role seen events → OrdersGive said events →
    Lives said final e.role e.orders (standing_along e events).state (standing_along e events).cons (seen || has_seen e.role events) rest
unfolding Lives standing_after
Lives_Leads said final e seen plan [] rest w led looks says =
    subst (λ (b : Bool). Lives said final e.role e.orders e.state e.cons b rest) (sym (or-false seen)) (subst (λ (p : Plan). Lives said final e.role e.orders e.state e.cons seen p) led w)
Lives_Leads said final e seen (answers answer) (event ∷ events) rest w led looks says = absurd led
Lives_Leads said final e seen (does op next) (event ∷ events) rest w led looks says =
    let first : Lives said final e.role e.orders (state_after event.op e.role e.state) (cons_after event.op e.role e.cons) (seen || shows_end event.op e.role event.taken) (next event.taken) =
    subst (λ (o : Op). (seen ≡ true → LookGives final o e.role event.taken) → OrderGives said o event.taken → Lives said final e.role e.orders (state_after o e.role e.state) (cons_after o e.role e.cons) (seen || shows_end o e.role event.taken) (next event.taken))
    (sym led.0) (w.1 event.taken) looks.0 says.0 in
    subst (λ (b : Bool). Lives said final e.role e.orders (standing_along (standing_after e event.op) events).state (standing_along (standing_after e event.op) events).cons b rest)
    (or_assoc seen (shows_end event.op e.role event.taken) (has_seen e.role events))
    (Lives_Leads said final (standing_after e event.op) (seen || shows_end event.op e.role event.taken) (next event.taken) events rest first led.1 looks.1 says.1)
