-- Each event of a call is on the page, and its bytes are counted in order.
use Rattle.std.proofs.Common.{◌≡◌, ℕ, suc, zero, ◌+◌, ◌%◌, ◌^◌, ◌==◌, ◌<◌, ◌≤◌, min, nat_lt, ◌⊎◌, inl, inr, Bool, true, false, cond, List, [], ◌∷◌, ◌++◌, length, refl, subst, sym, ap, arith, add-zero, zero-add}
use Rattle.std.proofs.lemmas.Bool.{cases_lt, lt-ltb}
use Rattle.ring_words.specs.Page.{Has}
use Rattle.ring_words.specs.declared.order.Orders.{Orders}
use Rattle.ring_words.specs.declared.page.Role.{Role}
use Rattle.ring_words.specs.declared.page.Role.TheVariants.{Server, Client}
use Rattle.ring_words.specs.declared.page.WordName.{WordName}
use Rattle.ring_words.specs.declared.page.WordName.TheVariants.{LeftCons, LeftProd, RightCons, RightProd}
use Rattle.ring_words.proofs.RingLaws.{room_within, ready_within, place_within}
use Rattle.vchan_protocol.specs.declared.op.Op.{Op}
use Rattle.vchan_protocol.specs.declared.op.Op.TheVariants.{Load, LoadByte, Store, StoreByte, Or, And, Swap, Nothing}
use Rattle.vchan_protocol.specs.declared.op.PastEvent.{PastEvent}
use Rattle.vchan_protocol.specs.declared.call.Answer.{Answer}
use Rattle.vchan_protocol.specs.declared.call.Answer.TheVariants.{Wrote, Full, NoRoom, Sent, Got, AllRead, Ready, Space, PeerGone as IsGone}
use Rattle.vchan_protocol.specs.declared.call.Bit.{Bit}
use Rattle.vchan_protocol.specs.declared.call.Bit.TheVariants.{Written, Consumed}
use Rattle.vchan_protocol.specs.declared.call.Call.{Call}
use Rattle.vchan_protocol.specs.declared.call.Call.TheVariants.{Write, Send, Read, Recv, Drain, DataReady, BufferSpace, Connect, Close, TakeEvent, Retire, PeerGone}
use Rattle.vchan_protocol.specs.declared.call.EndState.{EndState}
use Rattle.vchan_protocol.specs.declared.call.EndState.TheVariants.{Fresh, Open, Shut}
use Rattle.vchan_protocol.specs.Table.Plan.{Plan, does, answers, Leads, EachDoes}
use Rattle.vchan_protocol.specs.Table.Ends.{Standing, standing_after, written_ring, read_ring, prod_word, cons_word, ask_word, notify_word, peer_live, own_live, own_pending, own_gone, peer_gone, peer_pending, write_order, read_order, write_size, read_size, free_at, ready_at}
use Rattle.vchan_protocol.specs.Table.Calls.{put_bytes, take_bytes, put, take, notify, signal, ask, look_read, look_write, write, write_open, write_looked, read, read_live, read_looked, drain_found, drain_last, drain_gone, drain_further, drain_live, drain_second, drain, connect, connect_right, close, retire, retire_shut, plan_of, send, send_open, send_looked, recv, recv_live, recv_looked, stored_most, loaded_most}
use Rattle.vchan_protocol.specs.Table.Apply.{Fits}
use Rattle.vchan_protocol.specs.History.Core.{standing_along, stored_by, loaded_by, count_stored, bytes_loaded}

-- the bytes stored and loaded so far, after an event
abbrev pub stored_then : Op → ℕ → ℕ
stored_then (StoreByte word at) s = s + 1
stored_then _ s = s

abbrev pub loaded_then : Op → ℕ → ℕ
loaded_then (LoadByte word at) l = l + 1
loaded_then _ l = l

-- an own index is stored by as many bytes as were stored, or loaded
abbrev pub OwesIndex : WordName → Role → Standing → ℕ → ℕ → ℕ → Type 0
OwesIndex LeftProd Client now s l value = value ≡ (now.prod + s) % 2 ^ 32
OwesIndex RightProd Server now s l value = value ≡ (now.prod + s) % 2 ^ 32
OwesIndex LeftCons Server now s l value = value ≡ (now.cons + l) % 2 ^ 32
OwesIndex RightCons Client now s l value = value ≡ (now.cons + l) % 2 ^ 32
OwesIndex _ _ now s l value = Unit {0}

-- what an event owes if the end has this standing now, and the call has stored s bytes and loaded l so far, of at most `out` and `into`
abbrev pub Owes : Standing → ℕ → ℕ → Standing → ℕ → ℕ → Op → Type 0
Owes e out into now s l (Load word) = Has e.orders word
Owes e out into now s l (LoadByte word at) = (at ≡ l) × (at < into) × Has e.orders word
Owes e out into now s l (Store word value) = OwesIndex word e.role now s l value × Has e.orders word
Owes e out into now s l (StoreByte word at) = (at ≡ s) × (at < out) × Has e.orders word
Owes e out into now s l (Or word bits) = Has e.orders word
Owes e out into now s l (And word bits) = Has e.orders word
Owes e out into now s l (Swap word value) = Has e.orders word
Owes e out into now s l Nothing = ⊥

-- each event of the plan, whatever the values are, gives what it owes
unfoldable pub Counted : Standing → ℕ → ℕ → Standing → ℕ → ℕ → Plan → Type 0
Counted e out into now s l (answers answer) = Unit {0}
Counted e out into now s l (does op next) = Owes e out into now s l op × ((value : ℕ) → Counted e out into (standing_after now op) (stored_then op s) (loaded_then op l) (next value))

-- ---- the pieces

has_ask : (orders : Orders) (role : Role) → Has orders (ask_word role)
has_ask orders Server = tt
has_ask orders Client = tt

has_notify : (orders : Orders) (role : Role) → Has orders (notify_word role)
has_notify orders Server = tt
has_notify orders Client = tt

pub has_peer_live : (orders : Orders) (role : Role) → Has orders (peer_live role)
has_peer_live orders Server = tt
has_peer_live orders Client = tt

has_peer_gone : (orders : Orders) (role : Role) → Has orders (peer_gone role)
has_peer_gone orders Server = tt
has_peer_gone orders Client = tt

has_own_pending : (orders : Orders) (role : Role) → Has orders (own_pending role)
has_own_pending orders Server = tt
has_own_pending orders Client = tt

pub has_look_read : (orders : Orders) (role : Role) → Has orders (prod_word (read_ring role))
has_look_read orders Server = tt
has_look_read orders Client = tt

pub has_look_write : (orders : Orders) (role : Role) → Has orders (cons_word (written_ring role))
has_look_write orders Server = tt
has_look_write orders Client = tt

-- a store of a word that is no index
owes_pending : (role : Role) (orders : Orders) (now : Standing) (s l v : ℕ) → OwesIndex (peer_pending role) role now s l v × Has orders (peer_pending role)
owes_pending Server orders now s l v = (tt, tt)
owes_pending Client orders now s l v = (tt, tt)

owes_live : (role : Role) (orders : Orders) (now : Standing) (s l v : ℕ) → OwesIndex (own_live role) role now s l v × Has orders (own_live role)
owes_live Server orders now s l v = (tt, tt)
owes_live Client orders now s l v = (tt, tt)

owes_gone : (role : Role) (orders : Orders) (now : Standing) (s l v : ℕ) → OwesIndex (own_gone role) role now s l v × Has orders (own_gone role)
owes_gone Server orders now s l v = (tt, tt)
owes_gone Client orders now s l v = (tt, tt)

-- a store of an own index
owes_prod : (role : Role) (orders : Orders) (now : Standing) (s l v : ℕ) → v ≡ (now.prod + s) % 2 ^ 32 →
    OwesIndex (prod_word (written_ring role)) role now s l v × Has orders (prod_word (written_ring role))
owes_prod Server orders now s l v is = (is, tt)
owes_prod Client orders now s l v is = (is, tt)

owes_cons : (role : Role) (orders : Orders) (now : Standing) (s l v : ℕ) → v ≡ (now.cons + l) % 2 ^ 32 →
    OwesIndex (cons_word (read_ring role)) role now s l v × Has orders (cons_word (read_ring role))
owes_cons Server orders now s l v is = (is, tt)
owes_cons Client orders now s l v is = (is, tt)

module _ (e : Standing) (out into : ℕ) where
  counted_answers : (now : Standing) (s l : ℕ) (answer : Answer) → Counted e out into now s l (answers answer)
  unfolding Counted
  counted_answers now s l answer = tt

  counted_if : (now : Standing) (s l : ℕ) (b : Bool) (p q : Plan) → Counted e out into now s l p → Counted e out into now s l q → Counted e out into now s l (cond b p q)
  counted_if now s l true p q first second = first
  counted_if now s l false p q first second = second

  counted_load : (now : Standing) (s l : ℕ) (word : WordName) (next : ℕ → Plan) → Has e.orders word → ((value : ℕ) → Counted e out into now s l (next value)) → Counted e out into now s l (does (Load word) next)
  unfolding Counted standing_after
  counted_load now s l word next has w = (has, w)

  counted_and : (now : Standing) (s l : ℕ) (word : WordName) (bits : ℕ) (next : ℕ → Plan) → Has e.orders word → ((value : ℕ) → Counted e out into now s l (next value)) → Counted e out into now s l (does (And word bits) next)
  unfolding Counted standing_after
  counted_and now s l word bits next has w = (has, w)

  counted_swap : (now : Standing) (s l : ℕ) (word : WordName) (swapped : ℕ) (next : ℕ → Plan) → Has e.orders word → ((value : ℕ) → Counted e out into now s l (next value)) → Counted e out into now s l (does (Swap word swapped) next)
  unfolding Counted standing_after
  counted_swap now s l word swapped next has w = (has, w)

  counted_store : (now : Standing) (s l : ℕ) (word : WordName) (stored : ℕ) (next : ℕ → Plan) → OwesIndex word e.role now s l stored × Has e.orders word →
      ((then_now : Standing) (value : ℕ) → Counted e out into then_now s l (next value)) → Counted e out into now s l (does (Store word stored) next)
  unfolding Counted
  counted_store now s l word stored next owes w = (owes, λ value. w _ value)

  counted_look_read : (now : Standing) (s l : ℕ) (next : ℕ → Plan) → ((index : ℕ) → Counted e out into now s l (next index)) → Counted e out into now s l (look_read e next)
  counted_look_read now s l next w = counted_load now s l _ _ (has_look_read e.orders e.role) (λ value. w _)

  counted_look_write : (now : Standing) (s l : ℕ) (next : ℕ → Plan) → ((index : ℕ) → Counted e out into now s l (next index)) → Counted e out into now s l (look_write e next)
  counted_look_write now s l next w = counted_load now s l _ _ (has_look_write e.orders e.role) (λ value. w _)

  counted_live : (now : Standing) (s l : ℕ) (next : ℕ → Plan) → ((value : ℕ) → Counted e out into now s l (next value)) → Counted e out into now s l (does (Load (peer_live e.role)) next)
  counted_live now s l next w = counted_load now s l _ _ (has_peer_live e.orders e.role) w

  counted_gone : (now : Standing) (s l : ℕ) (next : ℕ → Plan) → ((value : ℕ) → Counted e out into now s l (next value)) → Counted e out into now s l (does (Load (peer_gone e.role)) next)
  counted_gone now s l next w = counted_load now s l _ _ (has_peer_gone e.orders e.role) w

  counted_ask : (now : Standing) (s l : ℕ) (bit : Bit) (next : Plan) → Counted e out into now s l next → Counted e out into now s l (ask e bit next)
  unfolding Counted standing_after
  counted_ask now s l bit next w = (has_ask e.orders e.role, λ value. w)

  counted_signal : (now : Standing) (s l : ℕ) (next : Plan) → ((then_now : Standing) → Counted e out into then_now s l next) → Counted e out into now s l (signal e next)
  counted_signal now s l next w = counted_store now s l _ _ _ (owes_pending e.role e.orders now s l 1) (λ then_now value. w then_now)

  counted_notify : (now : Standing) (s l : ℕ) (bit : Bit) (answer : Answer) → Counted e out into now s l (notify e bit (answers answer))
  counted_notify now s l bit answer =
      counted_and now s l _ _ _ (has_notify e.orders e.role) (λ value. counted_if now s l _ _ _ (counted_answers now s l answer)
      (counted_signal now s l (answers answer) (λ then_now. counted_answers then_now s l answer)))

  counted_put_bytes : (k i : ℕ) (now : Standing) (l : ℕ) (next : Plan) → i + k ≤ out → ((s : ℕ) → s ≡ i + k → Counted e out into now s l next) → Counted e out into now i l (put_bytes e i k next)
  unfolding Counted standing_after
  counted_put_bytes zero i now l next fits w = w i (omega arith)
  counted_put_bytes (suc k) i now l next fits w =
      ((refl, omega (arith, fits), place_within (e.prod + i) (write_order e)), λ value. counted_put_bytes k (i + 1) now l next (omega (arith, fits)) (λ s is. w s (omega (arith, is))))

  counted_take_bytes : (k i : ℕ) (now : Standing) (s : ℕ) (next : Plan) → i + k ≤ into → ((l : ℕ) → l ≡ i + k → Counted e out into now s l next) → Counted e out into now s i (take_bytes e i k next)
  unfolding Counted standing_after
  counted_take_bytes zero i now s next fits w = w i (omega arith)
  counted_take_bytes (suc k) i now s next fits w =
      ((refl, omega (arith, fits), place_within (e.cons + i) (read_order e)), λ value. counted_take_bytes k (i + 1) now s next (omega (arith, fits)) (λ l is. w l (omega (arith, is))))

  counted_put : (k : ℕ) (answer : Answer) → k ≤ out → Counted e out into e 0 0 (put e k (answers answer))
  counted_put k answer fits =
      counted_put_bytes k 0 e 0 _ (omega (arith, fits)) (λ s is. counted_store e s 0 _ _ _
      (owes_prod e.role e.orders e s 0 _ (ap (λ (j : ℕ). (e.prod + j) % 2 ^ 32) (omega (arith, is)))) (λ then_now value. counted_notify then_now s 0 Written answer))

  counted_take : (k : ℕ) (answer : Answer) → k ≤ into → Counted e out into e 0 0 (take e k (answers answer))
  counted_take k answer fits =
      counted_take_bytes k 0 e 0 _ (omega (arith, fits)) (λ l is. counted_store e 0 l _ _ _
      (owes_cons e.role e.orders e 0 l _ (ap (λ (j : ℕ). (e.cons + j) % 2 ^ 32) (omega (arith, is)))) (λ then_now value. counted_notify then_now 0 l Consumed answer))

-- ---- the rows

module _ (e : Standing) (n : ℕ) where
  write_most : ℕ
  write_most = min n (write_size e)

  read_most : ℕ
  read_most = min n (read_size e)

  free_fits : (cons : ℕ) → min n (free_at e cons) ≤ write_most
  unfolding write_most
  free_fits cons = omega (arith, room_within e.prod cons (write_order e))

  ready_fits : (prod : ℕ) → min n (ready_at e prod) ≤ read_most
  unfolding read_most
  ready_fits prod = omega (arith, ready_within prod e.cons (read_order e))

  counted_write_looked : (cons : ℕ) → Counted e write_most 0 e 0 0 (write_looked e n cons)
  unfolding write_looked
  counted_write_looked cons =
      counted_if e write_most 0 e 0 0 (n == 0) _ _ (counted_answers e write_most 0 e 0 0 (Wrote 0))
      (counted_if e write_most 0 e 0 0 (free_at e cons == 0) _ _ (counted_answers e write_most 0 e 0 0 (Full e.prod cons))
      (counted_put e write_most 0 (min n (free_at e cons)) (Wrote (min n (free_at e cons))) (free_fits cons)))

  counted_write : Counted e write_most 0 e 0 0 (write e n)
  unfolding write write_open
  counted_write =
      counted_live e write_most 0 e 0 0 _ (λ live. counted_if e write_most 0 e 0 0 _ _ _ (counted_answers e write_most 0 e 0 0 _)
      (counted_look_write e write_most 0 e 0 0 _ (λ cons. counted_if e write_most 0 e 0 0 (nat_lt (free_at e cons) n) _ _
      (counted_ask e write_most 0 e 0 0 Consumed _ (counted_look_write e write_most 0 e 0 0 _ counted_write_looked)) (counted_write_looked cons))))

  counted_send_looked : (cons : ℕ) → Counted e write_most 0 e 0 0 (send_looked e n cons)
  unfolding send_looked
  counted_send_looked cons = go (cases_lt (free_at e cons) n)
    where
      go : (free_at e cons < n) ⊎ (n ≤ free_at e cons) → Counted e write_most 0 e 0 0 (cond (nat_lt (free_at e cons) n) (answers (NoRoom e.prod cons)) (put e n (answers (Sent n))))
      go (inl less) = simp (lt-ltb _ _ less) (counted_answers e write_most 0 e 0 0 _)
      go (inr enough) = counted_if e write_most 0 e 0 0 _ _ _ (counted_answers e write_most 0 e 0 0 _) (counted_put e write_most 0 n _ (omega (arith, free_fits cons, enough)))

  counted_send : Counted e write_most 0 e 0 0 (send e n)
  unfolding send send_open
  counted_send =
      counted_live e write_most 0 e 0 0 _ (λ live. counted_if e write_most 0 e 0 0 _ _ _ (counted_answers e write_most 0 e 0 0 _)
      (counted_look_write e write_most 0 e 0 0 _ (λ cons. counted_if e write_most 0 e 0 0 (nat_lt (free_at e cons) n) _ _
      (counted_ask e write_most 0 e 0 0 Consumed _ (counted_look_write e write_most 0 e 0 0 _ counted_send_looked)) (counted_send_looked cons))))

  counted_read_looked : (prod : ℕ) → Counted e 0 read_most e 0 0 (read_looked e n prod)
  unfolding read_looked read_live
  counted_read_looked prod =
      counted_if e 0 read_most e 0 0 _ _ _ (counted_live e 0 read_most e 0 0 _ (λ live. counted_if e 0 read_most e 0 0 _ _ _ (counted_answers e 0 read_most e 0 0 _) (counted_answers e 0 read_most e 0 0 _)))
      (counted_take e 0 read_most _ _ (ready_fits prod))

  counted_read : Counted e 0 read_most e 0 0 (read e n)
  unfolding read
  counted_read =
      counted_look_read e 0 read_most e 0 0 _ (λ prod. counted_if e 0 read_most e 0 0 (nat_lt (ready_at e prod) n) _ _
      (counted_ask e 0 read_most e 0 0 Written _ (counted_look_read e 0 read_most e 0 0 _ counted_read_looked)) (counted_read_looked prod))

  counted_recv_looked : (prod : ℕ) → Counted e 0 read_most e 0 0 (recv_looked e n prod)
  unfolding recv_looked recv_live
  counted_recv_looked prod = go (cases_lt (ready_at e prod) n)
    where
      live : Counted e 0 read_most e 0 0 (recv_live e prod)
      live = counted_live e 0 read_most e 0 0 _ (λ value. counted_if e 0 read_most e 0 0 _ _ _ (counted_answers e 0 read_most e 0 0 _) (counted_answers e 0 read_most e 0 0 _))

      go : (ready_at e prod < n) ⊎ (n ≤ ready_at e prod) → Counted e 0 read_most e 0 0 (cond (nat_lt (ready_at e prod) n) (recv_live e prod) (take e n (answers (Got n))))
      go (inl less) = simp (lt-ltb _ _ less) live
      go (inr enough) = counted_if e 0 read_most e 0 0 _ _ _ live (counted_take e 0 read_most n _ (omega (arith, ready_fits prod, enough)))

  counted_recv : Counted e 0 read_most e 0 0 (recv e n)
  unfolding recv
  counted_recv =
      counted_look_read e 0 read_most e 0 0 _ (λ prod. counted_if e 0 read_most e 0 0 (nat_lt (ready_at e prod) n) _ _
      (counted_ask e 0 read_most e 0 0 Written _ (counted_look_read e 0 read_most e 0 0 _ counted_recv_looked)) (counted_recv_looked prod))

  counted_found : (prod : ℕ) (next : Plan) → Counted e 0 read_most e 0 0 next → Counted e 0 read_most e 0 0 (drain_found e n prod next)
  counted_found prod next w = counted_if e 0 read_most e 0 0 _ _ _ w (counted_take e 0 read_most _ _ (ready_fits prod))

  counted_drain_gone : (prod : ℕ) → Counted e 0 read_most e 0 0 (drain_gone e n prod)
  unfolding drain_gone drain_last
  counted_drain_gone prod =
      counted_gone e 0 read_most e 0 0 _ (λ gone. counted_if e 0 read_most e 0 0 _ _ _ (counted_answers e 0 read_most e 0 0 _)
      (counted_look_read e 0 read_most e 0 0 _ (λ again. counted_found again _ (counted_answers e 0 read_most e 0 0 (IsGone again e.cons)))))

  counted_drain_live : (prod : ℕ) → Counted e 0 read_most e 0 0 (drain_live e n prod)
  unfolding drain_live drain_further
  counted_drain_live prod =
      counted_live e 0 read_most e 0 0 _ (λ live. counted_if e 0 read_most e 0 0 _ _ _
      (counted_look_read e 0 read_most e 0 0 _ (λ again. counted_if e 0 read_most e 0 0 (again == e.cons) _ _ (counted_answers e 0 read_most e 0 0 AllRead) (counted_found again _ (counted_drain_gone again))))
      (counted_drain_gone prod))

  counted_drain : Counted e 0 read_most e 0 0 (drain e n)
  unfolding drain drain_second
  counted_drain =
      counted_look_read e 0 read_most e 0 0 _ (λ prod. counted_found prod _ (counted_ask e 0 read_most e 0 0 Written _
      (counted_look_read e 0 read_most e 0 0 _ (λ again. counted_found again _ (counted_drain_live again)))))

counted_close : (e now : Standing) (next : Plan) → ((then_now : Standing) → Counted e 0 0 then_now 0 0 next) → Counted e 0 0 now 0 0 (close e next)
counted_close e now next w =
    counted_store e 0 0 now 0 0 _ _ _ (owes_live e.role e.orders now 0 0 0) (λ then_now value. counted_signal e 0 0 then_now 0 0 next w)

counted_retire_shut : (e now : Standing) → Counted e 0 0 now 0 0 (retire_shut e)
counted_retire_shut e now =
    counted_store e 0 0 now 0 0 _ _ _ (owes_gone e.role e.orders now 0 0 1) (λ then_now value. counted_signal e 0 0 then_now 0 0 _ (λ last. counted_answers e 0 0 last 0 0 _))

counted_retire : (e now : Standing) (state : EndState) → Counted e 0 0 now 0 0 (retire e state)
counted_retire e now Fresh = counted_close e now _ (counted_retire_shut e)
counted_retire e now Open = counted_close e now _ (counted_retire_shut e)
counted_retire e now Shut = counted_retire_shut e now

counted_connect : (e : Standing) → Counted e 0 0 e 0 0 (connect e)
unfolding connect connect_right
counted_connect e =
    counted_load e 0 0 e 0 0 _ _ tt (λ left. counted_load e 0 0 e 0 0 _ _ tt (λ right. counted_if e 0 0 e 0 0 _ _ _
    (counted_store e 0 0 e 0 0 _ _ _ (tt, tt) (λ then_now value. counted_answers e 0 0 then_now 0 0 _)) (counted_answers e 0 0 e 0 0 _)))

-- each call
pub counted_call : (e : Standing) (call : Call) → Counted e (stored_most e call) (loaded_most e call) e 0 0 (plan_of e call)
unfolding write_most read_most
counted_call e (Write n) = counted_write e n
counted_call e (Send n) = counted_send e n
counted_call e (Read n) = counted_read e n
counted_call e (Recv n) = counted_recv e n
counted_call e (Drain n) = counted_drain e n
counted_call e DataReady = counted_ask e 0 0 e 0 0 Written _ (counted_look_read e 0 0 e 0 0 _ (λ prod. counted_answers e 0 0 e 0 0 (Ready (ready_at e prod))))
counted_call e BufferSpace = counted_ask e 0 0 e 0 0 Consumed _ (counted_look_write e 0 0 e 0 0 _ (λ cons. counted_answers e 0 0 e 0 0 (Space (free_at e cons))))
counted_call e Connect = counted_connect e
counted_call e Close = counted_close e e _ (λ last. counted_answers e 0 0 last 0 0 _)
counted_call e TakeEvent = counted_swap e 0 0 e 0 0 _ _ _ (has_own_pending e.orders e.role) (λ old. counted_answers e 0 0 e 0 0 _)
counted_call e PeerGone = counted_gone e 0 0 e 0 0 _ (λ gone. counted_answers e 0 0 e 0 0 _)
counted_call e Retire = counted_retire e e e.state

-- ---- along a trail

-- what is counted stays so along the events
pub Counted_Leads : (e : Standing) (out into : ℕ) (now : Standing) (s l : ℕ) (plan : Plan) (events : List PastEvent) (rest : Plan) → Counted e out into now s l plan → Leads plan events rest →
    Counted e out into (standing_along now events) (s + count_stored events) (l + length (bytes_loaded events)) rest
unfolding Counted
Counted_Leads e out into now s l plan [] rest w led =
    rw (add-zero, add-zero) (subst (λ (p : Plan). Counted e out into now s l p) led w)
Counted_Leads e out into now s l (answers answer) (event ∷ events) rest w led = absurd led
Counted_Leads e out into now s l (does op next) (event ∷ events) rest w led =
    moved_on e out into (standing_along (standing_after now event.op) events) s l event.op event.taken events rest (Counted_Leads e out into (standing_after now event.op) (stored_then event.op s) (loaded_then event.op l) (next event.taken) events rest
    (subst (λ (o : Op). Counted e out into (standing_after now o) (stored_then o s) (loaded_then o l) (next event.taken)) (sym led.0) (w.1 event.taken)) led.1)
  where
    moved_on : (e : Standing) (out into : ℕ) (now : Standing) (s l : ℕ) (op : Op) (taken : ℕ) (events : List PastEvent) (rest : Plan) →
        Counted e out into now (stored_then op s + count_stored events) (loaded_then op l + length (bytes_loaded events)) rest →
        Counted e out into now (s + (stored_by op + count_stored events)) (l + length (loaded_by op taken ++ bytes_loaded events)) rest
    moved_on e out into now s l (StoreByte word at) taken events rest w = subst (λ (x : ℕ). Counted e out into now x (l + length (bytes_loaded events)) rest) (omega arith) w
    moved_on e out into now s l (LoadByte word at) taken events rest w =
        rw (zero-add (count_stored events)) (subst (λ (x : ℕ). Counted e out into now (s + count_stored events) x rest) (omega arith) w)
    moved_on e out into now s l (Load word) taken events rest w = rw (zero-add (count_stored events)) w
    moved_on e out into now s l (Store word value) taken events rest w = rw (zero-add (count_stored events)) w
    moved_on e out into now s l (Or word bits) taken events rest w = rw (zero-add (count_stored events)) w
    moved_on e out into now s l (And word bits) taken events rest w = rw (zero-add (count_stored events)) w
    moved_on e out into now s l (Swap word value) taken events rest w = rw (zero-add (count_stored events)) w
    moved_on e out into now s l Nothing taken events rest w = rw (zero-add (count_stored events)) w

-- no more is stored, and no more is loaded, than the bounds allow
within : (e : Standing) (out into : ℕ) (now : Standing) (s l : ℕ) (plan : Plan) (events : List PastEvent) (rest : Plan) → Counted e out into now s l plan → Leads plan events rest →
    s ≤ out → l ≤ into → (s + count_stored events ≤ out) × (l + length (bytes_loaded events) ≤ into)
unfolding Counted
within e out into now s l plan [] rest w led a b = (omega arith, omega arith)
within e out into now s l (answers answer) (event ∷ events) rest w led a b = absurd led
within e out into now s l (does op next) (event ∷ events) rest w led a b =
    step event.op event.taken (subst (λ (o : Op). Owes e out into now s l o) (sym led.0) w.0)
    (within e out into (standing_after now event.op) (stored_then event.op s) (loaded_then event.op l) (next event.taken) events rest
    (subst (λ (o : Op). Counted e out into (standing_after now o) (stored_then o s) (loaded_then o l) (next event.taken)) (sym led.0) (w.1 event.taken)) led.1)
  where
    step : (op : Op) (taken : ℕ) → Owes e out into now s l op →
        (stored_then op s ≤ out → loaded_then op l ≤ into → (stored_then op s + count_stored events ≤ out) × (loaded_then op l + length (bytes_loaded events) ≤ into)) →
        (s + (stored_by op + count_stored events) ≤ out) × (l + length (loaded_by op taken ++ bytes_loaded events) ≤ into)
    step (StoreByte word at) taken owes more = let m = more (omega (arith, owes.0, owes.1)) b in (omega (arith, m.0), m.1)
    step (LoadByte word at) taken owes more = let m = more a (omega (arith, owes.0, owes.1)) in (omega (arith, m.0), omega (arith, m.1))
    step (Load word) taken owes more = let m = more a b in (omega (arith, m.0), m.1)
    step (Store word value) taken owes more = let m = more a b in (omega (arith, m.0), m.1)
    step (Or word bits) taken owes more = let m = more a b in (omega (arith, m.0), m.1)
    step (And word bits) taken owes more = let m = more a b in (omega (arith, m.0), m.1)
    step (Swap word value) taken owes more = let m = more a b in (omega (arith, m.0), m.1)
    step Nothing taken owes more = absurd owes

pub counts_within : (e : Standing) (call : Call) (events : List PastEvent) (rest : Plan) → Leads (plan_of e call) events rest →
    (count_stored events ≤ stored_most e call) × (length (bytes_loaded events) ≤ loaded_most e call)
counts_within e call events rest led =
    let w = within e (stored_most e call) (loaded_most e call) e 0 0 (plan_of e call) events rest (counted_call e call) led (omega arith) (omega arith) in
    (omega (arith, w.0), omega (arith, w.1))

-- what is counted is on the page, within the bounds
fits_op : (e : Standing) (out into : ℕ) (now : Standing) (s l : ℕ) (op : Op) → Owes e out into now s l op → Fits e.orders out into op
fits_op e out into now s l (Load word) owes = owes
fits_op e out into now s l (LoadByte word at) owes = (owes.2, owes.1)
fits_op e out into now s l (Store word value) owes = owes.1
fits_op e out into now s l (StoreByte word at) owes = (owes.2, owes.1)
fits_op e out into now s l (Or word bits) owes = owes
fits_op e out into now s l (And word bits) owes = owes
fits_op e out into now s l (Swap word value) owes = owes
fits_op e out into now s l Nothing owes = absurd owes

each_fits : (e : Standing) (out into : ℕ) (now : Standing) (s l : ℕ) (plan : Plan) → Counted e out into now s l plan → EachDoes (Fits e.orders out into) plan
unfolding Counted EachDoes
each_fits e out into now s l (answers answer) w = tt
each_fits e out into now s l (does op next) w = (fits_op e out into now s l op w.0, λ value. each_fits e out into (standing_after now op) (stored_then op s) (loaded_then op l) (next value) (w.1 value))

pub fits_call : (e : Standing) (call : Call) → EachDoes (Fits e.orders (stored_most e call) (loaded_most e call)) (plan_of e call)
fits_call e call = each_fits e _ _ e 0 0 _ (counted_call e call)
