-- Each event of a call gives what it owes to the events before it: bytes only if a look found room or bytes, an index only once.
use Rattle.std.proofs.Common.{◌≡◌, ℕ, suc, zero, ◌+◌, ◌%◌, ◌^◌, ◌==◌, ◌&&◌, ◌<◌, ◌≤◌, min, nat_lt, Bool, true, false, cond, Some, List, [], ◌∷◌, ◌++◌, length, refl, subst, sym, ap, ◌∙◌, arith, length-append}
use Rattle.std.proofs.lemmas.Bool.Decides.{nat_tests}
use Rattle.ring_words.specs.Rings.{place}
use Rattle.ring_words.specs.declared.page.Role.{Role}
use Rattle.ring_words.specs.declared.page.Role.TheVariants.{Server, Client}
use Rattle.ring_words.specs.declared.page.WordName.{WordName}
use Rattle.ring_words.specs.declared.page.WordName.TheVariants.{LeftCons, LeftProd, RightCons, RightProd, RingByte, CliLive, SrvLive, CliNotify, SrvNotify, SrvPending, CliPending, LeftOrder, RightOrder}
use Rattle.vchan_protocol.specs.declared.op.Op.{Op}
use Rattle.vchan_protocol.specs.declared.op.Op.TheVariants.{Load, LoadByte, Store, StoreByte, Or, And, Swap, Nothing}
use Rattle.vchan_protocol.specs.declared.op.PastEvent.{PastEvent}
use Rattle.vchan_protocol.specs.declared.call.Answer.{Answer}
use Rattle.vchan_protocol.specs.declared.call.Answer.TheVariants.{Wrote, Full, NoRoom, Sent, Empty, Short, PeerClosed, NotYet, AllRead, Ready, Space, Connected, BadOrders, PeerGone as IsGone}
use Rattle.vchan_protocol.specs.declared.call.Bit.{Bit}
use Rattle.vchan_protocol.specs.declared.call.Bit.TheVariants.{Written, Consumed}
use Rattle.vchan_protocol.specs.declared.call.Call.{Call}
use Rattle.vchan_protocol.specs.declared.call.Call.TheVariants.{Write, Send, Read, Recv, Drain, DataReady, BufferSpace, Connect, Close, TakeEvent, Retire, PeerGone}
use Rattle.vchan_protocol.specs.declared.call.EndState.{EndState}
use Rattle.vchan_protocol.specs.declared.call.EndState.TheVariants.{Fresh, Open, Shut}
use Rattle.vchan_protocol.specs.Table.Plan.{Plan, does, answers, next_op, Leads, GoesOn}
use Rattle.vchan_protocol.specs.Table.Ends.{Standing, written_ring, read_ring, prod_word, cons_word, ask_word, notify_word, peer_live, own_live, own_pending, own_gone, peer_gone, peer_pending, low8, low16, low32, write_order, read_order, free_at, ready_at}
use Rattle.vchan_protocol.specs.Table.Calls.{put_bytes, take_bytes, put, take, notify, signal, ask, look_read, look_write, write, write_open, write_looked, read, read_live, read_looked, drain_found, drain_last, drain_gone, drain_further, drain_live, drain_second, drain, connect, connect_right, close, retire, retire_shut, plan_of, send, send_open, send_looked, recv, recv_live, recv_looked}
use Rattle.vchan_protocol.specs.History.TrailSummary.{TrailSummary, summary_after, summary_along, empty_summary}

-- ---- what an event owes

-- the byte that is stored next has its place, and room
pub record StoresByte (e : Standing) (n : TrailSummary) (word : WordName) (at : ℕ) : Type 0 where
  pub index : ℕ
  pub seen : n.cons_seen ≡ Some index
  pub at_is : at ≡ n.stored
  pub word_is : word ≡ RingByte (written_ring e.role) (place (e.prod + at) (write_order e))
  pub has_room : at < free_at e index
  pub not_shown : n.shown ≡ false

-- the byte that is loaded next has its place, and waits
pub record LoadsByte (e : Standing) (n : TrailSummary) (word : WordName) (at : ℕ) : Type 0 where
  pub index : ℕ
  pub older : List ℕ
  pub seen : n.prods_seen ≡ index ∷ older
  pub at_is : at ≡ length n.loaded
  pub word_is : word ≡ RingByte (read_ring e.role) (place (e.cons + at) (read_order e))
  pub waits : at < ready_at e index
  pub not_released : n.released ≡ false

-- the index shows the bytes that were stored
pub record StoresProd (e : Standing) (n : TrailSummary) (value : ℕ) : Type 0 where
  pub index : ℕ
  pub seen : n.cons_seen ≡ Some index
  pub is : value ≡ (e.prod + n.stored) % 2 ^ 32
  pub had_room : n.stored ≤ free_at e index
  pub not_shown : n.shown ≡ false

-- the index releases the places of the bytes that were loaded
pub record StoresCons (e : Standing) (n : TrailSummary) (value : ℕ) : Type 0 where
  pub index : ℕ
  pub older : List ℕ
  pub seen : n.prods_seen ≡ index ∷ older
  pub is : value ≡ (e.cons + length n.loaded) % 2 ^ 32
  pub waited : length n.loaded ≤ ready_at e index
  pub not_released : n.released ≡ false

abbrev pub OwesStored : WordName → Role → Standing → TrailSummary → ℕ → Type 0
OwesStored LeftProd Client e n value = StoresProd e n value
OwesStored RightProd Server e n value = StoresProd e n value
OwesStored LeftCons Server e n value = StoresCons e n value
OwesStored RightCons Client e n value = StoresCons e n value
OwesStored LeftProd Server e n value = ⊥
OwesStored RightProd Client e n value = ⊥
OwesStored LeftCons Client e n value = ⊥
OwesStored RightCons Server e n value = ⊥
OwesStored (RingByte ring at) _ e n value = ⊥
OwesStored _ _ e n value = Unit {0}

-- a word by which ends signal
abbrev pub IsFlag : WordName → Type 0
IsFlag CliNotify = Unit {0}
IsFlag SrvNotify = Unit {0}
IsFlag CliPending = Unit {0}
IsFlag SrvPending = Unit {0}
IsFlag _ = ⊥

abbrev pub OwesSound : Standing → TrailSummary → Op → Type 0
OwesSound e n (Load word) = Unit {0}
OwesSound e n (LoadByte word at) = LoadsByte e n word at
OwesSound e n (Store word value) = OwesStored word e.role e n value
OwesSound e n (StoreByte word at) = StoresByte e n word at
OwesSound e n (Or word bits) = IsFlag word
OwesSound e n (And word bits) = IsFlag word
OwesSound e n (Swap word value) = IsFlag word
OwesSound e n Nothing = ⊥

-- an end stores nothing but 0 in its live byte while its call goes on
abbrev pub StaysStored : WordName → Role → ℕ → Type 0
StaysStored CliLive Client (suc value) = ⊥
StaysStored SrvLive Server (suc value) = ⊥
StaysStored _ _ value = Unit {0}

abbrev pub StaysAs : Role → Op → Type 0
StaysAs role (Store word value) = StaysStored word role value
StaysAs role _ = Unit {0}

-- each event of the plan, whatever the values are, gives what it owes
unfoldable pub Sound : Standing → TrailSummary → Plan → Type 0
Sound e n (answers answer) = Unit {0}
Sound e n (does op next) = OwesSound e n op × ((value : ℕ) → GoesOn (next value) → StaysAs e.role op × Sound e (summary_after e.role n op value) (next value))

-- ---- the pieces

pub flag_ask : (role : Role) → IsFlag (ask_word role)
flag_ask Server = tt
flag_ask Client = tt

pub flag_notify : (role : Role) → IsFlag (notify_word role)
flag_notify Server = tt
flag_notify Client = tt

pub flag_pending : (role : Role) → IsFlag (own_pending role)
flag_pending Server = tt
flag_pending Client = tt

load_live : (role : Role) (n : TrailSummary) (value : ℕ) → summary_after role n (Load (peer_live role)) value ≡ n
load_live Server n value = refl
load_live Client n value = refl

load_gone : (role : Role) (n : TrailSummary) (value : ℕ) → summary_after role n (Load (peer_gone role)) value ≡ n
load_gone Server n value = refl
load_gone Client n value = refl

load_left : (role : Role) (n : TrailSummary) (value : ℕ) → summary_after role n (Load LeftOrder) value ≡ n
load_left Server n value = refl
load_left Client n value = refl

load_right : (role : Role) (n : TrailSummary) (value : ℕ) → summary_after role n (Load RightOrder) value ≡ n
load_right Server n value = refl
load_right Client n value = refl

load_cons : (role : Role) (n : TrailSummary) (value : ℕ) → summary_after role n (Load (cons_word (written_ring role))) value ≡ record n { cons_seen = Some (low32 value) }
load_cons Server n value = refl
load_cons Client n value = refl

load_prod : (role : Role) (n : TrailSummary) (value : ℕ) → summary_after role n (Load (prod_word (read_ring role))) value ≡ record n { prods_seen = low32 value ∷ n.prods_seen }
load_prod Server n value = refl
load_prod Client n value = refl

pending_owes : (role : Role) (e : Standing) (n : TrailSummary) (value : ℕ) → OwesStored (peer_pending role) role e n value × StaysStored (peer_pending role) role value
pending_owes Server e n value = (tt, tt)
pending_owes Client e n value = (tt, tt)

live_owes : (role : Role) (e : Standing) (n : TrailSummary) → OwesStored (own_live role) role e n 0 × StaysStored (own_live role) role 0
live_owes Server e n = (tt, tt)
live_owes Client e n = (tt, tt)

gone_owes : (role : Role) (e : Standing) (n : TrailSummary) (value : ℕ) → OwesStored (own_gone role) role e n value × StaysStored (own_gone role) role value
gone_owes Server e n value = (tt, tt)
gone_owes Client e n value = (tt, tt)

prod_owes : (role : Role) (e : Standing) (n : TrailSummary) (value : ℕ) → StoresProd e n value → OwesStored (prod_word (written_ring role)) role e n value × StaysStored (prod_word (written_ring role)) role value
prod_owes Server e n value w = (w, tt)
prod_owes Client e n value w = (w, tt)

cons_owes : (role : Role) (e : Standing) (n : TrailSummary) (value : ℕ) → StoresCons e n value → OwesStored (cons_word (read_ring role)) role e n value × StaysStored (cons_word (read_ring role)) role value
cons_owes Server e n value w = (w, tt)
cons_owes Client e n value w = (w, tt)

connect_owes : (role : Role) (e : Standing) (n : TrailSummary) → OwesStored CliLive role e n 1
connect_owes Server e n = tt
connect_owes Client e n = tt

module _ (e : Standing) where
  sound_answers : (n : TrailSummary) (answer : Answer) → Sound e n (answers answer)
  unfolding Sound
  sound_answers n answer = tt

  sound_if : (n : TrailSummary) (b : Bool) (p q : Plan) → (b ≡ true → Sound e n p) → (b ≡ false → Sound e n q) → Sound e n (cond b p q)
  sound_if n true p q first second = first refl
  sound_if n false p q first second = second refl

  -- a load that tells nothing of the two rings
  sound_load : (n : TrailSummary) (word : WordName) (next : ℕ → Plan) → ((value : ℕ) → summary_after e.role n (Load word) value ≡ n) → ((value : ℕ) → Sound e n (next value)) → Sound e n (does (Load word) next)
  unfolding Sound
  sound_load n word next same s = (tt, λ value more. (tt, subst (λ (m : TrailSummary). Sound e m (next value)) (sym (same value)) (s value)))

  sound_look_write : (n : TrailSummary) (next : ℕ → Plan) → ((index : ℕ) → Sound e (record n { cons_seen = Some index }) (next index)) → Sound e n (look_write e next)
  unfolding Sound
  sound_look_write n next s = (tt, λ value more. (tt, subst (λ (m : TrailSummary). Sound e m (next (low32 value))) (sym (load_cons e.role n value)) (s (low32 value))))

  sound_look_read : (n : TrailSummary) (next : ℕ → Plan) → ((index : ℕ) → Sound e (record n { prods_seen = index ∷ n.prods_seen }) (next index)) → Sound e n (look_read e next)
  unfolding Sound
  sound_look_read n next s = (tt, λ value more. (tt, subst (λ (m : TrailSummary). Sound e m (next (low32 value))) (sym (load_prod e.role n value)) (s (low32 value))))

  sound_live : (n : TrailSummary) (next : ℕ → Plan) → ((value : ℕ) → Sound e n (next value)) → Sound e n (does (Load (peer_live e.role)) next)
  sound_live n next s = sound_load n _ next (load_live e.role n) s

  -- the peer's live byte is loaded, and its gone word, each with two ways on
  sound_lives : (n : TrailSummary) (first second : Plan) → Sound e n first → Sound e n second → Sound e n (does (Load (peer_live e.role)) (λ live. cond (low8 live == 0) first second))
  sound_lives n first second s t = sound_live n _ (λ live. sound_if n (low8 live == 0) first second (λ _. s) (λ _. t))

  sound_gone : (n : TrailSummary) (next : ℕ → Plan) → ((value : ℕ) → Sound e n (next value)) → Sound e n (does (Load (peer_gone e.role)) next)
  sound_gone n next s = sound_load n _ next (load_gone e.role n) s

  sound_ask : (n : TrailSummary) (bit : Bit) (next : Plan) → Sound e n next → Sound e n (ask e bit next)
  unfolding Sound
  sound_ask n bit next s = (flag_ask e.role, λ value more. (tt, s))

  sound_and : (n : TrailSummary) (word : WordName) (bits : ℕ) (next : ℕ → Plan) → IsFlag word → ((value : ℕ) → Sound e n (next value)) → Sound e n (does (And word bits) next)
  unfolding Sound
  sound_and n word bits next flag s = (flag, λ value more. (tt, s value))

  sound_swap : (n : TrailSummary) (word : WordName) (swapped : ℕ) (next : ℕ → Plan) → IsFlag word → ((value : ℕ) → Sound e n (next value)) → Sound e n (does (Swap word swapped) next)
  unfolding Sound
  sound_swap n word swapped next flag s = (flag, λ value more. (tt, s value))

  sound_store : (n : TrailSummary) (word : WordName) (stored : ℕ) (next : ℕ → Plan) → OwesStored word e.role e n stored × StaysStored word e.role stored →
      ((m : TrailSummary) (value : ℕ) → Sound e m (next value)) → Sound e n (does (Store word stored) next)
  unfolding Sound
  sound_store n word stored next owes s = (owes.0, λ value more. (owes.1, s _ value))

  -- the store of a connect, which ends its call
  sound_connected : (n : TrailSummary) (answer : Answer) → Sound e n (does (Store CliLive 1) (λ _. answers answer))
  unfolding Sound
  sound_connected n answer = (connect_owes e.role e n, λ value more. absurd more)

  sound_signal : (n : TrailSummary) (next : Plan) → ((m : TrailSummary) → Sound e m next) → Sound e n (signal e next)
  sound_signal n next s = sound_store n _ _ _ (pending_owes e.role e n 1) (λ m value. s m)

  sound_notify : (n : TrailSummary) (bit : Bit) (answer : Answer) → Sound e n (notify e bit (answers answer))
  sound_notify n bit answer =
      sound_and n _ _ _ (flag_notify e.role) (λ old. sound_if n _ _ _ (λ _. sound_answers n answer) (λ _. sound_signal n (answers answer) (λ m. sound_answers m answer)))

  sound_put_bytes : (k : ℕ) (n : TrailSummary) (i index : ℕ) (next : Plan) → n.cons_seen ≡ Some index → n.stored ≡ i → n.shown ≡ false → i + k ≤ free_at e index →
      ((m : TrailSummary) → m.cons_seen ≡ Some index → m.stored ≡ i + k → m.shown ≡ false → Sound e m next) → Sound e n (put_bytes e i k next)
  unfolding Sound
  sound_put_bytes zero n i index next seen same hidden fits s = s n seen (omega arith) hidden
  sound_put_bytes (suc k) n i index next seen same hidden fits s = (
    record { index = index; seen = seen; at_is = sym same; word_is = refl; has_room = omega arith; not_shown = hidden },
    λ value more. (tt, sound_put_bytes k (record n { stored = n.stored + 1 }) (i + 1) index next seen (ap (λ (j : ℕ). j + 1) same) hidden (omega arith) (λ m saw is out. s m saw (omega (arith, is)) out)),
  )

  sound_put : (k : ℕ) (n : TrailSummary) (index : ℕ) (answer : Answer) → n.cons_seen ≡ Some index → n.stored ≡ 0 → n.shown ≡ false → k ≤ free_at e index → Sound e n (put e k (answers answer))
  sound_put k n index answer seen none hidden fits =
      sound_put_bytes k n 0 index _ seen none hidden (omega arith) (λ m saw is out. sound_store m _ _ _ (prod_owes e.role e m _
      (record { index = index; seen = saw; is = ap (λ (j : ℕ). (e.prod + j) % 2 ^ 32) (omega (arith, is)); had_room = omega (arith, is); not_shown = out })) (λ then_summary value. sound_notify then_summary Written answer))

  sound_take_bytes : (k : ℕ) (n : TrailSummary) (i index : ℕ) (older : List ℕ) (next : Plan) → n.prods_seen ≡ index ∷ older → length n.loaded ≡ i → n.released ≡ false → i + k ≤ ready_at e index →
      ((m : TrailSummary) → m.prods_seen ≡ index ∷ older → length m.loaded ≡ i + k → m.released ≡ false → Sound e m next) → Sound e n (take_bytes e i k next)
  unfolding Sound
  sound_take_bytes zero n i index older next seen same held fits s = s n seen (omega arith) held
  sound_take_bytes (suc k) n i index older next seen same held fits s = (
    record { index = index; older = older; seen = seen; at_is = sym same; word_is = refl; waits = omega arith; not_released = held },
    λ value more. (tt, sound_take_bytes k (record n { loaded = n.loaded ++ value % 2 ^ 8 ∷ [] }) (i + 1) index older next seen (length-append n.loaded (value % 2 ^ 8 ∷ []) ∙ ap (λ (j : ℕ). j + 1) same) held (omega arith) (λ m saw is out. s m saw (omega (arith, is)) out)),
  )

  sound_take : (k : ℕ) (n : TrailSummary) (index : ℕ) (older : List ℕ) (answer : Answer) → n.prods_seen ≡ index ∷ older → length n.loaded ≡ 0 → n.released ≡ false → k ≤ ready_at e index → Sound e n (take e k (answers answer))
  sound_take k n index older answer seen none held fits =
      sound_take_bytes k n 0 index older _ seen none held (omega arith) (λ m saw is out. sound_store m _ _ _ (cons_owes e.role e m _
      (record { index = index; older = older; seen = saw; is = ap (λ (j : ℕ). (e.cons + j) % 2 ^ 32) (omega (arith, is)); waited = omega (arith, is); not_released = out })) (λ then_summary value. sound_notify then_summary Consumed answer))

-- ---- the rows

not_less : (a b : ℕ) → nat_lt a b ≡ false → b ≤ a
not_less a b h = grind (arith, nat_tests)

module _ (e : Standing) (k : ℕ) where
  sound_write_looked : (n : TrailSummary) (cons : ℕ) → n.cons_seen ≡ Some cons → n.stored ≡ 0 → n.shown ≡ false → Sound e n (write_looked e k cons)
  unfolding write_looked
  sound_write_looked n cons seen none hidden =
      sound_if e n (k == 0) _ _ (λ _. sound_answers e n (Wrote 0)) (λ _. sound_if e n (free_at e cons == 0) _ _ (λ _. sound_answers e n (Full e.prod cons))
      (λ _. sound_put e (min k (free_at e cons)) n cons (Wrote (min k (free_at e cons))) seen none hidden (omega arith)))

  sound_write : Sound e empty_summary (write e k)
  unfolding write write_open
  sound_write =
      sound_lives e empty_summary (answers PeerClosed) _ (sound_answers e empty_summary PeerClosed)
      (sound_look_write e empty_summary _ (λ cons. sound_if e _ (nat_lt (free_at e cons) k) _ _
      (λ _. sound_ask e _ Consumed _ (sound_look_write e _ _ (λ again. sound_write_looked _ again refl refl refl))) (λ _. sound_write_looked _ cons refl refl refl)))

  sound_send_looked : (n : TrailSummary) (cons : ℕ) → n.cons_seen ≡ Some cons → n.stored ≡ 0 → n.shown ≡ false → Sound e n (send_looked e k cons)
  unfolding send_looked
  sound_send_looked n cons seen none hidden =
      sound_if e n (nat_lt (free_at e cons) k) _ _ (λ _. sound_answers e n (NoRoom e.prod cons)) (λ no. sound_put e k n cons (Sent k) seen none hidden (not_less _ _ no))

  sound_send : Sound e empty_summary (send e k)
  unfolding send send_open
  sound_send =
      sound_lives e empty_summary (answers PeerClosed) _ (sound_answers e empty_summary PeerClosed)
      (sound_look_write e empty_summary _ (λ cons. sound_if e _ (nat_lt (free_at e cons) k) _ _
      (λ _. sound_ask e _ Consumed _ (sound_look_write e _ _ (λ again. sound_send_looked _ again refl refl refl))) (λ _. sound_send_looked _ cons refl refl refl)))

  sound_read_looked : (n : TrailSummary) (prod : ℕ) (older : List ℕ) → n.prods_seen ≡ prod ∷ older → length n.loaded ≡ 0 → n.released ≡ false → Sound e n (read_looked e k prod)
  unfolding read_looked read_live
  sound_read_looked n prod older seen none held =
      sound_if e n (ready_at e prod == 0) _ _ (λ _. sound_lives e n (answers PeerClosed) (answers (Empty prod e.cons)) (sound_answers e n PeerClosed) (sound_answers e n (Empty prod e.cons)))
      (λ _. sound_take e (min k (ready_at e prod)) n prod older _ seen none held (omega arith))

  sound_read : Sound e empty_summary (read e k)
  unfolding read
  sound_read =
      sound_look_read e empty_summary _ (λ prod. sound_if e _ (nat_lt (ready_at e prod) k) _ _
      (λ _. sound_ask e _ Written _ (sound_look_read e _ _ (λ again. sound_read_looked _ again _ refl refl refl))) (λ _. sound_read_looked _ prod _ refl refl refl))

  sound_recv_looked : (n : TrailSummary) (prod : ℕ) (older : List ℕ) → n.prods_seen ≡ prod ∷ older → length n.loaded ≡ 0 → n.released ≡ false → Sound e n (recv_looked e k prod)
  unfolding recv_looked recv_live
  sound_recv_looked n prod older seen none held =
      sound_if e n (nat_lt (ready_at e prod) k) _ _ (λ _. sound_lives e n (answers PeerClosed) (answers (Short prod e.cons)) (sound_answers e n PeerClosed) (sound_answers e n (Short prod e.cons)))
      (λ no. sound_take e k n prod older _ seen none held (not_less _ _ no))

  sound_recv : Sound e empty_summary (recv e k)
  unfolding recv
  sound_recv =
      sound_look_read e empty_summary _ (λ prod. sound_if e _ (nat_lt (ready_at e prod) k) _ _
      (λ _. sound_ask e _ Written _ (sound_look_read e _ _ (λ again. sound_recv_looked _ again _ refl refl refl))) (λ _. sound_recv_looked _ prod _ refl refl refl))

  sound_found : (n : TrailSummary) (prod : ℕ) (older : List ℕ) (next : Plan) → n.prods_seen ≡ prod ∷ older → length n.loaded ≡ 0 → n.released ≡ false → Sound e n next → Sound e n (drain_found e k prod next)
  sound_found n prod older next seen none held s =
      sound_if e n (ready_at e prod == 0) _ _ (λ _. s) (λ _. sound_take e (min k (ready_at e prod)) n prod older _ seen none held (omega arith))

  sound_drain_gone : (n : TrailSummary) (prod : ℕ) → length n.loaded ≡ 0 → n.released ≡ false → Sound e n (drain_gone e k prod)
  unfolding drain_gone drain_last
  sound_drain_gone n prod none held =
      sound_gone e n _ (λ gone. sound_if e n (gone == 0) (answers (NotYet prod e.cons)) _ (λ _. sound_answers e n (NotYet prod e.cons))
      (λ _. sound_look_read e n _ (λ again. sound_found _ again _ _ refl none held (sound_answers e _ (IsGone again e.cons)))))

  sound_drain_live : (n : TrailSummary) (prod : ℕ) → length n.loaded ≡ 0 → n.released ≡ false → Sound e n (drain_live e k prod)
  unfolding drain_live drain_further
  sound_drain_live n prod none held =
      sound_lives e n _ _
      (sound_look_read e n _ (λ again. sound_if e _ (again == e.cons) (answers AllRead) (drain_found e k again (drain_gone e k again)) (λ _. sound_answers e _ AllRead) (λ _. sound_found _ again _ _ refl none held (sound_drain_gone _ again none held))))
      (sound_drain_gone n prod none held)

  sound_drain : Sound e empty_summary (drain e k)
  unfolding drain drain_second
  sound_drain =
      sound_look_read e empty_summary _ (λ prod. sound_found _ prod _ _ refl refl refl (sound_ask e _ Written _
      (sound_look_read e _ _ (λ again. sound_found _ again _ _ refl refl refl (sound_drain_live _ again refl refl)))))

sound_close : (e : Standing) (n : TrailSummary) (next : Plan) → ((m : TrailSummary) → Sound e m next) → Sound e n (close e next)
sound_close e n next s = sound_store e n _ _ _ (live_owes e.role e n) (λ m value. sound_signal e m next s)

sound_retire_shut : (e : Standing) (n : TrailSummary) → Sound e n (retire_shut e)
sound_retire_shut e n = sound_store e n _ _ _ (gone_owes e.role e n 1) (λ m value. sound_signal e m _ (λ last. sound_answers e last _))

sound_retire : (e : Standing) (n : TrailSummary) (state : EndState) → Sound e n (retire e state)
sound_retire e n Fresh = sound_close e n _ (sound_retire_shut e)
sound_retire e n Open = sound_close e n _ (sound_retire_shut e)
sound_retire e n Shut = sound_retire_shut e n

sound_connect : (e : Standing) (n : TrailSummary) → Sound e n (connect e)
unfolding connect connect_right
sound_connect e n =
    sound_load e n _ _ (load_left e.role n) (λ left. sound_load e n _ _ (load_right e.role n) (λ right. sound_if e n
    ((low16 left == e.orders.left.number) && (low16 right == e.orders.right.number)) (does (Store CliLive 1) (λ _. answers Connected)) (answers (BadOrders (low16 left) (low16 right)))
    (λ _. sound_connected e n Connected) (λ _. sound_answers e n _)))

-- each call
pub sound_call : (e : Standing) (call : Call) → Sound e empty_summary (plan_of e call)
sound_call e (Write n) = sound_write e n
sound_call e (Send n) = sound_send e n
sound_call e (Read n) = sound_read e n
sound_call e (Recv n) = sound_recv e n
sound_call e (Drain n) = sound_drain e n
sound_call e DataReady = sound_ask e empty_summary Written _ (sound_look_read e empty_summary _ (λ prod. sound_answers e _ (Ready (ready_at e prod))))
sound_call e BufferSpace = sound_ask e empty_summary Consumed _ (sound_look_write e empty_summary _ (λ cons. sound_answers e _ (Space (free_at e cons))))
sound_call e Connect = sound_connect e empty_summary
sound_call e Close = sound_close e empty_summary _ (λ last. sound_answers e last _)
sound_call e TakeEvent = sound_swap e empty_summary _ _ _ (flag_pending e.role) (λ old. sound_answers e empty_summary _)
sound_call e PeerGone = sound_gone e empty_summary _ (λ gone. sound_answers e empty_summary _)
sound_call e Retire = sound_retire e empty_summary e.state

-- ---- along a trail

-- what leads to a plan that goes on goes on itself
pub goes_on_Leads : (plan : Plan) (events : List PastEvent) (rest : Plan) → Leads plan events rest → GoesOn rest → GoesOn plan
goes_on_Leads plan [] rest led more = subst GoesOn (sym led) more
goes_on_Leads (answers answer) (event ∷ events) rest led more = absurd led
goes_on_Leads (does op next) (event ∷ events) rest led more = tt

-- what is sound stays so along the events
pub Sound_Leads : (e : Standing) (n : TrailSummary) (plan : Plan) (events : List PastEvent) (rest : Plan) → Sound e n plan → Leads plan events rest → GoesOn rest →
    Sound e (summary_along e.role n events) rest
unfolding Sound
Sound_Leads e n plan [] rest s led more = subst (λ (p : Plan). Sound e n p) led s
Sound_Leads e n (answers answer) (event ∷ events) rest s led more = absurd led
Sound_Leads e n (does op next) (event ∷ events) rest s led more =
    Sound_Leads e (summary_after e.role n event.op event.taken) (next event.taken) events rest
    (subst (λ (o : Op). Sound e (summary_after e.role n o event.taken) (next event.taken)) (sym led.0) (s.1 event.taken (goes_on_Leads (next event.taken) events rest led.1 more)).1) led.1 more

-- the next event gives what it owes
pub owes_sound : (e : Standing) (n : TrailSummary) (plan : Plan) → Sound e n plan → GoesOn plan → OwesSound e n (next_op plan)
unfolding Sound
owes_sound e n (answers answer) s more = absurd more
owes_sound e n (does op next) s more = s.0
