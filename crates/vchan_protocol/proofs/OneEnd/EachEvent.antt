-- What holds of each event of a call that neither opens nor shuts its end, whatever values these take: it is enough that it holds of the kinds of events that such calls make.
use Rattle.std.proofs.Common.{ℕ, suc, zero, ◌+◌, ◌==◌, min, nat_lt, Bool, true, false, cond}
use Rattle.ring_words.specs.declared.page.WordName.{WordName}
use Rattle.vchan_protocol.specs.declared.op.Op.{Op}
use Rattle.vchan_protocol.specs.declared.op.Op.TheVariants.{Load, LoadByte, Store, StoreByte, Or, And, Swap}
use Rattle.vchan_protocol.specs.declared.call.Answer.{Answer}
use Rattle.vchan_protocol.specs.declared.call.Answer.TheVariants.{Wrote, Full, NoRoom, Sent, Got, Empty, Short, PeerClosed, NotYet, AllRead, Ready, Space, Event, Gone, PeerGone as IsGone}
use Rattle.vchan_protocol.specs.declared.call.Bit.{Bit}
use Rattle.vchan_protocol.specs.declared.call.Bit.TheVariants.{Written, Consumed}
use Rattle.vchan_protocol.specs.declared.call.Call.{Call}
use Rattle.vchan_protocol.specs.declared.call.Call.TheVariants.{Write, Send, Read, Recv, Drain, DataReady, BufferSpace, Connect, Close, TakeEvent, Retire, PeerGone}
use Rattle.vchan_protocol.specs.Table.Plan.{Plan, does, answers, EachDoes}
use Rattle.vchan_protocol.specs.Table.Ends.{Standing, written_ring, read_ring, prod_word, cons_word, peer_pending, free_at, ready_at, low8, low32}
use Rattle.vchan_protocol.specs.Table.Calls.{put_bytes, take_bytes, put, take as takes_out, notify, ask, write, write_open, write_looked, read, read_live, read_looked, drain_found, drain_last, drain_gone, drain_further, drain_live, drain_second, drain, plan_of, send, send_open, send_looked, recv, recv_live, recv_looked}

-- the calls that neither open nor shut their end
abbrev pub KeepsState : Call → Type 0
KeepsState Connect = ⊥
KeepsState Close = ⊥
KeepsState Retire = ⊥
KeepsState _ = Unit {0}

-- the kinds of events of such calls have it
pub record KindsHave (e : Standing) (P : Op → Type 0) : Type 0 where
  pub loads : (word : WordName) → P (Load word)
  pub load_bytes : (word : WordName) (at : ℕ) → P (LoadByte word at)
  pub store_bytes : (word : WordName) (at : ℕ) → P (StoreByte word at)
  pub ors : (word : WordName) (bits : ℕ) → P (Or word bits)
  pub ands : (word : WordName) (bits : ℕ) → P (And word bits)
  pub swaps : (word : WordName) (value : ℕ) → P (Swap word value)
  pub shows : (value : ℕ) → P (Store (prod_word (written_ring e.role)) value)
  pub releases : (value : ℕ) → P (Store (cons_word (read_ring e.role)) value)
  pub signals : (value : ℕ) → P (Store (peer_pending e.role) value)

pub each_answers : (P : Op → Type 0) (answer : Answer) → EachDoes P (answers answer)
unfolding EachDoes
each_answers P answer = tt

pub each_does : (P : Op → Type 0) (op : Op) (next : ℕ → Plan) → P op → ((value : ℕ) → EachDoes P (next value)) → EachDoes P (does op next)
unfolding EachDoes
each_does P op next here on = (here, on)

module _ (e : Standing) (P : Op → Type 0) (h : KindsHave e P) where
  load : (word : WordName) (next : ℕ → Plan) → ((value : ℕ) → EachDoes P (next value)) → EachDoes P (does (Load word) next)
  load word next on = each_does P (Load word) next (h.loads word) on

  branch : (b : Bool) (x y : Plan) → EachDoes P x → EachDoes P y → EachDoes P (cond b x y)
  branch true x y one two = one
  branch false x y one two = two

  asks_first : (bit : Bit) (next : Plan) → EachDoes P next → EachDoes P (ask e bit next)
  asks_first bit next on = each_does P _ _ (h.ors _ _) (λ _. on)

  notifies : (bit : Bit) (next : Plan) → EachDoes P next → EachDoes P (notify e bit next)
  notifies bit next on = each_does P _ _ (h.ands _ _) (λ old. branch _ next _ on (each_does P _ _ (h.signals 1) (λ _. on)))

  puts_bytes : (i k : ℕ) (next : Plan) → EachDoes P next → EachDoes P (put_bytes e i k next)
  puts_bytes i zero next on = on
  puts_bytes i (suc k) next on = each_does P _ _ (h.store_bytes _ _) (λ _. puts_bytes (i + 1) k next on)

  takes_bytes : (i k : ℕ) (next : Plan) → EachDoes P next → EachDoes P (take_bytes e i k next)
  takes_bytes i zero next on = on
  takes_bytes i (suc k) next on = each_does P _ _ (h.load_bytes _ _) (λ _. takes_bytes (i + 1) k next on)

  puts : (k : ℕ) (answer : Answer) → EachDoes P (put e k (answers answer))
  puts k answer = puts_bytes 0 k _ (each_does P _ _ (h.shows _) (λ _. notifies Written _ (each_answers P answer)))

  takes : (k : ℕ) (answer : Answer) → EachDoes P (takes_out e k (answers answer))
  takes k answer = takes_bytes 0 k _ (each_does P _ _ (h.releases _) (λ _. notifies Consumed _ (each_answers P answer)))

  -- ---- the rows

  each_write_looked : (n cons : ℕ) → EachDoes P (write_looked e n cons)
  unfolding write_looked
  each_write_looked n cons = branch (n == 0) _ _ (each_answers P (Wrote 0)) (branch (free_at e cons == 0) _ _ (each_answers P (Full e.prod cons)) (puts (min n (free_at e cons)) (Wrote (min n (free_at e cons)))))

  each_write_open : (n : ℕ) → EachDoes P (write_open e n)
  unfolding write_open
  each_write_open n = load _ _ (λ v. branch (nat_lt (free_at e (low32 v)) n) _ _ (asks_first Consumed _ (load _ _ (λ w. each_write_looked n (low32 w)))) (each_write_looked n (low32 v)))

  each_write : (n : ℕ) → EachDoes P (write e n)
  unfolding write
  each_write n = load _ _ (λ live. branch (low8 live == 0) _ _ (each_answers P PeerClosed) (each_write_open n))

  each_send_looked : (n cons : ℕ) → EachDoes P (send_looked e n cons)
  unfolding send_looked
  each_send_looked n cons = branch (nat_lt (free_at e cons) n) _ _ (each_answers P (NoRoom e.prod cons)) (puts n (Sent n))

  each_send_open : (n : ℕ) → EachDoes P (send_open e n)
  unfolding send_open
  each_send_open n = load _ _ (λ v. branch (nat_lt (free_at e (low32 v)) n) _ _ (asks_first Consumed _ (load _ _ (λ w. each_send_looked n (low32 w)))) (each_send_looked n (low32 v)))

  each_send : (n : ℕ) → EachDoes P (send e n)
  unfolding send
  each_send n = load _ _ (λ live. branch (low8 live == 0) _ _ (each_answers P PeerClosed) (each_send_open n))

  each_read_live : (prod : ℕ) → EachDoes P (read_live e prod)
  unfolding read_live
  each_read_live prod = load _ _ (λ live. branch (low8 live == 0) _ _ (each_answers P PeerClosed) (each_answers P (Empty prod e.cons)))

  each_read_looked : (n prod : ℕ) → EachDoes P (read_looked e n prod)
  unfolding read_looked
  each_read_looked n prod = branch (ready_at e prod == 0) _ _ (each_read_live prod) (takes (min n (ready_at e prod)) (Got (min n (ready_at e prod))))

  each_read : (n : ℕ) → EachDoes P (read e n)
  unfolding read
  each_read n = load _ _ (λ v. branch (nat_lt (ready_at e (low32 v)) n) _ _ (asks_first Written _ (load _ _ (λ w. each_read_looked n (low32 w)))) (each_read_looked n (low32 v)))

  each_recv_live : (prod : ℕ) → EachDoes P (recv_live e prod)
  unfolding recv_live
  each_recv_live prod = load _ _ (λ live. branch (low8 live == 0) _ _ (each_answers P PeerClosed) (each_answers P (Short prod e.cons)))

  each_recv_looked : (n prod : ℕ) → EachDoes P (recv_looked e n prod)
  unfolding recv_looked
  each_recv_looked n prod = branch (nat_lt (ready_at e prod) n) _ _ (each_recv_live prod) (takes n (Got n))

  each_recv : (n : ℕ) → EachDoes P (recv e n)
  unfolding recv
  each_recv n = load _ _ (λ v. branch (nat_lt (ready_at e (low32 v)) n) _ _ (asks_first Written _ (load _ _ (λ w. each_recv_looked n (low32 w)))) (each_recv_looked n (low32 v)))

  finds : (n prod : ℕ) (next : Plan) → EachDoes P next → EachDoes P (drain_found e n prod next)
  finds n prod next on = branch (ready_at e prod == 0) _ _ on (takes (min n (ready_at e prod)) (Got (min n (ready_at e prod))))

  each_drain_gone : (n prod : ℕ) → EachDoes P (drain_gone e n prod)
  unfolding drain_gone drain_last
  each_drain_gone n prod = load _ _ (λ gone. branch (gone == 0) _ _ (each_answers P (NotYet prod e.cons)) (load _ _ (λ v. finds n (low32 v) _ (each_answers P (IsGone (low32 v) e.cons)))))

  each_drain_further : (n prod : ℕ) → EachDoes P (drain_further e n prod)
  unfolding drain_further
  each_drain_further n prod = branch (prod == e.cons) _ _ (each_answers P AllRead) (finds n prod _ (each_drain_gone n prod))

  each_drain_live : (n prod : ℕ) → EachDoes P (drain_live e n prod)
  unfolding drain_live
  each_drain_live n prod = load _ _ (λ live. branch (low8 live == 0) _ _ (load _ _ (λ v. each_drain_further n (low32 v))) (each_drain_gone n prod))

  each_drain : (n : ℕ) → EachDoes P (drain e n)
  unfolding drain drain_second
  each_drain n = load _ _ (λ v. finds n (low32 v) _ (asks_first Written _ (load _ _ (λ w. finds n (low32 w) _ (each_drain_live n (low32 w))))))

  -- each event of such a call has it
  pub each_event : (call : Call) → KeepsState call → EachDoes P (plan_of e call)
  each_event (Write n) keeps = each_write n
  each_event (Send n) keeps = each_send n
  each_event (Read n) keeps = each_read n
  each_event (Recv n) keeps = each_recv n
  each_event (Drain n) keeps = each_drain n
  each_event DataReady keeps = asks_first Written _ (load _ _ (λ v. each_answers P (Ready _)))
  each_event BufferSpace keeps = asks_first Consumed _ (load _ _ (λ v. each_answers P (Space _)))
  each_event TakeEvent keeps = each_does P _ _ (h.swaps _ _) (λ old. each_answers P (Event _))
  each_event PeerGone keeps = load _ _ (λ gone. each_answers P (Gone _))
  each_event Connect keeps = absurd keeps
  each_event Close keeps = absurd keeps
  each_event Retire keeps = absurd keeps
