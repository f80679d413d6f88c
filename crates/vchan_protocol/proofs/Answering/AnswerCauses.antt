-- Each row of the table of calls, walked to its answers: an answer has its cause in what was loaded, and tells what was moved.
use Rattle.std.proofs.Common.{◌≡◌, ◌≢◌, ℕ, suc, zero, ◌==◌, ◌&&◌, ◌<◌, min, nat_lt, Bool, true, false, not, Option, Some, None, IsSomeAnd, List, [], ◌∷◌, refl, sym, ap, ◌∙◌, arith}
use Rattle.std.proofs.lemmas.Bool.{eqb-true, eqb-false, eq-eqb, ltb-true, ltb-false, false≢true, or_right, or_left}
use Rattle.vchan_protocol.specs.declared.call.Answer.{Answer}
use Rattle.vchan_protocol.specs.declared.call.Answer.TheVariants.{Wrote, Full, Sent, NoRoom, Got, Empty, Short, PeerClosed, Ready, Space, Connected, BadOrders, Done, Event, NotYet, AllRead, Gone, PeerGone as IsGone}
use Rattle.vchan_protocol.specs.declared.call.Bit.TheVariants.{Written, Consumed}
use Rattle.vchan_protocol.specs.declared.call.Call.{Call}
use Rattle.vchan_protocol.specs.declared.call.Call.TheVariants.{Write, Send, Read, Recv, Drain, DataReady, BufferSpace, Connect, Close, TakeEvent, Retire, PeerGone}
use Rattle.vchan_protocol.specs.declared.call.EndState.{EndState}
use Rattle.vchan_protocol.specs.declared.call.EndState.TheVariants.{Fresh, Open, Shut}
use Rattle.vchan_protocol.specs.Table.Plan.{Plan, answers}
use Rattle.vchan_protocol.specs.Table.Ends.{Standing, low16, free_at, ready_at}
use Rattle.vchan_protocol.specs.Table.Calls.{write, write_open, write_looked, read, read_live, read_looked, drain_found, drain_last, drain_gone, drain_further, drain_live, drain_second, drain, connect, connect_right, close, retire, retire_shut, plan_of, send, send_open, send_looked, recv, recv_live, recv_looked}
use Rattle.vchan_protocol.specs.History.Core.{is_shut}
use Rattle.vchan_protocol.specs.Answering.Loads.{Pair, Loads, nothing_loaded, last_pair, looked}
use Rattle.vchan_protocol.specs.Answering.Causes.{FoundOpen, FoundNone, FoundAllRead, SayOrders, Cause, write_closed, wrote_none, write_full, wrote_some, send_closed, send_no_room, sent_all, read_got, read_closed, read_empty, recv_got, recv_closed, recv_short, drain_got, drain_all_read, drain_not_yet, drain_peer_gone, connect_agrees, connect_refused}
use Rattle.vchan_protocol.specs.Answering.AnswerLaw.{sends_bytes, transfer_told}
use Rattle.vchan_protocol.proofs.Answering.AnswerTrails.{Deeds, Comes, comes_answers, comes_if, comes_look_read, comes_look_write, comes_live, comes_gone, comes_gone_told, comes_left_order, comes_right_order, comes_ask, comes_store, comes_signal, comes_swap, comes_put, comes_take, own_live_written, own_gone_written}

-- ---- what an answer owes

-- an answer that tells of the peer's end comes only if the end has noticed it
abbrev pub NoticesEnd : EndState → Bool → Answer → Type 0
NoticesEnd state noticed PeerClosed = is_shut state ≡ false → noticed ≡ true
NoticesEnd state noticed AllRead = is_shut state ≡ false → noticed ≡ true
NoticesEnd state noticed (IsGone prod cons) = is_shut state ≡ false → noticed ≡ true
NoticesEnd state noticed (Gone is) = is ≡ true → is_shut state ≡ false → noticed ≡ true
NoticesEnd state noticed _ = Unit {0}

pub record Answers (e : Standing) (call : Call) (n : Deeds) (answer : Answer) : Type 0 where
  pub cause : Cause e call n.loads answer
  pub transfer : record { stored = n.stored; loaded = n.loaded; others = n.others } ≡ transfer_told e answer
  pub notices : NoticesEnd e.state n.noticed answer

-- only loads so far
abbrev pub only_loaded : Loads → Bool → Deeds
only_loaded loads noticed = record { loads = loads; stored = 0; loaded = 0; others = []; noticed = noticed }

abbrev pub nothing_done : Deeds
nothing_done = only_loaded nothing_loaded false

above : (n : ℕ) → (n == 0) ≡ false → 0 < n
above n some = let apart = eqb-false n 0 some in omega (arith, apart)

wrote_told : (e : Standing) (count : ℕ) → 0 < count → sends_bytes e count ≡ transfer_told e (Wrote count)
wrote_told e zero above = absurd (omega arith)
wrote_told e (suc count) above = refl

-- ---- the rows that move bytes

module _ (e : Standing) (n : ℕ) where
  write_looked_answers : (l : Loads) (seen : Bool) (cons : ℕ) → last_pair l ≡ Some (record { prod = e.prod; cons = cons }) → FoundOpen l →
      Comes (Answers e (Write n)) e (only_loaded l seen) (write_looked e n cons)
  unfolding write_looked
  write_looked_answers l seen cons last alive =
      comes_if (Answers e (Write n)) e e (only_loaded l seen) (n == 0) _ _
      (λ none. comes_answers (Answers e (Write n)) e e (only_loaded l seen) (Wrote 0) (record { cause = wrote_none alive (eqb-true n 0 none) refl; transfer = refl; notices = tt }))
      (λ some. comes_if (Answers e (Write n)) e e (only_loaded l seen) (free_at e cons == 0) _ _
      (λ full. comes_answers (Answers e (Write n)) e e (only_loaded l seen) (Full e.prod cons)
      (record { cause = write_full (record { prod = e.prod; cons = cons }) last alive (above n some) (eqb-true _ _ full) refl; transfer = refl; notices = tt }))
      (λ fits. comes_put (Answers e (Write n)) e (min n (free_at e cons)) (only_loaded l seen) (Wrote (min n (free_at e cons))) refl refl
      (fitting cons last alive (above n some) (above _ fits))))
    where
      fitting : (cons : ℕ) → last_pair l ≡ Some (record { prod = e.prod; cons = cons }) → FoundOpen l → 0 < n → 0 < free_at e cons →
          Answers e (Write n) (record (only_loaded l seen) { stored = min n (free_at e cons); others = (sends_bytes e (min n (free_at e cons))).others }) (Wrote (min n (free_at e cons)))
      fitting cons last alive some fits = record {
        cause = wrote_some (record { prod = e.prod; cons = cons }) last alive some fits refl;
        transfer = wrote_told e (min n (free_at e cons)) (omega (arith, some, fits));
        notices = tt;
      }

  write_answers : Comes (Answers e (Write n)) e nothing_done (write e n)
  unfolding write write_open
  write_answers =
      comes_live (Answers e (Write n)) e nothing_done _ _
      (λ seen noticed. comes_answers (Answers e (Write n)) e e _ PeerClosed (record { cause = write_closed refl refl; transfer = refl; notices = noticed }))
      (λ live seen alive. comes_look_write (Answers e (Write n)) e _ _ (λ cons more. comes_if (Answers e (Write n)) e e _ (nat_lt (free_at e cons) n) _ _
      (λ less. comes_ask (Answers e (Write n)) e _ Consumed _ (comes_look_write (Answers e (Write n)) e _ _ (λ again last. write_looked_answers _ _ again refl alive)))
      (λ enough. write_looked_answers _ _ cons refl alive)))

  send_looked_answers : (l : Loads) (seen : Bool) (cons : ℕ) → last_pair l ≡ Some (record { prod = e.prod; cons = cons }) → FoundOpen l →
      Comes (Answers e (Send n)) e (only_loaded l seen) (send_looked e n cons)
  unfolding send_looked
  send_looked_answers l seen cons last alive =
      comes_if (Answers e (Send n)) e e (only_loaded l seen) (nat_lt (free_at e cons) n) _ _
      (λ less. comes_answers (Answers e (Send n)) e e (only_loaded l seen) (NoRoom e.prod cons)
      (record { cause = send_no_room (record { prod = e.prod; cons = cons }) last alive (ltb-true _ _ less) refl; transfer = refl; notices = tt }))
      (λ enough. comes_put (Answers e (Send n)) e n (only_loaded l seen) (Sent n) refl refl
      (record { cause = sent_all (record { prod = e.prod; cons = cons }) last alive (ltb-false _ _ enough) refl; transfer = refl; notices = tt }))

  send_answers : Comes (Answers e (Send n)) e nothing_done (send e n)
  unfolding send send_open
  send_answers =
      comes_live (Answers e (Send n)) e nothing_done _ _
      (λ seen noticed. comes_answers (Answers e (Send n)) e e _ PeerClosed (record { cause = send_closed refl refl; transfer = refl; notices = noticed }))
      (λ live seen alive. comes_look_write (Answers e (Send n)) e _ _ (λ cons more. comes_if (Answers e (Send n)) e e _ (nat_lt (free_at e cons) n) _ _
      (λ less. comes_ask (Answers e (Send n)) e _ Consumed _ (comes_look_write (Answers e (Send n)) e _ _ (λ again last. send_looked_answers _ _ again refl alive)))
      (λ enough. send_looked_answers _ _ cons refl alive)))

  read_looked_answers : (l : Loads) (seen : Bool) (prod : ℕ) → last_pair l ≡ Some (record { prod = prod; cons = e.cons }) →
      Comes (Answers e (Read n)) e (only_loaded l seen) (read_looked e n prod)
  unfolding read_looked read_live
  read_looked_answers l seen prod last =
      comes_if (Answers e (Read n)) e e (only_loaded l seen) (ready_at e prod == 0) _ _
      (λ none. comes_live (Answers e (Read n)) e (only_loaded l seen) _ _
      (λ more noticed. comes_answers (Answers e (Read n)) e e _ PeerClosed
      (record { cause = read_closed (record { prod = prod; cons = e.cons }) last (eqb-true _ _ none) refl refl; transfer = refl; notices = λ unshut. or_right seen more (noticed unshut) }))
      (λ live more alive. comes_answers (Answers e (Read n)) e e _ (Empty prod e.cons)
      (record { cause = read_empty (record { prod = prod; cons = e.cons }) last (eqb-true _ _ none) alive refl; transfer = refl; notices = tt })))
      (λ some. comes_take (Answers e (Read n)) e (min n (ready_at e prod)) (only_loaded l seen) (Got (min n (ready_at e prod))) refl refl
      (record { cause = read_got (record { prod = prod; cons = e.cons }) last (above _ some) refl; transfer = refl; notices = tt }))

  read_answers : Comes (Answers e (Read n)) e nothing_done (read e n)
  unfolding read
  read_answers =
      comes_look_read (Answers e (Read n)) e nothing_done _ (λ prod seen. comes_if (Answers e (Read n)) e e _ (nat_lt (ready_at e prod) n) _ _
      (λ less. comes_ask (Answers e (Read n)) e _ Written _ (comes_look_read (Answers e (Read n)) e _ _ (λ again more. read_looked_answers _ _ again refl)))
      (λ enough. read_looked_answers _ _ prod refl))

  recv_looked_answers : (l : Loads) (seen : Bool) (prod : ℕ) → last_pair l ≡ Some (record { prod = prod; cons = e.cons }) →
      Comes (Answers e (Recv n)) e (only_loaded l seen) (recv_looked e n prod)
  unfolding recv_looked recv_live
  recv_looked_answers l seen prod last =
      comes_if (Answers e (Recv n)) e e (only_loaded l seen) (nat_lt (ready_at e prod) n) _ _
      (λ less. comes_live (Answers e (Recv n)) e (only_loaded l seen) _ _
      (λ more noticed. comes_answers (Answers e (Recv n)) e e _ PeerClosed
      (record { cause = recv_closed (record { prod = prod; cons = e.cons }) last (ltb-true _ _ less) refl refl; transfer = refl; notices = λ unshut. or_right seen more (noticed unshut) }))
      (λ live more alive. comes_answers (Answers e (Recv n)) e e _ (Short prod e.cons)
      (record { cause = recv_short (record { prod = prod; cons = e.cons }) last (ltb-true _ _ less) alive refl; transfer = refl; notices = tt })))
      (λ enough. comes_take (Answers e (Recv n)) e n (only_loaded l seen) (Got n) refl refl
      (record { cause = recv_got (record { prod = prod; cons = e.cons }) last (ltb-false _ _ enough) refl; transfer = refl; notices = tt }))

  recv_answers : Comes (Answers e (Recv n)) e nothing_done (recv e n)
  unfolding recv
  recv_answers =
      comes_look_read (Answers e (Recv n)) e nothing_done _ (λ prod seen. comes_if (Answers e (Recv n)) e e _ (nat_lt (ready_at e prod) n) _ _
      (λ less. comes_ask (Answers e (Recv n)) e _ Written _ (comes_look_read (Answers e (Recv n)) e _ _ (λ again more. recv_looked_answers _ _ again refl)))
      (λ enough. recv_looked_answers _ _ prod refl))

  -- a look of a drain: bytes end it
  found_answers : (l : Loads) (seen : Bool) (prod : ℕ) (older : List Pair) (next : Plan) → l.pairs ≡ record { prod = prod; cons = e.cons } ∷ older → FoundNone e older → ¬ FoundAllRead l →
      (ready_at e prod ≡ 0 → Comes (Answers e (Drain n)) e (only_loaded l seen) next) → Comes (Answers e (Drain n)) e (only_loaded l seen) (drain_found e n prod next)
  found_answers l seen prod older next pairs none unread on =
      comes_if (Answers e (Drain n)) e e (only_loaded l seen) (ready_at e prod == 0) _ _ (λ nothing. on (eqb-true _ _ nothing))
      (λ some. comes_take (Answers e (Drain n)) e (min n (ready_at e prod)) (only_loaded l seen) (Got (min n (ready_at e prod))) refl refl
      (record { cause = drain_got (record { prod = prod; cons = e.cons }) older pairs none unread (above _ some) refl; transfer = refl; notices = tt }))

  -- a drain that has found nothing goes on to the gone word
  drain_gone_answers : (live : ℕ) (next : Option Pair) (seen : Bool) (prod : ℕ) (older : List Pair) → FoundNone e (record { prod = prod; cons = e.cons } ∷ older) →
      (live ≡ 0 → IsSomeAnd next (λ pair. pair.prod ≢ pair.cons)) →
      Comes (Answers e (Drain n)) e (only_loaded (record nothing_loaded { pairs = record { prod = prod; cons = e.cons } ∷ older; next_pair = next; live = Some live }) seen) (drain_gone e n prod)
  unfolding drain_gone drain_last
  drain_gone_answers live next seen prod older none apart =
      comes_gone (Answers e (Drain n)) e _ _ _
      (λ more. comes_answers (Answers e (Drain n)) e e _ (NotYet prod e.cons)
      (record { cause = drain_not_yet (record { prod = prod; cons = e.cons }) refl none (unread live next apart) refl refl; transfer = refl; notices = tt }))
      (λ gone more is noticed. comes_look_read (Answers e (Drain n)) e _ _ (λ again last. found_answers _ _ again _ _ refl none (unread_last live next again apart)
      (λ nothing. comes_answers (Answers e (Drain n)) e e _ (IsGone again e.cons)
      (record {
        cause = drain_peer_gone (record { prod = again; cons = e.cons }) refl (nothing, none) (unread_last live next again apart) is refl;
        transfer = refl;
        notices = λ unshut. or_left _ last (or_right seen more (noticed unshut));
      }))))
    where
      unread : (live : ℕ) (next : Option Pair) → (live ≡ 0 → IsSomeAnd next (λ pair. pair.prod ≢ pair.cons)) → (Some live ≡ Some 0) × IsSomeAnd next (λ pair. pair.prod ≡ pair.cons) → ⊥
      unread live None apart all = all.1
      unread live (Some pair) apart all = let zero : live ≡ 0 = cc in apart zero all.1

      unread_last : (live : ℕ) (next : Option Pair) (again : ℕ) → (live ≡ 0 → IsSomeAnd next (λ pair. pair.prod ≢ pair.cons)) →
          (Some live ≡ Some 0) × IsSomeAnd (looked (record { prod = again; cons = e.cons }) (record nothing_loaded { next_pair = next; live = Some live })).next_pair (λ pair. pair.prod ≡ pair.cons) → ⊥
      unread_last live None again apart all = let zero : live ≡ 0 = cc in apart zero
      unread_last live (Some pair) again apart all = let zero : live ≡ 0 = cc in apart zero all.1

  drain_live_answers : (seen : Bool) (prod : ℕ) (older : List Pair) → FoundNone e (record { prod = prod; cons = e.cons } ∷ older) →
      Comes (Answers e (Drain n)) e (only_loaded (record nothing_loaded { pairs = record { prod = prod; cons = e.cons } ∷ older }) seen) (drain_live e n prod)
  unfolding drain_live drain_further
  drain_live_answers seen prod older none =
      comes_live (Answers e (Drain n)) e _ _ _
      (λ more noticed. comes_look_read (Answers e (Drain n)) e _ _ (λ again last. comes_if (Answers e (Drain n)) e e _ (again == e.cons) _ _
      (λ same. comes_answers (Answers e (Drain n)) e e _ AllRead
      (record { cause = drain_all_read (refl, eqb-true _ _ same) refl; transfer = refl; notices = λ unshut. or_left _ last (or_right seen more (noticed unshut)) }))
      (λ other. found_answers _ _ again _ _ refl none (λ all. eqb-false _ _ other all.1) (λ nothing. drain_gone_answers 0 _ _ again _ (nothing, none) (λ is. eqb-false _ _ other)))))
      (λ live more alive. drain_gone_answers live _ _ prod older none (λ is. absurd (alive is)))

  drain_answers : Comes (Answers e (Drain n)) e nothing_done (drain e n)
  unfolding drain drain_second
  drain_answers =
      comes_look_read (Answers e (Drain n)) e nothing_done _ (λ prod seen. found_answers _ _ prod _ _ refl tt (λ all. all.1)
      (λ nothing. comes_ask (Answers e (Drain n)) e _ Written _ (comes_look_read (Answers e (Drain n)) e _ _ (λ again more. found_answers _ _ again _ _ refl (nothing, tt) (λ all. all.1)
      (λ still. drain_live_answers _ again _ (still, (nothing, tt)))))))

-- ---- the other rows

agree : (e : Standing) (left right : ℕ) → ((left == e.orders.left.number) && (right == e.orders.right.number)) ≡ true → SayOrders e left right
agree e left right is = go (left == e.orders.left.number) (right == e.orders.right.number) refl refl is
  where
    go : (a b : Bool) → (left == e.orders.left.number) ≡ a → (right == e.orders.right.number) ≡ b → (a && b) ≡ true → SayOrders e left right
    go true true l r both = (eqb-true _ _ l, eqb-true _ _ r)
    go true false l r both = absurd (false≢true both)
    go false b l r both = absurd (false≢true both)

differ : (e : Standing) (left right : ℕ) → ((left == e.orders.left.number) && (right == e.orders.right.number)) ≡ false → ¬ SayOrders e left right
differ e left right is says =
    false≢true (sym is ∙ ap (λ (b : Bool). b && (right == e.orders.right.number)) (eq-eqb _ _ says.0) ∙ eq-eqb _ _ says.1)

connect_answers : (e : Standing) → Comes (Answers e Connect) e nothing_done (connect e)
unfolding connect connect_right
connect_answers e =
    comes_left_order (Answers e Connect) e nothing_done _ (λ left seen. comes_right_order (Answers e Connect) e _ _ (λ right more. comes_if (Answers e Connect) e e _ _ _ _
    (λ same. comes_store (Answers e Connect) e e _ _ 1 _ refl (λ then_now taken. comes_answers (Answers e Connect) e then_now _ Connected
    (record { cause = connect_agrees (low16 left) (low16 right) refl refl (agree e (low16 left) (low16 right) same) refl; transfer = refl; notices = tt })))
    (λ other. comes_answers (Answers e Connect) e e _ (BadOrders (low16 left) (low16 right))
    (record { cause = connect_refused (low16 left) (low16 right) refl refl (differ e (low16 left) (low16 right) other) refl; transfer = refl; notices = tt }))))

module _ (e : Standing) (call : Call) (cause : Cause e call nothing_loaded Done) where
  close_answers : (now : Standing) (next : Plan) → ((then_now : Standing) → Comes (Answers e call) then_now nothing_done next) → Comes (Answers e call) now nothing_done (close e next)
  close_answers now next on =
      comes_store (Answers e call) e now nothing_done _ _ _ (own_live_written e.role _) (λ then_now taken. comes_signal (Answers e call) e then_now nothing_done next on)

  done_answers : (now : Standing) → Comes (Answers e call) now nothing_done (answers Done)
  done_answers now = comes_answers (Answers e call) e now nothing_done Done (record { cause = cause; transfer = refl; notices = tt })

  retire_shut_answers : (now : Standing) → Comes (Answers e call) now nothing_done (retire_shut e)
  retire_shut_answers now =
      comes_store (Answers e call) e now nothing_done _ _ _ (own_gone_written e.role _) (λ then_now taken. comes_signal (Answers e call) e then_now nothing_done _ done_answers)

  retire_answers : (state : EndState) → Comes (Answers e call) e nothing_done (retire e state)
  retire_answers Fresh = close_answers e _ retire_shut_answers
  retire_answers Open = close_answers e _ retire_shut_answers
  retire_answers Shut = retire_shut_answers e

-- each call
pub call_answers : (e : Standing) (call : Call) → Comes (Answers e call) e nothing_done (plan_of e call)
call_answers e (Write n) = write_answers e n
call_answers e (Send n) = send_answers e n
call_answers e (Read n) = read_answers e n
call_answers e (Recv n) = recv_answers e n
call_answers e (Drain n) = drain_answers e n
call_answers e DataReady =
    comes_ask (Answers e DataReady) e nothing_done Written _ (comes_look_read (Answers e DataReady) e nothing_done _ (λ prod seen. comes_answers (Answers e DataReady) e e _ (Ready (ready_at e prod)) (record { cause = refl; transfer = refl; notices = tt })))
call_answers e BufferSpace =
    comes_ask (Answers e BufferSpace) e nothing_done Consumed _ (comes_look_write (Answers e BufferSpace) e nothing_done _ (λ cons seen. comes_answers (Answers e BufferSpace) e e _ (Space (free_at e cons)) (record { cause = refl; transfer = refl; notices = tt })))
call_answers e Connect = connect_answers e
call_answers e Close = close_answers e Close refl e _ (done_answers e Close refl)
call_answers e TakeEvent =
    comes_swap (Answers e TakeEvent) e nothing_done _ (λ old. comes_answers (Answers e TakeEvent) e e _ (Event (not (old == 0))) (record { cause = refl; transfer = refl; notices = tt }))
call_answers e PeerGone =
    comes_gone_told (Answers e PeerGone) e nothing_done _ (λ gone seen noticed. comes_answers (Answers e PeerGone) e e _ (Gone (not (gone == 0))) (record { cause = refl; transfer = refl; notices = noticed }))
call_answers e Retire = retire_answers e Retire refl e.state
