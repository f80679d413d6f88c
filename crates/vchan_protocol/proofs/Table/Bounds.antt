-- Each call ends within its number of events, whatever values are taken.
use Rattle.std.proofs.Common.{◌≡◌, ℕ, suc, zero, ◌+◌, ◌==◌, ◌<◌, ◌≤◌, min, nat_lt, ◌⊎◌, inl, inr, Bool, true, false, cond, List, [], ◌∷◌, ◌++◌, length, refl, subst, arith}
use Rattle.ring_words.specs.Rings.{size}
use Rattle.ring_words.proofs.RingLaws.{room_within, ready_within}
use Rattle.vchan_protocol.specs.declared.op.Op.{Op}
use Rattle.vchan_protocol.specs.declared.call.Answer.{Answer}
use Rattle.vchan_protocol.specs.declared.call.Answer.TheVariants.{Wrote, Full, NoRoom, Sent, Got}
use Rattle.vchan_protocol.specs.declared.call.Bit.{Bit}
use Rattle.vchan_protocol.specs.declared.call.Bit.TheVariants.{Written, Consumed}
use Rattle.vchan_protocol.specs.declared.call.Call.{Call}
use Rattle.vchan_protocol.specs.declared.call.Call.TheVariants.{Write, Send, Read, Recv, Drain, DataReady, BufferSpace, Connect, Close, TakeEvent, Retire, PeerGone}
use Rattle.vchan_protocol.proofs.Table.PlanLaws.{Leads_more}
use Rattle.std.proofs.lemmas.List.{length_push}
use Rattle.vchan_protocol.specs.declared.call.EndState.{EndState}
use Rattle.vchan_protocol.specs.declared.call.EndState.TheVariants.{Fresh, Open, Shut}
use Rattle.std.proofs.lemmas.Bool.{cases_lt}
use Rattle.std.proofs.lemmas.Bool.{lt-ltb}
use Rattle.vchan_protocol.specs.Table.Plan.{Plan, does, answers, Leads, past, EndsWithin, GoesOn, next_op, after}
use Rattle.vchan_protocol.specs.Table.Ends.{write_order, read_order, Standing, free_at, ready_at, read_size, write_size}
use Rattle.vchan_protocol.specs.Table.Calls.{put_bytes, take_bytes, put, take, notify, signal, write, write_open, write_looked, read, read_live, read_looked, drain_found, drain_last, drain_gone, drain_further, drain_live, drain_second, drain, connect, connect_right, close, retire, retire_shut, plan_of, send, send_open, send_looked, recv, recv_live, recv_looked, most_events}
use Rattle.vchan_protocol.specs.declared.op.PastEvent.{PastEvent}

pub more_time : (n m : ℕ) (plan : Plan) → n ≤ m → EndsWithin n plan → EndsWithin m plan
unfolding EndsWithin
more_time n m (answers answer) h w = tt
more_time zero m (does op next) h w = absurd w
more_time (suc n) zero (does op next) h w = absurd (omega (arith, h))
more_time (suc n) (suc m) (does op next) h w = λ value. more_time n m (next value) (omega (arith, h)) (w value)

ends_does : (most less : ℕ) (op : Op) (next : ℕ → Plan) → less < most → ((value : ℕ) → EndsWithin less (next value)) → EndsWithin most (does op next)
unfolding EndsWithin
ends_does zero less op next h w = absurd (omega (arith, h))
ends_does (suc most) less op next h w = λ value. more_time less most (next value) (omega (arith, h)) (w value)

ends_answers : (most : ℕ) (answer : Answer) → EndsWithin most (answers answer)
unfolding EndsWithin
ends_answers most answer = tt

ends_if : (most : ℕ) (b : Bool) (p q : Plan) → EndsWithin most p → EndsWithin most q → EndsWithin most (cond b p q)
unfolding EndsWithin
ends_if most true p q first second = first
ends_if most false p q first second = second

ends_notify : (e : Standing) (bit : Bit) (next : Plan) (most : ℕ) → EndsWithin most next → EndsWithin (most + 2) (notify e bit next)
ends_notify e bit next most w =
    ends_does _ (most + 1) _ _ (omega arith) (λ old. ends_if _ _ _ _ (more_time most _ next (omega arith) w) (ends_does _ most _ _ (omega arith) (λ _. w)))

ends_put_bytes : (e : Standing) (i k : ℕ) (next : Plan) (most : ℕ) → EndsWithin most next → EndsWithin (most + k) (put_bytes e i k next)
ends_put_bytes e i zero next most w = more_time most _ next (omega arith) w
ends_put_bytes e i (suc k) next most w = ends_does _ (most + k) _ _ (omega arith) (λ _. ends_put_bytes e (i + 1) k next most w)

ends_take_bytes : (e : Standing) (i k : ℕ) (next : Plan) (most : ℕ) → EndsWithin most next → EndsWithin (most + k) (take_bytes e i k next)
ends_take_bytes e i zero next most w = more_time most _ next (omega arith) w
ends_take_bytes e i (suc k) next most w = ends_does _ (most + k) _ _ (omega arith) (λ _. ends_take_bytes e (i + 1) k next most w)

ends_put : (e : Standing) (k most : ℕ) (next : Plan) → EndsWithin most next → EndsWithin (most + 3 + k) (put e k next)
ends_put e k most next w =
    ends_put_bytes e 0 k _ (most + 3) (ends_does _ (most + 2) _ _ (omega arith) (λ _. ends_notify e Written next most w))

ends_take : (e : Standing) (k most : ℕ) (next : Plan) → EndsWithin most next → EndsWithin (most + 3 + k) (take e k next)
ends_take e k most next w =
    ends_take_bytes e 0 k _ (most + 3) (ends_does _ (most + 2) _ _ (omega arith) (λ _. ends_notify e Consumed next most w))

ends_write_looked : (e : Standing) (n cons : ℕ) → EndsWithin (3 + min n (size (write_order e))) (write_looked e n cons)
unfolding write_looked
ends_write_looked e n cons =
    let fits = room_within e.prod cons (write_order e) in
    ends_if _ (n == 0) _ _ (ends_answers _ (Wrote 0)) (ends_if _ (free_at e cons == 0) _ _ (ends_answers _ (Full e.prod cons))
    (more_time (0 + 3 + min n (free_at e cons)) _ _ (omega arith) (ends_put e _ 0 _ (ends_answers _ (Wrote (min n (free_at e cons)))))))

ends_write : (e : Standing) (n : ℕ) → EndsWithin (7 + min n (size (write_order e))) (write e n)
unfolding write write_open
ends_write e n =
    let k = min n (size (write_order e)) in
    ends_does _ (6 + k) _ _ (omega arith) (λ live. ends_if _ _ _ _ (ends_answers _ _)
    (ends_does _ (5 + k) _ _ (omega arith) (λ value. ends_if _ _ _ _
    (ends_does _ (4 + k) _ _ (omega arith) (λ _. ends_does _ (3 + k) _ _ (omega arith) (λ again. ends_write_looked e n _)))
    (more_time (3 + k) _ _ (omega arith) (ends_write_looked e n _)))))

-- a call that looks, asks and looks again
ends_looks : (less : ℕ) (b : Bool) (op asked : Op) (again : ℕ → Plan) (now : Plan) → ((value : ℕ) → EndsWithin less (again value)) → EndsWithin less now →
    EndsWithin (less + 2) (cond b (does asked (λ _. does op again)) now)
ends_looks less b op asked again now w v =
    ends_if _ _ _ _ (ends_does _ (less + 1) _ _ (omega arith) (λ _. ends_does _ less _ _ (omega arith) w)) (more_time less _ _ (omega arith) v)

ends_read_live : (e : Standing) (prod : ℕ) → EndsWithin 1 (read_live e prod)
unfolding read_live
ends_read_live e prod = ends_does _ 0 _ _ (omega arith) (λ live. ends_if _ _ _ _ (ends_answers _ _) (ends_answers _ _))

ends_read_looked : (e : Standing) (n prod : ℕ) → EndsWithin (3 + min n (size (read_order e))) (read_looked e n prod)
unfolding read_looked
ends_read_looked e n prod =
    let fits = ready_within prod e.cons (read_order e) in
    ends_if _ _ _ _ (more_time 1 _ _ (omega arith) (ends_read_live e prod)) (more_time (0 + 3 + min n (ready_at e prod)) _ _ (omega arith) (ends_take e _ 0 _ (ends_answers _ _)))

ends_read : (e : Standing) (n : ℕ) → EndsWithin (7 + min n (size (read_order e))) (read e n)
unfolding read
ends_read e n =
    let k = min n (size (read_order e)) in
    ends_does _ (3 + k + 2) _ _ (omega arith) (λ value. ends_looks (3 + k) _ _ _ _ _ (λ again. ends_read_looked e n _) (ends_read_looked e n _))

-- ---- drain

ends_found : (e : Standing) (n prod less : ℕ) (next : Plan) → EndsWithin less next →
    EndsWithin (less + 3 + min n (size (read_order e))) (drain_found e n prod next)
ends_found e n prod less next w =
    let fits = ready_within prod e.cons (read_order e) in
    ends_if _ _ _ _ (more_time less _ _ (omega arith) w) (more_time (0 + 3 + min n (ready_at e prod)) _ _ (omega arith) (ends_take e _ 0 _ (ends_answers _ _)))

module _ (e : Standing) (n : ℕ) where
  most_moved : ℕ
  most_moved = min n (size (read_order e))

  most_moved_is : most_moved ≡ min n (size (read_order e))
  unfolding most_moved
  most_moved_is = refl

  ends_drain_last : (prod : ℕ) → EndsWithin (3 + most_moved) (drain_last e n prod)
  unfolding drain_last most_moved
  ends_drain_last prod = more_time (0 + 3 + most_moved) _ _ (omega arith) (ends_found e n prod 0 _ (ends_answers _ _))

  ends_drain_gone : (prod : ℕ) → EndsWithin (5 + most_moved) (drain_gone e n prod)
  unfolding drain_gone
  ends_drain_gone prod = ends_does _ (4 + most_moved) _ _ (omega arith) (λ gone. ends_if _ _ _ _ (ends_answers _ _) (ends_does _ (3 + most_moved) _ _ (omega arith) (λ value. ends_drain_last _)))

  ends_later : (prod less : ℕ) (next : Plan) → 3 ≤ less → EndsWithin (less + most_moved) next → EndsWithin (less + most_moved) (drain_found e n prod next)
  unfolding most_moved
  ends_later prod less next h w =
      let fits = ready_within prod e.cons (read_order e) in
      ends_if _ _ _ _ w (more_time (0 + 3 + min n (ready_at e prod)) _ _ (omega arith) (ends_take e _ 0 _ (ends_answers _ _)))

  ends_drain_further : (prod : ℕ) → EndsWithin (5 + most_moved) (drain_further e n prod)
  unfolding drain_further
  ends_drain_further prod = ends_if _ _ _ _ (ends_answers _ _) (ends_later prod 5 _ (omega arith) (ends_drain_gone prod))

  ends_drain_live : (prod : ℕ) → EndsWithin (7 + most_moved) (drain_live e n prod)
  unfolding drain_live
  ends_drain_live prod =
      ends_does _ (6 + most_moved) _ _ (omega arith) (λ live. ends_if _ _ _ _ (ends_does _ (5 + most_moved) _ _ (omega arith) (λ value. ends_drain_further _)) (more_time (5 + most_moved) _ _ (omega arith) (ends_drain_gone prod)))

  ends_drain_second : (prod : ℕ) → EndsWithin (7 + most_moved) (drain_second e n prod)
  unfolding drain_second
  ends_drain_second prod = ends_later prod 7 _ (omega arith) (ends_drain_live prod)

  ends_drain : EndsWithin (10 + most_moved) (drain e n)
  unfolding drain
  ends_drain =
      ends_does _ (9 + most_moved) _ _ (omega arith) (λ value. ends_later _ 9 _ (omega arith) (ends_does _ (8 + most_moved) _ _ (omega arith) (λ _. ends_does _ (7 + most_moved) _ _ (omega arith) (λ again. ends_drain_second _))))

-- ---- the other calls

ends_recv_live : (e : Standing) (prod : ℕ) → EndsWithin 1 (recv_live e prod)
unfolding recv_live
ends_recv_live e prod = ends_does _ 0 _ _ (omega arith) (λ live. ends_if _ _ _ _ (ends_answers _ _) (ends_answers _ _))

ends_recv_looked : (e : Standing) (n prod : ℕ) → EndsWithin (3 + min n (read_size e)) (recv_looked e n prod)
unfolding recv_looked
ends_recv_looked e n prod = go (cases_lt (ready_at e prod) n)
  where
    go : (ready_at e prod < n) ⊎ (n ≤ ready_at e prod) → EndsWithin (3 + min n (read_size e)) (cond (nat_lt (ready_at e prod) n) (recv_live e prod) (take e n (answers (Got n))))
    go (inl less) = simp (lt-ltb _ _ less) (more_time 1 _ _ (omega arith) (ends_recv_live e prod))
    go (inr enough) =
        let fits = ready_within prod e.cons (read_order e) in
        ends_if _ _ _ _ (more_time 1 _ _ (omega arith) (ends_recv_live e prod)) (more_time (0 + 3 + n) _ _ (omega (arith, fits, enough)) (ends_take e n 0 _ (ends_answers _ _)))

ends_recv : (e : Standing) (n : ℕ) → EndsWithin (7 + min n (read_size e)) (recv e n)
unfolding recv
ends_recv e n =
    let k = min n (read_size e) in
    ends_does _ (3 + k + 2) _ _ (omega arith) (λ value. ends_looks (3 + k) _ _ _ _ _ (λ again. ends_recv_looked e n _) (ends_recv_looked e n _))

ends_send_looked : (e : Standing) (n cons : ℕ) → EndsWithin (3 + min n (write_size e)) (send_looked e n cons)
unfolding send_looked
ends_send_looked e n cons = go (cases_lt (free_at e cons) n)
  where
    go : (free_at e cons < n) ⊎ (n ≤ free_at e cons) → EndsWithin (3 + min n (write_size e)) (cond (nat_lt (free_at e cons) n) (answers (NoRoom e.prod cons)) (put e n (answers (Sent n))))
    go (inl less) = simp (lt-ltb _ _ less) (ends_answers _ _)
    go (inr enough) =
        let fits = room_within e.prod cons (write_order e) in
        ends_if _ _ _ _ (ends_answers _ _) (more_time (0 + 3 + n) _ _ (omega (arith, fits, enough)) (ends_put e n 0 _ (ends_answers _ _)))

ends_send : (e : Standing) (n : ℕ) → EndsWithin (7 + min n (write_size e)) (send e n)
unfolding send send_open
ends_send e n =
    let k = min n (write_size e) in
    ends_does _ (6 + k) _ _ (omega arith) (λ live. ends_if _ _ _ _ (ends_answers _ _)
    (ends_does _ (3 + k + 2) _ _ (omega arith) (λ value. ends_looks (3 + k) _ _ _ _ _ (λ again. ends_send_looked e n _) (ends_send_looked e n _))))

ends_signal : (e : Standing) (most : ℕ) (next : Plan) → EndsWithin most next → EndsWithin (most + 1) (signal e next)
ends_signal e most next w = ends_does _ most _ _ (omega arith) (λ _. w)

ends_close : (e : Standing) (most : ℕ) (next : Plan) → EndsWithin most next → EndsWithin (most + 2) (close e next)
ends_close e most next w = ends_does _ (most + 1) _ _ (omega arith) (λ _. ends_signal e most next w)

ends_retire_shut : (e : Standing) → EndsWithin 2 (retire_shut e)
ends_retire_shut e = ends_does _ 1 _ _ (omega arith) (λ _. ends_signal e 0 _ (ends_answers _ _))

ends_retire : (e : Standing) (state : EndState) → EndsWithin 7 (retire e state)
ends_retire e Fresh = more_time (2 + 2) _ _ (omega arith) (ends_close e 2 _ (ends_retire_shut e))
ends_retire e Open = more_time (2 + 2) _ _ (omega arith) (ends_close e 2 _ (ends_retire_shut e))
ends_retire e Shut = more_time 2 _ _ (omega arith) (ends_retire_shut e)

ends_connect : (e : Standing) → EndsWithin 7 (connect e)
unfolding connect connect_right
ends_connect e =
    ends_does _ 2 _ _ (omega arith) (λ left. ends_does _ 1 _ _ (omega arith) (λ right.
    ends_if _ _ _ _ (ends_does _ 0 _ _ (omega arith) (λ _. ends_answers _ _)) (ends_answers _ _)))

-- each call
pub ends_call : (e : Standing) (call : Call) → EndsWithin (most_events e call) (plan_of e call)
ends_call e (Write n) = ends_write e n
ends_call e (Send n) = ends_send e n
ends_call e (Read n) = ends_read e n
ends_call e (Recv n) = ends_recv e n
ends_call e (Drain n) = subst (λ (k : ℕ). EndsWithin (10 + k) (drain e n)) (most_moved_is e n) (ends_drain e n)
ends_call e DataReady = ends_does _ 1 _ _ (omega arith) (λ _. ends_does _ 0 _ _ (omega arith) (λ value. ends_answers _ _))
ends_call e BufferSpace = ends_does _ 1 _ _ (omega arith) (λ _. ends_does _ 0 _ _ (omega arith) (λ value. ends_answers _ _))
ends_call e Connect = ends_connect e
ends_call e Close = more_time (0 + 2) _ _ (omega arith) (ends_close e 0 _ (ends_answers _ _))
ends_call e TakeEvent = ends_does _ 0 _ _ (omega arith) (λ _. ends_answers _ _)
ends_call e PeerGone = ends_does _ 0 _ _ (omega arith) (λ _. ends_answers _ _)
ends_call e Retire = ends_retire e e.state

-- a trail is no longer than the bound
pub length_Leads : (plan : Plan) (events : List PastEvent) (rest : Plan) (most : ℕ) → EndsWithin most plan → Leads plan events rest → length events ≤ most
unfolding EndsWithin
length_Leads plan [] rest most w led = omega arith
length_Leads (answers answer) (event ∷ events) rest most w led = absurd led
length_Leads (does op next) (event ∷ events) rest zero w led = absurd w
length_Leads (does op next) (event ∷ events) rest (suc most) w led =
    omega (arith, length_Leads (next event.taken) events rest most (w event.taken) led.1)

-- if an event is left, the trail is shorter than the bound
pub length_Leads_more : (plan : Plan) (events : List PastEvent) (rest : Plan) (most : ℕ) → EndsWithin most plan → Leads plan events rest → GoesOn rest → length events < most
length_Leads_more plan events rest most w led more =
    omega (arith, length_Leads plan (events ++ past (next_op rest) 0 ∷ []) (after rest 0) most w (Leads_more plan events rest 0 more led), length_push events (past (next_op rest) 0))
