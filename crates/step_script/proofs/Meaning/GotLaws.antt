-- A call that answers Got has loaded just as many bytes.
use Rattle.std.proofs.Common.{◌≡◌, ℕ, suc, zero, ◌+◌, min, nat_lt, ◌==◌, ◌&&◌, not, Bool, true, false, cond, List, [], ◌∷◌, ◌++◌, length, refl, subst, sym, ap, ◌∙◌, arith, append_assoc, length-append, add-zero}
use Rattle.ring_words.specs.declared.page.Role.{Role}
use Rattle.ring_words.specs.declared.page.WordName.TheVariants.{CliLive}
use Rattle.vchan_protocol.specs.declared.call.Answer.{Answer}
use Rattle.vchan_protocol.specs.declared.call.Answer.TheVariants.{Wrote, Full, Sent, NoRoom, Got, Empty, Short, PeerClosed, Ready, Space, Connected, BadOrders, Done, Event, NotYet, AllRead, PeerGone, Gone}
use Rattle.vchan_protocol.specs.declared.call.Bit.{Bit}
use Rattle.vchan_protocol.specs.declared.call.Bit.TheVariants.{Written, Consumed}
use Rattle.vchan_protocol.specs.declared.call.Call.{Call}
use Rattle.vchan_protocol.specs.declared.call.Call.TheVariants as call
use Rattle.vchan_protocol.specs.declared.call.EndState.{EndState}
use Rattle.vchan_protocol.specs.declared.call.EndState.TheVariants.{Fresh, Open, Shut}
use Rattle.vchan_protocol.specs.declared.op.Op.{Op}
use Rattle.vchan_protocol.specs.declared.op.Op.TheVariants.{Load, LoadByte, Store, StoreByte, Or, And, Swap, Nothing}
use Rattle.vchan_protocol.specs.declared.op.PastEvent.{PastEvent}
use Rattle.vchan_protocol.specs.declared.side.Side.{Side}
use Rattle.vchan_protocol.specs.History.WholeCall.{alone, called, call_answer}
use Rattle.vchan_protocol.specs.Table.Apply.{value_taken}
use Rattle.vchan_protocol.specs.Table.Calls.{put_bytes, take_bytes, put_index, take_index, put, take, notify, signal, ask, look_read, look_write, write, write_open, write_looked, read, read_live, read_looked, send, send_open, send_looked, recv, recv_live, recv_looked, drain, drain_found, drain_second, drain_live, drain_further, drain_gone, drain_last, connect, connect_right, close, retire, retire_shut, plan_of, Trace}
use Rattle.vchan_protocol.specs.History.Core.{Core, side_of, standing_of, begun, begins, made, carried_out, answered, bytes_loaded, loaded_by}
use Rattle.vchan_protocol.specs.Table.Ends.{Standing, ready_at, free_at, low16, low32}
use Rattle.vchan_protocol.specs.Table.Plan.{Plan, answers, does, past, Leads}
use Rattle.vchan_protocol.proofs.History.EventLaws.{side_of_with_side}
use Rattle.vchan_protocol.proofs.Table.Counted.{loaded_then}

-- with that many bytes loaded so far, the plan answers Got only with the number that it has loaded then
unfoldable Delivers : ℕ → Plan → Type 0
Delivers l (answers answer) = (k : ℕ) → answer ≡ Got k → l ≡ k
Delivers l (does op next) = (value : ℕ) → Delivers (loaded_then op l) (next value)

-- ---- the pieces

delivers_if : (l : ℕ) (b : Bool) (x y : Plan) → Delivers l x → Delivers l y → Delivers l (cond b x y)
delivers_if l true x y dx dy = dx
delivers_if l false x y dx dy = dy

-- an answer that is no Got
delivers_none : (l : ℕ) (answer : Answer) → ((k : ℕ) → answer ≡ Got k → ⊥) → Delivers l (answers answer)
unfolding Delivers
delivers_none l answer other = λ k is. absurd (other k is)

delivers_got : (k : ℕ) → Delivers k (answers (Got k))
unfolding Delivers
delivers_got k = λ j is. cc

delivers_signal : (e : Standing) (l : ℕ) (next : Plan) → Delivers l next → Delivers l (signal e next)
unfolding Delivers
delivers_signal e l next d = λ value. d

delivers_notify : (e : Standing) (bit : Bit) (l : ℕ) (next : Plan) → Delivers l next → Delivers l (notify e bit next)
unfolding Delivers
delivers_notify e bit l next d = λ old. delivers_if l _ next (signal e next) d (delivers_signal e l next d)

delivers_ask : (e : Standing) (bit : Bit) (l : ℕ) (next : Plan) → Delivers l next → Delivers l (ask e bit next)
unfolding Delivers
delivers_ask e bit l next d = λ value. d

delivers_look_read : (e : Standing) (l : ℕ) (next : ℕ → Plan) → ((v : ℕ) → Delivers l (next v)) → Delivers l (look_read e next)
unfolding Delivers
delivers_look_read e l next d = λ value. d (low32 value)

delivers_look_write : (e : Standing) (l : ℕ) (next : ℕ → Plan) → ((v : ℕ) → Delivers l (next v)) → Delivers l (look_write e next)
unfolding Delivers
delivers_look_write e l next d = λ value. d (low32 value)

delivers_put_bytes : (k : ℕ) (e : Standing) (i l : ℕ) (next : Plan) → Delivers l next → Delivers l (put_bytes e i k next)
unfolding Delivers
delivers_put_bytes zero e i l next d = d
delivers_put_bytes (suc k) e i l next d = λ value. delivers_put_bytes k e (i + 1) l next d

delivers_take_bytes : (k : ℕ) (e : Standing) (i l : ℕ) (next : Plan) → Delivers (l + k) next → Delivers l (take_bytes e i k next)
unfolding Delivers
delivers_take_bytes zero e i l next d = subst (λ (n : ℕ). Delivers n next) (add-zero l) d
delivers_take_bytes (suc k) e i l next d =
    λ value. delivers_take_bytes k e (i + 1) (l + 1) next (let same : l + suc k ≡ l + 1 + k = omega arith in subst (λ (n : ℕ). Delivers n next) same d)

delivers_put : (e : Standing) (k l : ℕ) (next : Plan) → Delivers l next → Delivers l (put e k next)
unfolding Delivers
delivers_put e k l next d = delivers_put_bytes k e 0 l (put_index e k next) (index d)
  where
    index : Delivers l next → Delivers l (put_index e k next)
    index d = λ value. delivers_notify e Written l next d

delivers_take : (e : Standing) (k : ℕ) → Delivers 0 (take e k (answers (Got k)))
unfolding Delivers
delivers_take e k = delivers_take_bytes k e 0 0 (take_index e k (answers (Got k))) (let same : k ≡ 0 + k = omega arith in subst (λ (n : ℕ). Delivers n (take_index e k (answers (Got k)))) same index)
  where
    index : Delivers k (take_index e k (answers (Got k)))
    index = λ value. delivers_notify e Consumed k (answers (Got k)) (delivers_got k)

-- ---- the calls

delivers_write_looked : (e : Standing) (n cons : ℕ) → Delivers 0 (write_looked e n cons)
unfolding write_looked
delivers_write_looked e n cons =
    delivers_if 0 _ _ _ (delivers_none 0 (Wrote 0) (λ k is. cc))
    (delivers_if 0 _ _ _ (delivers_none 0 (Full e.prod cons) (λ k is. cc)) (delivers_put e _ 0 _ (delivers_none 0 (Wrote (min n (free_at e cons))) (λ k is. cc))))

delivers_write_open : (e : Standing) (n : ℕ) → Delivers 0 (write_open e n)
unfolding write_open
delivers_write_open e n =
    delivers_look_write e 0 _
    (λ cons. delivers_if 0 (nat_lt (free_at e cons) n) (ask e Consumed (look_write e (write_looked e n))) (write_looked e n cons)
    (delivers_ask e Consumed 0 (look_write e (write_looked e n)) (delivers_look_write e 0 (write_looked e n) (delivers_write_looked e n))) (delivers_write_looked e n cons))

delivers_write : (e : Standing) (n : ℕ) → Delivers 0 (write e n)
unfolding write Delivers
delivers_write e n = λ live. delivers_if 0 _ (answers PeerClosed) (write_open e n) (delivers_none 0 PeerClosed (λ k is. cc)) (delivers_write_open e n)

delivers_read_live : (e : Standing) (prod : ℕ) → Delivers 0 (read_live e prod)
unfolding read_live Delivers
delivers_read_live e prod = λ live. delivers_if 0 _ (answers PeerClosed) (answers (Empty prod e.cons)) (delivers_none 0 PeerClosed (λ k is. cc)) (delivers_none 0 (Empty prod e.cons) (λ k is. cc))

delivers_read_looked : (e : Standing) (n prod : ℕ) → Delivers 0 (read_looked e n prod)
unfolding read_looked
delivers_read_looked e n prod = delivers_if 0 _ (read_live e prod) _ (delivers_read_live e prod) (delivers_take e (min n (ready_at e prod)))

delivers_read : (e : Standing) (n : ℕ) → Delivers 0 (read e n)
unfolding read
delivers_read e n =
    delivers_look_read e 0 _
    (λ prod. delivers_if 0 (nat_lt (ready_at e prod) n) (ask e Written (look_read e (read_looked e n))) (read_looked e n prod)
    (delivers_ask e Written 0 (look_read e (read_looked e n)) (delivers_look_read e 0 (read_looked e n) (delivers_read_looked e n))) (delivers_read_looked e n prod))

delivers_send_looked : (e : Standing) (n cons : ℕ) → Delivers 0 (send_looked e n cons)
unfolding send_looked
delivers_send_looked e n cons =
    delivers_if 0 (nat_lt (free_at e cons) n) (answers (NoRoom e.prod cons)) (put e n (answers (Sent n)))
    (delivers_none 0 (NoRoom e.prod cons) (λ k is. cc)) (delivers_put e n 0 (answers (Sent n)) (delivers_none 0 (Sent n) (λ k is. cc)))

delivers_send_open : (e : Standing) (n : ℕ) → Delivers 0 (send_open e n)
unfolding send_open
delivers_send_open e n =
    delivers_look_write e 0 _
    (λ cons. delivers_if 0 (nat_lt (free_at e cons) n) (ask e Consumed (look_write e (send_looked e n))) (send_looked e n cons)
    (delivers_ask e Consumed 0 (look_write e (send_looked e n)) (delivers_look_write e 0 (send_looked e n) (delivers_send_looked e n))) (delivers_send_looked e n cons))

delivers_send : (e : Standing) (n : ℕ) → Delivers 0 (send e n)
unfolding send Delivers
delivers_send e n = λ live. delivers_if 0 _ (answers PeerClosed) (send_open e n) (delivers_none 0 PeerClosed (λ k is. cc)) (delivers_send_open e n)

delivers_recv_live : (e : Standing) (prod : ℕ) → Delivers 0 (recv_live e prod)
unfolding recv_live Delivers
delivers_recv_live e prod = λ live. delivers_if 0 _ (answers PeerClosed) (answers (Short prod e.cons)) (delivers_none 0 PeerClosed (λ k is. cc)) (delivers_none 0 (Short prod e.cons) (λ k is. cc))

delivers_recv_looked : (e : Standing) (n prod : ℕ) → Delivers 0 (recv_looked e n prod)
unfolding recv_looked
delivers_recv_looked e n prod = delivers_if 0 (nat_lt (ready_at e prod) n) (recv_live e prod) (take e n (answers (Got n))) (delivers_recv_live e prod) (delivers_take e n)

delivers_recv : (e : Standing) (n : ℕ) → Delivers 0 (recv e n)
unfolding recv
delivers_recv e n =
    delivers_look_read e 0 _
    (λ prod. delivers_if 0 (nat_lt (ready_at e prod) n) (ask e Written (look_read e (recv_looked e n))) (recv_looked e n prod)
    (delivers_ask e Written 0 (look_read e (recv_looked e n)) (delivers_look_read e 0 (recv_looked e n) (delivers_recv_looked e n))) (delivers_recv_looked e n prod))

delivers_found : (e : Standing) (n prod : ℕ) (next : Plan) → Delivers 0 next → Delivers 0 (drain_found e n prod next)
delivers_found e n prod next d = delivers_if 0 _ next (take e (min n (ready_at e prod)) (answers (Got (min n (ready_at e prod))))) d (delivers_take e (min n (ready_at e prod)))

delivers_drain_last : (e : Standing) (n prod : ℕ) → Delivers 0 (drain_last e n prod)
unfolding drain_last
delivers_drain_last e n prod = delivers_found e n prod (answers (PeerGone prod e.cons)) (delivers_none 0 (PeerGone prod e.cons) (λ k is. cc))

delivers_drain_gone : (e : Standing) (n prod : ℕ) → Delivers 0 (drain_gone e n prod)
unfolding drain_gone Delivers
delivers_drain_gone e n prod =
    λ gone. delivers_if 0 _ (answers (NotYet prod e.cons)) (look_read e (drain_last e n)) (delivers_none 0 (NotYet prod e.cons) (λ k is. cc))
    (delivers_look_read e 0 (drain_last e n) (delivers_drain_last e n))

delivers_drain_further : (e : Standing) (n prod : ℕ) → Delivers 0 (drain_further e n prod)
unfolding drain_further
delivers_drain_further e n prod =
    delivers_if 0 _ (answers AllRead) (drain_found e n prod (drain_gone e n prod)) (delivers_none 0 AllRead (λ k is. cc))
    (delivers_found e n prod (drain_gone e n prod) (delivers_drain_gone e n prod))

delivers_drain_live : (e : Standing) (n prod : ℕ) → Delivers 0 (drain_live e n prod)
unfolding drain_live Delivers
delivers_drain_live e n prod =
    λ live. delivers_if 0 _ (look_read e (drain_further e n)) (drain_gone e n prod)
    (delivers_look_read e 0 (drain_further e n) (delivers_drain_further e n)) (delivers_drain_gone e n prod)

delivers_drain_second : (e : Standing) (n prod : ℕ) → Delivers 0 (drain_second e n prod)
unfolding drain_second
delivers_drain_second e n prod = delivers_found e n prod (drain_live e n prod) (delivers_drain_live e n prod)

delivers_drain : (e : Standing) (n : ℕ) → Delivers 0 (drain e n)
unfolding drain
delivers_drain e n =
    delivers_look_read e 0 _
    (λ prod. delivers_found e n prod (ask e Written (look_read e (drain_second e n)))
    (delivers_ask e Written 0 (look_read e (drain_second e n)) (delivers_look_read e 0 (drain_second e n) (delivers_drain_second e n))))

delivers_close : (e : Standing) (next : Plan) → Delivers 0 next → Delivers 0 (close e next)
unfolding Delivers
delivers_close e next d = λ value. delivers_signal e 0 next d

delivers_retire_shut : (e : Standing) → Delivers 0 (retire_shut e)
unfolding Delivers
delivers_retire_shut e = λ value. delivers_signal e 0 (answers Done) (delivers_none 0 Done (λ k is. cc))

delivers_retire : (e : Standing) (state : EndState) → Delivers 0 (retire e state)
delivers_retire e Fresh = delivers_close e (retire_shut e) (delivers_retire_shut e)
delivers_retire e Open = delivers_close e (retire_shut e) (delivers_retire_shut e)
delivers_retire e Shut = delivers_retire_shut e

delivers_connect : (e : Standing) → Delivers 0 (connect e)
unfolding connect connect_right Delivers
delivers_connect e =
    λ left right. delivers_if 0 ((low16 left == e.orders.left.number) && (low16 right == e.orders.right.number)) (does (Store CliLive 1) (λ _. answers Connected)) (answers (BadOrders (low16 left) (low16 right))) (λ value. delivers_none 0 Connected (λ k is. cc)) (delivers_none 0 (BadOrders (low16 left) (low16 right)) (λ k is. cc))

delivers_call : (e : Standing) (c : Call) → Delivers 0 (plan_of e c)
unfolding Delivers
delivers_call e (call.Write n) = delivers_write e n
delivers_call e (call.Send n) = delivers_send e n
delivers_call e (call.Read n) = delivers_read e n
delivers_call e (call.Recv n) = delivers_recv e n
delivers_call e (call.Drain n) = delivers_drain e n
delivers_call e call.DataReady = delivers_ask e Written 0 (look_read e (λ prod. answers (Ready (ready_at e prod)))) (delivers_look_read e 0 (λ prod. answers (Ready (ready_at e prod))) (λ prod. delivers_none 0 (Ready (ready_at e prod)) (λ k is. cc)))
delivers_call e call.BufferSpace = delivers_ask e Consumed 0 (look_write e (λ cons. answers (Space (free_at e cons)))) (delivers_look_write e 0 (λ cons. answers (Space (free_at e cons))) (λ cons. delivers_none 0 (Space (free_at e cons)) (λ k is. cc)))
delivers_call e call.Connect = delivers_connect e
delivers_call e call.Close = delivers_close e (answers Done) (delivers_none 0 Done (λ k is. cc))
delivers_call e call.TakeEvent = λ old. delivers_none 0 (Event (not (old == 0))) (λ k is. cc)
delivers_call e call.PeerGone = λ gone. delivers_none 0 (Gone (not (gone == 0))) (λ k is. cc)
delivers_call e call.Retire = delivers_retire e e.state

-- ---- a trail

loaded_count : (op : Op) (taken l : ℕ) (rest : List ℕ) → l + length (loaded_by op taken ++ rest) ≡ loaded_then op l + length rest
loaded_count (LoadByte word at) taken l rest = omega (arith, length-append {A = ℕ})
loaded_count (Load word) taken l rest = refl
loaded_count (Store word value) taken l rest = refl
loaded_count (StoreByte word at) taken l rest = refl
loaded_count (Or word bits) taken l rest = refl
loaded_count (And word bits) taken l rest = refl
loaded_count (Swap word value) taken l rest = refl
loaded_count Nothing taken l rest = refl

-- along any trail to a Got, as many bytes are loaded as it says
delivered_by : (plan : Plan) (events : List PastEvent) (l k : ℕ) → Delivers l plan → Leads plan events (answers (Got k)) → l + length (bytes_loaded events) ≡ k
unfolding Delivers
delivered_by plan [] l k d led = omega (arith, subst (Delivers l) led d k refl)
delivered_by (answers answer) (event ∷ events) l k d led = absurd led
delivered_by (does op next) (event ∷ events) l k d led =
    loaded_count event.op event.taken l (bytes_loaded events)
    ∙ ap (λ (o : Op). loaded_then o l + length (bytes_loaded events)) led.0
    ∙ delivered_by (next event.taken) events (loaded_then op l) k (d event.taken) led.1

-- a call that answers Got has loaded just as many bytes
pub got_by_trail : (e : Standing) (c : Call) (events : List PastEvent) (k : ℕ) → Trace e c events (Got k) → length (bytes_loaded events) ≡ k
got_by_trail e c events k trace = omega (arith, delivered_by (plan_of e c) events 0 k (delivers_call e c) trace)

-- ---- whole calls

bytes_loaded_append : (xs ys : List PastEvent) → bytes_loaded (xs ++ ys) ≡ bytes_loaded xs ++ bytes_loaded ys
bytes_loaded_append [] ys = refl
bytes_loaded_append (x ∷ xs) ys = ap (λ (l : List ℕ). loaded_by x.op x.taken ++ l) (bytes_loaded_append xs ys) ∙ sym (append_assoc (loaded_by x.op x.taken) (bytes_loaded xs) (bytes_loaded ys))

length_loaded_by : (op : Op) (taken l : ℕ) → l + length (loaded_by op taken ++ []) ≡ loaded_then op l
length_loaded_by (LoadByte word at) taken l = refl
length_loaded_by (Load word) taken l = add-zero l
length_loaded_by (Store word value) taken l = add-zero l
length_loaded_by (StoreByte word at) taken l = add-zero l
length_loaded_by (Or word bits) taken l = add-zero l
length_loaded_by (And word bits) taken l = add-zero l
length_loaded_by (Swap word value) taken l = add-zero l
length_loaded_by Nothing taken l = add-zero l

-- one more event of a trail
length_loaded_more : (trail : List PastEvent) (op : Op) (taken l : ℕ) → length (bytes_loaded trail) ≡ l → length (bytes_loaded (trail ++ past op taken ∷ [])) ≡ loaded_then op l
length_loaded_more trail op taken l is =
    ap length (bytes_loaded_append trail (past op taken ∷ [])) ∙ length-append (bytes_loaded trail) (loaded_by op taken ++ [])
    ∙ ap (λ (n : ℕ). n + length (loaded_by op taken ++ [])) is ∙ length_loaded_by op taken l

loaded_of : Core → Role → ℕ
loaded_of core who = length (bytes_loaded (side_of core who).trail)

got_alone : (plan : Plan) (core : Core) (who : Role) (l : ℕ) → Delivers l plan → loaded_of core who ≡ l → (k : ℕ) → (alone core who plan).1 ≡ Got k → loaded_of (alone core who plan).0 who ≡ k
unfolding alone Delivers loaded_of
got_alone (answers answer) core who l d summary k is =
    ap (λ (s : Side). length (bytes_loaded s.trail)) (side_of_with_side core who (answered (side_of core who) answer)) ∙ summary ∙ d k is
got_alone (does op next) core who l d summary k is =
    let value : ℕ = value_taken core.orders core.words op in
    let more : loaded_of (carried_out core who op) who ≡ loaded_then op l =
    ap (λ (s : Side). length (bytes_loaded s.trail)) (side_of_with_side _ who (made (side_of core who) op value)) ∙ length_loaded_more (side_of core who).trail op value l summary in
    got_alone (next value) (carried_out core who op) who (loaded_then op l) (d value) more k is

-- the same of a whole call that is made alone
pub got_by_call : (core : Core) (who : Role) (c : Call) (payload : List ℕ) (k : ℕ) → call_answer core who c payload ≡ Got k
    → length (bytes_loaded (side_of (called core who c payload) who).trail) ≡ k
unfolding loaded_of
got_by_call core who c payload k is =
    got_alone (plan_of (standing_of (side_of core who)) c) (begun core who c payload) who 0 (delivers_call (standing_of (side_of core who)) c)
    (ap (λ (s : Side). length (bytes_loaded s.trail)) (side_of_with_side core who (begins (side_of core who) c payload))) k is
