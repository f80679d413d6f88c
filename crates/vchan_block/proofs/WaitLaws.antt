-- What an end has noted after a round that was left unfinished, and what it may rely on by that.
use Rattle.std.proofs.Common.{◌≡◌, ◌≢◌, ℕ, suc, zero, ◌+◌, ◌<◌, ◌==◌, min, nat_lt, not, Bool, true, false, cond, Some, None, List, [], ◌∷◌, refl, sym, subst, ◌∙◌, arith}
use Rattle.std.proofs.lemmas.Bool.{eqb-true, eqb-false, ltb-true, ltb-false}
use Rattle.ring_words.specs.declared.page.Role.{Role}
use Rattle.ring_words.specs.declared.page.Role.TheVariants.{Server, Client}
use Rattle.vchan_protocol.specs.declared.op.Op.{Op}
use Rattle.vchan_protocol.specs.declared.op.Op.TheVariants.{Load, Swap}
use Rattle.vchan_protocol.specs.declared.op.PastEvent.{PastEvent}
use Rattle.vchan_protocol.specs.declared.call.Answer.{Answer}
use Rattle.vchan_protocol.specs.declared.call.Answer.TheVariants.{Wrote, Full, Sent, NoRoom, Got, Empty, Short, PeerClosed, Event}
use Rattle.vchan_protocol.specs.declared.call.Bit.{Bit}
use Rattle.vchan_protocol.specs.declared.call.Bit.TheVariants.{Written, Consumed}
use Rattle.vchan_protocol.specs.declared.call.Call.{Call}
use Rattle.vchan_protocol.specs.declared.call.Call.TheVariants.{Write, Send, Read, Recv, TakeEvent}
use Rattle.vchan_protocol.specs.declared.side.Side.{Side}
use Rattle.vchan_protocol.specs.declared.side.Notes.{Notes}
use Rattle.vchan_protocol.specs.Table.Plan.{Plan, does, answers, Leads}
use Rattle.vchan_protocol.specs.Table.Ends.{Standing, written_ring, read_ring, prod_word, cons_word, own_pending, peer_live, free_at, ready_at, low8, low32}
use Rattle.vchan_protocol.specs.Table.Calls.{Trace, put_bytes, take_bytes, put, take, notify, ask, look_read, look_write, write, write_open, write_looked, read, read_live, read_looked, send, send_open, send_looked, recv, recv_live, recv_looked}
use Rattle.vchan_protocol.specs.History.Core.{Core, side_of, standing_of, nothing_noted, noted, noted_load, index_seen, asks, begins, made}
use Rattle.vchan_protocol.specs.History.Peer.{held, peer}
use Rattle.vchan_protocol.specs.OneEnd.OneCall.{side_along, side_called}
use Rattle.vchan_protocol.specs.Signals.SignalLaw.{NoLostSignal, asked_of}
use Rattle.vchan_protocol.proofs.Signals.SignalLaws as signals
use Rattle.vchan_block.specs.Waiting.{bit_of, IsUnfinished, IsAnsweredBy, TriesInVain, TriesNone, TriesOnce, StillWaits}

-- ---- the notes of an end along its events

notes_along : Role → Notes → List PastEvent → Notes
notes_along role n [] = n
notes_along role n (event ∷ events) = notes_along role (noted event.op role event.taken n) events

notes_along_lem : (s : Side) (events : List PastEvent) → (side_along s events).notes ≡ notes_along s.role s.notes events
unfolding notes_along
notes_along_lem s [] = refl
notes_along_lem s (event ∷ events) = notes_along_lem (made s event.op event.taken) events

-- whatever the values are, the notes fit when the plan answers
unfoldable Leaves : (Notes → Answer → Type 0) → Role → Notes → Plan → Type 0
Leaves Fit role n (answers answer) = Fit n answer
Leaves Fit role n (does op next) = (value : ℕ) → Leaves Fit role (noted op role value n) (next value)

Leaves_Leads : (Fit : Notes → Answer → Type 0) (role : Role) (n : Notes) (plan : Plan) (events : List PastEvent) (answer : Answer) → Leaves Fit role n plan → Leads plan events (answers answer) →
    Fit (notes_along role n events) answer
unfolding Leaves notes_along
Leaves_Leads Fit role n (answers given) [] answer w led = subst (λ (a : Answer). Fit n a) (same given answer led) w
  where
    same : (given answer : Answer) → answers given ≡ answers answer → given ≡ answer
    same given answer led = cc
Leaves_Leads Fit role n (does op next) [] answer w led = absurd (apart op next answer led)
  where
    apart : (op : Op) (next : ℕ → Plan) (answer : Answer) → does op next ≡ answers answer → ⊥
    apart op next answer led = cc
Leaves_Leads Fit role n (answers given) (event ∷ events) answer w led = absurd led
Leaves_Leads Fit role n (does op next) (event ∷ events) answer w led =
    Leaves_Leads Fit role (noted event.op role event.taken n) (next event.taken) events answer
    (subst (λ (o : Op). Leaves Fit role (noted o role event.taken n) (next event.taken)) (sym led.0) (w event.taken)) led.1

-- ---- the pieces of the rows

look_read_noted : (role : Role) (taken : ℕ) (n : Notes) → noted_load (prod_word (read_ring role)) role taken n ≡ record n { written = index_seen (low32 taken) n.written }
look_read_noted Server taken n = refl
look_read_noted Client taken n = refl

look_write_noted : (role : Role) (taken : ℕ) (n : Notes) → noted_load (cons_word (written_ring role)) role taken n ≡ record n { consumed = index_seen (low32 taken) n.consumed }
look_write_noted Server taken n = refl
look_write_noted Client taken n = refl

live_noted : (role : Role) (taken : ℕ) (n : Notes) → noted_load (peer_live role) role taken n ≡ record n { live = Some (low8 taken) }
live_noted Server taken n = refl
live_noted Client taken n = refl

module _ (Fit : Notes → Answer → Type 0) (e : Standing) where
  leaves_answers : (n : Notes) (answer : Answer) → Fit n answer → Leaves Fit e.role n (answers answer)
  unfolding Leaves
  leaves_answers n answer fit = fit

  leaves_does : (n : Notes) (op : Op) (next : ℕ → Plan) → ((value : ℕ) → Leaves Fit e.role (noted op e.role value n) (next value)) → Leaves Fit e.role n (does op next)
  unfolding Leaves
  leaves_does n op next w = w

  leaves_if : (n : Notes) (b : Bool) (p q : Plan) → (b ≡ true → Leaves Fit e.role n p) → (b ≡ false → Leaves Fit e.role n q) → Leaves Fit e.role n (cond b p q)
  leaves_if n true p q first second = first refl
  leaves_if n false p q first second = second refl

  leaves_look_read : (n : Notes) (next : ℕ → Plan) → ((index : ℕ) → Leaves Fit e.role (record n { written = index_seen index n.written }) (next index)) → Leaves Fit e.role n (look_read e next)
  leaves_look_read n next w = leaves_does n _ _ (λ value. subst (λ (m : Notes). Leaves Fit e.role m (next (low32 value))) (sym (look_read_noted e.role value n)) (w (low32 value)))

  leaves_look_write : (n : Notes) (next : ℕ → Plan) → ((index : ℕ) → Leaves Fit e.role (record n { consumed = index_seen index n.consumed }) (next index)) → Leaves Fit e.role n (look_write e next)
  leaves_look_write n next w = leaves_does n _ _ (λ value. subst (λ (m : Notes). Leaves Fit e.role m (next (low32 value))) (sym (look_write_noted e.role value n)) (w (low32 value)))

  leaves_live : (n : Notes) (first second : Plan) → ((m : Notes) → Leaves Fit e.role m first) → ((live : ℕ) → live ≢ 0 → Leaves Fit e.role (record n { live = Some live }) second) →
      Leaves Fit e.role n (does (Load (peer_live e.role)) (λ live. cond (low8 live == 0) first second))
  leaves_live n first second shut alive =
      leaves_does n _ _ (λ value. subst (λ (m : Notes). Leaves Fit e.role m (cond (low8 value == 0) first second)) (sym (live_noted e.role value n))
      (leaves_if _ (low8 value == 0) first second (λ zero. shut _) (λ some. alive (low8 value) (eqb-false (low8 value) 0 some))))

  leaves_ask_written : (n : Notes) (next : Plan) → Leaves Fit e.role (record n { written = asks }) next → Leaves Fit e.role n (ask e Written next)
  leaves_ask_written n next w = leaves_does n _ _ (λ value. w)

  leaves_ask_consumed : (n : Notes) (next : Plan) → Leaves Fit e.role (record n { consumed = asks }) next → Leaves Fit e.role n (ask e Consumed next)
  leaves_ask_consumed n next w = leaves_does n _ _ (λ value. w)

  leaves_notify : (n : Notes) (bit : Bit) (next : Plan) → Leaves Fit e.role n next → Leaves Fit e.role n (notify e bit next)
  leaves_notify n bit next w = leaves_does n _ _ (λ old. leaves_if n _ _ _ (λ unasked. w) (λ asked. leaves_does n _ _ (λ value. w)))

  leaves_put_bytes : (i k : ℕ) (n : Notes) (next : Plan) → Leaves Fit e.role n next → Leaves Fit e.role n (put_bytes e i k next)
  leaves_put_bytes i zero n next w = w
  leaves_put_bytes i (suc k) n next w = leaves_does n _ _ (λ value. leaves_put_bytes (i + 1) k n next w)

  leaves_take_bytes : (i k : ℕ) (n : Notes) (next : Plan) → Leaves Fit e.role n next → Leaves Fit e.role n (take_bytes e i k next)
  leaves_take_bytes i zero n next w = w
  leaves_take_bytes i (suc k) n next w = leaves_does n _ _ (λ value. leaves_take_bytes (i + 1) k n next w)

  leaves_put : (k : ℕ) (n : Notes) (next : Plan) → Leaves Fit e.role n next → Leaves Fit e.role n (put e k next)
  leaves_put k n next w = leaves_put_bytes 0 k n _ (leaves_does n _ _ (λ value. leaves_notify n Written next w))

  leaves_take : (k : ℕ) (n : Notes) (next : Plan) → Leaves Fit e.role n next → Leaves Fit e.role n (take e k next)
  leaves_take k n next w = leaves_take_bytes 0 k n _ (leaves_does n _ _ (λ value. leaves_notify n Consumed next w))

-- ---- the rows

-- the end has asked by this bit, and loaded this index since
record HasLooked (n : Notes) (bit : Bit) (index : ℕ) : Type 0 where
  since : (asked_of n bit).since ≡ true
  seen : (asked_of n bit).seen ≡ Some index

record HasNoted (e : Standing) (call : Call) (n : Notes) (answer : Answer) : Type 0 where
  index : ℕ
  live : ℕ
  looked : HasLooked n (bit_of call) index
  answered : IsAnsweredBy e answer index
  live_is : n.live ≡ Some live
  alive : live ≢ 0

abbrev Fits : Standing → Call → Notes → Answer → Type 0
Fits e call n answer = IsUnfinished call answer → HasNoted e call n answer

module _ (e : Standing) (n : ℕ) where
  write_looked_leaves : (m : Notes) (cons live : ℕ) → m.live ≡ Some live → live ≢ 0 → (free_at e cons < n → HasLooked m Consumed cons) → Leaves (Fits e (Write n)) e.role m (write_looked e n cons)
  unfolding write_looked
  write_looked_leaves m cons live live_is alive looked =
      leaves_if (Fits e (Write n)) e m (n == 0) _ _
      (λ none. leaves_answers (Fits e (Write n)) e m (Wrote 0) (λ (fewer : 0 < n). absurd (let is = eqb-true n 0 none in omega (arith, is, fewer))))
      (λ some. leaves_if (Fits e (Write n)) e m (free_at e cons == 0) _ _
      (λ full. leaves_answers (Fits e (Write n)) e m (Full e.prod cons)
      (λ _. record { index = cons; live = live; looked = looked (let no = eqb-true _ _ full in let apart = eqb-false n 0 some in omega (arith, no, apart)); answered = refl; live_is = live_is; alive = alive }))
      (λ fits. leaves_put (Fits e (Write n)) e (min n (free_at e cons)) m _ (leaves_answers (Fits e (Write n)) e m (Wrote (min n (free_at e cons)))
      (λ (fewer : min n (free_at e cons) < n). record { index = cons; live = live; looked = looked (omega (arith, fewer)); answered = omega (arith, fewer); live_is = live_is; alive = alive }))))

  write_leaves : (m : Notes) → Leaves (Fits e (Write n)) e.role m (write e n)
  unfolding write write_open
  write_leaves m =
      leaves_live (Fits e (Write n)) e m _ _
      (λ shut. leaves_answers (Fits e (Write n)) e shut PeerClosed (λ (un : ⊥). absurd un))
      (λ live alive. leaves_look_write (Fits e (Write n)) e _ _ (λ cons. leaves_if (Fits e (Write n)) e _ (nat_lt (free_at e cons) n) _ _
      (λ less. leaves_ask_consumed (Fits e (Write n)) e _ _ (leaves_look_write (Fits e (Write n)) e _ _ (λ again. write_looked_leaves _ again live refl alive (λ _. record { since = refl; seen = refl }))))
      (λ enough. write_looked_leaves _ cons live refl alive (λ few. absurd (let many = ltb-false _ _ enough in omega (arith, few, many))))))

  send_looked_leaves : (m : Notes) (cons live : ℕ) → m.live ≡ Some live → live ≢ 0 → (free_at e cons < n → HasLooked m Consumed cons) → Leaves (Fits e (Send n)) e.role m (send_looked e n cons)
  unfolding send_looked
  send_looked_leaves m cons live live_is alive looked =
      leaves_if (Fits e (Send n)) e m (nat_lt (free_at e cons) n) _ _
      (λ less. leaves_answers (Fits e (Send n)) e m (NoRoom e.prod cons) (λ _. record { index = cons; live = live; looked = looked (ltb-true _ _ less); answered = refl; live_is = live_is; alive = alive }))
      (λ enough. leaves_put (Fits e (Send n)) e n m _ (leaves_answers (Fits e (Send n)) e m (Sent n) (λ (un : ⊥). absurd un)))

  send_leaves : (m : Notes) → Leaves (Fits e (Send n)) e.role m (send e n)
  unfolding send send_open
  send_leaves m =
      leaves_live (Fits e (Send n)) e m _ _
      (λ shut. leaves_answers (Fits e (Send n)) e shut PeerClosed (λ (un : ⊥). absurd un))
      (λ live alive. leaves_look_write (Fits e (Send n)) e _ _ (λ cons. leaves_if (Fits e (Send n)) e _ (nat_lt (free_at e cons) n) _ _
      (λ less. leaves_ask_consumed (Fits e (Send n)) e _ _ (leaves_look_write (Fits e (Send n)) e _ _ (λ again. send_looked_leaves _ again live refl alive (λ _. record { since = refl; seen = refl }))))
      (λ enough. send_looked_leaves _ cons live refl alive (λ few. absurd (let many = ltb-false _ _ enough in omega (arith, few, many))))))

  read_looked_leaves : (m : Notes) (prod : ℕ) → (ready_at e prod < n → HasLooked m Written prod) → Leaves (Fits e (Read n)) e.role m (read_looked e n prod)
  unfolding read_looked read_live
  read_looked_leaves m prod looked =
      leaves_if (Fits e (Read n)) e m (ready_at e prod == 0) _ _
      (λ none. leaves_live (Fits e (Read n)) e m _ _
      (λ shut. leaves_answers (Fits e (Read n)) e shut PeerClosed (λ (un : ⊥). absurd un))
      (λ live alive. leaves_answers (Fits e (Read n)) e _ (Empty prod e.cons)
      (λ (asked : 0 < n). let found = looked (let no = eqb-true _ _ none in omega (arith, no, asked)) in
      record { index = prod; live = live; looked = record { since = found.since; seen = found.seen }; answered = refl; live_is = refl; alive = alive })))
      (λ some. leaves_take (Fits e (Read n)) e (min n (ready_at e prod)) m _ (leaves_answers (Fits e (Read n)) e m (Got (min n (ready_at e prod))) (λ (un : ⊥). absurd un)))

  read_leaves : (m : Notes) → Leaves (Fits e (Read n)) e.role m (read e n)
  unfolding read
  read_leaves m =
      leaves_look_read (Fits e (Read n)) e m _ (λ prod. leaves_if (Fits e (Read n)) e _ (nat_lt (ready_at e prod) n) _ _
      (λ less. leaves_ask_written (Fits e (Read n)) e _ _ (leaves_look_read (Fits e (Read n)) e _ _ (λ again. read_looked_leaves _ again (λ _. record { since = refl; seen = refl }))))
      (λ enough. read_looked_leaves _ prod (λ few. absurd (let many = ltb-false _ _ enough in omega (arith, few, many)))))

  recv_looked_leaves : (m : Notes) (prod : ℕ) → (ready_at e prod < n → HasLooked m Written prod) → Leaves (Fits e (Recv n)) e.role m (recv_looked e n prod)
  unfolding recv_looked recv_live
  recv_looked_leaves m prod looked =
      leaves_if (Fits e (Recv n)) e m (nat_lt (ready_at e prod) n) _ _
      (λ less. leaves_live (Fits e (Recv n)) e m _ _
      (λ shut. leaves_answers (Fits e (Recv n)) e shut PeerClosed (λ (un : ⊥). absurd un))
      (λ live alive. leaves_answers (Fits e (Recv n)) e _ (Short prod e.cons)
      (λ _. let found = looked (ltb-true _ _ less) in
      record { index = prod; live = live; looked = record { since = found.since; seen = found.seen }; answered = refl; live_is = refl; alive = alive })))
      (λ enough. leaves_take (Fits e (Recv n)) e n m _ (leaves_answers (Fits e (Recv n)) e m (Got n) (λ (un : ⊥). absurd un)))

  recv_leaves : (m : Notes) → Leaves (Fits e (Recv n)) e.role m (recv e n)
  unfolding recv
  recv_leaves m =
      leaves_look_read (Fits e (Recv n)) e m _ (λ prod. leaves_if (Fits e (Recv n)) e _ (nat_lt (ready_at e prod) n) _ _
      (λ less. leaves_ask_written (Fits e (Recv n)) e _ _ (leaves_look_read (Fits e (Recv n)) e _ _ (λ again. recv_looked_leaves _ again (λ _. record { since = refl; seen = refl }))))
      (λ enough. recv_looked_leaves _ prod (λ few. absurd (let many = ltb-false _ _ enough in omega (arith, few, many)))))

-- ---- the law

-- what an end has noted after a round of one of the four calls
round_notes : (was : Side) (call : Call) (payload : List ℕ) (events : List PastEvent) (answer : Answer) → Trace (standing_of was) call events answer → IsUnfinished call answer →
    HasNoted (standing_of was) call (side_called was call payload events answer).notes answer
round_notes was call payload events answer trace unfinished =
    subst (λ (m : Notes). HasNoted (standing_of was) call m answer) (sym (notes_along_lem (begins was call payload) events)) (noted_by call answer trace unfinished)
  where
    noted_by : (call : Call) (answer : Answer) → Trace (standing_of was) call events answer → IsUnfinished call answer → HasNoted (standing_of was) call (notes_along was.role was.notes events) answer
    noted_by (Write n) answer trace unfinished = Leaves_Leads (Fits (standing_of was) (Write n)) was.role was.notes _ events answer (write_leaves (standing_of was) n was.notes) trace unfinished
    noted_by (Send n) answer trace unfinished = Leaves_Leads (Fits (standing_of was) (Send n)) was.role was.notes _ events answer (send_leaves (standing_of was) n was.notes) trace unfinished
    noted_by (Read n) answer trace unfinished = Leaves_Leads (Fits (standing_of was) (Read n)) was.role was.notes _ events answer (read_leaves (standing_of was) n was.notes) trace unfinished
    noted_by (Recv n) answer trace unfinished = Leaves_Leads (Fits (standing_of was) (Recv n)) was.role was.notes _ events answer (recv_leaves (standing_of was) n was.notes) trace unfinished
    noted_by _ answer trace unfinished = absurd unfinished

-- ---- tries

-- a try that finds no event leaves what its end has noted
abbrev Stays : Notes → Notes → Answer → Type 0
Stays was n answer = answer ≡ Event false → n ≡ was

stays_as : (was : Notes) (b : Bool) → Stays was (cond b was nothing_noted) (Event (not b))
stays_as was true = λ is. refl
stays_as was false = λ is. cc

try_stays : (e : Standing) (was : Notes) (value : ℕ) → Leaves (Stays was) e.role (noted (Swap (own_pending e.role) 0) e.role value was) (answers (Event (not (value == 0))))
unfolding Leaves
try_stays e was value = stays_as was (value == 0)

try_keeps : (s : Side) (payload : List ℕ) (events : List PastEvent) → Trace (standing_of s) TakeEvent events (Event false) → (side_called s TakeEvent payload events (Event false)).notes ≡ s.notes
try_keeps s payload events trace =
    let whole = leaves_does (Stays s.notes) (standing_of s) s.notes (Swap (own_pending s.role) 0) (λ (old : ℕ). answers (Event (not (old == 0)))) (try_stays (standing_of s) s.notes) in
    notes_along_lem (begins s TakeEvent payload) events ∙ Leaves_Leads (Stays s.notes) s.role s.notes _ events (Event false) whole trace refl

tries_keep : (s later : Side) → TriesInVain s later → later.notes ≡ s.notes
tries_keep s later TriesNone = refl
tries_keep s later (TriesOnce payload events trace rest) = tries_keep (side_called s TakeEvent payload events (Event false)) later rest ∙ try_keeps s payload events trace

-- ---- the law of a wait

pub misses_nothing : (core : Core) (was : Side) (call : Call) (payload : List ℕ) (events : List PastEvent) (answer : Answer) → NoLostSignal core →
    Trace (standing_of was) call events answer → TriesInVain (side_called was call payload events answer) (side_of core was.role) → IsUnfinished call answer →
    held core (own_pending was.role) ≡ 0 → (side_of core (peer was.role)).call ≡ None → StillWaits core was.role (standing_of was) call answer
misses_nothing core was call payload events answer kept trace tries unfinished unwoken idle =
    let noted = subst (λ (m : Notes). HasNoted (standing_of was) call m answer) (sym (tries_keep _ _ tries)) (round_notes was call payload events answer trace unfinished) in
    let rest = signals.misses_nothing core was.role (bit_of call) kept (record { asked = noted.looked.since; unwoken = unwoken; peer_idle = idle }) in
    record {
      bit_stands = rest.bit_stands;
      index_stands = subst (λ (index : ℕ). IsAnsweredBy (standing_of was) answer index) (sym (rest.index_stands noted.index noted.looked.seen)) noted.answered;
      peer_open = rest.peer_open noted.live noted.live_is noted.alive;
    }
