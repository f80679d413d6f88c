-- The looks that a machine makes one after another are the events that it makes one by one.
use Rattle.std.proofs.Common.{◌≡◌, ℕ, suc, zero, ◌+◌, ◌≤◌, ◌==◌, nat_lt, if◌then◌else◌, List, length, slice_index, refl, subst, sym, ap, ◌∙◌, arith}
use Rattle.std.proofs.lemmas.List.{set-get_or}
use Rattle.std.proofs.lemmas.Bool.{false≢true}
use Rattle.ring_words.specs.Page.{Has, index_of}
use Rattle.ring_words.specs.declared.order.Orders.{Orders}
use Rattle.ring_words.specs.declared.page.WordName.{WordName}
use Rattle.vchan_protocol.specs.declared.op.Op.{Op}
use Rattle.vchan_protocol.specs.declared.op.Op.TheVariants.{Load}
use Rattle.vchan_core.specs.declared.machine.Machine.{Machine}
use Rattle.vchan_core.specs.declared.phase.Phase.{Phase}
use Rattle.vchan_core.specs.declared.phase.Phase.TheVariants.{WriteLive, WriteLook, ReadLook}
use Rattle.vchan_protocol.specs.declared.call.Answer.TheVariants.{PeerClosed}
use Rattle.vchan_protocol.specs.declared.call.Bit.TheVariants.{Written, Consumed}
use Rattle.vchan_protocol.specs.Table.Calls.{write, write_open, write_looked, read, read_looked, ask, look_write, look_read}
use Rattle.vchan_protocol.specs.Table.Plan.{Plan, answers, does, next_op, after}
use Rattle.vchan_protocol.specs.Table.Ends.{Standing, standing_after, read_size, peer_live, cons_word, prod_word, written_ring, read_ring, free_at, ready_at, low8, low32}
use Rattle.vchan_protocol.specs.Table.Apply.{Fits, words_after, value_taken, buffer_after}
use Rattle.vchan_core.specs.OneMachine.Phases.{standing, at_phase, rest, rest_at, payload_at, buffer_at, payload_needed, buffer_needed}
use Rattle.vchan_core.specs.WholeCall.EventsMade.{MakesEvent, MakesEvents}

-- a load leaves the end's standing
stands_look : (e : Standing) (op : Op) (word : WordName) → op ≡ Load word → e ≡ standing_after e op
unfolding standing_after
stands_look e op word is = rw is refl

look_at : (m : Machine) (at to : Phase) (word : WordName) (next : ℕ → Plan) (list source buffer : List ℕ) →
    rest_at (standing m) at ≡ does (Load word) next → Has m.orders word → rest_at (standing m) to ≡ next (slice_index list (index_of m.orders word)) →
    payload_at to ≤ payload_at at → buffer_at (read_size (standing m)) to ≤ buffer_at (read_size (standing m)) at →
    MakesEvent m.orders source (at_phase m at) list buffer (at_phase m to) list buffer
look_at m at to word next list source buffer plan has goes out into =
    let op : next_op (rest (at_phase m at)) ≡ Load word = ap next_op plan in
    record {
      busy = λ idle. false≢true (sym idle);
      awake = λ idle. false≢true (sym idle);
      same = refl;
      stands = stands_look (standing m) (next_op (rest (at_phase m at))) word op;
      leads = goes ∙ sym (ap (λ (p : Plan). after p (value_taken m.orders list (next_op p))) plan);
      words = sym (set-get_or list (index_of m.orders word) 0) ∙ sym (ap (λ (o : Op). words_after m.orders list source o) op);
      buffers = sym (ap (λ (o : Op). buffer_after m.orders list buffer o) op);
      fits = subst (λ (o : Op). Fits m.orders (length source) (length buffer) o) (sym op) has;
      payload_left = out;
      buffer_left = into;
    }

-- a load that moves on to a phase
pub look_one : (m : Machine) (at to : Phase) (word : WordName) (next : ℕ → Plan) (list source buffer : List ℕ) →
    rest_at (standing m) at ≡ does (Load word) next → Has m.orders word → rest_at (standing m) to ≡ next (slice_index list (index_of m.orders word)) →
    payload_at to ≤ payload_at at → buffer_at (read_size (standing m)) to ≤ buffer_at (read_size (standing m)) at →
    MakesEvents 1 m.orders source (at_phase m at) list buffer (at_phase m to) list buffer
look_one m at to word next list source buffer plan has goes out into =
    (at_phase m to, list, buffer, look_at m at to word next list source buffer plan has goes out into, (refl, refl, refl))

-- events, and then more of them
pub makes_all : (a b : ℕ) (orders : Orders) (source : List ℕ) (m : Machine) (list buffer : List ℕ) (m' : Machine) (list' buffer' : List ℕ) (m'' : Machine) (list'' buffer'' : List ℕ) →
    MakesEvents a orders source m list buffer m' list' buffer' → MakesEvents b orders source m' list' buffer' m'' list'' buffer'' →
    MakesEvents (a + b) orders source m list buffer m'' list'' buffer''
makes_all zero b orders source m list buffer m' list' buffer' m'' list'' buffer'' one more =
    let none : b ≡ 0 + b = omega arith in
    subst (λ (n : ℕ). MakesEvents n orders source m list buffer m'' list'' buffer'') none
    (subst (λ (x : Machine). MakesEvents b orders source x list buffer m'' list'' buffer'') one.0
    (subst (λ (l : List ℕ). MakesEvents b orders source m' l buffer m'' list'' buffer'') one.1
    (subst (λ (f : List ℕ). MakesEvents b orders source m' list' f m'' list'' buffer'') one.2 more)))
makes_all (suc a) b orders source m list buffer m' list' buffer' m'' list'' buffer'' one more =
    let next : suc (a + b) ≡ suc a + b = omega arith in
    subst (λ (n : ℕ). MakesEvents n orders source m list buffer m'' list'' buffer'') next
    (one.0, one.1, one.2, one.3, makes_all a b orders source one.0 one.1 one.2 m' list' buffer' m'' list'' buffer'' one.4 more)

-- ---- what the looks of a write and a read are

abbrev pub live_next : Standing → ℕ → ℕ → Plan
live_next e n value = if low8 value == 0 then answers PeerClosed else write_open e n

abbrev pub write_next : Standing → ℕ → ℕ → Plan
write_next e n cons = if nat_lt (free_at e cons) n then ask e Consumed (look_write e (write_looked e n)) else write_looked e n cons

abbrev pub read_next : Standing → ℕ → ℕ → Plan
read_next e n prod = if nat_lt (ready_at e prod) n then ask e Written (look_read e (read_looked e n)) else read_looked e n prod

pub live_is : (e : Standing) (n : ℕ) → rest_at e (WriteLive n) ≡ does (Load (peer_live e.role)) (live_next e n)
unfolding rest_at write
live_is e n = refl

pub alive_is : (e : Standing) (n value : ℕ) → (if low8 value == 0 then answers PeerClosed else rest_at e (WriteLook n)) ≡ live_next e n value
unfolding rest_at
alive_is e n value = refl

pub write_is : (e : Standing) (n : ℕ) → rest_at e (WriteLook n) ≡ does (Load (cons_word (written_ring e.role))) (λ value. write_next e n (low32 value))
unfolding rest_at write_open
write_is e n = refl

pub read_is : (e : Standing) (n : ℕ) → rest_at e (ReadLook n) ≡ does (Load (prod_word (read_ring e.role))) (λ value. read_next e n (low32 value))
unfolding rest_at read
read_is e n = refl

-- events that are made at once need no more bytes
pub needs_less : (n : ℕ) (orders : Orders) (source : List ℕ) (m : Machine) (list buffer : List ℕ) (m' : Machine) (list' buffer' : List ℕ) → MakesEvents n orders source m list buffer m' list' buffer' →
    (payload_needed m' ≤ payload_needed m) × (buffer_needed m' ≤ buffer_needed m)
needs_less zero orders source m list buffer m' list' buffer' d =
    (subst (λ (x : Machine). payload_needed x ≤ payload_needed m) (sym d.0) (omega arith), subst (λ (x : Machine). buffer_needed x ≤ buffer_needed m) (sym d.0) (omega arith))
needs_less (suc n) orders source m list buffer m' list' buffer' d =
    let later = needs_less n orders source d.0 d.1 d.2 m' list' buffer' d.4 in
    (omega (arith, later.0, d.3.payload_left), omega (arith, later.1, d.3.buffer_left))
