-- How plans go on, and how the bytes of a PUT and of a TAKE do.
use Rattle.std.proofs.Common.{◌≡◌, ℕ, suc, zero, ◌+◌, ◌-◌, ◌<◌, ◌≤◌, List, [], ◌∷◌, ◌++◌, refl, subst, sym, ap, arith}
use Rattle.ring_words.specs.Rings.{place}
use Rattle.ring_words.specs.declared.page.WordName.TheVariants.{RingByte}
use Rattle.vchan_protocol.specs.declared.op.Op.TheVariants.{StoreByte, LoadByte}
use Rattle.vchan_protocol.specs.declared.op.Op.{Op}
use Rattle.vchan_protocol.specs.Table.Plan.{rest_after, Plan, does, answers, GoesOn, Leads, past, next_op, after}
use Rattle.vchan_protocol.specs.Table.Ends.{write_order, read_order, Standing, written_ring, read_ring}
use Rattle.vchan_protocol.specs.Table.Calls.{put_bytes, take_bytes}
use Rattle.vchan_protocol.specs.declared.op.PastEvent.{PastEvent}

one_less : (i k : ℕ) → i < k → k - i ≡ suc (k - (i + 1))
one_less i k h = omega arith

none_left : (i k : ℕ) → k ≤ i → k - i ≡ zero
none_left i k h = omega arith

pub put_bytes_more : (e : Standing) (i k : ℕ) (next : Plan) → i < k →
    put_bytes e i (k - i) next ≡ does (StoreByte (RingByte (written_ring e.role) (place (e.prod + i) (write_order e))) i) (λ _. put_bytes e (i + 1) (k - (i + 1)) next)
put_bytes_more e i k next h = ap (λ (n : ℕ). put_bytes e i n next) (one_less i k h)

pub put_bytes_end : (e : Standing) (i k : ℕ) (next : Plan) → k ≤ i → put_bytes e i (k - i) next ≡ next
put_bytes_end e i k next h = ap (λ (n : ℕ). put_bytes e i n next) (none_left i k h)

pub take_bytes_more : (e : Standing) (i k : ℕ) (next : Plan) → i < k →
    take_bytes e i (k - i) next ≡ does (LoadByte (RingByte (read_ring e.role) (place (e.cons + i) (read_order e))) i) (λ _. take_bytes e (i + 1) (k - (i + 1)) next)
take_bytes_more e i k next h = ap (λ (n : ℕ). take_bytes e i n next) (one_less i k h)

pub take_bytes_end : (e : Standing) (i k : ℕ) (next : Plan) → k ≤ i → take_bytes e i (k - i) next ≡ next
take_bytes_end e i k next h = ap (λ (n : ℕ). take_bytes e i n next) (none_left i k h)

pub ruleset bytes_laws = (put_bytes_more, put_bytes_end, take_bytes_more, take_bytes_end)

-- each phase has an event left
pub GoesOn_put_bytes : (e : Standing) (i k : ℕ) (op : Op) (next : ℕ → Plan) → GoesOn (put_bytes e i k (does op next))
GoesOn_put_bytes e i zero op next = tt
GoesOn_put_bytes e i (suc k) op next = tt

pub GoesOn_take_bytes : (e : Standing) (i k : ℕ) (op : Op) (next : ℕ → Plan) → GoesOn (take_bytes e i k (does op next))
GoesOn_take_bytes e i zero op next = tt
GoesOn_take_bytes e i (suc k) op next = tt

-- one event more
pub Leads_more : (plan : Plan) (events : List PastEvent) (rest : Plan) (value : ℕ) → GoesOn rest → Leads plan events rest →
    Leads plan (events ++ past (next_op rest) value ∷ []) (after rest value)
Leads_more plan [] rest value more led = subst (λ (p : Plan). Leads p (past (next_op rest) value ∷ []) (after rest value)) (sym led) (last rest more)
  where
    last : (p : Plan) → GoesOn p → Leads p (past (next_op p) value ∷ []) (after p value)
    last (answers answer) h = absurd h
    last (does op next) h = (refl, refl)
Leads_more (answers answer) (event ∷ events) rest value more led = absurd led
Leads_more (does op next) (event ∷ events) rest value more led = (led.0, Leads_more (next event.taken) events rest value more led.1)

-- what a trail leads to is what it leaves
pub rest_after_Leads : (plan : Plan) (events : List PastEvent) (rest : Plan) → Leads plan events rest → rest_after plan events ≡ rest
rest_after_Leads plan [] rest led = led
rest_after_Leads (answers answer) (event ∷ events) rest led = absurd led
rest_after_Leads (does op next) (event ∷ events) rest led = rest_after_Leads (next event.taken) events rest led.1
