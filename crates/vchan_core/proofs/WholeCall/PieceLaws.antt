-- The bytes that a machine moves in one piece are the events that it makes one by one.
use Rattle.std.proofs.Common.{◌≡◌, ℕ, suc, zero, ◌+◌, ◌%◌, ◌<◌, ◌≤◌, Some, List, ◌∷◌, length, take, drop, slice_index, slice_set, refl, subst, sym, ap, ◌∙◌, arith}
use Rattle.std.proofs.lemmas.List.{length-set, set-get_or}
use Rattle.std.proofs.lemmas.Bool.{false≢true}
use Rattle.std.proofs.Math.Seq.{drop-cons}
use Rattle.ring_words.specs.Rings.{place}
use Rattle.ring_words.specs.Page.{index_of}
use Rattle.ring_words.specs.Overwritten.{overwritten, low_bytes}
use Rattle.ring_words.specs.declared.order.Orders.{Orders}
use Rattle.ring_words.specs.declared.page.Ring.{Ring}
use Rattle.ring_words.specs.declared.page.Ring.TheVariants.{Left, Right}
use Rattle.ring_words.specs.declared.page.WordName.TheVariants.{RingByte}
use Rattle.ring_words.proofs.RingLaws.{place_within}
use Rattle.vchan_protocol.specs.declared.op.Op.{Op}
use Rattle.vchan_protocol.specs.declared.op.Op.TheVariants.{StoreByte, LoadByte}
use Rattle.vchan_protocol.specs.declared.call.Answer.{Answer}
use Rattle.vchan_core.specs.declared.machine.Machine.{Machine}
use Rattle.vchan_core.specs.declared.phase.Phase.TheVariants.{Put, Take}
use Rattle.vchan_protocol.specs.Table.Plan.{Plan, answers, does, next_op, after}
use Rattle.vchan_protocol.specs.Table.Ends.{Standing, standing_after, written_ring, read_ring, write_order, read_order}
use Rattle.vchan_protocol.specs.Table.Calls.{put_index, take_index}
use Rattle.vchan_protocol.specs.Table.Apply.{Fits, words_after, value_taken, buffer_after}
use Rattle.vchan_core.specs.OneMachine.Phases.{standing, rest, rest_at}
use Rattle.vchan_core.specs.WholeCall.EventsMade.{MakesEvent, MakesEvents}
use Rattle.vchan_protocol.proofs.Table.PlanLaws.{put_bytes_more, take_bytes_more}

index_on : (orders : Orders) (ring : Ring) (at : ℕ) → index_of orders (RingByte ring (at + 1)) ≡ index_of orders (RingByte ring at) + 1
index_on orders Left at = omega arith
index_on orders Right at = omega arith

-- an event that is on a ring byte leaves the end's standing
pub stands_store : (e : Standing) (op : Op) (ring : Ring) (at i : ℕ) → op ≡ StoreByte (RingByte ring at) i → e ≡ standing_after e op
unfolding standing_after
stands_store e op ring at i is = rw is refl

pub stands_load : (e : Standing) (op : Op) (ring : Ring) (at i : ℕ) → op ≡ LoadByte (RingByte ring at) i → e ≡ standing_after e op
unfolding standing_after
stands_load e op ring at i is = rw is refl

abbrev pub at_put : Machine → ℕ → ℕ → Answer → Machine
at_put m i k answer = record m { phase = Some (Put i k answer) }

abbrev pub at_take : Machine → ℕ → ℕ → Answer → Machine
at_take m i k answer = record m { phase = Some (Take i k answer) }

-- ---- a put

abbrev pub put_place : Machine → ℕ → ℕ
put_place m i = place (m.prod + i) (write_order (standing m))

pub put_plan : (m : Machine) (i k : ℕ) (answer : Answer) → i < k →
    rest (at_put m i k answer) ≡ does (StoreByte (RingByte (written_ring m.role) (put_place m i)) i) (λ _. rest (at_put m (i + 1) k answer))
unfolding rest_at
put_plan m i k answer h = put_bytes_more (standing m) i k (put_index (standing m) k (answers answer)) h

put_one : (m : Machine) (list source buffer : List ℕ) (i k : ℕ) (answer : Answer) → i < k → k ≤ length source →
    MakesEvent m.orders source (at_put m i k answer) list buffer (at_put m (i + 1) k answer) (slice_set list (index_of m.orders (RingByte (written_ring m.role) (put_place m i))) (slice_index source i)) buffer
put_one m list source buffer i k answer h enough =
    let ring = written_ring m.role in
    let plan = put_plan m i k answer h in
    let op : next_op (rest (at_put m i k answer)) ≡ StoreByte (RingByte ring (put_place m i)) i = ap next_op plan in
    record {
      busy = λ idle. false≢true (sym idle);
      awake = λ idle. false≢true (sym idle);
      same = refl;
      stands = stands_store (standing m) (next_op (rest (at_put m i k answer))) ring (put_place m i) i op;
      leads = sym (ap (λ (p : Plan). after p (value_taken m.orders list (next_op p))) plan);
      words = sym (ap (λ (o : Op). words_after m.orders list source o) op);
      buffers = sym (ap (λ (o : Op). buffer_after m.orders list buffer o) op);
      fits = subst (λ (o : Op). Fits m.orders (length source) (length buffer) o) (sym op) (place_within (m.prod + i) (write_order (standing m)), omega arith);
      payload_left = omega arith;
      buffer_left = omega arith;
    }

-- the payload from a byte on
drop_on : (source : List ℕ) (i n : ℕ) → i < length source → take (suc n) (drop i source) ≡ slice_index source i ∷ take n (drop (i + 1) source)
drop_on source i n h =
    let more : suc i ≡ i + 1 = omega arith in
    ap (λ (l : List ℕ). take (suc n) l) (drop-cons source i 0 h) ∙ ap (λ (x : ℕ). slice_index source i ∷ take n (drop x source)) more

-- this many bytes at places that follow one another
pub put_piece : (m : Machine) (list source buffer : List ℕ) (i k n at : ℕ) (answer : Answer) → i + n ≤ k → k ≤ length source →
    ((j : ℕ) → j < n → put_place m (i + j) ≡ at + j) →
    MakesEvents n m.orders source (at_put m i k answer) list buffer (at_put m (i + n) k answer)
    (overwritten list (index_of m.orders (RingByte (written_ring m.role) at)) (take n (drop i source))) buffer
put_piece m list source buffer i k zero at answer h enough places =
    let none : i + zero ≡ i = omega arith in
    (ap (λ (x : ℕ). at_put m x k answer) none, refl, refl)
put_piece m list source buffer i k (suc n) at answer h enough places =
    let ring = written_ring m.role in
    let here : put_place m i ≡ at = ap (λ (x : ℕ). put_place m x) (omega arith) ∙ places 0 (omega arith) ∙ omega arith in
    let list' = slice_set list (index_of m.orders (RingByte ring (put_place m i))) (slice_index source i) in
    let on : i + 1 + n ≡ i + suc n = omega arith in
    let stored : overwritten list' (index_of m.orders (RingByte ring (at + 1))) (take n (drop (i + 1) source)) ≡ overwritten list (index_of m.orders (RingByte ring at)) (take (suc n) (drop i source)) =
    ap (λ (x : ℕ). overwritten (slice_set list (index_of m.orders (RingByte ring x)) (slice_index source i)) (index_of m.orders (RingByte ring (at + 1))) (take n (drop (i + 1) source))) here
    ∙ ap (λ (x : ℕ). overwritten (slice_set list (index_of m.orders (RingByte ring at)) (slice_index source i)) x (take n (drop (i + 1) source))) (index_on m.orders ring at)
    ∙ ap (λ (l : List ℕ). overwritten list (index_of m.orders (RingByte ring at)) l) (sym (drop_on source i n (omega arith))) in
    let later : MakesEvents n m.orders source (at_put m (i + 1) k answer) list' buffer (at_put m (i + 1 + n) k answer)
    (overwritten list' (index_of m.orders (RingByte ring (at + 1))) (take n (drop (i + 1) source))) buffer =
    put_piece m list' source buffer (i + 1) k n (at + 1) answer (omega arith) enough
    (λ j less. ap (λ (x : ℕ). put_place m x) (omega arith) ∙ places (j + 1) (omega arith) ∙ omega arith) in (
      at_put m (i + 1) k answer,
      list',
      buffer,
      put_one m list source buffer i k answer (omega arith) enough,
      subst (λ (l : List ℕ). MakesEvents n m.orders source (at_put m (i + 1) k answer) list' buffer (at_put m (i + suc n) k answer) l buffer) stored
          (subst (λ (x : ℕ). MakesEvents n m.orders source (at_put m (i + 1) k answer) list' buffer (at_put m x k answer)
          (overwritten list' (index_of m.orders (RingByte ring (at + 1))) (take n (drop (i + 1) source))) buffer) on later),
    )

-- ---- a take

abbrev pub take_place : Machine → ℕ → ℕ
take_place m i = place (m.cons + i) (read_order (standing m))

pub take_plan : (m : Machine) (i k : ℕ) (answer : Answer) → i < k →
    rest (at_take m i k answer) ≡ does (LoadByte (RingByte (read_ring m.role) (take_place m i)) i) (λ _. rest (at_take m (i + 1) k answer))
unfolding rest_at
take_plan m i k answer h = take_bytes_more (standing m) i k (take_index (standing m) k (answers answer)) h

take_one : (m : Machine) (list source buffer : List ℕ) (i k : ℕ) (answer : Answer) → i < k → k ≤ length buffer →
    MakesEvent m.orders source (at_take m i k answer) list buffer (at_take m (i + 1) k answer) list
    (slice_set buffer i (slice_index list (index_of m.orders (RingByte (read_ring m.role) (take_place m i))) % 256))
take_one m list source buffer i k answer h enough =
    let ring = read_ring m.role in
    let plan = take_plan m i k answer h in
    let op : next_op (rest (at_take m i k answer)) ≡ LoadByte (RingByte ring (take_place m i)) i = ap next_op plan in
    record {
      busy = λ idle. false≢true (sym idle);
      awake = λ idle. false≢true (sym idle);
      same = refl;
      stands = stands_load (standing m) (next_op (rest (at_take m i k answer))) ring (take_place m i) i op;
      leads = sym (ap (λ (p : Plan). after p (value_taken m.orders list (next_op p))) plan);
      words = sym (set-get_or list (index_of m.orders (RingByte ring (take_place m i))) 0) ∙ sym (ap (λ (o : Op). words_after m.orders list source o) op);
      buffers = sym (ap (λ (o : Op). buffer_after m.orders list buffer o) op);
      fits = subst (λ (o : Op). Fits m.orders (length source) (length buffer) o) (sym op) (place_within (m.cons + i) (read_order (standing m)), omega arith);
      payload_left = omega arith;
      buffer_left = omega arith;
    }

pub take_piece : (m : Machine) (list source buffer : List ℕ) (i k n at : ℕ) (answer : Answer) → i + n ≤ k → k ≤ length buffer →
    ((j : ℕ) → j < n → take_place m (i + j) ≡ at + j) →
    MakesEvents n m.orders source (at_take m i k answer) list buffer (at_take m (i + n) k answer) list
    (overwritten buffer i (low_bytes list (index_of m.orders (RingByte (read_ring m.role) at)) n))
take_piece m list source buffer i k zero at answer h enough places =
    let none : i + zero ≡ i = omega arith in
    (ap (λ (x : ℕ). at_take m x k answer) none, refl, refl)
take_piece m list source buffer i k (suc n) at answer h enough places =
    let ring = read_ring m.role in
    let here : take_place m i ≡ at = ap (λ (x : ℕ). take_place m x) (omega arith) ∙ places 0 (omega arith) ∙ omega arith in
    let value : ℕ → ℕ = λ x. slice_index list (index_of m.orders (RingByte ring x)) % 256 in
    let buffer' = slice_set buffer i (value (take_place m i)) in
    let on : i + 1 + n ≡ i + suc n = omega arith in
    let filled : overwritten buffer' (i + 1) (low_bytes list (index_of m.orders (RingByte ring (at + 1))) n) ≡ overwritten buffer i (low_bytes list (index_of m.orders (RingByte ring at)) (suc n)) =
    ap (λ (x : ℕ). overwritten (slice_set buffer i (value x)) (i + 1) (low_bytes list (index_of m.orders (RingByte ring (at + 1))) n)) here
    ∙ ap (λ (x : ℕ). overwritten (slice_set buffer i (value at)) (i + 1) (low_bytes list x n)) (index_on m.orders ring at) in
    let later : MakesEvents n m.orders source (at_take m (i + 1) k answer) list buffer' (at_take m (i + 1 + n) k answer) list
    (overwritten buffer' (i + 1) (low_bytes list (index_of m.orders (RingByte ring (at + 1))) n)) =
    take_piece m list source buffer' (i + 1) k n (at + 1) answer (omega arith) (omega (arith, length-set buffer i (value (take_place m i))))
    (λ j less. ap (λ (x : ℕ). take_place m x) (omega arith) ∙ places (j + 1) (omega arith) ∙ omega arith) in (
      at_take m (i + 1) k answer,
      list,
      buffer',
      take_one m list source buffer i k answer (omega arith) enough,
      subst (λ (b : List ℕ). MakesEvents n m.orders source (at_take m (i + 1) k answer) list buffer' (at_take m (i + suc n) k answer) list b) filled
          (subst (λ (x : ℕ). MakesEvents n m.orders source (at_take m (i + 1) k answer) list buffer' (at_take m x k answer) list
          (overwritten buffer' (i + 1) (low_bytes list (index_of m.orders (RingByte ring (at + 1))) n))) on later),
    )
