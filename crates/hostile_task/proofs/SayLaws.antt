-- One turn of saying after the others.
use Rattle.std.proofs.Common.{◌≡◌, ◌≢◌, ◌⊎◌, ℕ, ◌+◌, ◌%◌, ◌^◌, ◌<◌, ◌≤◌, min, List, [], ◌∷◌, ◌++◌, Bool, true, false, length, take, drop, inl, inr, ⊎_elim, refl, sym, subst, ap, ◌∙◌, append_assoc, arith}
use Rattle.std.proofs.lemmas.List.{append-nil, drop-drop, drop_all, length-append, length-drop, take-append-le}
use Rattle.std.proofs.lemmas.Bool.{cases_lt}
use Rattle.std.proofs.Math.Seq.{take-append_seam}
use Rattle.ring_words.specs.Rings.{room}
use Rattle.ring_words.specs.Page.{order_of}
use Rattle.ring_words.proofs.RingLaws.{size_within, room_within}
use Rattle.vchan_protocol.specs.declared.op.PastEvent.{PastEvent}
use Rattle.vchan_protocol.specs.Table.Ends.{written_ring, low32}
use Rattle.ring_words.specs.declared.page.Role.TheVariants.{Server}
use Rattle.task_duties.specs.Hostile.Saying.{Voice, Saying, fits, moved, said_once, said, IsSaying}
use Rattle.hostile_task.specs.declared.progress.Progress.{Progress}
use Rattle.vchan_rule.specs.Seated.{SeatedSide}
use Rattle.hostile_seat.specs.Hostile.{strays_along, say_events}
use Rattle.hostile_task.specs.Saying.{voice_at, SaysSoFar, SaysOrSaid, side_after}

-- one turn more
abbrev step : Saying → ℕ → Saying
step s cons = record {
  events = s.events ++ said_once s.voice s.left cons;
  voice = moved s.voice (fits s.voice s.left cons);
  left = drop (fits s.voice s.left cons) s.left;
}

said_push : (v : Voice) (bytes loads : List ℕ) (cons : ℕ) → said v bytes (loads ++ cons ∷ []) ≡ step (said v bytes loads) cons
said_push v bytes [] cons = λ i. record { events = append-nil (said_once v bytes cons) i; voice = moved v (fits v bytes cons); left = drop (fits v bytes cons) bytes }
said_push v bytes (first ∷ loads) cons =
    let once = said_once v bytes first in
    let next = said (moved v (fits v bytes first)) (drop (fits v bytes first) bytes) loads in
    ap (λ (s : Saying). record s { events = once ++ s.events }) (said_push (moved v (fits v bytes first)) (drop (fits v bytes first) bytes) loads cons)
    ∙ (λ i. record { events = sym (append_assoc once next.events (said_once next.voice next.left cons)) i; voice = moved next.voice (fits next.voice next.left cons); left = drop (fits next.voice next.left cons) next.left })

-- nothing is sent yet
pub nothing_said : (v : Voice) (bytes : List ℕ) (p : Progress) → p.own ≡ v.own → p.turns ≡ 0 → p.said ≡ 0 → SaysSoFar v bytes p []
nothing_said v bytes p own turns none = record {
  loads = [];
  turns = sym turns;
  events_are = refl;
  voice_is = λ i. record v { own = own i };
  within = omega (arith, none);
  left_is = ap (λ (n : ℕ). drop n bytes) none;
  goes_on = λ k less. absurd (omega arith);
}

-- no ring has more room than a mebibyte
pub fits_room : (v : Voice) (bytes : List ℕ) (cons : ℕ) → fits v bytes cons ≡ min (length bytes) (room v.own (low32 cons) (order_of v.orders (written_ring Server)))
fits_room v bytes cons =
    omega (arith, (size_within (order_of v.orders (written_ring Server))).1, room_within v.own (low32 cons) (order_of v.orders (written_ring Server)))

-- so the act is over if nothing is left, or after the last turn
pub says_no_more : (v : Voice) (bytes : List ℕ) (p : Progress) (events : List PastEvent) → SaysSoFar v bytes p events → p.turns ≤ 1024 → (length bytes ≤ p.said) ⊎ (p.turns ≡ 1024) → IsSaying v (voice_at v p) bytes events
says_no_more v bytes p events so_far few stops = record {
  loads = so_far.loads;
  events_are = so_far.events_are;
  voice_is = so_far.voice_is;
  turns = omega (arith, so_far.turns);
  goes_on = so_far.goes_on;
  stops = ⊎_elim (λ all. inl (sym so_far.left_is ∙ drop_all p.said bytes all)) (λ last. inr (so_far.turns ∙ last)) stops;
}

-- one more turn of sending
pub says_more : (v : Voice) (bytes : List ℕ) (p next : Progress) (events : List PastEvent) (cons : ℕ) → SaysSoFar v bytes p events → p.said < length bytes
    → next.turns ≡ p.turns + 1 → next.said ≡ p.said + fits (voice_at v p) (drop p.said bytes) cons → next.own ≡ (moved (voice_at v p) (fits (voice_at v p) (drop p.said bytes) cons)).own
    → SaysSoFar v bytes next (events ++ said_once (voice_at v p) (drop p.said bytes) cons)
says_more v bytes p next events cons so_far some turns count own =
    let before = said v bytes so_far.loads in
    let push = said_push v bytes so_far.loads cons in
    let voice = so_far.voice_is in
    let left = so_far.left_is in
    let n = fits (voice_at v p) (drop p.said bytes) cons in
    record {
      loads = so_far.loads ++ cons ∷ [];
      turns = omega (arith, length-append so_far.loads (cons ∷ []), so_far.turns, turns);
      events_are = (λ i. so_far.events_are i ++ said_once (voice i) (left i) cons) ∙ ap (λ (s : Saying). s.events) (sym push);
      voice_is = (λ i. record v { own = own i }) ∙ (λ i. moved (voice i) (fits (voice i) (left i) cons)) ∙ ap (λ (s : Saying). s.voice) (sym push);
      within = omega (arith, count, length-drop p.said bytes);
      left_is = ap (λ (k : ℕ). drop k bytes) count ∙ sym (drop-drop n p.said bytes) ∙ (λ i. drop (fits (voice i) (left i) cons) (left i)) ∙ ap (λ (s : Saying). s.left) (sym push);
      goes_on = λ k less. ⊎_elim
          (λ earlier. subst (λ (ls : List ℕ). (said v bytes ls).left ≢ []) (sym (take-append-le k so_far.loads (cons ∷ []) (omega (arith, earlier)))) (so_far.goes_on k earlier))
          (λ last.
          let here : k ≡ length so_far.loads = omega (arith, last, less, length-append so_far.loads (cons ∷ [])) in
          subst (λ (ls : List ℕ). (said v bytes ls).left ≢ []) (sym (ap (λ (n : ℕ). take n (so_far.loads ++ cons ∷ [])) here ∙ take-append_seam so_far.loads (cons ∷ [])))
          (λ empty. absurd (omega (arith, some, length-drop p.said bytes, ap length left, ap length empty))))
          (cases_lt k (length so_far.loads));
    }

-- a call that sends as many bytes as have room is one more turn
pub says_turn : (v : Voice) (bytes : List ℕ) (p next : Progress) (events : List PastEvent) (old new : SeatedSide) (left : List ℕ) (taken count : ℕ) → SaysSoFar v bytes p events → v.orders ≡ old.side.orders
    → old.side.role ≡ Server → p.said < length bytes → left ≡ drop p.said bytes → count ≡ min (length left) (room p.own (low32 taken) (order_of old.side.orders (written_ring old.side.role)))
    → new.page ≡ old.page → new.side ≡ strays_along old.side (say_events old.side.role old.side.orders p.own taken (take count left) next.own)
    → next.own ≡ (p.own + count) % 2 ^ 32 → next.turns ≡ p.turns + 1 → next.said ≡ p.said + count
    → (more : List PastEvent) × (new ≡ side_after old more) × SaysSoFar v bytes next (events ++ more)
says_turn v bytes p next events old new left taken count so_far orders role some left_is counted page side own turns now =
    let voice = voice_at v p in
    let rest = drop p.said bytes in
    let same : count ≡ fits voice rest taken =
    counted ∙ (λ i. min (length (left_is i)) (room p.own (low32 taken) (order_of (sym orders i) (written_ring (role i))))) ∙ sym (fits_room voice rest taken) in
    let index : next.own ≡ (moved voice (fits voice rest taken)).own = own ∙ ap (λ (n : ℕ). (p.own + n) % 2 ^ 32) same in (
      said_once voice rest taken,
      (λ i. record { page = page i; side = (side ∙ (λ j. strays_along old.side (say_events (role j) (sym orders j) p.own taken (take (same j) (left_is j)) (index j)))) i }),
      says_more v bytes p next events taken so_far some turns (now ∙ ap (λ (n : ℕ). p.said + n) same) index,
    )

-- the act is over, by a test that holds only then
pub says_or_said : (over : Bool) (v : Voice) (bytes : List ℕ) (p : Progress) (events : List PastEvent) → SaysSoFar v bytes p events → p.turns ≤ 1024 → (over ≡ true → (length bytes ≤ p.said) ⊎ (p.turns ≡ 1024)) → SaysOrSaid over v bytes p events
says_or_said true v bytes p events so_far few stops = says_no_more v bytes p events so_far few (stops refl)
says_or_said false v bytes p events so_far few stops = so_far
