-- A lawful call of an end, one event at a time, and what its PUT and TAKE rely on.
use Rattle.std.proofs.Common.{◌≡◌, ℕ, suc, zero, ◌+◌, ◌-◌, ◌≤◌, Bool, true, false, cond, Option, Some, None, List, [], ◌∷◌, ◌++◌, length, refl, subst, sym, ap, ◌∙◌, arith, length-append}
use Rattle.std.proofs.lemmas.Bool.{false≢true}
use Rattle.ring_words.specs.Page.{order_of}
use Rattle.ring_words.specs.declared.order.Order.{Order}
use Rattle.ring_words.specs.Rings.{room, ready}
use Rattle.ring_words.specs.declared.page.Role.{Role}
use Rattle.ring_words.specs.declared.page.Role.TheVariants.{Server, Client}
use Rattle.vchan_protocol.specs.declared.call.Answer.TheVariants.{Done}
use Rattle.vchan_protocol.specs.declared.call.Call.{Call}
use Rattle.vchan_protocol.specs.declared.call.Call.TheVariants.{Retire}
use Rattle.vchan_protocol.specs.declared.call.EndState.{EndState}
use Rattle.vchan_protocol.specs.declared.call.EndState.TheVariants.{Fresh, Open, Shut}
use Rattle.vchan_protocol.specs.declared.side.Side.{Side}
use Rattle.vchan_protocol.specs.declared.side.Begun.{Begun}
use Rattle.vchan_protocol.specs.Table.Plan.{Plan, does, answers, next_op, after, rest_after, past, Leads, GoesOn}
use Rattle.vchan_protocol.specs.Table.Ends.{Standing, standing_after, written_ring, read_ring, prod_word, cons_word, free_at, ready_at}
use Rattle.vchan_protocol.specs.Table.Calls.{plan_of, payload_of, put_bytes, put_index, take_bytes, take_index, IsAllowed, stored_most, loaded_most, write, read, send, recv, drain, connect}
use Rattle.vchan_protocol.specs.History.Core.{begun_standing, standing_of, standing_along, plan_left, made, settled, begins, count_stored, bytes_loaded}
use Rattle.vchan_protocol.specs.History.TrailSummary.{TrailSummary, summary, empty_summary}
use Rattle.vchan_protocol.specs.Honest.RingLaw.{Channel, IsLawful, IsLawfulCall, IsLawfulIn, CallLawful, IsPutting, IsTaking, HasRoom, HasBytes, AreBytes, got_before}
use Rattle.vchan_protocol.proofs.Table.PlanLaws.{Leads_more, rest_after_Leads, GoesOn_put_bytes, GoesOn_take_bytes}
use Rattle.vchan_protocol.proofs.Table.Counted.{Counted, counted_call, Counted_Leads}
use Rattle.vchan_protocol.proofs.History.EventLaws.{OwesNext, owes_next, standing_of_made, standing_along_push}
use Rattle.vchan_protocol.proofs.Table.Sound.{Sound, OwesSound, OwesStored, StoresProd, StoresCons, sound_call, Sound_Leads, owes_sound}
use Rattle.vchan_protocol.proofs.History.SummaryLaws.{stands_by_summary}
use Rattle.vchan_protocol.proofs.Honest.ChannelLaws.{leaves_room, shows_bytes}

-- ---- the call that an end is in

abbrev left_by : Side → Option Begun → Plan
left_by s call = elim call [ None ↦ answers Done | Some b ↦ rest_after (plan_of (begun_standing s b) b.call) s.trail ]

-- an end with an event left is in a lawful call, and its trail leads to what is left
pub record InLawful (s : Side) : Type 0 where
  pub begun : Begun
  pub is : s.call ≡ Some begun
  pub lawful : IsLawfulCall s begun
  pub led : Leads (plan_of (begun_standing s begun) begun.call) s.trail (plan_left s)

plan_left_by : (s : Side) (b : Begun) → s.call ≡ Some b → plan_left s ≡ rest_after (plan_of (begun_standing s b) b.call) s.trail
plan_left_by s b is = subst (λ (call : Option Begun). left_by s call ≡ rest_after (plan_of (begun_standing s b) b.call) s.trail) (sym is) refl

abbrev in_call : (s : Side) (b : Begun) → s.call ≡ Some b → IsLawfulCall s b → InLawful s
in_call s b is c = record {
  begun = b;
  is = is;
  lawful = c;
  led = subst (λ (p : Plan). Leads (plan_of (begun_standing s b) b.call) s.trail p) (sym (plan_left_by s b is)) c.led;
}

pub in_lawful : (s : Side) → CallLawful s → GoesOn (plan_left s) → InLawful s
in_lawful s c more = go s.call refl c more
  where
    go : (call : Option Begun) → s.call ≡ call → IsLawfulIn s call → GoesOn (left_by s call) → InLawful s
    go None is c more = absurd more
    go (Some b) is c more = in_call s b is c

-- its next event owes what a sound call owes
pub sound_now : (s : Side) (i : InLawful s) → GoesOn (plan_left s) → Sound (begun_standing s i.begun) (summary s.role s.trail) (plan_left s)
sound_now s i more =
    Sound_Leads (begun_standing s i.begun) empty_summary (plan_of (begun_standing s i.begun) i.begun.call) s.trail (plan_left s) (sound_call (begun_standing s i.begun) i.begun.call) i.led more

pub owes_now : (s : Side) (i : InLawful s) → GoesOn (plan_left s) → OwesSound (begun_standing s i.begun) (summary s.role s.trail) (next_op (plan_left s))
owes_now s i more = owes_sound (begun_standing s i.begun) (summary s.role s.trail) (plan_left s) (sound_now s i more) more

-- and it is counted
pub counts_now : (s : Side) (i : InLawful s) → GoesOn (plan_left s) → OwesNext s i.begun (next_op (plan_left s))
counts_now s i more =
    let e = begun_standing s i.begun in
    let out = stored_most e i.begun.call in
    let into = loaded_most e i.begun.call in
    let stored : 0 + count_stored s.trail ≡ count_stored s.trail = omega arith in
    let loaded : 0 + length (bytes_loaded s.trail) ≡ length (bytes_loaded s.trail) = omega arith in
    let there = Counted_Leads e out into e 0 0 (plan_of e i.begun.call) s.trail (plan_left s) (counted_call e i.begun.call) i.led in
    let one = subst (λ (x : ℕ). Counted e out into (standing_along e s.trail) x (0 + length (bytes_loaded s.trail)) (plan_left s)) stored there in
    let two = subst (λ (x : ℕ). Counted e out into (standing_along e s.trail) (count_stored s.trail) x (plan_left s)) loaded one in
    let here = subst (λ (x : Standing). Counted e out into x (count_stored s.trail) (length (bytes_loaded s.trail)) (plan_left s)) i.lawful.stands two in
    owes_next e out into (standing_of s) (count_stored s.trail) (length (bytes_loaded s.trail)) (plan_left s) here more

-- ---- a call begins, and goes on

pub goes_on_call : (e : Standing) (call : Call) → GoesOn (plan_of e call)
unfolding write read send recv drain connect
goes_on_call e Retire = retires e.state
  where
    retires : (state : EndState) → GoesOn (plan_of (record e { state = state }) Retire)
    retires Fresh = tt
    retires Open = tt
    retires Shut = tt
goes_on_call e _ = tt

pub call_begins : (s : Side) (call : Call) (payload : List ℕ) → IsAllowed s.role s.state call → length payload ≡ payload_of call → AreBytes payload → CallLawful (begins s call payload)
call_begins s call payload allowed pays bytes = record {
  allowed = allowed;
  led = refl;
  goes_on = goes_on_call (standing_of s) call;
  pays = pays;
  bytes = bytes;
  stands = refl;
  state = refl;
  prod = refl;
  cons = refl;
}

-- after its event an end is between two calls, or in a lawful one
pub call_goes_on : (s : Side) (taken : ℕ) → CallLawful s → GoesOn (plan_left s) → CallLawful (settled (made s (next_op (plan_left s)) taken) (after (plan_left s) taken))
call_goes_on s taken c more = go (after (plan_left s) taken) (Leads_more (plan_of (begun_standing s i.begun) i.begun.call) s.trail (plan_left s) taken more i.led)
  where
    i : InLawful s
    i = in_lawful s c more

    stands : standing_along (begun_standing s i.begun) (s.trail ++ past (next_op (plan_left s)) taken ∷ []) ≡ standing_of (made s (next_op (plan_left s)) taken)
    stands =
        standing_along_push (begun_standing s i.begun) s.trail (past (next_op (plan_left s)) taken) ∙ ap (λ (n : Standing). standing_after n (next_op (plan_left s))) i.lawful.stands
        ∙ sym (standing_of_made s (next_op (plan_left s)) taken)

    on : (rest : Plan) → Leads (plan_of (begun_standing s i.begun) i.begun.call) (s.trail ++ past (next_op (plan_left s)) taken ∷ []) rest → GoesOn rest → IsLawfulCall (made s (next_op (plan_left s)) taken) i.begun
    on rest led goes =
        let trail = s.trail ++ past (next_op (plan_left s)) taken ∷ [] in
        let is : rest_after (plan_of (begun_standing s i.begun) i.begun.call) trail ≡ rest = rest_after_Leads (plan_of (begun_standing s i.begun) i.begun.call) trail rest led in
        let now = stands_by_summary (begun_standing s i.begun) (plan_of (begun_standing s i.begun) i.begun.call) trail rest (sound_call (begun_standing s i.begun) i.begun.call) led goes in
        record {
          allowed = i.lawful.allowed;
          led = subst (λ (p : Plan). Leads (plan_of (begun_standing s i.begun) i.begun.call) trail p) (sym is) led;
          goes_on = subst GoesOn (sym is) goes;
          pays = i.lawful.pays;
          bytes = i.lawful.bytes;
          stands = stands;
          state = sym (ap (λ (n : Standing). n.state) stands) ∙ now.state;
          prod = sym (ap (λ (n : Standing). n.prod) stands) ∙ now.prod;
          cons = sym (ap (λ (n : Standing). n.cons) stands) ∙ now.cons;
        }

    go : (rest : Plan) → Leads (plan_of (begun_standing s i.begun) i.begun.call) (s.trail ++ past (next_op (plan_left s)) taken ∷ []) rest → CallLawful (settled (made s (next_op (plan_left s)) taken) rest)
    go (answers answer) led = tt
    go (does next_does next) led =
        subst (λ (call : Option Begun). IsLawfulIn (made s (next_op (plan_left s)) taken) call) (sym i.is) (on (does next_does next) led tt)

-- ---- inside a PUT and a TAKE

-- what a PUT or a TAKE of this many bytes relies on
record PutsWithin (e : Standing) (n : TrailSummary) (total : ℕ) : Type 0 where
  index : ℕ
  seen : n.cons_seen ≡ Some index
  fits : total ≤ free_at e index
  not_shown : n.shown ≡ false

record TakesWithin (e : Standing) (n : TrailSummary) (total : ℕ) : Type 0 where
  index : ℕ
  older : List ℕ
  seen : n.prods_seen ≡ index ∷ older
  fits : total ≤ ready_at e index
  not_released : n.released ≡ false

prod_owed : (role : Role) (e : Standing) (n : TrailSummary) (value : ℕ) → OwesStored (prod_word (written_ring role)) role e n value → StoresProd e n value
prod_owed Server e n value owes = owes
prod_owed Client e n value owes = owes

cons_owed : (role : Role) (e : Standing) (n : TrailSummary) (value : ℕ) → OwesStored (cons_word (read_ring role)) role e n value → StoresCons e n value
cons_owed Server e n value owes = owes
cons_owed Client e n value owes = owes

inside_put : (j : ℕ) (e : Standing) (n : TrailSummary) (i k : ℕ) (next : Plan) → Sound e n (put_bytes e i j (put_index e k next)) → PutsWithin e n (n.stored + j)
unfolding Sound
inside_put zero e n i k next s =
    let owes = prod_owed e.role e n _ s.0 in
    record { index = owes.index; seen = owes.seen; fits = omega (arith, owes.had_room); not_shown = owes.not_shown }
inside_put (suc j) e n i k next s =
    let on = inside_put j e (record n { stored = n.stored + 1 }) (i + 1) k next (s.1 0 (GoesOn_put_bytes e (i + 1) j _ _)).1 in
    record { index = on.index; seen = on.seen; fits = omega (arith, on.fits); not_shown = on.not_shown }

inside_take : (j : ℕ) (e : Standing) (n : TrailSummary) (i k : ℕ) (next : Plan) → Sound e n (take_bytes e i j (take_index e k next)) → TakesWithin e n (length n.loaded + j)
unfolding Sound
inside_take zero e n i k next s =
    let owes = cons_owed e.role e n _ s.0 in
    record { index = owes.index; older = owes.older; seen = owes.seen; fits = omega (arith, owes.waited); not_released = owes.not_released }
inside_take (suc j) e n i k next s =
    let on = inside_take j e (record n { loaded = n.loaded ++ 0 ∷ [] }) (i + 1) k next (s.1 0 (GoesOn_take_bytes e (i + 1) j _ _)).1 in
    record { index = on.index; older = on.older; seen = on.seen; fits = omega (arith, on.fits, length-append n.loaded (0 ∷ [])); not_released = on.not_released }

-- what it was before it was shown
pub not_yet : (b : Bool) (x y now : ℕ) → b ≡ false → now ≡ cond b x y → now ≡ y
not_yet true x y now hidden is = absurd (false≢true (sym hidden))
not_yet false x y now hidden is = is

pub puts_within : (s : Side) (r : Channel) → CallLawful s → IsLawful r → r.cons_seen ≡ (summary s.role s.trail).cons_seen → r.own_prod ≡ s.prod → r.order ≡ order_of s.orders (written_ring s.role) →
    (k : ℕ) → IsPutting s k → HasRoom r k
puts_within s r c w seen own order k p =
    let n = summary s.role s.trail in
    let e = begun_standing s p.begun in
    let call : IsLawfulCall s p.begun = subst (λ (call : Option Begun). IsLawfulIn s call) p.is c in
    let more : GoesOn (plan_left s) = subst GoesOn (sym p.rest_is) (GoesOn_put_bytes e n.stored (k - n.stored) _ _) in
    let inside : PutsWithin e n (n.stored + (k - n.stored)) = inside_put (k - n.stored) e n n.stored k p.then_does (subst (λ (q : Plan). Sound e n q) p.rest_is (sound_now s (in_call s p.begun p.is call) more)) in
    let same : s.prod ≡ p.begun.prod = not_yet n.shown _ p.begun.prod s.prod inside.not_shown call.prod in
    let fits : k ≤ room p.begun.prod inside.index (order_of s.orders (written_ring s.role)) = omega (arith, inside.fits) in
    let near : k ≤ room r.own_prod inside.index r.order =
    subst (λ (o : Order). k ≤ room r.own_prod inside.index o) (sym order) (subst (λ (x : ℕ). k ≤ room x inside.index (order_of s.orders (written_ring s.role))) (sym (own ∙ same)) fits) in
    record { index = inside.index; seen = seen ∙ inside.seen; leaves = leaves_room r inside.index k w (seen ∙ inside.seen) near }

pub takes_within : (s : Side) (r : Channel) → CallLawful s → IsLawful r → r.prods_seen ≡ (summary s.role s.trail).prods_seen → r.own_cons ≡ s.cons → r.order ≡ order_of s.orders (read_ring s.role) →
    r.got ≡ s.got → r.got_before ≡ got_before s → (k : ℕ) → IsTaking s k → HasBytes r k
takes_within s r c w seen own order got before k p =
    let n = summary s.role s.trail in
    let e = begun_standing s p.begun in
    let call : IsLawfulCall s p.begun = subst (λ (call : Option Begun). IsLawfulIn s call) p.is c in
    let more : GoesOn (plan_left s) = subst GoesOn (sym p.rest_is) (GoesOn_take_bytes e (length n.loaded) (k - length n.loaded) _ _) in
    let inside : TakesWithin e n (length n.loaded + (k - length n.loaded)) = inside_take (k - length n.loaded) e n (length n.loaded) k p.then_does (subst (λ (q : Plan). Sound e n q) p.rest_is (sound_now s (in_call s p.begun p.is call) more)) in
    let same : s.cons ≡ p.begun.cons = not_yet n.released _ p.begun.cons s.cons inside.not_released call.cons in
    let fits : k ≤ ready inside.index p.begun.cons (order_of s.orders (read_ring s.role)) = omega (arith, inside.fits) in
    let near : k ≤ ready inside.index r.own_cons r.order =
    subst (λ (o : Order). k ≤ ready inside.index r.own_cons o) (sym order) (subst (λ (x : ℕ). k ≤ ready inside.index x (order_of s.orders (read_ring s.role))) (sym (own ∙ same)) fits) in
    let held : got_before s ≡ length s.got = got_held n.released (length s.got) (length n.loaded) inside.not_released in
    record { index = inside.index; older = inside.older; seen = seen ∙ inside.seen; shows = shows_bytes r inside.index k inside.older w (before ∙ held ∙ ap (λ (l : List ℕ). length l) (sym got)) (seen ∙ inside.seen) near }
  where
    got_held : (b : Bool) (all some : ℕ) → b ≡ false → all - cond b some 0 ≡ all
    got_held true all some held = absurd (false≢true (sym held))
    got_held false all some held = omega arith
