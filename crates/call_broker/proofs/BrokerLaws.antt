-- What a broker's inside says of what contracts see of it.
use Rattle.std.proofs.Common.{◌≡◌, ℕ, ◌<◌, ◌≤◌, ◌-◌, ◌*◌, ◌+◌, List, [], ◌∷◌, ◌++◌, length, Result, Ok, Err, IfOk, refl, ap, sym, ◌∙◌, subst, arith, append_assoc, get_or}
use Rattle.std.specs.Prelude.{false, All}
use Rattle.std.specs.List.{list_any}
use Rattle.std.proofs.Common.{⊎_elim}
use Rattle.std.proofs.lemmas.Bool.{cases_lt}
use Rattle.std.proofs.lemmas.List.{get_or_past}
use Rattle.std.proofs.lemmas.List.Elements.{All-get_or}
use Rattle.std.specs.BTreeMap.{BTreeMap}
use Rattle.std.specs.BTreeSet.{BTreeSet}
use Rattle.list_laws.proofs.Each.{each_push}
use Rattle.call_broker.specs.declared.calls.Calls.{Calls}
use Rattle.call_broker.specs.declared.event.Event.{Event}
use Rattle.call_broker.specs.declared.event.Event.TheVariants.{Trigger, Terminated, Dropped}
use Rattle.call_broker.specs.declared.decision.Entry.{Entry}
use Rattle.call_broker.specs.declared.decision.Decision.TheVariants.{Accepted, Refused, Ended, PassedOver}
use Rattle.call_broker.specs.Domains.{Domains, pages_of, count_of}
use Rattle.call_broker.specs.Pair.{Ordered, state_after, decision}
use Rattle.call_broker.specs.declared.broker.Broker.TheInside.{Inside}
use Rattle.call_broker.specs.declared.decision.Decision.{Decision}
use Rattle.call_broker.proofs.DroppedLaws.{dropped_is}
use Rattle.call_broker.proofs.OpenLaws.{taken_view}
use Rattle.call_broker.proofs.AnswerLaws.{of_target, of_caller}
use Rattle.call_broker.proofs.TabledLaws.{tabled_more}
use Rattle.call_broker.specs.Brokered.{Brokered}
use Rattle.call_broker.specs.Inside.{hub_of, brokered, IsKept}
use Rattle.call_broker.specs.Journal.{events, drops, IsDecidedOn, IsNumbered}
use Rattle.call_broker.specs.Tables.{calls_at, live_of, HasRoom, IsEntered, IsTabled, IsIndex}

-- its tables are those of what is seen
pub tabled_now : (inside : Inside) (now : Brokered) → brokered inside ≡ now → IsKept inside → IsTabled now.hub (events now.journal) inside.calls inside.dropped
tabled_now inside now is kept = subst (λ (b : Brokered). IsTabled b.hub (events b.journal) inside.calls inside.dropped) is kept.tabled

-- a decision that holds for every ident holds for this one
pub at_ident : {E : Type 0} (P : List ℕ → Decision → Type 0) (ident : List ℕ) (r : Result Decision E) → IfOk r (λ d. (i : List ℕ) → P i d) → IfOk r (P ident)
at_ident P ident (Ok d) h = h ident
at_ident P ident (Err e) h = h

-- ---- an accepted trigger finds room

pub has_room : (hub : Domains) (es : List Event) (e : Event) (d : Decision) (calls : BTreeMap (ℕ × ℕ) Calls) (dropped : BTreeSet ℕ)
    → ((f t : ℕ) → pages_of hub f t ≤ 65536) → d ≡ decision hub es e → IsTabled hub es calls dropped → HasRoom e d calls
has_room hub es (Trigger from target service ident) (Accepted to port) calls dropped within is was =
    let took = taken_view hub es from target service ident to port (sym is) in
    let pair = took.open_pair in
    let caller : list_any (drops from) es ≡ false = sym (dropped_is hub (Ordered from to) from es (of_caller from to)) ∙ pair.caller_up in
    let target_up : list_any (drops to) es ≡ false = sym (dropped_is hub (Ordered from to) to es (of_target from to)) ∙ pair.target_up in
    let live : (state_after hub es (Ordered from to)).live ≡ live_of (calls_at calls from to) = rw (caller, target_up) at (was.live from to) in
    let count = was.counted from to in
    let most = within from to in
    let left = pair.left in
    (subst (λ ports. length ports < 16) live pair.room, omega (arith, count, most, left))
has_room hub es (Trigger from target service ident) (Refused cause) calls dropped within is was = tt
has_room hub es (Trigger from target service ident) (Ended a b p) calls dropped within is was = tt
has_room hub es (Trigger from target service ident) PassedOver calls dropped within is was = tt
has_room hub es (Terminated from other port) d calls dropped within is was = tt
has_room hub es (Dropped domain) d calls dropped within is was = tt

zero_le : (n : ℕ) → 0 ≤ n
zero_le n = omega arith

-- each of some numbers is within a bound, and so is none of them
pub index_within : (xs : List ℕ) (most k : ℕ) → All (λ p. p ≤ most) xs → get_or xs k 0 ≤ most
index_within xs most k h = ⊎_elim (λ (inside : k < length xs). All-get_or (λ p. p ≤ most) xs k 0 inside h) (λ (past : length xs ≤ k). rw (get_or_past xs k 0 past) (zero_le most)) (cases_lt k (length xs))

-- ---- one more entry

pub decided_push : (hub : Domains) (before : List Event) (journal : List Entry) (x : Entry) → IsDecidedOn hub before journal → x.decision ≡ decision hub (before ++ events journal) x.event
    → IsDecidedOn hub before (journal ++ x ∷ [])
decided_push hub before [] x h is = (is ∙ ap (λ es. decision hub es x.event) (append_none before), tt)
  where
    append_none : (xs : List Event) → xs ++ [] ≡ xs
    append_none [] = refl
    append_none (y ∷ xs) = ap (λ r. y ∷ r) (append_none xs)
decided_push hub before (y ∷ journal) x h is =
    (h.0, decided_push hub (before ++ y.event ∷ []) journal x h.1 (is ∙ ap (λ es. decision hub es x.event) (sym (append_assoc before (y.event ∷ []) (events journal)))))

pub events_push : (journal : List Entry) (x : Entry) → events (journal ++ x ∷ []) ≡ events journal ++ x.event ∷ []
events_push [] x = refl
events_push (y ∷ journal) x = ap (λ r. y.event ∷ r) (events_push journal x)

-- a broker is kept well with one more entry, once its tables are settled
pub kept_more : (inside after : Inside) (e : Event) (d : Decision) → IsKept inside → hub_of after ≡ hub_of inside → after.index ≡ inside.index
    → after.journal.items ≡ inside.journal.items ++ record { event = e; decision = d } ∷ []
    → IsNumbered (hub_of inside) e → d ≡ decision (hub_of inside) (events inside.journal.items) e → IsEntered e d inside.calls inside.dropped after.calls after.dropped → IsKept after
kept_more inside after e d kept same index pushed numbered is settled = record {
  few = subst (λ (hub : Domains). count_of hub ≤ 32) (sym same) kept.few;
  square = ap length pages ∙ kept.square ∙ sym (ap (λ (hub : Domains). count_of hub * count_of hub) same);
  within = rw pages kept.within;
  decided = rw (same, pushed) (decided_push (hub_of inside) [] inside.journal.items entry kept.decided is);
  numbered = rw (same, pushed) (each_push (λ (x : Entry). IsNumbered (hub_of inside) x.event) inside.journal.items entry kept.numbered numbered);
  indexed = rw index (subst (λ (hub : Domains). IsIndex hub.names inside.index) (sym same) kept.indexed);
  tabled = rw (same, pushed, events_push inside.journal.items entry)
      (tabled_more (hub_of inside) (events inside.journal.items) e d inside.calls after.calls inside.dropped after.dropped numbered is settled kept.tabled);
}
  where
    entry : Entry
    entry = record { event = e; decision = d }

    pages : after.pages.items ≡ inside.pages.items
    pages = ap (λ hub. hub.pages) same

-- no pair has more pages than may be laid
pub pages_within : (inside : Inside) → IsKept inside → (f t : ℕ) → pages_of (hub_of inside) f t ≤ 65536
pages_within inside kept f t = index_within inside.pages.items 65536 ((f - 1) * count_of (hub_of inside) + (t - 1)) kept.within
