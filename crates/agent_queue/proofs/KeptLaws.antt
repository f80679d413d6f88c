-- How a queue is kept inside when one of its calls changes.
use Rattle.std.proofs.Common.{◌≡◌, ℕ, ◌+◌, ◌<◌, ◌≤◌, suc, zero, List, [], ◌∷◌, length, map, drop, refl, ap, sym, ◌∙◌, arith, Option, Some, None, subst, get_or}
use Rattle.std.specs.Prelude.{true, false, Bool, ◌&&◌, ◌||◌, bytes_eq, slice_get, slice_set, slice_index, ◌==◌, if◌then◌else◌, option_map}
use Rattle.std.specs.List.{list_any, AllByRecursion as Each}
use Rattle.std.specs.BTreeMap.{BTreeMap}
use Rattle.std.proofs.lemmas.Bool.{eqb-true, eqb-false}
use Rattle.std.proofs.lemmas.Slice.Eq.{bytes_eq-Decides}
use Rattle.std.proofs.Math.Bool.{and-false}
use Rattle.list_laws.specs.Lists.{AreDifferent}
use Rattle.list_laws.proofs.Each.{each_get, each_weaker, each_both}
use Rattle.list_laws.proofs.Places.{get_map}
use Rattle.list_laws.proofs.Tests.{other_bytes, and_first}
use Rattle.call_broker.specs.Domains.{place_of}
use Rattle.task_duties.specs.Words.{ident_of}
use Rattle.task_duties.specs.Agent.Answers.{Answer, waits, waits_as}
use Rattle.task_duties.specs.Agent.Saying.{is_refusal}
use Rattle.agent_queue.specs.declared.call.QueuedCall.{QueuedCall}
use Rattle.agent_queue.specs.Queue.{Queued, asked_as, answer_of, is_open_to, open_count, answered_call}
use Rattle.agent_queue.specs.Index.{IsIndex}
use Rattle.agent_queue.specs.Inside.{queued, all_queued, idents, targets, IsFaithful, IsCounted, AreKept}
use Rattle.agent_queue.proofs.Places.{each_set, map_set_same, map_set_one, length_set_one}
use Rattle.agent_queue.proofs.CountLaws.{one, count_set, one_place, Recounts}

-- the element at a place that is within
pub get_or_get : {A : Type 0} (xs : List A) (i : ℕ) (x : A) → i < length xs → x ≡ get_or xs i x → slice_get xs i ≡ Some x
get_or_get [] i x less is = absurd (omega (arith, less))
get_or_get (y ∷ xs) zero x less is = ap Some (sym is)
get_or_get (y ∷ xs) (suc i) x less is = get_or_get xs i x (omega (arith, less)) is

and_true : (b : Bool) → (b && true) ≡ b
and_true true = refl
and_true false = refl

abbrev IsPlaced : List (List ℕ) → QueuedCall → Type 0
IsPlaced names c = place_of names c.given.value.to ≡ Some c.target

-- the count at a call's target, after one call changed
counted_one : (calls : List QueuedCall) (counts new : List ℕ) (i : ℕ) (c c' d : QueuedCall) → slice_get calls i ≡ Some c → c'.given.value ≡ c.given.value → Recounts counts new c.target c.is_open c'.is_open
    → IsPlaced (targets calls) c → IsCounted (all_queued calls) counts c → IsPlaced (targets calls) d × IsCounted (all_queued calls) counts d → IsCounted (all_queued (slice_set calls i c')) new d
counted_one calls counts new i c c' d is given re placed_c counted_c (placed, counted) =
    subst (λ l. slice_index new d.target ≡ open_count d.given.value.to l) (sym (map_set_one queued calls i c')) (by_target (d.target == c.target) refl)
  where
    changed : open_count d.given.value.to (slice_set (all_queued calls) i (queued c')) + one (is_open_to d.given.value.to (queued c)) ≡ open_count d.given.value.to (all_queued calls) + one (is_open_to d.given.value.to (queued c'))
    changed = count_set d.given.value.to (all_queued calls) i (queued c) (queued c') (get_map queued calls i c is)

    by_target : (b : Bool) → (d.target == c.target) ≡ b → slice_index new d.target ≡ open_count d.given.value.to (slice_set (all_queued calls) i (queued c'))
    by_target true same =
        let t : d.target ≡ c.target = eqb-true d.target c.target same in
        let name : d.given.value.to ≡ c.given.value.to = one_place (targets calls) d.given.value.to c.given.value.to c.target (placed ∙ ap Some t) placed_c in
        let eq : bytes_eq c.given.value.to d.given.value.to ≡ true = (bytes_eq-Decides c.given.value.to d.given.value.to).1 (sym name) in
        let eq' : bytes_eq c'.given.value.to d.given.value.to ≡ true = ap (λ g. bytes_eq g.to d.given.value.to) given ∙ eq in
        let was : one (is_open_to d.given.value.to (queued c)) ≡ one c.is_open = ap (λ b. one (c.is_open && b)) eq ∙ ap one (and_true c.is_open) in
        let now : one (is_open_to d.given.value.to (queued c')) ≡ one c'.is_open = ap (λ b. one (c'.is_open && b)) eq' ∙ ap one (and_true c'.is_open) in
        let here : slice_index new d.target + one c.is_open ≡ slice_index counts d.target + one c'.is_open = subst (λ k. slice_index new k + one c.is_open ≡ slice_index counts k + one c'.is_open) (sym t) re.here in
        omega (arith, changed, was, now, here, counted)
    by_target false apart =
        let differ : d.target ≡ c.target → ⊥ = eqb-false d.target c.target apart in
        let names : c.given.value.to ≡ d.given.value.to → ⊥ = λ e. let both : Some d.target ≡ Some c.target = sym placed ∙ (ap (place_of (targets calls)) (sym e) ∙ placed_c) in differ cc in
        let eq : bytes_eq c.given.value.to d.given.value.to ≡ false = other_bytes c.given.value.to d.given.value.to names in
        let eq' : bytes_eq c'.given.value.to d.given.value.to ≡ false = ap (λ g. bytes_eq g.to d.given.value.to) given ∙ eq in
        let was : one (is_open_to d.given.value.to (queued c)) ≡ 0 = ap (λ b. one (c.is_open && b)) eq ∙ ap one (and-false c.is_open) in
        let now : one (is_open_to d.given.value.to (queued c')) ≡ 0 = ap (λ b. one (c'.is_open && b)) eq' ∙ ap one (and-false c'.is_open) in
        let there = re.others d.target differ in
        omega (arith, changed, was, now, there, counted)

pub kept_set : (calls : List QueuedCall) (index : BTreeMap ℕ ℕ) (counts new : List ℕ) (next next' i : ℕ) (c c' : QueuedCall) → AreKept calls index counts next → slice_get calls i ≡ Some c
    → c'.given.value ≡ c.given.value → c'.target ≡ c.target → IsFaithful c' → Recounts counts new c.target c.is_open c'.is_open
    → Each (λ x. x.is_open ≡ false) (drop next' (slice_set calls i c')) → next' ≤ length calls → AreKept (slice_set calls i c') index new next'
kept_set calls index counts new next next' i c c' k is given target faithful re closed within =
    let names : idents (slice_set calls i c') ≡ idents calls = map_set_same (λ x. ident_of x.given.value.number) calls i c c' is (ap (λ g. ident_of g.number) given) in
    let tos : targets (slice_set calls i c') ≡ targets calls = map_set_same (λ x. x.given.value.to) calls i c c' is (ap (λ g. g.to) given) in
    let placed = each_get (IsPlaced (targets calls)) calls i c k.first is in
    let counted = each_get (IsCounted (all_queued calls) counts) calls i c k.counted is in
    let placed' : IsPlaced (targets calls) c' = ap (λ g. place_of (targets calls) g.to) given ∙ (placed ∙ ap Some (sym target)) in
    let each = each_weaker (λ d. IsPlaced (targets calls) d × IsCounted (all_queued calls) counts d) (IsCounted (all_queued (slice_set calls i c')) new) (λ d both. counted_one calls counts new i c c' d is given re placed counted both)
    calls (each_both (IsPlaced (targets calls)) (IsCounted (all_queued calls) counts) calls k.first k.counted) in
    let last : slice_index new c'.target ≡ open_count c'.given.value.to (all_queued (slice_set calls i c')) =
    subst (λ t. slice_index new t ≡ open_count c'.given.value.to (all_queued (slice_set calls i c'))) (sym target)
    (subst (λ g. slice_index new c.target ≡ open_count g.to (all_queued (slice_set calls i c'))) (sym given) (counted_one calls counts new i c c' c is given re placed counted (placed, counted))) in
    record {
      faithful = each_set IsFaithful calls i c' k.faithful faithful;
      differ = subst (λ l. AreDifferent l) (sym names) k.differ;
      indexed = subst (λ l. IsIndex l index) (sym names) k.indexed;
      first = subst (λ l. Each (IsPlaced l) (slice_set calls i c')) (sym tos) (each_set (IsPlaced (targets calls)) calls i c' k.first placed');
      as_many = re.long ∙ (k.as_many ∙ sym (length_set_one calls i c'));
      counted = each_set (IsCounted (all_queued (slice_set calls i c')) new) calls i c' each last;
      closed = closed;
      within = subst (λ n. next' ≤ n) (sym (length_set_one calls i c')) within;
    }

-- ---- the call of an ident

abbrev ident_at : Queued → List ℕ
ident_at c = ident_of c.call.number

none_here : (ident : List ℕ) (calls : List Queued) → Each (λ i. ident ≡ i → ⊥) (map ident_at calls) → list_any (waits_as ident) (map asked_as calls) ≡ false
none_here ident [] apart = refl
none_here ident (c ∷ calls) apart = rw (other_bytes (ident_at c) ident (λ e. apart.0 (sym e))) (none_here ident calls apart.1)

-- a name that has no place is none of the names
pub no_place : (names : List (List ℕ)) (name : List ℕ) → place_of names name ≡ None → Each (λ i. name ≡ i → ⊥) names
no_place [] name none = tt
no_place (n ∷ names) name none = by_test (bytes_eq n name) refl (λ h. no_place names name h) none
  where
    by_place : (o : Option ℕ) → (o ≡ None → Each (λ i. name ≡ i → ⊥) names) → option_map suc o ≡ None → Each (λ i. name ≡ i → ⊥) names
    by_place None more is = more refl
    by_place (Some j) more is = cc

    by_test : (b : Bool) → bytes_eq n name ≡ b → (place_of names name ≡ None → Each (λ i. name ≡ i → ⊥) names) → (if b then Some 0 else option_map suc (place_of names name)) ≡ None → Each (λ i. name ≡ i → ⊥) (n ∷ names)
    by_test true same more is = cc
    by_test false apart more is = ((λ e. let same : bytes_eq n name ≡ true = (bytes_eq-Decides n name).1 (sym e) in cc), by_place (place_of names name) more is)

idents_same : (cs : List QueuedCall) → idents cs ≡ map ident_at (all_queued cs)
idents_same [] = refl
idents_same (c ∷ cs) = ap (λ r. ident_of c.given.value.number ∷ r) (idents_same cs)

-- no call waits by an ident that no call of the queue has
pub none_waits : (calls : List QueuedCall) (ident : List ℕ) → place_of (idents calls) ident ≡ None → list_any (waits_as ident) (map asked_as (all_queued calls)) ≡ false
none_waits calls ident none = none_here ident (all_queued calls) (subst (λ l. Each (λ i. ident ≡ i → ⊥) l) (idents_same calls) (no_place (idents calls) ident none))

-- a call that no longer waits is the only one with its ident
done_here : (ident : List ℕ) (calls : List Queued) (i : ℕ) (c : Queued) → AreDifferent (map ident_at calls) → slice_get calls i ≡ Some c → ident_at c ≡ ident → waits c.answer ≡ false
    → list_any (waits_as ident) (map asked_as calls) ≡ false
done_here ident [] i c apart is named done = refl
done_here ident (x ∷ calls) zero c apart is named done =
    let same : x ≡ c = cc in
    let over : waits x.answer ≡ false = ap (λ y. waits y.answer) same ∙ done in
    let own : ident_at x ≡ ident = ap ident_at same ∙ named in
    rw (over, and-false (bytes_eq (ident_at x) ident)) (none_here ident calls (subst (λ n. Each (λ j. n ≡ j → ⊥) (map ident_at calls)) own apart.0))
done_here ident (x ∷ calls) (suc i) c apart is named done =
    let other : ident_at x ≡ ident → ⊥ = λ e. each_get (λ j. ident_at x ≡ j → ⊥) (map ident_at calls) i (ident_at c) apart.0 (get_map ident_at calls i c is) (e ∙ sym named) in
    rw (other_bytes (ident_at x) ident other) (done_here ident calls i c apart.1 is named done)

pub done_alone : (calls : List QueuedCall) (ident : List ℕ) (i : ℕ) (c : QueuedCall) → AreDifferent (idents calls) → slice_get calls i ≡ Some c → ident_of c.given.value.number ≡ ident
    → waits (answer_of c.answer) ≡ false → list_any (waits_as ident) (map asked_as (all_queued calls)) ≡ false
done_alone calls ident i c apart is named done =
    done_here ident (all_queued calls) i (queued c) (subst (λ l. AreDifferent l) (idents_same calls) apart) (get_map queued calls i c is) named done

unanswered : (ident : List ℕ) (answer : Answer) (calls : List Queued) → Each (λ j. ident ≡ j → ⊥) (map ident_at calls) → map (answered_call ident answer) calls ≡ calls
unanswered ident answer [] apart = refl
unanswered ident answer (c ∷ calls) apart =
    let other : bytes_eq (ident_at c) ident ≡ false = other_bytes (ident_at c) ident (λ e. apart.0 (sym e)) in
    rw other (ap (λ r. c ∷ r) (unanswered ident answer calls apart.1))

abbrev pub given_to : Answer → Queued → Queued
given_to answer c = record { call = c.call; answer = answer; is_open = (if is_refusal answer then false else c.is_open) }

-- the answer to an ident changes the one call that waits by it
answered_one : (ident : List ℕ) (answer : Answer) (calls : List Queued) (i : ℕ) (c : Queued) → AreDifferent (map ident_at calls) → slice_get calls i ≡ Some c → waits_as ident (asked_as c) ≡ true → ident_at c ≡ ident
    → slice_set calls i (given_to answer c) ≡ map (answered_call ident answer) calls
answered_one ident answer [] i c apart is w named = cc
answered_one ident answer (x ∷ calls) zero c apart is w named =
    let same : x ≡ c = cc in
    let w' : waits_as ident (asked_as x) ≡ true = ap (λ y. waits_as ident (asked_as y)) same ∙ w in
    let own : ident_at x ≡ ident = ap ident_at same ∙ named in
    rw w' (ap (λ y. given_to answer y ∷ calls) (sym same) ∙ ap (λ r. given_to answer x ∷ r) (sym (unanswered ident answer calls (subst (λ n. Each (λ j. n ≡ j → ⊥) (map ident_at calls)) own apart.0))))
answered_one ident answer (x ∷ calls) (suc i) c apart is w named =
    let other : bytes_eq (ident_at x) ident ≡ false = other_bytes (ident_at x) ident (λ e. each_get (λ j. ident_at x ≡ j → ⊥) (map ident_at calls) i (ident_at c) apart.0 (get_map ident_at calls i c is) (e ∙ sym named)) in
    rw other (ap (λ r. x ∷ r) (answered_one ident answer calls i c apart.1 is w named))

pub answered_at : (calls : List QueuedCall) (ident : List ℕ) (answer : Answer) (i : ℕ) (c : QueuedCall) → AreDifferent (idents calls) → slice_get calls i ≡ Some c → waits_as ident (asked_as (queued c)) ≡ true
    → slice_set (all_queued calls) i (given_to answer (queued c)) ≡ map (answered_call ident answer) (all_queued calls)
answered_at calls ident answer i c apart is w =
    answered_one ident answer (all_queued calls) i (queued c) (subst (λ l. AreDifferent l) (idents_same calls) apart) (get_map queued calls i c is) w
    ((bytes_eq-Decides (ident_of c.given.value.number) ident).0 (and_first (bytes_eq (ident_of c.given.value.number) ident) (waits (answer_of c.answer)) w))

-- an answer changes nothing if no call waits by its ident
pub answered_none : (ident : List ℕ) (answer : Answer) (calls : List Queued) → list_any (waits_as ident) (map asked_as calls) ≡ false → map (answered_call ident answer) calls ≡ calls
answered_none ident answer [] none = refl
answered_none ident answer (c ∷ calls) none = by_test (waits_as ident (asked_as c)) refl none (λ h. answered_none ident answer calls h)
  where
    by_test : (b : Bool) → waits_as ident (asked_as c) ≡ b → (b || list_any (waits_as ident) (map asked_as calls)) ≡ false
        → (list_any (waits_as ident) (map asked_as calls) ≡ false → map (answered_call ident answer) calls ≡ calls) → map (answered_call ident answer) (c ∷ calls) ≡ c ∷ calls
    by_test true is h more = cc
    by_test false is h more = rw is (ap (λ r. c ∷ r) (more h))
