-- A queue before anything was heard or sent.
use Rattle.std.proofs.Common.{◌≡◌, ◌≢◌, ℕ, ◌<◌, ◌≤◌, ◌^◌, suc, zero, List, [], ◌∷◌, ◌++◌, length, map, drop, get_or, refl, ap, sym, ◌∙◌, arith, Some, subst, decimal}
use Rattle.std.specs.Prelude.{false, slice_index, replicate}
use Rattle.std.specs.BTreeMap.{BTreeMap}
use Rattle.std.specs.Str.Parse.{digits_value}
use Rattle.std.proofs.lemmas.Fmt.{digits_value-decimal}
use Rattle.std.proofs.lemmas.List.{length-map, map-append}
use Rattle.std.specs.List.{AllByRecursion as Each, AllZip as EachPair}
use Rattle.list_laws.specs.Lists.{AreDifferent}
use Rattle.list_laws.proofs.Tests.{decimal_numerals}
use Rattle.scenario_file.specs.declared.scenario.CallPlan.{CallPlan}
use Rattle.call_broker.specs.Domains.{place_of}
use Rattle.task_duties.specs.Words.{ident_of}
use Rattle.agent_queue.specs.declared.call.QueuedCall.{QueuedCall}
use Rattle.agent_queue.specs.Queue.{fresh, asked_as, answer_of, open_idents, FitsTrigger}
use Rattle.agent_queue.specs.Index.{IsFirst, IsIndex}
use Rattle.agent_queue.specs.Inside.{queued, all_queued, idents, targets, IsFaithful, IsCounted, AreKept, IsFresh}

pub pair_at : {A : Type 0} (R : A → ℕ → Type 0) (xs : List A) (x : A) (rest : List A) (ys : List ℕ) (d : ℕ) → EachPair R (xs ++ x ∷ rest) ys → (length xs < length ys) × R x (get_or ys (length xs) d)
pair_at R [] x rest [] d each = absurd each
pair_at R [] x rest (y ∷ ys) d each = (omega arith, each.0)
pair_at R (z ∷ xs) x rest [] d each = absurd each
pair_at R (z ∷ xs) x rest (y ∷ ys) d each = let r = pair_at R xs x rest ys d each.1 in (omega (arith, r.0), r.1)

-- ---- idents of different numbers differ

one_number : (n k : ℕ) → n < 2 ^ 32 → k < 2 ^ 32 → ident_of n ≡ ident_of k → n ≡ k
one_number n k small_n small_k is =
    let digits : decimal n ≡ decimal k = ap (drop 5) is in
    sym (digits_value-decimal decimal_numerals n (omega (arith, small_n))) ∙ (ap (digits_value 10) digits ∙ digits_value-decimal decimal_numerals k (omega (arith, small_k)))

abbrev IsSmall : CallPlan → Type 0
IsSmall c = c.number < 2 ^ 32

others_apart : (c : CallPlan) (calls : List CallPlan) → IsSmall c → Each IsSmall calls → Each (λ n. c.number ≢ n) (map (λ x. x.number) calls) → Each (λ i. ident_of c.number ≢ i) (map (λ x. ident_of x.number) calls)
others_apart c [] small all apart = tt
others_apart c (d ∷ calls) small all apart = ((λ e. apart.0 (one_number c.number d.number small all.0 e)), others_apart c calls small all.1 apart.1)

pub idents_apart : (calls : List CallPlan) → Each IsSmall calls → AreDifferent (map (λ x. x.number) calls) → AreDifferent (map (λ x. ident_of x.number) calls)
idents_apart [] small apart = tt
idents_apart (c ∷ calls) small apart = (others_apart c calls small.0 small.1 apart.0, idents_apart calls small.1 apart.1)

-- so do the idents of calls of which nothing was heard
pub fresh_apart : (calls : List CallPlan) → Each IsSmall calls → AreDifferent (map (λ x. x.number) calls) → AreDifferent (map (λ a. ident_of a.call.number) (map asked_as (map fresh calls)))
fresh_apart calls small apart = subst (λ l. AreDifferent l) (sym (same calls)) (idents_apart calls small apart)
  where
    same : (calls : List CallPlan) → map (λ a. ident_of a.call.number) (map asked_as (map fresh calls)) ≡ map (λ x. ident_of x.number) calls
    same [] = refl
    same (c ∷ calls) = ap (λ r. ident_of c.number ∷ r) (same calls)

-- ---- calls as they are given

pub all_fresh : (names : List (List ℕ)) (calls : List CallPlan) (all : List QueuedCall) → EachPair (IsFresh names) calls all → all_queued all ≡ map fresh calls
all_fresh names [] [] each = refl
all_fresh names [] (c ∷ all) each = absurd each
all_fresh names (p ∷ calls) [] each = absurd each
all_fresh names (p ∷ calls) (c ∷ all) each =
    let f = each.0 in
    let one : queued c ≡ fresh p = λ i. record { call = f.given i; answer = answer_of (f.waits i); is_open = f.closed i } in
    rw (all_fresh names calls all each.1) (ap (λ x. x ∷ map fresh calls) one)

given_idents : (names : List (List ℕ)) (calls : List CallPlan) (all : List QueuedCall) → EachPair (IsFresh names) calls all → idents all ≡ map (λ x. ident_of x.number) calls
given_idents names [] [] each = refl
given_idents names [] (c ∷ all) each = absurd each
given_idents names (p ∷ calls) [] each = absurd each
given_idents names (p ∷ calls) (c ∷ all) each =
    let g = each.0.given in ap (λ n. n ∷ idents all) (ap (λ x. ident_of x.number) g) ∙ ap (λ r. ident_of p.number ∷ r) (given_idents names calls all each.1)

given_targets : (names : List (List ℕ)) (calls : List CallPlan) (all : List QueuedCall) → EachPair (IsFresh names) calls all → targets all ≡ map (λ x. x.to) calls
given_targets names [] [] each = refl
given_targets names [] (c ∷ all) each = absurd each
given_targets names (p ∷ calls) [] each = absurd each
given_targets names (p ∷ calls) (c ∷ all) each =
    let g = each.0.given in ap (λ n. n ∷ targets all) (ap (λ x. x.to) g) ∙ ap (λ r. p.to ∷ r) (given_targets names calls all each.1)

pub as_long : (names : List (List ℕ)) (calls : List CallPlan) (all : List QueuedCall) → EachPair (IsFresh names) calls all → length all ≡ length calls
as_long names [] [] each = refl
as_long names [] (c ∷ all) each = absurd each
as_long names (p ∷ calls) [] each = absurd each
as_long names (p ∷ calls) (c ∷ all) each = ap suc (as_long names calls all each.1)

faithful : (names : List (List ℕ)) (calls : List CallPlan) (all : List QueuedCall) → EachPair (IsFresh names) calls all → Each FitsTrigger calls → Each IsFaithful all
faithful names [] [] each fits = tt
faithful names [] (c ∷ all) each fits = absurd each
faithful names (p ∷ calls) [] each fits = absurd each
faithful names (p ∷ calls) (c ∷ all) each fits =
    let f = each.0 in
    let same : c.plan ≡ c.given.value = f.plan ∙ sym f.given in
    let to : length c.given.value.to ≤ 31 = subst (λ x. length x.to ≤ 31) (sym f.given) fits.0.0 in
    let service : length c.given.value.service ≤ 63 = subst (λ x. length x.service ≤ 63) (sym f.given) fits.0.1 in (
      record { number = ap (λ x. x.number) same; to = ap (λ x. x.to) same; service = ap (λ x. x.service) same; stdin = λ w. ap (λ x. x.stdin) same; short_to = to; short_service = service },
      faithful names calls all each.1 fits.1,
    )

shut : (names : List (List ℕ)) (calls : List CallPlan) (all : List QueuedCall) → EachPair (IsFresh names) calls all → Each (λ c. c.is_open ≡ false) all
shut names [] [] each = tt
shut names [] (c ∷ all) each = absurd each
shut names (p ∷ calls) [] each = absurd each
shut names (p ∷ calls) (c ∷ all) each = (each.0.closed, shut names calls all each.1)

placed : (names : List (List ℕ)) (calls : List CallPlan) (all : List QueuedCall) → EachPair (IsFresh names) calls all → Each (λ c. place_of names c.given.value.to ≡ Some c.target) all
placed names [] [] each = tt
placed names [] (c ∷ all) each = absurd each
placed names (p ∷ calls) [] each = absurd each
placed names (p ∷ calls) (c ∷ all) each = let f = each.0 in (ap (λ x. place_of names x.to) f.given ∙ f.target, placed names calls all each.1)

-- the first place of a call's target, by the calls before it
pub first_at : (all before : List CallPlan) (call : CallPlan) (rest : List CallPlan) (places : List ℕ) (d : ℕ) → before ++ call ∷ rest ≡ all → EachPair (IsFirst (map (λ x. x.to) all)) (map (λ x. x.to) all) places
    → (length before < length places) × (place_of (map (λ x. x.to) all) call.to ≡ Some (get_or places (length before) d))
first_at all before call rest places d split each =
    let long : length (map (λ (x : CallPlan). x.to) before) ≡ length before = length-map before (λ (x : CallPlan). x.to) in
    let names : map (λ (x : CallPlan). x.to) all ≡ map (λ (x : CallPlan). x.to) before ++ call.to ∷ map (λ (x : CallPlan). x.to) rest =
    ap (map (λ (x : CallPlan). x.to)) (sym split) ∙ map-append (λ (x : CallPlan). x.to) before (call ∷ rest) in
    let at = pair_at (IsFirst (map (λ (x : CallPlan). x.to) all)) (map (λ (x : CallPlan). x.to) before) call.to (map (λ (x : CallPlan). x.to) rest) places d
    (subst (λ l. EachPair (IsFirst (map (λ (x : CallPlan). x.to) all)) l places) names each) in
    (omega (arith, at.0, long), at.1 ∙ ap (λ n. Some (get_or places n d)) long)

none_open : (target : List ℕ) (all : List QueuedCall) → Each (λ c. c.is_open ≡ false) all → open_idents target (all_queued all) ≡ []
none_open target [] each = refl
none_open target (c ∷ all) each = let closed = each.0 in let rest = none_open target all each.1 in rw (rest, closed) refl

zeros : (n k : ℕ) → slice_index (replicate n 0) k ≡ 0
zeros zero k = refl
zeros (suc n) zero = refl
zeros (suc n) (suc k) = zeros n k

counted : (all : List QueuedCall) (n : ℕ) (rest : List QueuedCall) → Each (λ c. c.is_open ≡ false) all → Each (IsCounted (all_queued all) (replicate n 0)) rest
counted all n [] each = tt
counted all n (c ∷ rest) each = (zeros n c.target ∙ ap length (sym (none_open c.given.value.to all each)), counted all n rest each)

length_zeros : (n : ℕ) → length {A = ℕ} (replicate n 0) ≡ n
length_zeros zero = refl
length_zeros (suc n) = ap suc (length_zeros n)

pub kept_fresh : (calls : List CallPlan) (all : List QueuedCall) (index : BTreeMap ℕ ℕ) (counts : List ℕ) → EachPair (IsFresh (map (λ x. x.to) calls)) calls all → Each IsSmall calls → AreDifferent (map (λ x. x.number) calls)
    → Each FitsTrigger calls → IsIndex (map (λ x. ident_of x.number) calls) index → counts ≡ replicate (length calls) 0 → AreKept all index counts 0
kept_fresh calls all index counts each small apart fits by_ident counts_is =
    let to : List (List ℕ) = map (λ x. x.to) calls in
    let closed = shut to calls all each in
    let names = given_targets to calls all each in
    let long = as_long to calls all each in
    record {
      faithful = faithful to calls all each fits;
      differ = subst (λ l. AreDifferent l) (sym (given_idents to calls all each)) (idents_apart calls small apart);
      indexed = subst (λ l. IsIndex l index) (sym (given_idents to calls all each)) by_ident;
      first = subst (λ l. Each (λ c. place_of l c.given.value.to ≡ Some c.target) all) (sym names) (placed to calls all each);
      as_many = ap length counts_is ∙ (length_zeros (length calls) ∙ sym long);
      counted = subst (λ l. Each (IsCounted (all_queued all) l) all) (sym counts_is) (counted all (length calls) all closed);
      closed = closed;
      within = omega arith;
    }
