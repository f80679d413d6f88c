-- Which calls of an agent are open, through each step.
use Rattle.std.proofs.Common.{◌≡◌, ℕ, ◌<◌, ◌≤◌, zero, suc, List, [], ◌∷◌, ◌++◌, length, refl, ap, sym, ◌∙◌, subst, inl, inr, arith, append_assoc, Some, None, Option}
use Rattle.std.specs.Prelude.{◌⊎◌, Bool, true, false, ◌==◌, ◌||◌, map, filter_map, slice_get, IsPermutation, if◌then◌else◌}
use Rattle.std.specs.List.{list_any, AllByRecursion as Each}
use Rattle.std.proofs.lemmas.Bool.Decides.{nat_tests}
use Rattle.std.proofs.lemmas.List.{append-nil, length-take}
use Rattle.std.proofs.lemmas.List.Elements.{filter_map-append}
use Rattle.std.proofs.lemmas.List.Sorted.{list_any-IsPermutation}
use Rattle.std.proofs.lemmas.Bool.{and_parts}
use Rattle.list_laws.specs.Lists.{SomeOf, AreDifferent}
use Rattle.list_laws.proofs.Places.{get_map, get_map_back}
use Rattle.list_laws.proofs.Each.{each_get, some_append, some_push, each_front}
use Rattle.list_laws.proofs.Tests.{same_number}
use Rattle.qrexec_frame.specs.declared.message.Message.{Message}
use Rattle.qrexec_frame.specs.declared.message.Message.TheVariants.{Terminated}
use Rattle.scenario_file.specs.declared.scenario.CallPlan.{CallPlan}
use Rattle.task_duties.specs.declared.done.SessionEnd.{SessionEnd}
use Rattle.task_duties.specs.Agent.Answers.{Answer, Waits, IsRefused, At, Asked, waits, waits_as}
use Rattle.task_duties.specs.Agent.Saying.{asking, asking_of, is_at, is_refusal}
use Rattle.agent_queue.specs.Queue.{Queued, QueueState, asked_as, asked_by, fresh, answered_call, after_answer, IsWaitingAt}
use Rattle.agent_queue.specs.Asking.{Asks}
use Rattle.agent_control.specs.Speaking.{IsTellable, IsSpoken, MayTell, StaysOpen, IsAskedNow, OpenAfter, terminated}
use Rattle.agent_task.specs.Asking.{IsUnderWay, IsReported, IsReportedEarly, CallStands, CallsStand}
use Rattle.agent_task.proofs.AnswerLaws.{asked_ident, named}

-- ---- some elements

pub some_after : {A : Type 0} (P : A → Type 0) (xs ys : List A) → SomeOf P ys → SomeOf P (xs ++ ys)
some_after P [] ys h = h
some_after P (x ∷ xs) ys h = inr (some_after P xs ys h)

some_split : {A : Type 0} (P : A → Type 0) (xs ys : List A) → SomeOf P (xs ++ ys) → SomeOf P xs ⊎ SomeOf P ys
some_split P [] ys h = inr h
some_split P (x ∷ xs) ys (inl h) = inl (inl h)
some_split P (x ∷ xs) ys (inr h) = further (some_split P xs ys h)
  where
    further : SomeOf P xs ⊎ SomeOf P ys → SomeOf P (x ∷ xs) ⊎ SomeOf P ys
    further (inl k) = inl (inr k)
    further (inr k) = inr k

pub some_mapped : {A B : Type 0} (P : A → Type 0) (Q : B → Type 0) (f : A → B) (xs : List A) → ((x : A) → P x → Q (f x)) → SomeOf P xs → SomeOf Q (map f xs)
some_mapped P Q f [] go h = absurd h
some_mapped P Q f (x ∷ xs) go (inl h) = inl (go x h)
some_mapped P Q f (x ∷ xs) go (inr h) = inr (some_mapped P Q f xs go h)

-- some element has P, and each has Q
pub some_each : {A : Type 0} (P Q : A → Type 0) (xs : List A) → Each Q xs → SomeOf P xs → SomeOf (λ x. P x × Q x) xs
some_each P Q [] each h = absurd h
some_each P Q (x ∷ xs) each (inl h) = inl (h, each.0)
some_each P Q (x ∷ xs) each (inr h) = inr (some_each P Q xs each.1 h)

none_has : {A : Type 0} (P : A → Type 0) (xs : List A) → Each (λ x. P x → ⊥) xs → SomeOf P xs → ⊥
none_has P [] each h = h
none_has P (x ∷ xs) each (inl h) = each.0 h
none_has P (x ∷ xs) each (inr h) = none_has P xs each.1 h

-- ---- sessions of a call

abbrev is_number : ℕ → Option ℕ → Bool
is_number place (Some n) = n == place
is_number place None = false

number_is : (place : ℕ) (o : Option ℕ) → is_number place o ≡ true → o ≡ Some place
number_is place (Some n) is = ap (λ (m : ℕ). Some m) (same_number n place is)
number_is place None is = cc

number_self : (place : ℕ) (o : Option ℕ) → o ≡ Some place → is_number place o ≡ true
number_self place o is = ap (is_number place) is ∙ grind (arith, nat_tests)

some_numbered : (place : ℕ) (opened : List SessionEnd) → SomeOf (λ o. o.call ≡ Some place) opened → list_any (λ o. is_number place o.call) opened ≡ true
some_numbered place [] h = absurd h
some_numbered place (o ∷ opened) (inl h) = rw (number_self place o.call h) refl
some_numbered place (o ∷ opened) (inr h) = by_test (is_number place o.call) (some_numbered place opened h)
  where
    by_test : (b : Bool) → list_any (λ o. is_number place o.call) opened ≡ true → (b || list_any (λ o. is_number place o.call) opened) ≡ true
    by_test true more = refl
    by_test false more = more

numbered_some : (place : ℕ) (opened : List SessionEnd) → list_any (λ o. is_number place o.call) opened ≡ true → SomeOf (λ o. o.call ≡ Some place) opened
numbered_some place [] h = cc
numbered_some place (o ∷ opened) h = by_test (is_number place o.call) refl h (numbered_some place opened)
  where
    by_test : (b : Bool) → is_number place o.call ≡ b → (b || list_any (λ o. is_number place o.call) opened) ≡ true
        → (list_any (λ o. is_number place o.call) opened ≡ true → SomeOf (λ o. o.call ≡ Some place) opened) → SomeOf (λ o. o.call ≡ Some place) (o ∷ opened)
    by_test true is h more = inl (number_is place o.call is)
    by_test false is h more = inr (more h)

-- in another order
still_numbered : (place : ℕ) (xs ys : List SessionEnd) → IsPermutation ys xs → SomeOf (λ o. o.call ≡ Some place) xs → SomeOf (λ o. o.call ≡ Some place) ys
still_numbered place xs ys p h = numbered_some place ys (list_any-IsPermutation (λ o. is_number place o.call) ys xs p ∙ some_numbered place xs h)

-- ---- more sessions

pub calls_opened : (q : QueueState) (unsaid opened more : List SessionEnd) (said : List Message) → CallsStand q unsaid opened said → CallsStand q unsaid (opened ++ more) said
calls_opened q unsaid opened more said stand place c there = ((stand place c there).0, by_answer c.answer (stand place c there).1)
  where
    under : IsUnderWay unsaid opened place → IsUnderWay unsaid (opened ++ more) place
    under (inl e) = inl e
    under (inr o) = inr (some_append (λ o. o.call ≡ Some place) opened more o)

    by_answer : (x : Answer) → CallStands unsaid opened said place c.is_open x → CallStands unsaid (opened ++ more) said place c.is_open x
    by_answer Waits h = tt
    by_answer IsRefused h = h
    by_answer (At to port) (inl h) = inl (under h)
    by_answer (At to port) (inr h) = inr h

-- sessions are over, and are to be reported
pub calls_over : (q : QueueState) (unsaid opened opened' over : List SessionEnd) (said : List Message) → IsPermutation (over ++ opened') opened → CallsStand q unsaid opened said
    → CallsStand q (unsaid ++ over) opened' said
calls_over q unsaid opened opened' over said p stand place c there = ((stand place c there).0, by_answer c.answer (stand place c there).1)
  where
    P : SessionEnd → Type 0
    P o = o.call ≡ Some place

    of_opened : SomeOf P over ⊎ SomeOf P opened' → IsUnderWay (unsaid ++ over) opened' place
    of_opened (inl o) = inl (some_after P unsaid over o)
    of_opened (inr o) = inr o

    under : IsUnderWay unsaid opened place → IsUnderWay (unsaid ++ over) opened' place
    under (inl e) = inl (some_append P unsaid over e)
    under (inr o) = of_opened (some_split P over opened' (still_numbered place opened (over ++ opened') p o))

    by_answer : (x : Answer) → CallStands unsaid opened said place c.is_open x → CallStands (unsaid ++ over) opened' said place c.is_open x
    by_answer Waits h = tt
    by_answer IsRefused h = h
    by_answer (At to port) (inl h) = inl (under h)
    by_answer (At to port) (inr h) = inr h

-- an end is to be reported of what isn't served
pub calls_unserved : (q : QueueState) (unsaid more opened : List SessionEnd) (said : List Message) → CallsStand q unsaid opened said → CallsStand q (unsaid ++ more) opened said
calls_unserved q unsaid more opened said stand place c there = ((stand place c there).0, by_answer c.answer (stand place c there).1)
  where
    under : IsUnderWay unsaid opened place → IsUnderWay (unsaid ++ more) opened place
    under (inl e) = inl (some_append (λ e. e.call ≡ Some place) unsaid more e)
    under (inr o) = inr o

    by_answer : (x : Answer) → CallStands unsaid opened said place c.is_open x → CallStands (unsaid ++ more) opened said place c.is_open x
    by_answer Waits h = tt
    by_answer IsRefused h = h
    by_answer (At to port) (inl h) = inl (under h)
    by_answer (At to port) (inr h) = inr h

-- ---- an answer

-- no two calls wait by one ident
one_waits : (ident : List ℕ) (asked : List Asked) (i j : ℕ) (a b : Asked) → AreDifferent (map asked_ident asked) → slice_get asked i ≡ Some a → slice_get asked j ≡ Some b → waits_as ident a ≡ true → waits_as ident b ≡ true → i ≡ j
one_waits ident (x ∷ asked) zero (suc j) a b apart ai bj wa wb =
    let same : x ≡ a = cc in
    absurd (each_get (λ k. asked_ident x ≡ k → ⊥) (map asked_ident asked) j (asked_ident b) apart.0 (get_map asked_ident asked j b bj) (ap asked_ident same ∙ (named ident a wa ∙ sym (named ident b wb))))
one_waits ident (x ∷ asked) (suc i) zero a b apart ai bj wa wb =
    let same : x ≡ b = cc in
    absurd (each_get (λ k. asked_ident x ≡ k → ⊥) (map asked_ident asked) i (asked_ident a) apart.0 (get_map asked_ident asked i a ai) (ap asked_ident same ∙ (named ident b wb ∙ sym (named ident a wa))))
one_waits ident (x ∷ asked) (suc i) (suc j) a b apart ai bj wa wb = ap suc (one_waits ident asked i j a b apart.1 ai bj wa wb)
one_waits ident _ _ _ a b apart ai bj wa wb = cc

-- a call is let through
pub calls_called : (q : QueueState) (ident : List ℕ) (to port place : ℕ) (unsaid opened : List SessionEnd) (said : List Message) → AreDifferent (map asked_ident (asked_by q)) → IsWaitingAt q place ident
    → CallsStand q unsaid opened said → CallsStand (after_answer q ident (At to port)) unsaid (opened ++ record { domain = to; port = port; call = Some place } ∷ []) said
calls_called q ident to port place unsaid opened said apart waiting stand at x there = by_wait (waits_as ident (asked_as c)) refl got.2
  where
    more : List SessionEnd
    more = opened ++ record { domain = to; port = port; call = Some place } ∷ []

    got : (c : Queued) × (slice_get q.calls at ≡ Some c) × (answered_call ident (At to port) c ≡ x)
    got = get_map_back (answered_call ident (At to port)) q.calls at x there

    c : Queued
    c = got.0

    Goal : Queued → Type 0
    Goal y = (y.is_open ≡ true → at < q.next) × CallStands unsaid more said at y.is_open y.answer

    by_wait : (b : Bool) → waits_as ident (asked_as c) ≡ b → (if b then record { call = c.call; answer = At to port; is_open = (if is_refusal (At to port) then false else c.is_open) } else c) ≡ x → Goal x
    by_wait true waits is =
        let here : place ≡ at =
        one_waits ident (asked_by q) place at (asked_as waiting.0) (asked_as c) apart (get_map asked_as q.calls place waiting.0 waiting.1) (get_map asked_as q.calls at c got.1) waiting.2 waits in
        subst Goal is
        ((stand at c got.1).0, inl (inr (some_push (λ (o : SessionEnd). o.call ≡ Some at) opened (record { domain = to; port = port; call = Some place }) (ap (λ (n : ℕ). Some n) here))))
    by_wait false waits is = subst Goal is (calls_opened q unsaid opened (record { domain = to; port = port; call = Some place } ∷ []) said stand at c got.1)

-- a call is refused
pub calls_refused : (q : QueueState) (ident : List ℕ) (unsaid opened : List SessionEnd) (said : List Message) → CallsStand q unsaid opened said → CallsStand (after_answer q ident IsRefused) unsaid opened said
calls_refused q ident unsaid opened said stand at x there = by_wait (waits_as ident (asked_as c)) got.2
  where
    got : (c : Queued) × (slice_get q.calls at ≡ Some c) × (answered_call ident IsRefused c ≡ x)
    got = get_map_back (answered_call ident IsRefused) q.calls at x there

    c : Queued
    c = got.0

    Goal : Queued → Type 0
    Goal y = (y.is_open ≡ true → at < q.next) × CallStands unsaid opened said at y.is_open y.answer

    never : (b : Bool) → (if true then false else b) ≡ true → at < q.next
    never b bad = cc

    by_wait : (b : Bool) → (if b then record { call = c.call; answer = IsRefused; is_open = (if is_refusal IsRefused then false else c.is_open) } else c) ≡ x → Goal x
    by_wait true is = subst Goal is (never c.is_open, refl)
    by_wait false is = subst Goal is (stand at c got.1)

-- before anything is heard
pub calls_fresh : (calls : List CallPlan) (unsaid opened : List SessionEnd) (said : List Message) → CallsStand (record { calls = map fresh calls; next = 0 }) unsaid opened said
calls_fresh calls unsaid opened said place x there =
    let got = get_map_back fresh calls place x there in
    subst (λ (y : Queued). (y.is_open ≡ true → place < 0) × CallStands unsaid opened said place y.is_open y.answer) got.2 (λ bad. cc, tt)

-- ---- more is sent

ends_ask : (told : List SessionEnd) → filter_map asking (map terminated told) ≡ []
ends_ask [] = refl
ends_ask (e ∷ told) = ends_ask told

early_on : (said more : List Message) (place to port : ℕ) → IsReportedEarly said place to port → IsReportedEarly (said ++ more) place to port
early_on said more place to port h = record {
  before = h.before;
  after = h.after ++ more;
  is = ap (λ l. l ++ more) h.is ∙ append_assoc h.before h.after more;
  reported = h.reported;
  early = h.early;
}

at_parts : (d p to port : ℕ) → is_at d p (At to port) ≡ true → (d ≡ to) × (p ≡ port)
at_parts d p to port h = let parts = and_parts (d == to) (p == port) h in (same_number d to parts.0, same_number p port parts.1)

-- the end of a session of a call is told by the answer to the call
pub own_end : (asked : List Asked) (heard : List Message) (place : ℕ) (a : Asked) (e : SessionEnd) (to port : ℕ) → slice_get asked place ≡ Some a → a.answer ≡ At to port → e.call ≡ Some place → IsTellable asked heard e → (e.domain ≡ to) × (e.port ≡ port)
own_end asked heard place a e to port there is own tellable =
    let may : MayTell asked heard (Some place) e.domain e.port = subst (λ (o : Option ℕ). MayTell asked heard o e.domain e.port) own tellable in
    let here : Some may.0 ≡ Some a = sym may.1 ∙ there in
    let same : may.0 ≡ a = cc in
    at_parts e.domain e.port to port (ap (λ (x : Answer). is_at e.domain e.port x) (sym is) ∙ (ap (λ (b : Asked). is_at e.domain e.port b.answer) (sym same) ∙ may.2))

pub calls_said : (old new : QueueState) (unsaid unsaid' told opened : List SessionEnd) (heard said more : List Message) (calls : ℕ) → unsaid ≡ told ++ unsaid' → IsSpoken calls told unsaid' more → OpenAfter told old new
    → asked_by new ≡ asked_by old → Each (IsTellable (asked_by old) heard) unsaid → Asks old said → old.next ≤ new.next → CallsStand old unsaid opened said → CallsStand new unsaid' opened (said ++ more)
calls_said old new unsaid unsaid' told opened heard said more calls split spoken opens asked tellable asks later stand place x there = (λ open_is. asked_for (opens place x there open_is), by_answer x.answer refl)
  where
    -- the call as it was
    was : (c : Queued) × (slice_get old.calls place ≡ Some c) × (asked_as c ≡ asked_as x)
    was = get_map_back asked_as old.calls place (asked_as x) (ap (λ l. slice_get l place) (sym asked) ∙ get_map asked_as new.calls place x there)

    same : was.0.answer ≡ x.answer
    same = ap (λ (a : Asked). a.answer) was.2

    asked_for : StaysOpen told old place x.answer ⊎ IsAskedNow old new place x.answer → place < new.next
    asked_for (inl s) = let before = (stand place s.call s.was).0 s.was_open in omega (arith, before, later)
    asked_for (inr now) = now.below

    stood : (y : Answer) → x.answer ≡ y → CallStands unsaid opened said place was.0.is_open y
    stood y is = subst (λ (z : Answer). CallStands unsaid opened said place was.0.is_open z) (same ∙ is) (stand place was.0 was.1).1

    -- no more triggers had been sent than there are calls before one that was just asked for
    few : old.next ≤ place → length (filter_map asking said) ≤ place
    few late = omega (arith, late, ap length asks.asked, length-take old.next (map (λ c. asking_of c.call) old.calls))

    -- ---- a refused call
    false_is_not : false ≡ true → ⊥
    false_is_not bad = cc

    refused : x.answer ≡ IsRefused → StaysOpen told old place x.answer ⊎ IsAskedNow old new place x.answer → ⊥
    refused is (inl s) =
        let shut : s.call.is_open ≡ false = subst (λ (z : Answer). CallStands unsaid opened said place s.call.is_open z) (s.answer_is ∙ is) (stand place s.call s.was).1 in
        false_is_not (sym shut ∙ s.was_open)
    refused is (inr late) = false_is_not (sym late.unrefused ∙ ap is_refusal is)

    shut : x.answer ≡ IsRefused → (b : Bool) → x.is_open ≡ b → b ≡ false
    shut is false open_is = refl
    shut is true open_is = absurd (refused is (opens place x there open_is))

    -- ---- a call that was let through
    Own : SessionEnd → Type 0
    Own e = e.call ≡ Some place

    own_message : (to port : ℕ) → x.answer ≡ At to port → (e : SessionEnd) → Own e × IsTellable (asked_by old) heard e → terminated e ≡ Terminated to port
    own_message to port is e h =
        let parts = own_end (asked_by old) heard place (asked_as was.0) e to port (get_map asked_as old.calls place was.0 was.1) (same ∙ is) h.0 h.1 in
        ap (λ (d : ℕ). Terminated d e.port) parts.0 ∙ ap (λ (p : ℕ). Terminated to p) parts.1

    ended : (to port : ℕ) → x.answer ≡ At to port → SomeOf Own told → IsReported (map terminated told) to port
    ended to port is h =
        some_mapped (λ e. Own e × IsTellable (asked_by old) heard e) (λ m. m ≡ Terminated to port) terminated told (own_message to port is)
        (some_each Own (IsTellable (asked_by old) heard) told (each_front (IsTellable (asked_by old) heard) told unsaid' (subst (λ l. Each (IsTellable (asked_by old) heard) l) split tellable)) h)

    now_early : (to port : ℕ) → IsReported (map terminated told) to port → StaysOpen told old place x.answer ⊎ IsAskedNow old new place x.answer → SomeOf Own told → IsReportedEarly (said ++ more) place to port
    now_early to port h (inl s) own = absurd (none_has Own told s.untold own)
    now_early to port h (inr late) own = record {
      before = said ++ map terminated told;
      after = spoken.triggers;
      is = ap (λ l. said ++ l) spoken.is ∙ sym (append_assoc said (map terminated told) spoken.triggers);
      reported = some_after (λ m. m ≡ Terminated to port) said (map terminated told) h;
      early = subst (λ l. length l ≤ place) (sym (filter_map-append asking said (map terminated told) ∙ (ap (λ l. filter_map asking said ++ l) (ends_ask told) ∙ append-nil (filter_map asking said)))) (few late.from);
    }

    still_early : (to port : ℕ) → x.answer ≡ At to port → IsReported said to port → (was.0.is_open ≡ true → IsReportedEarly said place to port) → StaysOpen told old place x.answer ⊎ IsAskedNow old new place x.answer
        → IsReportedEarly (said ++ more) place to port
    still_early to port is h early (inl s) =
        let here : Some s.call ≡ Some was.0 = sym s.was ∙ was.1 in
        let same_call : s.call ≡ was.0 = cc in
        early_on said more place to port (early (ap (λ (c : Queued). c.is_open) (sym same_call) ∙ s.was_open))
    still_early to port is h early (inr late) = record { before = said; after = more; is = refl; reported = h; early = few late.from }

    in_unsaid : (to port : ℕ) → x.answer ≡ At to port → SomeOf Own told ⊎ SomeOf Own unsaid' → CallStands unsaid' opened (said ++ more) place x.is_open (At to port)
    in_unsaid to port is (inl e) =
        let there_now = ended to port is e in
        inr (
          some_after (λ m. m ≡ Terminated to port) said more (subst (λ l. IsReported l to port) (sym spoken.is) (some_append (λ m. m ≡ Terminated to port) (map terminated told) spoken.triggers there_now)),
          λ open_is. now_early to port there_now (opens place x there open_is) e,
        )
    in_unsaid to port is (inr e) = inl (inl e)

    let_through : (to port : ℕ) → x.answer ≡ At to port → CallStands unsaid opened said place was.0.is_open (At to port) → CallStands unsaid' opened (said ++ more) place x.is_open (At to port)
    let_through to port is (inl (inl e)) = in_unsaid to port is (some_split Own told unsaid' (subst (λ l. SomeOf Own l) split e))
    let_through to port is (inl (inr o)) = inl (inr o)
    let_through to port is (inr h) = inr (some_append (λ m. m ≡ Terminated to port) said more h.0, λ open_is. still_early to port is h.0 h.1 (opens place x there open_is))

    by_answer : (y : Answer) → x.answer ≡ y → CallStands unsaid' opened (said ++ more) place x.is_open y
    by_answer Waits is = tt
    by_answer IsRefused is = shut is x.is_open refl
    by_answer (At to port) is = let_through to port is (stood (At to port) is)
