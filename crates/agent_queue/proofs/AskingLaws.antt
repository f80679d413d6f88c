-- What a queue stands for, through each of its changes, and what follows for an agent.
use Rattle.std.proofs.Common.{◌≡◌, ℕ, ◌+◌, ◌<◌, suc, zero, List, [], ◌∷◌, ◌++◌, length, map, take, drop, refl, ap, sym, ◌∙◌, arith, inl, Option, Some, None, subst}
use Rattle.std.specs.Prelude.{true, false, Bool, not, nat_lt, ◌&&◌, bytes_eq, filter, filter_map, slice_get, slice_set, if◌then◌else◌}
use Rattle.std.proofs.lemmas.List.{append-nil, take-append-drop}
use Rattle.std.proofs.lemmas.List.Elements.{filter-append, filter_map-append}
use Rattle.std.proofs.lemmas.Slice.Eq.{bytes_eq-Decides}
use Rattle.std.specs.List.{AllByRecursion as Each}
use Rattle.list_laws.specs.Lists.{IsPrefixOf, AreDifferent}
use Rattle.list_laws.proofs.Each.{each_get, each_weaker, each_filter}
use Rattle.list_laws.proofs.Places.{get_map, take_next}
use Rattle.list_laws.proofs.Tests.{same_bytes, other_bytes, and_second}
use Rattle.qrexec_frame.specs.declared.message.Message.{Message}
use Rattle.qrexec_frame.specs.declared.message.Message.TheVariants as m
use Rattle.scenario_file.specs.declared.scenario.CallPlan.{CallPlan}
use Rattle.task_duties.specs.Words.{ident_of}
use Rattle.task_duties.specs.Agent.Answers.{Answer, Waits, IsRefused, At, Asked, waits, waits_as, answer_in}
use Rattle.task_duties.specs.Agent.Saying.{Asking, asking, asking_of, is_at, is_refusal, opened, open_after, asks_for, KeepsTo}
use Rattle.task_duties.proofs.SubLists.{Sub, length_sub, sub_filter, sub_kept, sub_more, sub_all}
use Rattle.agent_queue.specs.Queue.{Queued, QueueState, asked_as, asked_by, fresh, is_open_to, open_idents, open_count, IsDue, trigger_of, after_trigger, answered_call, after_answer}
use Rattle.agent_queue.specs.Asking.{open_along, Extends, IsWithin, Asks}
use Rattle.agent_queue.proofs.Places.{map_set_same}
use Rattle.agent_queue.proofs.Sublists.{sub_same, sub_joined, sub_of}

-- ---- one message more

along_more : (answer : List ℕ → Answer) (target : List ℕ) (said : List Message) (m : Message) (calls : List (List ℕ))
    → open_along answer target calls (said ++ m ∷ []) ≡ open_after answer target m (open_along answer target calls said)
along_more answer target [] m calls = refl
along_more answer target (s ∷ said) m calls = along_more answer target said m (open_after answer target s calls)

keeps_more : (answer : List ℕ → Answer) (target : List ℕ) (said : List Message) (m : Message) (calls : List (List ℕ)) → KeepsTo answer target calls said
    → (asks_for target (asking m) ≡ true → length (open_along answer target calls said) < 16) → KeepsTo answer target calls (said ++ m ∷ [])
keeps_more answer target [] m calls k few = (few, tt)
keeps_more answer target (s ∷ said) m calls k few = (k.0, keeps_more answer target said m (open_after answer target s calls) k.1 few)

-- what was open by the messages before is open by the queue after one more message
within_more : (q new : QueueState) (said : List Message) (m : Message) (answer : List ℕ → Answer) (target : List ℕ) → IsWithin q said answer target
    → (asks_for target (asking m) ≡ true → open_count target q.calls < 16)
    → Sub (open_after answer target m (open_along answer target [] said)) (open_idents target new.calls) → IsWithin new (said ++ m ∷ []) answer target
within_more q new said m answer target w few sub =
    let less = length_sub (open_along answer target [] said) (open_idents target q.calls) w.some in
    record {
      keeps = keeps_more answer target said m [] w.keeps (λ is. let k = few is in omega (arith, less, k));
      some = subst (λ l. Sub l (open_idents target new.calls)) (sym (along_more answer target said m [])) sub;
    }

-- ---- the final answers

abbrev IsLast : (List ℕ → Answer) → Asked → Type 0
IsLast answer a = waits a.answer ≡ false → answer (ident_of a.call.number) ≡ a.answer

-- no open call is refused in the end
opened_not : (answer : List ℕ → Answer) (target : List ℕ) (o : Option Asking) (calls : List (List ℕ)) → Each (λ x. is_refusal (answer x) ≡ false) calls
    → Each (λ x. is_refusal (answer x) ≡ false) (opened answer target o calls)
opened_not answer target None calls each = each
opened_not answer target (Some a) calls each = by_tests (bytes_eq a.target target) (is_refusal (answer a.ident)) refl
  where
    by_tests : (b r : Bool) → is_refusal (answer a.ident) ≡ r → Each (λ x. is_refusal (answer x) ≡ false) (if b && not r then a.ident ∷ calls else calls)
    by_tests true false is = (is, each)
    by_tests true true is = each
    by_tests false false is = each
    by_tests false true is = each

after_not : (answer : List ℕ → Answer) (target : List ℕ) (m : Message) (calls : List (List ℕ)) → Each (λ x. is_refusal (answer x) ≡ false) calls
    → Each (λ x. is_refusal (answer x) ≡ false) (open_after answer target m calls)
after_not answer target (m.Terminated d p) calls each = each_filter (λ x. is_refusal (answer x) ≡ false) (λ ident. not (is_at d p (answer ident))) calls each
after_not answer target (m.Trigger3 t i s) calls each = opened_not answer target (asking (m.Trigger3 t i s)) calls each
after_not answer target (m.Trigger t i s) calls each = opened_not answer target (asking (m.Trigger t i s)) calls each
after_not answer target (m.Hello v) calls each = each
after_not answer target (m.Stdin b) calls each = each
after_not answer target (m.Stdout b) calls each = each
after_not answer target (m.Stderr b) calls each = each
after_not answer target (m.ExitCode c) calls each = each
after_not answer target (m.Exec d p l) calls each = each
after_not answer target (m.JustExec d p l) calls each = each
after_not answer target (m.Connect d p i) calls each = each
after_not answer target (m.Refused i) calls each = each

along_not : (answer : List ℕ → Answer) (target : List ℕ) (said : List Message) (calls : List (List ℕ)) → Each (λ x. is_refusal (answer x) ≡ false) calls
    → Each (λ x. is_refusal (answer x) ≡ false) (open_along answer target calls said)
along_not answer target [] calls each = each
along_not answer target (m ∷ said) calls each = along_not answer target said (open_after answer target m calls) (after_not answer target m calls each)

-- ---- a trigger

-- the open calls when the call at a place is opened or closed, if none from that place on was open
opens_at : (target : List ℕ) (calls : List Queued) (i : ℕ) (c : Queued) (b : Bool) → Each (λ x. x.is_open ≡ false) (drop i calls) → slice_get calls i ≡ Some c
    → open_idents target (slice_set calls i (record c { is_open = b })) ≡ (if b && bytes_eq c.call.to target then ident_of c.call.number ∷ open_idents target calls else open_idents target calls)
opens_at target [] i c b closed is = cc
opens_at target (x ∷ calls) zero c b closed is =
    let same : x ≡ c = cc in
    let none : open_idents target calls ≡ [] = all_closed calls closed.1 in
    let shut : c.is_open ≡ false = subst (λ y. y.is_open ≡ false) same closed.0 in
    let old : open_idents target (x ∷ calls) ≡ [] = subst (λ y. open_idents target (y ∷ calls) ≡ []) (sym same) (rw (none, shut) refl) in
    rw (old, none) (by_test (b && bytes_eq c.call.to target))
  where
    all_closed : (rest : List Queued) → Each (λ y. y.is_open ≡ false) rest → open_idents target rest ≡ []
    all_closed [] each = refl
    all_closed (y ∷ rest) each = let shut = each.0 in let none = all_closed rest each.1 in rw (none, shut) refl

    by_test : (t : Bool) → ([] ++ (if t then ident_of c.call.number ∷ [] else [])) ≡ (if t then ident_of c.call.number ∷ [] else [])
    by_test true = refl
    by_test false = refl
opens_at target (x ∷ calls) (suc i) c b closed is =
    ap (λ l. l ++ (if is_open_to target x then ident_of x.call.number ∷ [] else [])) (opens_at target calls i c b closed is)
    ∙ by_test (b && bytes_eq c.call.to target)
  where
    last : List (List ℕ)
    last = if is_open_to target x then ident_of x.call.number ∷ [] else []

    by_test : (t : Bool) → ((if t then ident_of c.call.number ∷ open_idents target calls else open_idents target calls) ++ last)
        ≡ (if t then ident_of c.call.number ∷ (open_idents target calls ++ last) else (open_idents target calls ++ last))
    by_test true = refl
    by_test false = refl

-- a trigger's message asks for its call
asking_trigger : (version : ℕ) (call : CallPlan) → asking (trigger_of version call) ≡ Some (asking_of call)
asking_trigger version call = by_version (nat_lt version 3)
  where
    by_version : (b : Bool) → asking (if b then m.Trigger call.to (ident_of call.number) call.service else m.Trigger3 call.to (ident_of call.number) call.service) ≡ Some (asking_of call)
    by_version true = refl
    by_version false = refl

after_trigger_message : (answer : List ℕ → Answer) (target : List ℕ) (version : ℕ) (call : CallPlan) (calls : List (List ℕ))
    → open_after answer target (trigger_of version call) calls ≡ opened answer target (Some (asking_of call)) calls
after_trigger_message answer target version call calls = by_version (nat_lt version 3)
  where
    by_version : (b : Bool) → open_after answer target (if b then m.Trigger call.to (ident_of call.number) call.service else m.Trigger3 call.to (ident_of call.number) call.service) calls
        ≡ opened answer target (Some (asking_of call)) calls
    by_version true = refl
    by_version false = refl

asking_one : (version : ℕ) (call : CallPlan) → filter_map asking (trigger_of version call ∷ []) ≡ asking_of call ∷ []
asking_one version call = by_version (nat_lt version 3)
  where
    by_version : (b : Bool) → filter_map asking ((if b then m.Trigger call.to (ident_of call.number) call.service else m.Trigger3 call.to (ident_of call.number) call.service) ∷ []) ≡ asking_of call ∷ []
    by_version true = refl
    by_version false = refl

opens_too : (i : List ℕ) (calls opens : List (List ℕ)) (r b f : Bool) → (r ≡ true → f ≡ true) → Sub calls opens
    → Sub (if b && not f then i ∷ calls else calls) (if not r && b then i ∷ opens else opens)
opens_too i calls opens true true true go sub = sub
opens_too i calls opens true true false go sub = let no = go refl in cc
opens_too i calls opens true false f go sub = sub
opens_too i calls opens false true true go sub = sub_more i calls opens sub
opens_too i calls opens false true false go sub = inl (refl, sub)
opens_too i calls opens false false f go sub = sub

refused_last : (a last : Answer) → (waits a ≡ false → last ≡ a) → is_refusal a ≡ true → is_refusal last ≡ true
refused_last Waits last go is = cc
refused_last IsRefused last go is = ap is_refusal (go refl)
refused_last (At to port) last go is = cc

abbrev opened_at : Queued → Queued
opened_at c = record c { is_open = not (is_refusal c.answer) }

pub asks_triggered : (q : QueueState) (c : Queued) (version : ℕ) (said : List Message) → IsDue q c → Each (λ x. x.is_open ≡ false) (drop q.next q.calls) → Asks q said
    → Asks (after_trigger q c) (said ++ trigger_of version c.call ∷ [])
asks_triggered q c version said due closed a = record {
  asked = filter_map-append asking said (trigger_of version c.call ∷ []) ∙ (ap (λ l. l ++ filter_map asking (trigger_of version c.call ∷ [])) a.asked
      ∙ (ap (λ l. take q.next (map (λ x. asking_of x.call) q.calls) ++ l) (asking_one version c.call)
      ∙ (sym (take_next (map (λ x. asking_of x.call) q.calls) q.next (asking_of c.call) (get_map (λ x. asking_of x.call) q.calls q.next c due.0))
      ∙ ap (take (q.next + 1)) (sym (map_set_same (λ x. asking_of x.call) q.calls q.next c (opened_at c) due.0 refl)))));
  within = λ answer extends target. within answer target (subst (λ l. Each (IsLast answer) l) (map_set_same asked_as q.calls q.next c (opened_at c) due.0 refl) extends);
}
  where
    few : (target : List ℕ) → asks_for target (asking (trigger_of version c.call)) ≡ true → open_count target q.calls < 16
    few target asks =
        let is : bytes_eq c.call.to target ≡ true = subst (λ o. asks_for target o ≡ true) (asking_trigger version c.call) asks in
        subst (λ t. open_count t q.calls < 16) ((bytes_eq-Decides c.call.to target).0 is) due.1

    within : (answer : List ℕ → Answer) (target : List ℕ) → Extends (asked_by q) answer → IsWithin (after_trigger q c) (said ++ trigger_of version c.call ∷ []) answer target
    within answer target extends =
        let w = a.within answer extends target in
        let calls = open_along answer target [] said in
        let last = each_get (IsLast answer) (asked_by q) q.next (asked_as c) extends (get_map asked_as q.calls q.next c due.0) in
        let sub = opens_too (ident_of c.call.number) calls (open_idents target q.calls) (is_refusal c.answer) (bytes_eq c.call.to target) (is_refusal (answer (ident_of c.call.number)))
        (refused_last c.answer (answer (ident_of c.call.number)) last) w.some in
        within_more q (after_trigger q c) said (trigger_of version c.call) answer target w (few target)
        (subst (λ l. Sub l (open_idents target (after_trigger q c).calls)) (sym (after_trigger_message answer target version c.call calls))
        (subst (λ l. Sub (opened answer target (Some (asking_of c.call)) calls) l) (sym (opens_at target q.calls q.next c (not (is_refusal c.answer)) closed due.0)) sub))

-- ---- an answer

same_call : (ident : List ℕ) (answer : Answer) (c : Queued) → (answered_call ident answer c).call ≡ c.call
same_call ident answer c = by_test (waits_as ident (asked_as c))
  where
    by_test : (b : Bool) → (if b then record { call = c.call; answer = answer; is_open = (if is_refusal answer then false else c.is_open) } else c).call ≡ c.call
    by_test true = refl
    by_test false = refl

same_calls_lem : (ident : List ℕ) (answer : Answer) (calls : List Queued) → map (λ x. asking_of x.call) (map (answered_call ident answer) calls) ≡ map (λ x. asking_of x.call) calls
same_calls_lem ident answer [] = refl
same_calls_lem ident answer (c ∷ calls) = rw (same_calls_lem ident answer calls) (ap (λ k. asking_of k ∷ map (λ x. asking_of x.call) calls) (same_call ident answer c))

abbrev given_answer : Answer → Queued → Queued
given_answer answer c = record { call = c.call; answer = answer; is_open = (if is_refusal answer then false else c.is_open) }

last_before : (ident : List ℕ) (answer : Answer) (final : List ℕ → Answer) (c : Queued) → IsLast final (asked_as (answered_call ident answer c)) → IsLast final (asked_as c)
last_before ident answer final c h = by_test (waits_as ident (asked_as c)) refl h
  where
    by_test : (b : Bool) → waits_as ident (asked_as c) ≡ b → IsLast final (asked_as (if b then given_answer answer c else c)) → IsLast final (asked_as c)
    by_test true is h' none = let some : waits c.answer ≡ true = and_second (bytes_eq (ident_of c.call.number) ident) (waits c.answer) is in cc
    by_test false is h' none = h' none

lasts_before : (ident : List ℕ) (answer : Answer) (final : List ℕ → Answer) (calls : List Queued) → Each (IsLast final) (map asked_as (map (answered_call ident answer) calls)) → Each (IsLast final) (map asked_as calls)
lasts_before ident answer final [] each = tt
lasts_before ident answer final (c ∷ calls) each = (last_before ident answer final c each.0, lasts_before ident answer final calls each.1)

abbrev last_ident : List ℕ → Queued → List (List ℕ)
last_ident target c = if is_open_to target c then ident_of c.call.number ∷ [] else []

filter_self : {A : Type 0} (p : A → Bool) (xs : List A) → Sub (filter p xs) xs
filter_self p xs = sub_all p xs xs (sub_same xs)

-- an ident that fails the test is filtered out
filtered_out : (p : List ℕ → Bool) (target : List ℕ) (c : Queued) → p (ident_of c.call.number) ≡ false → filter p (last_ident target c) ≡ []
filtered_out p target c out = by_test (is_open_to target c)
  where
    by_test : (b : Bool) → filter p (if b then ident_of c.call.number ∷ [] else []) ≡ []
    by_test true = rw out refl
    by_test false = refl

abbrev stays_open : (List ℕ → Answer) → List ℕ → Bool
stays_open final ident = not (is_refusal (final ident))

-- what isn't refused in the end is open after an answer as it was before
answer_keeps_one : (ident : List ℕ) (answer : Answer) (final : List ℕ → Answer) (target : List ℕ) (c : Queued) → waits answer ≡ false → IsLast final (asked_as (answered_call ident answer c))
    → Sub (filter (stays_open final) (last_ident target c)) (last_ident target (answered_call ident answer c))
answer_keeps_one ident answer final target c done h = by_test (waits_as ident (asked_as c)) h
  where
    by_refusal : (b : Bool) → is_refusal answer ≡ b → final (ident_of c.call.number) ≡ answer
        → Sub (filter (stays_open final) (last_ident target c)) (last_ident target (record { call = c.call; answer = answer; is_open = (if b then false else c.is_open) }))
    by_refusal false is last = filter_self (stays_open final) (last_ident target c)
    by_refusal true is last =
        let no : stays_open final (ident_of c.call.number) ≡ false = rw (last, is) refl in
        rw (filtered_out (stays_open final) target c no) tt

    by_test : (b : Bool) → IsLast final (asked_as (if b then given_answer answer c else c)) → Sub (filter (stays_open final) (last_ident target c)) (last_ident target (if b then given_answer answer c else c))
    by_test true h' = by_refusal (is_refusal answer) refl (h' done)
    by_test false h' = filter_self (stays_open final) (last_ident target c)

answer_keeps : (ident : List ℕ) (answer : Answer) (final : List ℕ → Answer) (target : List ℕ) (calls : List Queued) → waits answer ≡ false → Each (IsLast final) (map asked_as (map (answered_call ident answer) calls))
    → Sub (filter (stays_open final) (open_idents target calls)) (open_idents target (map (answered_call ident answer) calls))
answer_keeps ident answer final target [] done each = tt
answer_keeps ident answer final target (c ∷ calls) done each =
    rw (filter-append (stays_open final) (open_idents target calls) (last_ident target c))
    (sub_joined (filter (stays_open final) (open_idents target calls)) (filter (stays_open final) (last_ident target c)) (open_idents target (map (answered_call ident answer) calls)) (last_ident target (answered_call ident answer c))
    (answer_keeps ident answer final target calls done each.1) (answer_keeps_one ident answer final target c done each.0))

pub asks_answered : (q : QueueState) (ident : List ℕ) (answer : Answer) (said : List Message) → waits answer ≡ false → Asks q said → Asks (after_answer q ident answer) said
asks_answered q ident answer said done a = record {
  asked = a.asked ∙ ap (take q.next) (sym (same_calls_lem ident answer q.calls));
  within = λ final extends target.
      let w = a.within final (lasts_before ident answer final q.calls extends) target in
      let calls = open_along final target [] said in
      record {
        keeps = w.keeps;
        some = sub_of calls (filter (stays_open final) (open_idents target q.calls)) (open_idents target (after_answer q ident answer).calls)
            (sub_kept (stays_open final) calls (open_idents target q.calls) w.some (each_weaker (λ x. is_refusal (final x) ≡ false) (λ x. stays_open final x ≡ true) (λ x no. rw no refl) calls (along_not final target said [] tt)))
            (answer_keeps ident answer final target q.calls done extends);
      };
}

-- ---- the end of a session

at_waits : (d port : ℕ) (a : Answer) → is_at d port a ≡ true → waits a ≡ false
at_waits d port Waits is = cc
at_waits d port IsRefused is = cc
at_waits d port (At to p) is = refl

abbrev shut : Queued → Queued
shut c = record c { is_open = false }

abbrev goes_on : (List ℕ → Answer) → ℕ → ℕ → List ℕ → Bool
goes_on final d port ident = not (is_at d port (final ident))

end_keeps : (final : List ℕ → Answer) (target : List ℕ) (d port : ℕ) (calls : List Queued) (i : ℕ) (c : Queued) → slice_get calls i ≡ Some c → goes_on final d port (ident_of c.call.number) ≡ false
    → Sub (filter (goes_on final d port) (open_idents target calls)) (open_idents target (slice_set calls i (shut c)))
end_keeps final target d port [] i c is out = cc
end_keeps final target d port (x ∷ calls) zero c is out =
    let same : x ≡ c = cc in
    let no' : goes_on final d port (ident_of x.call.number) ≡ false = subst (λ y. goes_on final d port (ident_of y.call.number) ≡ false) (sym same) out in
    rw (filter-append (goes_on final d port) (open_idents target calls) (last_ident target x))
    (sub_joined (filter (goes_on final d port) (open_idents target calls)) (filter (goes_on final d port) (last_ident target x)) (open_idents target calls) []
    (filter_self (goes_on final d port) (open_idents target calls)) (rw (filtered_out (goes_on final d port) target x no') tt))
end_keeps final target d port (x ∷ calls) (suc i) c is out =
    rw (filter-append (goes_on final d port) (open_idents target calls) (last_ident target x))
    (sub_joined (filter (goes_on final d port) (open_idents target calls)) (filter (goes_on final d port) (last_ident target x)) (open_idents target (slice_set calls i (shut c))) (last_ident target x)
    (end_keeps final target d port calls i c is out) (filter_self (goes_on final d port) (last_ident target x)))

each_any : {A : Type 0} (P : A → Type 0) → ((x : A) → P x) → (xs : List A) → Each P xs
each_any P go [] = tt
each_any P go (x ∷ xs) = (go x, each_any P go xs)

pub asks_ended : (q : QueueState) (place d port : ℕ) (c : Queued) (said : List Message) → slice_get q.calls place ≡ Some c → is_at d port c.answer ≡ true → Asks q said
    → Asks (record q { calls = slice_set q.calls place (shut c) }) (said ++ m.Terminated d port ∷ [])
asks_ended q place d port c said is at a = record {
  asked = filter_map-append asking said (m.Terminated d port ∷ []) ∙ (append-nil (filter_map asking said) ∙ (a.asked ∙ ap (take q.next) (sym (map_set_same (λ x. asking_of x.call) q.calls place c (shut c) is refl))));
  within = λ final extends target. within final target (subst (λ l. Each (IsLast final) l) (map_set_same asked_as q.calls place c (shut c) is refl) extends);
}
  where
    within : (final : List ℕ → Answer) (target : List ℕ) → Extends (asked_by q) final → IsWithin (record q { calls = slice_set q.calls place (shut c) }) (said ++ m.Terminated d port ∷ []) final target
    within final target extends =
        let w = a.within final extends target in
        let calls = open_along final target [] said in
        let last : final (ident_of c.call.number) ≡ c.answer = each_get (IsLast final) (asked_by q) place (asked_as c) extends (get_map asked_as q.calls place c is) (at_waits d port c.answer at) in
        let no : goes_on final d port (ident_of c.call.number) ≡ false = rw (last, at) refl in
        within_more q (record q { calls = slice_set q.calls place (shut c) }) said (m.Terminated d port) final target w (λ none. cc)
        (sub_of (filter (goes_on final d port) calls) (filter (goes_on final d port) (open_idents target q.calls)) (open_idents target (slice_set q.calls place (shut c)))
        (sub_filter (goes_on final d port) (goes_on final d port) calls (open_idents target q.calls) w.some (each_any (λ x. goes_on final d port x ≡ true → goes_on final d port x ≡ true) (λ x e. e) calls))
        (end_keeps final target d port q.calls place c is no))

-- the end of another agent's session, or of one that isn't served
pub asks_stranger : (q : QueueState) (d port : ℕ) (said : List Message) → Asks q said → Asks q (said ++ m.Terminated d port ∷ [])
asks_stranger q d port said a = record {
  asked = filter_map-append asking said (m.Terminated d port ∷ []) ∙ (append-nil (filter_map asking said) ∙ a.asked);
  within = λ final extends target.
      let w = a.within final extends target in
      within_more q q said (m.Terminated d port) final target w (λ none. cc) (sub_all (goes_on final d port) (open_along final target [] said) (open_idents target q.calls) w.some);
}

-- ---- its begin, and what it comes to

pub asks_none : (calls : List CallPlan) → Asks (record { calls = map fresh calls; next = 0 }) []
asks_none calls = record { asked = refl; within = λ final extends target. record { keeps = tt; some = tt } }

abbrev asked_ident : Asked → List ℕ
asked_ident a = ident_of a.call.number

behind : (a : Asked) (asked rest : List Asked) → Each (λ i. asked_ident a ≡ i → ⊥) (map asked_ident rest) → Each (IsLast (answer_in asked)) rest → Each (IsLast (answer_in (a ∷ asked))) rest
behind a asked [] apart each = tt
behind a asked (b ∷ rest) apart each =
    (λ done. rw (other_bytes (asked_ident a) (asked_ident b) apart.0) (each.0 done), behind a asked rest apart.1 each.1)

-- if no two calls have the same ident, the answers so far are final ones that agree with themselves
pub own_answers : (asked : List Asked) → AreDifferent (map asked_ident asked) → Extends asked (answer_in asked)
own_answers [] apart = tt
own_answers (a ∷ asked) apart = (λ done. rw (same_bytes (asked_ident a)) refl, behind a asked asked apart.0 (own_answers asked apart.1))

-- so the triggers are those of the first calls, and the limit is kept
pub asks_in_order : (q : QueueState) (said : List Message) → Asks q said → IsPrefixOf (filter_map asking said) (map (λ c. asking_of c.call) q.calls)
asks_in_order q said a =
    let all = map (λ c. asking_of c.call) q.calls in
    (drop q.next all, ap (λ l. l ++ drop q.next all) a.asked ∙ take-append-drop q.next all)

pub asks_within : (q : QueueState) (said : List Message) → Asks q said → AreDifferent (map asked_ident (asked_by q)) → (target : List ℕ) → KeepsTo (answer_in (asked_by q)) target [] said
asks_within q said a apart target = (a.within (answer_in (asked_by q)) (own_answers (asked_by q) apart) target).keeps
