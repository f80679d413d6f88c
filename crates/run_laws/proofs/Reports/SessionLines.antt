-- The lines of the sessions that agents report, sorted, are those of a lawful report.
use Rattle.std.proofs.Common.{◌≡◌, ℕ, ◌≤◌, List, [], ◌∷◌, ◌++◌, map, refl, ap, sym, ◌∙◌, arith, ◌⊎◌, inl, inr, Option, Some, None, subst}
use Rattle.std.specs.Prelude.{true, false, Bool, ◌==◌, ◌&&◌, filter, filter_map, is_some, slice_set, slice_index_or, swap, IsPermutation, if◌then◌else◌}
use Rattle.std.specs.List.{flat_map, list_any, AllByRecursion as Each, AllZip as EachPair}
use Rattle.std.specs.List.Sorted.{apply_swaps, SwapsInRange}
use Rattle.std.proofs.lemmas.Bool.Decides.{nat_tests}
use Rattle.std.proofs.lemmas.Grind.{flat_map-append}
use Rattle.std.proofs.lemmas.List.{map-set, append_assoc, append-nil}
use Rattle.std.proofs.lemmas.List.Folds.{flat_map-map}
use Rattle.std.proofs.lemmas.List.Sorted.{IsPermutation-sym}
use Rattle.std.proofs.Math.ListN.{get_or-map}
use Rattle.std.proofs.lemmas.Slice.Zip.{AllZip-long}
use Rattle.list_laws.proofs.Pairs.{pairs_append}
use Rattle.qrexec_frame.specs.declared.message.Message.{Message}
use Rattle.qrexec_frame.specs.declared.message.Message.TheVariants.{Hello, Exec, JustExec, Connect, Refused, Terminated, Trigger3, Trigger, Stdin, Stdout, Stderr, ExitCode}
use Rattle.scenario_file.specs.Scenario.{Plan as Scenario, domain_of, hostile_at, version_at}
use Rattle.task_duties.specs.declared.place.PagePlace.{PagePlace}
use Rattle.task_duties.specs.declared.place.PagePlace.TheVariants.{Control, Payload}
use Rattle.task_duties.specs.declared.done.ServedDone.{ServedDone}
use Rattle.task_duties.specs.Places.{has_place}
use Rattle.task_duties.specs.Words.{service_of_line}
use Rattle.task_duties.specs.Hearing.{to_agent}
use Rattle.task_duties.specs.Agent.Answers.{Answers, Served, waits_as, serves, takes, takes_all, nothing_heard}
use Rattle.task_duties.specs.Agent.Owes.{ReportsServed}
use Rattle.task_duties.proofs.Elements.{Has, tally, tally_none, tally_permuted}
use Rattle.task_duties.proofs.ServedLaw.{AreApart, IsUnusedBy, unused_after}
use Rattle.run_laws.specs.declared.report.ServedLine.{ServedLine}
use Rattle.run_laws.specs.Laid.{all_domains, laid, agent_plan}
use Rattle.run_laws.specs.Lawful.{ExecAt, exec_at, hostile_execs, control_messages, comes_before, IsServed}
use Rattle.run_laws.specs.Run.{Run, IsRun, IsHonest, end_of}
use Rattle.run_laws.specs.Laws.{agent_heard}
use Rattle.run_laws.specs.ReadOff.{report_of}
use Rattle.run_laws.specs.HostileSessions.{HostileSession, session_of, sessions_at, hostile_sessions, stands_before, session_line, SortedSessionsAreLawful}
use Rattle.run_laws.proofs.Scenarios.Calls.{OrderedBy, ordered_from}
use Rattle.run_laws.proofs.Domains.ControlLaws.{own_end, control_bytes}
use Rattle.run_laws.proofs.Domains.ControlMessages.{Greeted, Silent, Spoken, greeted}
use Rattle.run_laws.proofs.Domains.Planned.{heard_apart, heard_unused}
use Rattle.run_laws.proofs.Reports.ReadLaws.{number_there}
use Rattle.run_laws.proofs.Reports.ExecOrder.{IsApart, IsBefore, total, back, all_pairs, tests_of}
use Rattle.run_laws.proofs.Reports.HostileServed.{ExecRead, exec_read, exec_stands}
use Rattle.run_laws.proofs.Reports.WholeReport.{lawful_with_served}
use Rattle.run_laws.proofs.Reports.LawfulReport.{execs_at, execs_same, data_laid, data_none, execs_apart}

-- an Exec and the session that was reported of it
pub record Matches (s : Scenario) (run : Run) (x : ExecAt) (y : HostileSession) : Type 0 where
  pub from : y.from ≡ x.from
  pub to : y.to ≡ x.to
  pub port : y.port ≡ x.port
  pub stands : (served : List ServedLine) → IsServed s (report_of s run served) x (session_line s y)

-- ---- all that was heard and can be served is served, in order

served_from : Option (List ℕ) → ℕ → ℕ → List Served
served_from None from port = []
served_from (Some service) from port = record { from = from; port = port; service = service } ∷ []

served_in : List Message → List Served
served_in [] = []
served_in (Exec from port line ∷ ms) = served_from (service_of_line line) from port ++ served_in ms
served_in (m ∷ ms) = served_in ms

on_exec : (d : ℕ) (from port : ℕ) (o : Option (List ℕ)) (a : Answers) → has_place (Payload from d port) a.unused ≡ true → (rest : List Served)
    → (serves d from port o a).served ++ rest ≡ a.served ++ (served_from o from port ++ rest)
unfolding served_from
on_exec d from port None a free rest = refl
on_exec d from port (Some service) a free rest = rw free (append_assoc a.served (record { from = from; port = port; service = service } ∷ []) rest)

same_served : (d : ℕ) (a : Answers) (to port : ℕ) (ident : List ℕ) → (takes d a (Connect to port ident)).served ≡ a.served
same_served d a to port ident = by_test (list_any (waits_as ident) a.asked && has_place (Payload d to port) a.unused) refl
  where
    by_test : (b : Bool) → (list_any (waits_as ident) a.asked && has_place (Payload d to port) a.unused) ≡ b → (takes d a (Connect to port ident)).served ≡ a.served
    by_test true is = rw is refl
    by_test false is = rw is refl

serves_all : (d : ℕ) (ms : List Message) (a : Answers) → AreApart d ms → Each (IsUnusedBy d a.unused) ms → (takes_all d a ms).served ≡ a.served ++ served_in ms
unfolding served_in
serves_all d [] a apart each = sym (append-nil a.served)
serves_all d (m ∷ ms) a apart each = serves_all d ms (takes d a m) apart.1 (unused_after d a m ms apart.0 each.1) ∙ one m each.0
  where
    one : (n : Message) → IsUnusedBy d a.unused n → (takes d a n).served ++ served_in ms ≡ a.served ++ served_in (n ∷ ms)
    one (Exec from port line) free = on_exec d from port (service_of_line line) a (free (Payload from d port) refl) (served_in ms)
    one (Connect to port ident) free = ap (λ l. l ++ served_in ms) (same_served d a to port ident)
    one (Refused ident) free = refl
    one (JustExec from port line) free = refl
    one (Hello v) free = refl
    one (Terminated x p) free = refl
    one (Trigger3 t i x) free = refl
    one (Trigger t i x) free = refl
    one (Stdin b) free = refl
    one (Stdout b) free = refl
    one (Stderr b) free = refl
    one (ExitCode c) free = refl

-- ---- the sessions of one domain

matched : (s : Scenario) (run : Run) (d : ℕ) (ms : List Message) (dones : List ServedDone) → ((from port : ℕ) (line : List ℕ) → Has ms (Exec from port line) → ExecRead s run d from port line)
    → EachPair (ReportsServed (agent_plan s d) (end_of run d)) (served_in ms) dones
    → EachPair (Matches s run) (filter_map (exec_at s d) ms) (map (session_of d) (filter (λ done. hostile_at s done.from) dones))
unfolding served_in served_from
matched s run d [] [] go r = tt
matched s run d [] (e ∷ dones) go r = absurd r
matched s run d (Exec from port line ∷ ms) dones go r = by_read (go from port line (inl refl)) dones r (λ rest h. matched s run d ms rest (λ f p l there. go f p l (inr there)) h)
  where
    by_caller : (x : ExecRead s run d from port line) (e : ServedDone) → ReportsServed (agent_plan s d) (end_of run d) (record { from = from; port = port; service = x.service }) e → (rest : List ServedDone)
        → EachPair (Matches s run) (filter_map (exec_at s d) ms) (map (session_of d) (filter (λ done. hostile_at s done.from) rest)) → (b : Bool) → hostile_at s from ≡ b
        → EachPair (Matches s run) (filter_map (exec_at s d) (Exec from port line ∷ ms)) (map (session_of d) (filter (λ done. hostile_at s done.from) (e ∷ rest)))
    by_caller x e r' rest more true is =
        let other : hostile_at s e.from ≡ true = ap (hostile_at s) r'.0 ∙ is in
        rw (is, other) (record { from = r'.0; to = refl; port = r'.1; stands = exec_stands s run d from port line x e r' }, more)
    by_caller x e r' rest more false is = let other : hostile_at s e.from ≡ false = ap (hostile_at s) r'.0 ∙ is in rw (is, other) more

    by_list : (x : ExecRead s run d from port line) (dones' : List ServedDone) → EachPair (ReportsServed (agent_plan s d) (end_of run d)) (record { from = from; port = port; service = x.service } ∷ served_in ms) dones'
        → ((rest : List ServedDone) → EachPair (ReportsServed (agent_plan s d) (end_of run d)) (served_in ms) rest → EachPair (Matches s run) (filter_map (exec_at s d) ms) (map (session_of d) (filter (λ done. hostile_at s done.from) rest)))
        → EachPair (Matches s run) (filter_map (exec_at s d) (Exec from port line ∷ ms)) (map (session_of d) (filter (λ done. hostile_at s done.from) dones'))
    by_list x [] h more = absurd h
    by_list x (e ∷ rest) h more = by_caller x e h.0 rest (more rest h.1) (hostile_at s from) refl

    by_read : (x : ExecRead s run d from port line) (dones' : List ServedDone) → EachPair (ReportsServed (agent_plan s d) (end_of run d)) (served_in (Exec from port line ∷ ms)) dones'
        → ((rest : List ServedDone) → EachPair (ReportsServed (agent_plan s d) (end_of run d)) (served_in ms) rest → EachPair (Matches s run) (filter_map (exec_at s d) ms) (map (session_of d) (filter (λ done. hostile_at s done.from) rest)))
        → EachPair (Matches s run) (filter_map (exec_at s d) (Exec from port line ∷ ms)) (map (session_of d) (filter (λ done. hostile_at s done.from) dones'))
    by_read x dones' h more =
        let read : served_in (Exec from port line ∷ ms) ≡ record { from = from; port = port; service = x.service } ∷ served_in ms = ap (λ o. served_from o from port ++ served_in ms) x.read in
        by_list x dones' (subst (λ l. EachPair (ReportsServed (agent_plan s d) (end_of run d)) l dones') read h) more
matched s run d (m ∷ ms) dones go r = matched s run d ms dones (λ f p l there. go f p l (inr there)) r

domain_matched : (s : Scenario) (run : Run) → IsRun s run → (d : ℕ) → IsHonest s d
    → EachPair (Matches s run) (filter_map (exec_at s d) (agent_heard s run d)) (map (session_of d) (filter (λ done. hostile_at s done.from) (run.served d)))
domain_matched s run h d honest =
    let agent = h.agent d honest in
    let reports = rw (own_end run d) at agent.serves in
    let all = serves_all d (agent_heard s run d) (nothing_heard (agent_plan s d)) (heard_apart s run h d honest) (heard_unused s run h d honest) in
    matched s run d (agent_heard s run d) (run.served d) (λ from port line there. exec_read s run h d honest from port line there)
    (subst (λ l. EachPair (ReportsServed (agent_plan s d) (end_of run d)) l (run.served d)) all reports)

-- ---- the sessions of all domains

all_execs : (s : Scenario) (d : ℕ) (all heard : List Message) → Greeted all heard → filter_map (exec_at s d) all ≡ filter_map (exec_at s d) heard
all_execs s d all heard (Silent a b) = rw (a, b) refl
all_execs s d all heard (Spoken v a) = rw a refl

place_matched : (s : Scenario) (run : Run) → IsRun s run → (d : ℕ) → is_some (domain_of s d) ≡ true → EachPair (Matches s run) (execs_at s run (Control d)) (sessions_at s run d)
place_matched s run h d there = by_test (hostile_at s d) refl
  where
    by_test : (b : Bool) → hostile_at s d ≡ b → EachPair (Matches s run) (execs_at s run (Control d)) (sessions_at s run d)
    by_test true is = rw is tt
    by_test false is =
        let honest : IsHonest s d = record { there = there; honest = is } in
        let same = all_execs s d (control_messages (run.page (Control d)).server.got) (agent_heard s run d) (greeted (version_at s d) to_agent (run.page (Control d)).server.got (control_bytes s run h d honest).left) in
        rw (is, same) (domain_matched s run h d honest)

all_matched : (s : Scenario) (run : Run) → IsRun s run → (ds : List ℕ) → ((d : ℕ) → Has ds d → is_some (domain_of s d) ≡ true)
    → EachPair (Matches s run) (flat_map (λ d. execs_at s run (Control d)) ds) (flat_map (sessions_at s run) ds)
all_matched s run h [] go = tt
all_matched s run h (d ∷ ds) go =
    pairs_append (Matches s run) (execs_at s run (Control d)) _ (sessions_at s run d) _ (place_matched s run h d (go d (inl refl))) (all_matched s run h ds (λ e there. go e (inr there)))

none_of : (s : Scenario) (run : Run) (places : List PagePlace) → ((place : PagePlace) → Has places place → execs_at s run place ≡ []) → flat_map (execs_at s run) places ≡ []
none_of s run [] none = refl
none_of s run (p ∷ places) none = let first = none p (inl refl) in rw first (none_of s run places (λ q there. none q (inr there)))

execs_by_domain : (s : Scenario) (run : Run) (served : List ServedLine) → hostile_execs s (report_of s run served) ≡ flat_map (λ d. execs_at s run (Control d)) (all_domains s)
execs_by_domain s run served =
    sym (execs_same s run (laid s))
    ∙ flat_map-append (execs_at s run) (map Control (all_domains s)) (data_laid s)
    ∙ ap (λ l. flat_map (execs_at s run) (map Control (all_domains s)) ++ l) (none_of s run (data_laid s) (data_none s run))
    ∙ append-nil (flat_map (execs_at s run) (map Control (all_domains s)))
    ∙ flat_map-map (execs_at s run) Control (all_domains s)

-- ---- pairs are put in another order

record Paired {A B : Type 0} (R : A → B → Type 0) : Type 0 where
  pub first : A
  pub second : B
  pub fits : R first second

paired : {A B : Type 0} (R : A → B → Type 0) (xs : List A) (ys : List B) → EachPair R xs ys → (zs : List (Paired R)) × (map (λ z. z.first) zs ≡ xs) × (map (λ z. z.second) zs ≡ ys)
paired R [] [] h = ([], refl, refl)
paired R [] (y ∷ ys) h = absurd h
paired R (x ∷ xs) [] h = absurd h
paired R (x ∷ xs) (y ∷ ys) h = let more = paired R xs ys h.1 in (record { first = x; second = y; fits = h.0 } ∷ more.0, ap (λ l. x ∷ l) more.1, ap (λ l. y ∷ l) more.2)

pairs_fit : {A B : Type 0} (R : A → B → Type 0) (zs : List (Paired R)) → EachPair R (map (λ z. z.first) zs) (map (λ z. z.second) zs)
pairs_fit R [] = tt
pairs_fit R (z ∷ zs) = (z.fits, pairs_fit R zs)

map_swap : {A B : Type 0} (f : A → B) (zs : List A) (i j : ℕ) → map f (swap zs i j) ≡ swap (map f zs) i j
map_swap f [] i j = refl
map_swap f (d ∷ zs) i j =
    map-set f (slice_set (d ∷ zs) i (slice_index_or (d ∷ zs) j d)) j (slice_index_or (d ∷ zs) i d)
    ∙ ap (λ l. slice_set l j (f (slice_index_or (d ∷ zs) i d))) (map-set f (d ∷ zs) i (slice_index_or (d ∷ zs) j d))
    ∙ ap (λ v. slice_set (slice_set (map f (d ∷ zs)) i v) j (f (slice_index_or (d ∷ zs) i d))) (sym (get_or-map f (d ∷ zs) j d))
    ∙ ap (λ v. slice_set (slice_set (map f (d ∷ zs)) i (slice_index_or (map f (d ∷ zs)) j (f d))) j v) (sym (get_or-map f (d ∷ zs) i d))

map_swaps : {A B : Type 0} (f : A → B) (zs : List A) (moves : List (ℕ × ℕ)) → map f (apply_swaps zs moves) ≡ apply_swaps (map f zs) moves
map_swaps f zs [] = refl
map_swaps f zs (p ∷ moves) = map_swap f (apply_swaps zs moves) p.0 p.1 ∙ ap (λ l. swap l p.0 p.1) (map_swaps f zs moves)

record Reordered {A B : Type 0} (R : A → B → Type 0) (xs : List A) (ys : List B) : Type 0 where
  pub list : List A
  pub permuted : IsPermutation xs list
  pub pairs : EachPair R list ys

reordered : {A B : Type 0} (R : A → B → Type 0) (xs : List A) (ys ys' : List B) → EachPair R xs ys → IsPermutation ys ys' → Reordered R xs ys'
reordered R xs ys ys' h p =
    let zs = paired R xs ys h in
    let firsts = map_swaps (λ z. z.first) zs.0 p.moves in
    let seconds = map_swaps (λ z. z.second) zs.0 p.moves in
    let second_is : map (λ z. z.second) (apply_swaps zs.0 p.moves) ≡ ys' = seconds ∙ ap (λ l. apply_swaps l p.moves) zs.2 ∙ sym p.is in
    record {
      list = map (λ z. z.first) (apply_swaps zs.0 p.moves);
      permuted = record { moves = p.moves; below = subst (λ n. SwapsInRange n p.moves) (AllZip-long R xs ys h) p.below; is = firsts ∙ ap (λ l. apply_swaps l p.moves) zs.1 };
      pairs = subst (EachPair R (map (λ z. z.first) (apply_swaps zs.0 p.moves))) second_is (pairs_fit R (apply_swaps zs.0 p.moves));
    }

-- ---- Execs stay apart in another order

abbrev weigh : Bool → Bool → Bool → ℕ
weigh from to port = if from && (to && port) then 1 else 0

weight : ExecAt → ExecAt → ℕ
weight a b = weigh (a.from == b.from) (a.to == b.to) (a.port == b.port)

weight_one : (a b : ExecAt) → a.from ≡ b.from → a.to ≡ b.to → a.port ≡ b.port → weight a b ≡ 1
unfolding weight
weight_one a b f t p =
    let x : (a.from == b.from) ≡ true = grind (arith, nat_tests, f) in
    let y : (a.to == b.to) ≡ true = grind (arith, nat_tests, t) in
    let z : (a.port == b.port) ≡ true = grind (arith, nat_tests, p) in
    rw (x, y, z) refl

weight_none : (a b : ExecAt) → IsApart a b → weight a b ≡ 0
unfolding weight
weight_none a b apart = by_from (a.from == b.from) refl (a.to == b.to) refl (a.port == b.port) refl
  where
    by_from : (x : Bool) → (a.from == b.from) ≡ x → (y : Bool) → (a.to == b.to) ≡ y → (z : Bool) → (a.port == b.port) ≡ z → weigh x y z ≡ 0
    by_from true f true t true p = absurd (apart (let e : a.from ≡ b.from = grind (arith, nat_tests, f) in e) (let e : a.to ≡ b.to = grind (arith, nat_tests, t) in e) (let e : a.port ≡ b.port = grind (arith, nat_tests, p) in e))
    by_from true f true t false p = refl
    by_from true f false t z p = refl
    by_from false f y t z p = refl

weight_small : (a b : ExecAt) → weight a b ≤ 1
unfolding weight
weight_small a b = by_test (a.from == b.from) (a.to == b.to) (a.port == b.port)
  where
    by_test : (x y z : Bool) → weigh x y z ≤ 1
    by_test true true true = omega arith
    by_test true true false = omega arith
    by_test true false z = omega arith
    by_test false y z = omega arith

-- no Exec is there twice
weights_few : (xs : List ExecAt) → OrderedBy IsApart xs → (a : ExecAt) → tally (weight a) xs ≤ 1
weights_few [] apart a = omega arith
weights_few (x ∷ xs) apart a = by_test (a.from == x.from) refl (a.to == x.to) refl (a.port == x.port) refl (weights_few xs apart.1 a)
  where
    none_after : (ys : List ExecAt) → Each (IsApart x) ys → a.from ≡ x.from → a.to ≡ x.to → a.port ≡ x.port → tally (weight a) ys ≡ 0
    none_after [] each f t p = refl
    none_after (y ∷ ys) each f t p =
        let first = weight_none a y (λ f' t' p'. each.0 (sym f ∙ f') (sym t ∙ t') (sym p ∙ p')) in
        let more = none_after ys each.1 f t p in
        omega (arith, first, more)

    other : IsApart a x → tally (weight a) xs ≤ 1 → tally (weight a) (x ∷ xs) ≤ 1
    other apart' more = let none = weight_none a x apart' in omega (arith, none, more)

    same : a.from ≡ x.from → a.to ≡ x.to → a.port ≡ x.port → tally (weight a) (x ∷ xs) ≤ 1
    same f t p = let none = none_after xs apart.0 f t p in let small = weight_small a x in omega (arith, none, small)

    by_test : (u : Bool) → (a.from == x.from) ≡ u → (v : Bool) → (a.to == x.to) ≡ v → (w : Bool) → (a.port == x.port) ≡ w → tally (weight a) xs ≤ 1 → tally (weight a) (x ∷ xs) ≤ 1
    by_test true f true t true p more = same (let e : a.from ≡ x.from = grind (arith, nat_tests, f) in e) (let e : a.to ≡ x.to = grind (arith, nat_tests, t) in e) (let e : a.port ≡ x.port = grind (arith, nat_tests, p) in e)
    by_test true f true t false p more = other (λ f' t' p'. (let e : (a.port == x.port) ≡ true = grind (arith, nat_tests, p') in let both : false ≡ true = sym p ∙ e in cc)) more
    by_test true f false t w p more = other (λ f' t' p'. (let e : (a.to == x.to) ≡ true = grind (arith, nat_tests, t') in let both : false ≡ true = sym t ∙ e in cc)) more
    by_test false f v t w p more = other (λ f' t' p'. (let e : (a.from == x.from) ≡ true = grind (arith, nat_tests, f') in let both : false ≡ true = sym f ∙ e in cc)) more

apart_by_weights : (xs : List ExecAt) → ((a : ExecAt) → tally (weight a) xs ≤ 1) → OrderedBy IsApart xs
apart_by_weights [] few = tt
apart_by_weights (x ∷ xs) few = (each_apart xs (tally_none (weight x) xs none), apart_by_weights xs (λ a. omega (arith, few a)))
  where
    none : tally (weight x) xs ≡ 0
    none = let one = weight_one x x refl refl refl in let all = few x in omega (arith, one, all)

    each_apart : (ys : List ExecAt) → Each (λ y. weight x y ≡ 0) ys → Each (IsApart x) ys
    each_apart [] each = tt
    each_apart (y ∷ ys) each = ((λ f t p. absurd (omega (arith, each.0, weight_one x y f t p))), each_apart ys each.1)

-- ---- the whole

in_order : (s : Scenario) (run : Run) (xs : List ExecAt) (ys : List HostileSession) → EachPair (Matches s run) xs ys → OrderedBy IsApart xs → OrderedBy (λ a b. stands_before b a ≡ false) ys → OrderedBy IsBefore xs
in_order s run [] ys h apart order' = tt
in_order s run (x ∷ xs) [] h apart order' = absurd h
in_order s run (x ∷ xs) (y ∷ ys) h apart order' = (each_after xs ys h.1 apart.0 order'.0, in_order s run xs ys h.1 apart.1 order'.1)
  where
    same_test : (a : ExecAt) (b : HostileSession) → Matches s run a b → stands_before b y ≡ comes_before a x
    same_test a b m = let f = m.from in let t = m.to in let p = m.port in let f0 = h.0.from in let t0 = h.0.to in let p0 = h.0.port in rw (f, t, p, f0, t0, p0) refl

    one_after : (a : ExecAt) (b : HostileSession) → Matches s run a b → IsApart x a → stands_before b y ≡ false → IsBefore x a
    one_after a b m apart' not_before = by_order (total x a apart')
      where
        by_order : IsBefore x a ⊎ IsBefore a x → IsBefore x a
        by_order (inl before) = before
        by_order (inr after) = let both : false ≡ true = sym not_before ∙ same_test a b m ∙ back a x after in cc

    each_after : (rest : List ExecAt) (bs : List HostileSession) → EachPair (Matches s run) rest bs → Each (IsApart x) rest → Each (λ b. stands_before b y ≡ false) bs → Each (IsBefore x) rest
    each_after [] bs m apart' order'' = tt
    each_after (a ∷ rest) [] m apart' order'' = absurd m
    each_after (a ∷ rest) (b ∷ bs) m apart' order'' = (one_after a b m.0 apart'.0 order''.0, each_after rest bs m.1 apart'.1 order''.1)

served_of : (s : Scenario) (run : Run) (served : List ServedLine) (xs : List ExecAt) (ys : List HostileSession) → EachPair (Matches s run) xs ys
    → EachPair (IsServed s (report_of s run served)) xs (map (session_line s) ys)
served_of s run served [] [] h = tt
served_of s run served [] (y ∷ ys) h = absurd h
served_of s run served (x ∷ xs) [] h = absurd h
served_of s run served (x ∷ xs) (y ∷ ys) h = (h.0.stands served, served_of s run served xs ys h.1)

pub sorted_sessions_are_lawful : SortedSessionsAreLawful
sorted_sessions_are_lawful s run h sorted permuted order' =
    let served : List ServedLine = map (session_line s) sorted in
    let by_domain = execs_by_domain s run (map (session_line s) sorted) in
    let matches = all_matched s run h (all_domains s) (λ d there. number_there s d there) in
    let re = reordered (Matches s run) (flat_map (λ d. execs_at s run (Control d)) (all_domains s)) (hostile_sessions s run) sorted matches permuted in
    let from_execs : IsPermutation (hostile_execs s (report_of s run (map (session_line s) sorted))) re.list = subst (λ l. IsPermutation l re.list) (sym by_domain) re.permuted in
    let apart : OrderedBy IsApart (hostile_execs s (report_of s run (map (session_line s) sorted))) = subst (OrderedBy IsApart) (execs_by_domain s run [] ∙ sym by_domain) (execs_apart s run h) in
    let apart' : OrderedBy IsApart re.list = apart_by_weights re.list (λ a. omega (arith, weights_few _ apart a, tally_permuted (weight a) _ re.list from_execs)) in
    let before = in_order s run re.list sorted re.pairs apart' (ordered_from (λ a b. stands_before b a ≡ false) sorted order') in
    lawful_with_served s run h (map (session_line s) sorted) re.list (IsPermutation-sym _ _ from_execs) (all_pairs (λ a b. comes_before a b ≡ true) re.list (tests_of re.list before))
    (served_of s run (map (session_line s) sorted) re.list sorted re.pairs)
