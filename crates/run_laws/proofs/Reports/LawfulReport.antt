-- A run has a lawful report: that which is read off it, with a line for each Exec that an honest domain heard from a hostile one.
use Rattle.std.proofs.Common.{◌≡◌, ◌≢◌, ℕ, ◌+◌, ◌<◌, suc, zero, List, [], ◌∷◌, ◌++◌, length, map, refl, ap, sym, ◌∙◌, arith, ◌⊎◌, inl, inr, Option, Some, None, subst}
use Rattle.std.specs.Prelude.{true, false, Bool, filter_map, if◌then◌else◌}
use Rattle.std.specs.List.{flat_map, AllByRecursion as Each, AllZip as EachPair}
use Rattle.std.proofs.lemmas.List.Sorted.{Contains-permutation}
use Rattle.qrexec_frame.specs.declared.message.Message.{Message}
use Rattle.scenario_file.specs.Scenario.{Plan as Scenario, hostile_at, version_at}
use Rattle.task_duties.specs.declared.place.PagePlace.{PagePlace}
use Rattle.task_duties.specs.declared.place.PagePlace.TheVariants.{Control, Payload}
use Rattle.task_duties.specs.Places.{numbers}
use Rattle.task_duties.specs.Hearing.{to_agent}
use Rattle.task_duties.proofs.Elements.{Has, has_from, contains_from, has_append, has_flat_map, has_filter_map, has_map, each_at, each_of}
use Rattle.task_duties.proofs.ServedLaw.{names, AreApart}
use Rattle.run_laws.specs.Laid.{all_domains, laid_between, ports_between, laid}
use Rattle.run_laws.specs.declared.report.ServedLine.{ServedLine}
use Rattle.run_laws.specs.Lawful.{ExecAt, exec_at, execs_on, hostile_execs, control_messages, comes_before, IsServed}
use Rattle.run_laws.specs.Run.{Run, IsRun, IsHonest, IsPlace}
use Rattle.run_laws.specs.Laws.{agent_heard}
use Rattle.run_laws.specs.ReadOff.{page_read, report_of, HasLawfulReport}
use Rattle.run_laws.proofs.Scenarios.Calls.{OrderedBy}
use Rattle.run_laws.proofs.Domains.ControlLaws.{control_bytes}
use Rattle.run_laws.proofs.Domains.ControlMessages.{Greeted, Silent, Spoken, greeted}
use Rattle.run_laws.proofs.Reports.ExecOrder.{IsApart, sorted, all_pairs, tests_of}
use Rattle.run_laws.proofs.Reports.HostileServed.{Serves, each_served, IsExecOf, exec_view}
use Rattle.run_laws.proofs.Domains.Planned.{heard_apart}
use Rattle.run_laws.proofs.Reports.WholeReport.{laid_place, lawful_with_served}

-- ---- a relation over lists put together

ordered_append : {A : Type 0} (R : A → A → Type 0) (xs ys : List A) → OrderedBy R xs → OrderedBy R ys → ((x y : A) → Has xs x → Has ys y → R x y) → OrderedBy R (xs ++ ys)
ordered_append R [] ys a b across = b
ordered_append {A} R (x ∷ xs) ys a b across =
    (each_of (R x) (xs ++ ys) (λ y there. by_part y (has_append xs ys y there)), ordered_append R xs ys a.1 b (λ z y hz hy. across z y (inr hz) hy))
  where
    by_part : (y : A) → Has xs y ⊎ Has ys y → R x y
    by_part y (inl k) = each_at (R x) xs y a.0 k
    by_part y (inr k) = across x y (inl refl) k

ordered_flat : {A B : Type 0} (R : B → B → Type 0) (g : A → List B) (ps : List A) → Each (λ p. OrderedBy R (g p)) ps → OrderedBy (λ p q. (x y : B) → Has (g p) x → Has (g q) y → R x y) ps → OrderedBy R (flat_map g ps)
ordered_flat R g [] each apart = tt
ordered_flat {A} {B} R g (p ∷ ps) each apart =
    ordered_append R (g p) (flat_map g ps) each.0 (ordered_flat R g ps each.1 apart.1) (λ x y hx hy.
    let c = has_flat_map g ps y hy in
    each_at (λ q. (x' y' : B) → Has (g p) x' → Has (g q) y' → R x' y') ps c.one apart.0 c.there x y hx c.is)

ordered_each : {A : Type 0} (R : A → A → Type 0) (xs : List A) → Each (λ x. (y : A) → R x y) xs → OrderedBy R xs
ordered_each R [] each = tt
ordered_each R (x ∷ xs) each = (each_of (R x) xs (λ y there. each.0 y), ordered_each R xs each.1)

-- ---- Execs on one control page

other_exec : (d from port : ℕ) (y : Message) (b : ExecAt) → IsExecOf d y b → names d y ≢ Some (Payload from d port) → (a : ExecAt) → a.from ≡ from → a.port ≡ port → IsApart a b
other_exec d from port y b v other a a_from a_port = λ f t p.
    let from_is : v.from ≡ from = ap (λ e. e.from) v.exec ∙ sym f ∙ a_from in
    let port_is : v.port ≡ port = ap (λ e. e.port) v.exec ∙ sym p ∙ a_port in
    let named : names d y ≡ Some (Payload v.from d v.port) = ap (names d) v.message in
    other (named ∙ ap (λ q. Some (Payload q d v.port)) from_is ∙ ap (λ q. Some (Payload from d q)) port_is)

heard_ordered : (s : Scenario) (d : ℕ) (heard : List Message) → AreApart d heard → OrderedBy IsApart (filter_map (exec_at s d) heard)
heard_ordered s d [] apart = tt
heard_ordered s d (x ∷ heard) apart = by_option (exec_at s d x) refl (heard_ordered s d heard apart.1)
  where
    first : (a : ExecAt) → exec_at s d x ≡ Some a → Each (IsApart a) (filter_map (exec_at s d) heard)
    first a is =
        let v = exec_view s d x a is in
        let named : names d x ≡ Some (Payload v.from d v.port) = ap (names d) v.message in
        let others = apart.0 (Payload v.from d v.port) named in
        each_of (IsApart a) (filter_map (exec_at s d) heard) (λ b there.
        let c = has_filter_map (exec_at s d) heard b there in
        let w = exec_view s d c.one b c.is in
        let other = each_at (λ n. names d n ≢ Some (Payload v.from d v.port)) heard c.one others c.there in
        other_exec d v.from v.port c.one b w other a (sym (ap (λ e. e.from) v.exec)) (sym (ap (λ e. e.port) v.exec)))

    by_option : (o : Option ExecAt) → exec_at s d x ≡ o → OrderedBy IsApart (filter_map (exec_at s d) heard) → OrderedBy IsApart (filter_map (exec_at s d) (x ∷ heard))
    by_option None is more = rw is more
    by_option (Some a) is more = rw is (first a is, more)

all_ordered : (s : Scenario) (d : ℕ) (all heard : List Message) → Greeted all heard → AreApart d heard → OrderedBy IsApart (filter_map (exec_at s d) all)
all_ordered s d all heard (Silent a b) apart = subst (λ l. OrderedBy IsApart (filter_map (exec_at s d) l)) (sym a) tt
all_ordered s d all heard (Spoken v a) apart = subst (λ l. OrderedBy IsApart (filter_map (exec_at s d) l)) (sym a) (heard_ordered s d heard apart)

-- ---- Execs of all pages

abbrev pub execs_at : Scenario → Run → PagePlace → List ExecAt
execs_at s run place = execs_on s place (run.page place)

pub execs_same : (s : Scenario) (run : Run) (places : List PagePlace) → flat_map (execs_at s run) places ≡ flat_map (λ p. execs_on s p.place p.settled) (map (page_read run) places)
execs_same s run [] = refl
execs_same s run (p ∷ places) = ap (λ r. execs_at s run p ++ r) (execs_same s run places)

page_ordered : (s : Scenario) (run : Run) (h : IsRun s run) (place : PagePlace) → IsPlace s place → OrderedBy IsApart (execs_at s run place)
page_ordered s run h (Control d) there = by_test (hostile_at s d) refl
  where
    by_test : (b : Bool) → hostile_at s d ≡ b → OrderedBy IsApart (if b then [] else filter_map (exec_at s d) (control_messages (run.page (Control d)).server.got))
    by_test true is = tt
    by_test false is =
        let honest : IsHonest s d = record { there = there; honest = is } in
        all_ordered s d (control_messages (run.page (Control d)).server.got) (agent_heard s run d)
        (greeted (version_at s d) to_agent (run.page (Control d)).server.got (control_bytes s run h d honest).left) (heard_apart s run h d honest)
page_ordered s run h (Payload f t port) there = tt

exec_if_to : (s : Scenario) (d : ℕ) (all : List Message) (x : ExecAt) (b : Bool) → Has (if b then [] else filter_map (exec_at s d) all) x → x.to ≡ d
exec_if_to s d all x true k = absurd k
exec_if_to s d all x false k =
    let c = has_filter_map (exec_at s d) all x k in
    let v = exec_view s d c.one x c.is in
    sym (ap (λ e. e.to) v.exec)

exec_to : (s : Scenario) (run : Run) (d : ℕ) (x : ExecAt) → Has (execs_at s run (Control d)) x → x.to ≡ d
exec_to s run d x there = exec_if_to s d (control_messages (run.page (Control d)).server.got) x (hostile_at s d) there

abbrev AcrossPages : Scenario → Run → PagePlace → PagePlace → Type 0
AcrossPages s run p q = (x y : ExecAt) → Has (execs_at s run p) x → Has (execs_at s run q) y → IsApart x y

control_across : (s : Scenario) (run : Run) (a b : ℕ) → a ≢ b → AcrossPages s run (Control a) (Control b)
control_across s run a b apart x y hx hy = λ f t p. apart (sym (exec_to s run a x hx) ∙ t ∙ exec_to s run b y hy)

above : (s : Scenario) (run : Run) (low from count : ℕ) → low < from → Each (AcrossPages s run (Control low)) (map Control (numbers from 1 count))
above s run low from zero less = tt
above s run low from (suc count) less = (control_across s run low from (λ e. absurd (omega (arith, e, less))), above s run low (from + 1) count (omega (arith, less)))

controls_across : (s : Scenario) (run : Run) (from count : ℕ) → OrderedBy (AcrossPages s run) (map Control (numbers from 1 count))
controls_across s run from zero = tt
controls_across s run from (suc count) = (above s run from (from + 1) count (omega arith), controls_across s run (from + 1) count)

abbrev pub data_laid : Scenario → List PagePlace
data_laid s = flat_map (λ from. flat_map (laid_between s from) (all_domains s)) (all_domains s)

pub data_none : (s : Scenario) (run : Run) (place : PagePlace) → Has (data_laid s) place → execs_at s run place ≡ []
data_none s run place there =
    let a = has_flat_map (λ from. flat_map (laid_between s from) (all_domains s)) (all_domains s) place there in
    let b = has_flat_map (laid_between s a.one) (all_domains s) place a.is in
    let c = has_map (Payload a.one b.one) (ports_between s a.one b.one) place b.is in
    ap (execs_at s run) (sym c.is)

none_there : (s : Scenario) (run : Run) (place : PagePlace) (x : ExecAt) → execs_at s run place ≡ [] → Has (execs_at s run place) x → ⊥
none_there s run place x none there = subst (λ l. Has l x) none there

laid_across : (s : Scenario) (run : Run) → OrderedBy (AcrossPages s run) (laid s)
laid_across s run =
    ordered_append (AcrossPages s run) (map Control (all_domains s)) (data_laid s) (controls_across s run 1 (length s.domains))
    (ordered_each (AcrossPages s run) (data_laid s) (each_of (λ p. (q : PagePlace) → AcrossPages s run p q) (data_laid s) (λ p there q x y hx hy. absurd (none_there s run p x (data_none s run p there) hx))))
    (λ p q hp hq x y hx hy. absurd (none_there s run q y (data_none s run q hq) hy))

pub execs_apart : (s : Scenario) (run : Run) → IsRun s run → OrderedBy IsApart (hostile_execs s (report_of s run []))
execs_apart s run h =
    subst (λ l. OrderedBy IsApart l) (execs_same s run (laid s))
    (ordered_flat IsApart (execs_at s run) (laid s) (each_of (λ p. OrderedBy IsApart (execs_at s run p)) (laid s) (λ p there. page_ordered s run h p (laid_place s p there))) (laid_across s run))

-- ---- the lines of served sessions

pub record LinesFor (s : Scenario) (run : Run) (execs : List ExecAt) : Type 0 where
  pub lines : List ServedLine
  pub each : (served : List ServedLine) → EachPair (IsServed s (report_of s run served)) execs lines

lines_for : (s : Scenario) (run : Run) (execs : List ExecAt) → ((x : ExecAt) → Has execs x → Serves s run x) → LinesFor s run execs
lines_for s run [] go = record { lines = []; each = λ served. tt }
lines_for s run (x ∷ execs) go =
    let one = go x (inl refl) in
    let more = lines_for s run execs (λ y there. go y (inr there)) in
    record { lines = one.line ∷ more.lines; each = λ served. (one.is served, more.each served) }

-- ---- the whole

pub lawful_report : (s : Scenario) (run : Run) → IsRun s run → HasLawfulReport s run
lawful_report s run h =
    let all : List ExecAt = hostile_execs s (report_of s run []) in
    let so = sorted (hostile_execs s (report_of s run [])) (execs_apart s run h) in
    let ls = lines_for s run so.list (λ x there. each_served s run h x
    (has_from (hostile_execs s (report_of s run [])) x (Contains-permutation so.list (hostile_execs s (report_of s run [])) x so.permuted (contains_from so.list x there)))) in
    record {
      served = ls.lines;
      lawful = lawful_with_served s run h ls.lines so.list so.permuted (all_pairs (λ a b. comes_before a b ≡ true) so.list (tests_of so.list so.ordered)) (ls.each ls.lines);
    }
