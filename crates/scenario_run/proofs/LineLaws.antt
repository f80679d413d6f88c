-- The lines of the calls, one more at a time.
use Rattle.std.proofs.Common.{◌≡◌, ◌⊎◌, inl, inr, ℕ, zero, suc, ◌+◌, ◌<◌, ◌≤◌, List, [], ◌∷◌, length, set, drop, take, get_or, refl, ap, sym, ◌∙◌, subst, arith, Some, None}
use Rattle.std.specs.Prelude.{◌==◌, Bool, true, false, filter, slice_get}
use Rattle.std.proofs.lemmas.Bool.{ne_eqb}
use Rattle.std.proofs.lemmas.Bool.Decides.{nat_tests}
use Rattle.std.proofs.lemmas.Option.{slice_get_read}
use Rattle.std.specs.List.{AllZip as EachPair}
use Rattle.list_laws.proofs.Places.{get_set}
use Rattle.scenario_file.specs.Scenario.{Plan as Scenario, IsScenario}
use Rattle.scenario_file.specs.declared.scenario.CallPlan.{CallPlan}
use Rattle.task_duties.specs.declared.done.CallDone.{CallDone}
use Rattle.task_duties.proofs.Elements.{Has, each_at}
use Rattle.run_laws.specs.Run.{Run}
use Rattle.run_laws.proofs.Scenarios.Facts.{IsCall, clean_scenario}
use Rattle.run_laws.proofs.Scenarios.Numbers.{domain_is}
use Rattle.scenario_run.specs.Parts.{ReportPart}
use Rattle.scenario_run.specs.Lines.{HasReports, IsEndOf}

-- ---- lists by a place

pub drop_at : {A : Type 0} (xs : List A) (k : ℕ) (x : A) → slice_get xs k ≡ Some x → drop k xs ≡ x ∷ drop (k + 1) xs
drop_at [] k x is = absurd (let e : None ≡ Some x = is in cc)
drop_at (y ∷ xs) zero x is = ap (λ z. z ∷ xs) (let e : Some y ≡ Some x = is in cc)
drop_at (y ∷ xs) (suc k) x is = (let e : suc k + 1 ≡ suc (k + 1) = omega arith in subst (λ n. drop k xs ≡ x ∷ drop n (y ∷ xs)) (sym e) (drop_at xs k x is))

pub one_there : {A : Type 0} (xs : List A) (k : ℕ) (x y : A) → slice_get xs k ≡ Some x → slice_get xs k ≡ Some y → x ≡ y
one_there xs k x y a b = let e : Some x ≡ Some y = sym a ∙ b in cc

has_at : (calls : List CallPlan) (k : ℕ) (call : CallPlan) → slice_get calls k ≡ Some call → Has calls call
has_at [] k call is = absurd (let e : None ≡ Some call = is in cc)
has_at (c ∷ calls) zero call is = inl (let e : Some c ≡ Some call = is in cc)
has_at (c ∷ calls) (suc k) call is = inr (has_at calls k call is)

-- the caller of a call has a report
pub call_within : (s : Scenario) → IsScenario s → (k : ℕ) (call : CallPlan) → slice_get s.calls k ≡ Some call → call.from < length s.domains + 1
call_within s is k call at =
    let fits = each_at (IsCall s) s.calls call (clean_scenario s is).calls (has_at s.calls k call at) in
    let within = domain_is s call.from fits.from_some in omega (arith, within)

-- the call at an index, and the report of its caller
pub report_at : (s : Scenario) → IsScenario s → (items : List CallPlan) → items ≡ s.calls → (k : ℕ) (call : CallPlan) → k < length items → call ≡ get_or items k call → (reports : List ReportPart) (part : ReportPart)
    → length reports ≡ length s.domains + 1 → part ≡ get_or reports call.from part → (slice_get s.calls k ≡ Some call) × (slice_get reports call.from ≡ Some part)
report_at s is items items_are k call within item reports part count read = (here, slice_get_read reports (length reports) call.from part refl inside read)
  where
    here : slice_get s.calls k ≡ Some call
    here = slice_get_read s.calls (length s.calls) k call refl (let e = ap length items_are in omega (arith, within, e)) (item ∙ ap (λ l. get_or l k call) items_are)

    inside : call.from < length reports
    inside = let w = call_within s is k call here in omega (arith, w, count)

-- ---- the calls that are left

-- the caller of the next call reports it first
pub record IsNext (run : Run) (call : CallPlan) (calls : List CallDone) : Type 0 where
  pub first : CallDone
  pub rest : List CallDone
  pub is : calls ≡ first ∷ rest
  pub end : IsEndOf run call first

first_of : (run : Run) (call : CallPlan) (calls : List CallPlan) (done : List CallDone) → EachPair (IsEndOf run) (call ∷ calls) done → IsNext run call done
first_of run call calls [] each = absurd each
first_of run call calls (d ∷ done) each = record { first = d; rest = done; is = refl; end = each.0 }

own_first : (call : CallPlan) (calls : List CallPlan) → filter (λ c. c.from == call.from) (call ∷ calls) ≡ call ∷ filter (λ c. c.from == call.from) calls
own_first call calls = let same : (call.from == call.from) ≡ true = grind (arith, nat_tests) in rw same refl

pub next_is : (s : Scenario) (run : Run) (call : CallPlan) (calls : List CallPlan) (reports : List ReportPart) (part : ReportPart) → HasReports s run (call ∷ calls) reports → slice_get reports call.from ≡ Some part → IsNext run call part.calls
next_is s run call calls reports part has at =
    first_of run call (filter (λ c. c.from == call.from) calls) part.calls (subst (λ xs. EachPair (IsEndOf run) xs part.calls) (own_first call calls) (has.each call.from part at))

other_calls : (call : CallPlan) (calls : List CallPlan) (d : ℕ) → (call.from == d) ≡ false → filter (λ c. c.from == d) (call ∷ calls) ≡ filter (λ c. c.from == d) calls
other_calls call calls d other = rw other refl

pair_rest : (run : Run) (call : CallPlan) (calls : List CallPlan) (d : CallDone) (done : List CallDone) → EachPair (IsEndOf run) (call ∷ calls) (d ∷ done) → EachPair (IsEndOf run) calls done
pair_rest run call calls d done each = each.1

-- what holds of the first element still does after one element is replaced by another of which it holds as well
first_journal : (P : ReportPart → Type 0) (xs : List ReportPart) (k : ℕ) (x y : ReportPart) → slice_get xs k ≡ Some x → (P x → P y) → (p : ReportPart) × (slice_get xs 0 ≡ Some p) × P p
    → (p : ReportPart) × (slice_get (set xs k y) 0 ≡ Some p) × P p
first_journal P [] k x y at keeps first = absurd (let e : None ≡ Some x = at in cc)
first_journal P (z ∷ xs) zero x y at keeps first = (y, refl, keeps (subst P (let a : Some z ≡ Some first.0 = first.1 in let b : Some z ≡ Some x = at in cc) first.2))
first_journal P (z ∷ xs) (suc k) x y at keeps first = first

-- after it is taken, the others are still reported
pub reports_on : (s : Scenario) (run : Run) (call : CallPlan) (calls : List CallPlan) (reports : List ReportPart) (part part' : ReportPart) (done : CallDone) → HasReports s run (call ∷ calls) reports
    → slice_get reports call.from ≡ Some part → part.calls ≡ done ∷ part'.calls → part'.journal ≡ part.journal → HasReports s run calls (set reports call.from part')
reports_on s run call calls reports part part' done has at taken journal = record {
  journal = first_journal (λ p. p.journal ≡ run.journal) reports call.from part part' at (λ is. journal ∙ is) has.journal;
  each = λ d p is. by d p (get_set reports call.from d part' p is);
}
  where
    by : (d : ℕ) (p : ReportPart) → ((d ≡ call.from) × (part' ≡ p)) ⊎ ((d ≡ call.from → ⊥) × (slice_get reports d ≡ Some p)) → EachPair (IsEndOf run) (filter (λ c. c.from == d) calls) p.calls
    by d p (inl here) =
        let own = subst (λ xs. EachPair (IsEndOf run) xs part.calls) (own_first call calls) (has.each call.from part at) in
        let rest = pair_rest run call (filter (λ c. c.from == call.from) calls) done part'.calls (subst (EachPair (IsEndOf run) (call ∷ filter (λ c. c.from == call.from) calls)) taken own) in
        subst (λ x. EachPair (IsEndOf run) (filter (λ c. c.from == d) calls) x.calls) here.1 (subst (λ n. EachPair (IsEndOf run) (filter (λ c. c.from == n) calls) part'.calls) (sym here.0) rest)
    by d p (inr there) =
        let other : (call.from == d) ≡ false = ne_eqb call.from d (λ e. there.0 (sym e)) in
        subst (λ xs. EachPair (IsEndOf run) xs p.calls) (other_calls call calls d other) (has.each d p there.1)
