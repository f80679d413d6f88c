-- From what the tasks of a scenario answer to its lawful report.
use Rattle.std.proofs.Common.{◌≡◌, ℕ, zero, suc, ◌+◌, List, [], ◌∷◌, ◌++◌, Vec, map, length, take, refl, ap, sym, ◌∙◌, subst, arith, Some, None}
use Rattle.std.specs.Prelude.{false, slice_get, AllPairs, IsPermutation}
use Rattle.std.specs.Global.{Global}
use Rattle.std.specs.List.{AllByRecursion as Each}
use Rattle.std.proofs.lemmas.Simd.{map-map}
use Rattle.list_laws.proofs.Each.{each_through}
use Rattle.scenario_file.specs.Scenario.{Plan as Scenario, IsScenario}
use Rattle.task_duties.specs.declared.ends.RetiredEnd.{RetiredEnd}
use Rattle.task_duties.specs.declared.done.ServedDone.{ServedDone}
use Rattle.task_duties.specs.GivenEnds.{all_retired}
use Rattle.task_duties.specs.TaskOwes.{IsReport, TaskDone as Answer}
use Rattle.domain_task.specs.declared.done.TaskDone.{TaskDone}
use Rattle.domain_task.specs.Owes.{answer_of}
use Rattle.run_laws.specs.declared.report.CallLine.{CallLine}
use Rattle.run_laws.specs.declared.report.ServedLine.{ServedLine}
use Rattle.run_laws.specs.HostileSessions.{HostileSession, hostile_sessions, session_line, stands_before}
use Rattle.run_laws.specs.Lawful.{IsLawful}
use Rattle.run_laws.specs.ReadOff.{line_read}
use Rattle.run_laws.specs.Report.{SettledPage}
use Rattle.run_laws.specs.Results.{AreResults, ends_of, run_of}
use Rattle.run_laws.specs.Run.{Run}
use Rattle.run_laws.proofs.Runs.ResultLaws.{results_are_lawful}
use Rattle.run_pages.specs.Pages.{AreLaid, PageAt}
use Rattle.run_pages.specs.Settling.{AreSettledBy, HandsBack}
use Rattle.scenario_run.specs.Answering.{AreAnswers}
use Rattle.scenario_run.specs.Lines.{HasReports}
use Rattle.scenario_run.specs.Parts.{ReportPart, report_of}
use Rattle.scenario_run.specs.Sessions.{HaveServed}
use Rattle.scenario_run.proofs.AnswerLaws.{are_results, ends_back}
use Rattle.scenario_run.proofs.ReportLaws.{has_reports, have_served}

abbrev pub Ends : Type 0
Ends = List (Vec RetiredEnd Global)

-- what take_apart gave
pub record AreApart (dones : List TaskDone) (ends : Ends) (reports : List ReportPart) : Type 0 where
  pub ends_are : map (λ h. all_retired h.items) ends ≡ map (λ done. ends_of (answer_of done)) dones
  pub reports_are : reports ≡ map (λ done. report_of (answer_of done)) dones
  pub done : Each (λ (done : TaskDone). IsReport (answer_of done)) dones

pub back : (s : Scenario) (pages : List PageAt) (dones : List TaskDone) (ends : Ends) (reports : List ReportPart) → AreAnswers s pages (map answer_of dones) → AreApart dones ends reports
    → HandsBack pages (map (λ h. all_retired h.items) ends)
back s pages dones ends reports are apart =
    subst (HandsBack pages) (sym (apart.ends_are ∙ sym (map-map ends_of answer_of dones))) (ends_back s pages (map answer_of dones) are)

pub results : (s : Scenario) (pages : List PageAt) (dones : List TaskDone) (ends : Ends) (reports : List ReportPart) (settled : List SettledPage) → IsScenario s → AreLaid s pages
    → AreAnswers s pages (map answer_of dones) → AreApart dones ends reports → AreSettledBy s pages (map (λ h. all_retired h.items) ends) settled → AreResults s (map answer_of dones) settled
results s pages dones ends reports settled scenario laid are apart by =
    are_results s pages (map answer_of dones) settled scenario laid are (each_through IsReport answer_of dones apart.done)
    (subst (λ hands. AreSettledBy s pages hands settled) (apart.ends_are ∙ sym (map-map ends_of answer_of dones)) by)

pub reported : (s : Scenario) (pages : List PageAt) (dones : List TaskDone) (ends : Ends) (reports : List ReportPart) (settled : List SettledPage) → AreAnswers s pages (map answer_of dones) → AreApart dones ends reports
    → AreResults s (map answer_of dones) settled → HasReports s (run_of s (map answer_of dones)) s.calls reports
reported s pages dones ends reports settled are apart is =
    subst (HasReports s (run_of s (map answer_of dones)) s.calls) (sym (apart.reports_are ∙ sym (map-map report_of answer_of dones))) (has_reports s (map answer_of dones) settled is are.count)

-- ---- what was served stays while only calls are taken

get_served : (reports : List ReportPart) (d : ℕ) (part : ReportPart) → slice_get reports d ≡ Some part → slice_get (map (λ r. r.served) reports) d ≡ Some part.served
get_served [] d part is = absurd (let e : None ≡ Some part = is in cc)
get_served (r ∷ reports) zero part is = (let e : r ≡ part = (let k : Some r ≡ Some part = is in cc) in ap (λ (x : ReportPart). Some x.served) e)
get_served (r ∷ reports) (suc d) part is = get_served reports d part is

from_served : (reports : List ReportPart) (d : ℕ) (served : List ServedDone) → slice_get (map (λ r. r.served) reports) d ≡ Some served → (part : ReportPart) × (slice_get reports d ≡ Some part) × (part.served ≡ served)
from_served [] d served is = absurd (let e : None ≡ Some served = is in cc)
from_served (r ∷ reports) zero served is = (r, refl, (let e : Some r.served ≡ Some served = is in cc))
from_served (r ∷ reports) (suc d) served is = from_served reports d served is

pub served_same : (run : Run) (old new : List ReportPart) → map (λ r. r.served) new ≡ map (λ r. r.served) old → HaveServed run old → HaveServed run new
served_same run old new same have = record {
  each = λ d part is. (let p = from_served old d part.served (ap (λ l. slice_get l d) (sym same) ∙ get_served new d part is) in sym p.2 ∙ have.each d p.0 p.1);
  broker = have.broker;
}

pub all_served : (s : Scenario) (dones : List TaskDone) (ends : Ends) (reports new : List ReportPart) (settled : List SettledPage) → AreApart dones ends reports → AreResults s (map answer_of dones) settled
    → map (λ r. r.served) new ≡ map (λ r. r.served) reports → HaveServed (run_of s (map answer_of dones)) new
all_served s dones ends reports new settled apart is same =
    served_same (run_of s (map answer_of dones)) reports new same
    (subst (HaveServed (run_of s (map answer_of dones))) (sym (apart.reports_are ∙ sym (map-map report_of answer_of dones))) (have_served s (map answer_of dones) settled is))

-- ---- a list that was changed in place

pub take_front : {A : Type 0} (n : ℕ) (xs ys : List A) → length xs ≡ n → take n (xs ++ ys) ≡ xs
take_front zero [] ys is = refl
take_front (suc n) (x ∷ xs) ys is = ap (λ l. x ∷ l) (take_front n xs ys (omega (arith, is)))
take_front _ _ ys is = absurd (omega (arith, is))

-- ---- the report

-- the lines of sessions, sorted
pub record AreSorted (s : Scenario) (run : Run) (served : List ServedLine) : Type 0 where
  pub sorted : List HostileSession
  pub all : IsPermutation (hostile_sessions s run) sorted
  pub ordered : AllPairs (λ a b. stands_before b a ≡ false) sorted
  pub lines : served ≡ map (session_line s) sorted

pub lawful : (s : Scenario) (dones : List Answer) (settled : List SettledPage) (calls : List CallLine) (served : List ServedLine) → AreResults s dones settled
    → calls ≡ map (line_read s (run_of s dones)) s.calls → AreSorted s (run_of s dones) served → IsLawful s (record { calls = calls; served = served; pages = settled })
lawful s dones settled calls served is lines sessions =
    subst (λ l. IsLawful s (record { calls = l; served = served; pages = settled })) (sym lines)
    (subst (λ l. IsLawful s (record { calls = map (line_read s (run_of s dones)) s.calls; served = l; pages = settled })) (sym sessions.lines)
    (results_are_lawful s dones settled is sessions.sorted sessions.all sessions.ordered))
