-- The file as a whole: its checks one after another, and what is told of the first that fails.
use Rattle.std.proofs.Common.{◌≡◌, ℕ, List, sym, ◌∙◌, refl, Result, Ok, Err, false}
use Rattle.toml.specs.Data.{Members}
use Rattle.scenario_file.specs.declared.error.ScenarioError.{ScenarioError}
use Rattle.scenario_file.specs.declared.error.ScenarioError.TheVariants as whole
use Rattle.scenario_file.specs.declared.place.CheckError.{CheckError}
use Rattle.scenario_file.specs.declared.place.CheckError.TheVariants as part
use Rattle.scenario_file.specs.declared.place.Section.TheVariants.{Top}
use Rattle.scenario_file.specs.declared.scenario.Domain.{Domain}
use Rattle.scenario_file.specs.declared.scenario.CallPlan.{CallPlan}
use Rattle.scenario_file.specs.Checks.{Fault, key_list, known_keys}
use Rattle.scenario_file.specs.Readings.{IsFault, IsRefusal, Tells}
use Rattle.scenario_file.specs.Tables.{RingsRead, calls_of, document_of, domains_of, rings_of, scenario_in, scenario_of, within_totals, written_with}

-- what was read before the totals are checked
pub record IsReadBefore (top : Members) (rings : RingsRead) (domains : List Domain) (calls : List CallPlan) : Type 0 where
  pub keys : known_keys Top false (key_list top) ≡ Ok tt
  pub rings_read : rings_of top ≡ Ok rings
  pub domains_read : domains_of top ≡ Ok domains
  pub calls_read : calls_of domains top ≡ Ok calls

-- only the totals are left to check
pub totals_left : (top : Members) (rings : RingsRead) (domains : List Domain) (calls : List CallPlan) → IsReadBefore top rings domains calls → scenario_in top ≡ within_totals (written_with rings domains calls)
totals_left top rings domains calls is = rw (is.keys, is.rings_read, is.domains_read, is.calls_read) refl

-- totals that are refused
pub totals_refused : (top : Members) (rings : RingsRead) (domains : List Domain) (calls : List CallPlan) (e : CheckError) → IsReadBefore top rings domains calls
    → IsRefusal e (within_totals (written_with rings domains calls)) → IsRefusal e (scenario_in top)
totals_refused top rings domains calls e is h = rw (totals_left top rings domains calls is) h

-- the scenario that was read
pub totals_kept : (top : Members) (rings : RingsRead) (domains : List Domain) (calls : List CallPlan) → IsReadBefore top rings domains calls
    → within_totals (written_with rings domains calls) ≡ Ok (written_with rings domains calls) → scenario_in top ≡ Ok (written_with rings domains calls)
totals_kept top rings domains calls is h = totals_left top rings domains calls is ∙ h

-- the scenario of bytes that are a document, and of bytes that are none
pub scenario_where : (bytes : List ℕ) (ms : Members) → document_of bytes ≡ Ok ms → scenario_of bytes ≡ scenario_in ms
unfolding scenario_of
scenario_where bytes ms read = rw read refl

pub scenario_nowhere : (bytes : List ℕ) (fault : Fault) → document_of bytes ≡ Err fault → scenario_of bytes ≡ Err fault
unfolding scenario_of
scenario_nowhere bytes fault read = rw read refl

pub document_refused : (e : ScenarioError) (bytes : List ℕ) → IsFault e (document_of bytes) → IsFault e (scenario_of bytes)
document_refused (whole.Bad kind path) bytes h = scenario_nowhere bytes (kind, path) h
document_refused whole.Memory bytes h = tt

-- what is told is what was refused
pub told_refusal : {Y : Type 0} (e : ScenarioError) (refusal : CheckError) (due : Result Y Fault) → Tells e refusal → IsRefusal refusal due → IsFault e due
told_refusal (whole.Bad kind path) (part.Bad because place) due told h =
    let kinds = sym told.0 in
    let paths = sym told.1 in
    h ∙ (λ i. Err (kinds i, paths i))
told_refusal (whole.Bad kind path) part.Memory due told h = absurd told
told_refusal whole.Memory refusal due told h = tt
