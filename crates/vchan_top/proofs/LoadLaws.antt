-- The services and the names alone give the sums that `load` prints, whatever the order of all steps.
use Rattle.std.proofs.Common.{◌≡◌, ℕ, zero, suc, ◌≤◌, false, List, [], ◌∷◌, length, map, Option, Some, None, refl, ap, sym, subst, ◌∙◌}
use Rattle.std.specs.Prelude.{filter_map}
use Rattle.std.specs.List.{cons_option, zip, AllZip as EachPair}
use Rattle.std.specs.Option.{option_map_or}
use Rattle.std.proofs.lemmas.Bool.{false≢true}
use Rattle.std.proofs.lemmas.Slice.Zip.{AllZip-long}
use Rattle.ring_words.specs.declared.order.Orders.{Orders}
use Rattle.scenario_file.specs.declared.scenario.Domain.{Domain}
use Rattle.scenario_file.specs.declared.scenario.CallPlan.{CallPlan}
use Rattle.scenario_file.specs.Generator.{generated, generated_calls, generated_domain, generated_names}
use Rattle.scenario_file.specs.Lines.{calls_left, honest, lines_among}
use Rattle.scenario_file.specs.Scenario.{Plan as Scenario, Written, written, order_numbers, hostile_among, is_mixed, number_named, targets_hostile}
use Rattle.scenario_file.proofs.GeneratedLaws.{generated_is_scenario}
use Rattle.scenario_file.proofs.KeptLaws.{lines_stay}
use Rattle.run_laws.specs.declared.report.CallLine.{CallLine}
use Rattle.run_laws.specs.declared.report.CallResult.{CallResult}
use Rattle.run_laws.specs.declared.report.CallResult.TheVariants.{Done, Refused, Mixed}
use Rattle.run_laws.specs.Lawful.{IsLawful, CallStands, Ports, is_mixed_result}
use Rattle.run_laws.specs.Report.{Report, plain_line, plain_result}
use Rattle.run_report.specs.Summary.{DoneCall, done_at, done_calls, done_of, summary_of, sums_text, totals}
use Rattle.vchan_top.specs.Prints.{PrintsSums}
use Rattle.vchan_top.specs.Sums.{done_beside, sums_of}

-- ---- no generated domain is hostile

abbrev made_domains : List Domain
made_domains = map generated_domain generated_names

honest_number : (number : ℕ) → hostile_among made_domains number ≡ false
honest_number zero = refl
honest_number (suc zero) = refl
honest_number (suc (suc zero)) = refl
honest_number (suc (suc (suc zero))) = refl
honest_number (suc (suc (suc (suc zero)))) = refl
honest_number (suc (suc (suc (suc (suc number))))) = refl

honest_target : (to : Option ℕ) → option_map_or (hostile_among made_domains) to false ≡ false
honest_target None = refl
honest_target (Some number) = honest_number number

unmixed : (s : Scenario) → s.domains ≡ made_domains → (call : CallPlan) → is_mixed s call ≡ false
unmixed s made call = subst (λ (domains : List Domain). targets_hostile domains call ≡ false) (sym made) (honest_target (number_named made_domains call.to))

-- so its lines are those that are left without hostile domains
abbrev LinesStay : Written → Type 0
LinesStay w = lines_among (honest w.domain_list) (calls_left w.domain_list w.call_list) ≡ lines_among w.domain_list w.call_list

plan_of : Orders → ℕ → ℕ → Scenario
plan_of orders number calls = record { control = orders; payload = orders; start = 0; domains = made_domains; calls = generated_calls 1 number calls }

lines_are_all : (number calls : ℕ) (s : Scenario) → calls ≤ 2000 → written s ≡ generated number calls → LinesStay (written s)
unfolding plan_of
lines_are_all number calls s few made =
    let orders : order_numbers s.control ≡ (10, 11) = ap (λ (w : Written). w.control_orders) made in
    let fits = generated_is_scenario number calls s.control (ap (λ (p : ℕ × ℕ). p.0) orders) (ap (λ (p : ℕ × ℕ). p.1) orders) few in
    subst LinesStay (sym made) (lines_stay (plan_of s.control number calls) fits)

-- ---- a report without mixed lines has the sums of its plain lines

row_on : (call : CallPlan) (l : CallLine) (result : CallResult) (calls : List CallPlan) (rows : List CallLine) → is_mixed_result result ≡ false →
    filter_map done_at (zip calls rows) ≡ filter_map done_beside (zip calls (filter_map plain_line rows)) →
    cons_option (done_of (length call.stdin) result) (filter_map done_at (zip calls rows))
    ≡ filter_map done_beside (zip (call ∷ calls) (cons_option (plain_result l result) (filter_map plain_line rows)))
row_on call l (Done code stdout stderr page) calls rows plain more =
    ap (λ (dones : List DoneCall). record { stdin = length call.stdin; stdout = length stdout; stderr = length stderr; code = code } ∷ dones) more
row_on call l (Refused cause) calls rows plain more = more
row_on call l (Mixed outcome got) calls rows plain more = absurd (false≢true (sym plain))

same_dones : (s : Scenario) (r : Report) (ports : Ports) (calls : List CallPlan) (rows : List CallLine) → ((call : CallPlan) → is_mixed s call ≡ false) →
    EachPair (CallStands s r ports) calls rows → filter_map done_at (zip calls rows) ≡ filter_map done_beside (zip calls (filter_map plain_line rows))
same_dones s r ports [] rows none stand = refl
same_dones s r ports (call ∷ calls) [] none stand = absurd stand
same_dones s r ports (call ∷ calls) (l ∷ rows) none stand =
    row_on call l l.result calls rows (stand.0.0 ∙ none call) (same_dones s r ports calls rows none stand.1)

-- ---- the whole

sums_alone : (number calls : ℕ) (s : Scenario) (r : Report) → calls ≤ 2000 → written s ≡ generated number calls → IsLawful s r → summary_of s.calls r ≡ sums_of (generated number calls)
sums_alone number calls s r few made lawful =
    let domains : s.domains ≡ made_domains = ap (λ (w : Written). w.domain_list) made in
    let rows = same_dones s r lawful.ports s.calls r.calls (unmixed s domains) lawful.stand in
    let plain = lawful.results ∙ lines_are_all number calls s few made in
    ap (λ (count : ℕ). sums_text count (totals (done_calls s.calls r.calls))) (AllZip-long _ s.calls r.calls lawful.calls)
    ∙ ap (λ (dones : List DoneCall). sums_text (length s.calls) (totals dones)) (rows ∙ ap (λ ls. filter_map done_beside (zip s.calls ls)) plain)
    ∙ ap sums_of made

-- what `load` prints
pub prints_sums : (number calls : ℕ) (text : List ℕ) (s : Scenario) (r : Report) → calls ≤ 2000 → written s ≡ generated number calls → IsLawful s r → text ≡ summary_of s.calls r → PrintsSums number calls text r
prints_sums number calls text s r few made lawful prints = record {
  scenario = s;
  made = made;
  lawful = lawful;
  prints = prints;
  alone = prints ∙ sums_alone number calls s r few made lawful;
}
