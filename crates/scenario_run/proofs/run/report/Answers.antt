use Rattle.std.proofs.Common.{◌≡◌, ◌∙◌, length, map, ap, sym, subst, arith}
use Rattle.std.proofs.lemmas.List.{length-map}
use Rattle.domain_task.specs.Owes.{answer_of}
use Rattle.run_laws.specs.Laid.{laid}
use Rattle.run_laws.specs.Report.{SettledPage}
use Rattle.run_laws.specs.Results.{AreResults, run_of}
use Rattle.scenario_run.specs.Lines.{HasReports}
use Rattle.scenario_run.specs.Parts.{ReportPart}
use Rattle.scenario_run.specs.Sessions.{HaveServed}
use Rattle.scenario_run.proofs.GivenLaws.{laid_few}
use Rattle.scenario_run.proofs.WholeLaws.{AreApart, all_served, back, lawful, reported, results, take_front}
use Rattle.scenario_run.proofs.run.report.Goals.{After-as_slice}
use Rattle.scenario_run.proofs.run.report.Goals as goal

-- what the tasks answered, taken apart
apart : (c : After-as_slice) → AreApart c.args.dones.items c.in_ok-ends.field-0.ends.items c.in_ok-ends.field-0.reports.items
apart c = record { ends_are = c.in_ok-ends.ensures.ends; reports_are = c.in_ok-ends.ensures.reports; done = c.in_ok-ends.ensures.done }

-- with the settled pages it is the result of a run
is_result : (c : After-as_slice) → AreResults c.args.scenario.now (map answer_of c.args.dones.items) c.in_ok-pages.pages.items
is_result c = results c.args.scenario.now c.args.pages c.args.dones.items _ _ c.in_ok-pages.pages.items c.is_scenario.ensures c.requires.laid c.requires.answers (apart c) c.in_ok-pages.ensures

pub settle-requires-clause-back : goal.settle-requires-clause-back
settle-requires-clause-back c = back c.args.scenario.now c.args.pages c.args.dones.items c.in_ok-ends.field-0.ends.items c.in_ok-ends.field-0.reports.items c.requires.answers
    (record { ends_are = c.in_ok-ends.ensures.ends; reports_are = c.in_ok-ends.ensures.reports; done = c.in_ok-ends.ensures.done })

pub call_lines-requires-clause-reports : goal.call_lines-requires-clause-reports
call_lines-requires-clause-reports c =
    let s = c.args.scenario.now in
    let dones = map answer_of c.args.dones.items in
    let w = (goal.at.call_lines-requires-clause-reports c).After-as_slice in
    let has : HasReports s (run_of s dones) s.calls c.as_mut_slice.result.now =
    subst (HasReports s (run_of s dones) s.calls) (sym c.as_mut_slice.ensures.value) (reported s c.args.pages c.args.dones.items _ _ c.in_ok-pages.pages.items c.requires.answers (apart w) (is_result w)) in
    (run_of s dones, has)

pub of-requires : goal.of-requires
of-requires c =
    let settled = c.in_ok-pages.pages.items in
    let few = laid_few c.args.scenario.now c.is_scenario.ensures in
    let many : length settled ≡ length (laid c.args.scenario.now) = sym (length-map settled (λ (p : SettledPage). p.place)) ∙ ap length (is_result (goal.at.of-requires c).After-as_slice).places in
    let same = ap length c.as_slice.ensures.value in omega (arith, few, many, same)

pub returns : goal.returns
returns c =
    let s = c.args.scenario.now in
    let dones = map answer_of c.args.dones.items in
    let w = (goal.at.returns c).After-as_slice in
    let has : HasReports s (run_of s dones) s.calls c.as_mut_slice.result.now =
    subst (HasReports s (run_of s dones) s.calls) (sym c.as_mut_slice.ensures.value) (reported s c.args.pages c.args.dones.items _ _ c.in_ok-pages.pages.items c.requires.answers (apart w) (is_result w)) in
    let served = all_served s c.args.dones.items _ _ c.call_lines.new.reports c.in_ok-pages.pages.items (apart w) (is_result w) (c.in_ok-calls.ensures.served ∙ ap (map (λ (r : ReportPart). r.served)) c.as_mut_slice.ensures.value) in
    let long : length c.call_lines.new.reports ≡ c.in_ok-ends.field-0.reports.len = (let a = c.in_ok-calls.ensures.long in let b = ap length c.as_mut_slice.ensures.value in omega (arith, a, b, c.in_ok-ends.field-0.reports.ok.0)) in
    let sessions = c.in_ok-served.ensures (run_of s dones) (subst (HaveServed (run_of s dones)) (sym (take_front c.in_ok-ends.field-0.reports.len c.call_lines.new.reports _ long)) served) in
    lawful s dones c.in_ok-pages.pages.items c.in_ok-calls.calls.items c.in_ok-served.served.items (is_result w) (c.in_ok-calls.ensures.lines (run_of s dones) has)
    (record { sorted = sessions.0; all = sessions.1; ordered = sessions.2; lines = sessions.3 })
