use Rattle.std.proofs.Common.{◌≡◌, ◌∙◌, ◌+◌, ◌≤◌, ◌∷◌, ◌++◌, [], List, Some, length, map, set, length-set, drop, take, refl, ap, sym, subst, arith}
use Rattle.std.specs.Prelude.{slice_get}
use Rattle.std.proofs.lemmas.List.{map-append, take_all}
use Rattle.std.proofs.lemmas.Option.{slice_get_read}
use Rattle.list_laws.proofs.Places.{map_set_same, take_next}
use Rattle.scenario_file.specs.Scenario.{IsScenario}
use Rattle.task_duties.specs.declared.done.CallDone.{CallDone}
use Rattle.run_laws.specs.Run.{Run}
use Rattle.run_laws.specs.ReadOff.{end_of_call, line_read}
use Rattle.scenario_run.specs.Parts.{ReportPart}
use Rattle.scenario_run.specs.Lines.{HasReports}
use Rattle.scenario_run.proofs.LineLaws.{drop_at, next_is, one_there, report_at, reports_on}
use Rattle.scenario_run.proofs.lines.call_lines.Goals.{After-index-reports-call}
use Rattle.scenario_run.proofs.lines.call_lines.Goals as goal

-- the call at hand, and the report of its caller
at_hand : (c : After-index-reports-call) → (slice_get c.args.scenario.now.calls c.loop-call.call-index ≡ Some c.call-item.result) × (slice_get c.loop-call.reports c.call-item.result.from ≡ Some c.index-reports-call.result)
at_hand c =
    report_at c.args.scenario.now (subst IsScenario c.scenario.view_is c.scenario.invariant) c.deref-call-items.result.now (c.deref-call-items.ensures.value ∙ ap (λ p. p.calls) c.scenario.view_is)
    c.loop-call.call-index c.call-item.result c.loop-call-test.true c.call-item.is c.loop-call.reports c.index-reports-call.result (c.loop-call.invariant.long ∙ c.requires.count) c.index-reports-call.is

pub take_call-end-requires : goal.take_call-end-requires
take_call-end-requires c =
    let at = at_hand (goal.at.take_call-end-requires c).After-index-reports-call in
    let run = c.requires.reports.0 in
    let has = c.loop-call.invariant.reports run c.requires.reports.1 in
    let left = subst (λ calls. HasReports c.args.scenario.now run calls c.loop-call.reports) (drop_at c.args.scenario.now.calls c.loop-call.call-index c.call-item.result at.0) has in
    let n = next_is c.args.scenario.now run c.call-item.result (drop (c.loop-call.call-index + 1) c.args.scenario.now.calls) c.loop-call.reports c.index-reports-call.result left at.1 in
    (n.first, n.rest, ap (λ (p : ReportPart). p.calls) (sym c.index-reports-call.is) ∙ n.is)

pub returns-in_err-line-clause-served : goal.returns-in_err-line-clause-served
returns-in_err-line-clause-served c =
    let at = at_hand (goal.at.returns-in_err-line-clause-served c).After-index-reports-call in
    map_set_same (λ (r : ReportPart). r.served) c.loop-call.reports c.call-item.result.from c.index-reports-call.result c.take_call-end.new.self at.1
    (c.take_call-end.ensures.same.0 ∙ ap (λ (p : ReportPart). p.served) (sym c.index-reports-call.is)) ∙ c.loop-call.invariant.served

pub returns-in_err-push-clause-served : goal.returns-in_err-push-clause-served
returns-in_err-push-clause-served c =
    let at = at_hand (goal.at.returns-in_err-push-clause-served c).After-index-reports-call in
    map_set_same (λ (r : ReportPart). r.served) c.loop-call.reports c.call-item.result.from c.index-reports-call.result c.take_call-end.new.self at.1
    (c.take_call-end.ensures.same.0 ∙ ap (λ (p : ReportPart). p.served) (sym c.index-reports-call.is)) ∙ c.loop-call.invariant.served

pub loop-call-preserved : goal.loop-call-preserved
loop-call-preserved c =
    let s = c.args.scenario.now in
    let k = c.loop-call.call-index in
    let call = c.call-item.result in
    let part = c.index-reports-call.result in
    let new = c.take_call-end.new.self in
    let rest = drop (k + 1) s.calls in
    let at = at_hand (goal.at.loop-call-preserved c).After-index-reports-call in
    let reports' : List ReportPart = set c.loop-call.reports call.from new in
    let left : (run : Run) → HasReports s run s.calls c.args.reports.now → HasReports s run (call ∷ rest) c.loop-call.reports =
    λ run has. subst (λ calls. HasReports s run calls c.loop-call.reports) (drop_at s.calls k call at.0) (c.loop-call.invariant.reports run has) in
    let taken : part.calls ≡ c.take_call-end.result ∷ new.calls = ap (λ (p : ReportPart). p.calls) c.index-reports-call.is ∙ c.take_call-end.ensures.calls in
    let journal_same : new.journal ≡ part.journal = c.take_call-end.ensures.same.1 ∙ ap (λ (p : ReportPart). p.journal) (sym c.index-reports-call.is) in
    let after : (run : Run) → HasReports s run s.calls c.args.reports.now → HasReports s run rest reports' =
    λ run has. reports_on s run call rest c.loop-call.reports part new c.take_call-end.result (left run has) at.1 taken journal_same in
    let long = length-set c.loop-call.reports call.from new in
    record {
      reports = after;
      lines = λ run has.
          let n = next_is s run call rest c.loop-call.reports part (left run has) at.1 in
          let first = (after run has).journal in
          let zeroth : slice_get reports' 0 ≡ Some c.index-reports-0.result = slice_get_read reports' (length reports') 0 c.index-reports-0.result refl (omega (arith, c.loop-call.invariant.long, c.requires.count, long)) c.index-reports-0.is in
          let journal : run.journal ≡ c.journal.result.now = sym first.2 ∙ ap (λ (p : ReportPart). p.journal) (one_there reports' 0 first.0 c.index-reports-0.result first.1 zeroth ∙ c.index-reports-0.is) ∙ sym c.journal.ensures in
          let same : c.take_call-end.result ≡ n.first = (let e : c.take_call-end.result ∷ new.calls ≡ n.first ∷ n.rest = sym taken ∙ n.is in cc) in
          let end : c.take_call-end.result.end ≡ end_of_call run call = ap (λ (d : CallDone). d.end) same ∙ n.end.end in
          c.in_ok-push.ensures.items ∙ ap (λ l. l ++ c.in_ok-line.line ∷ []) (c.loop-call.invariant.lines run has)
          ∙ ap (λ x. map (line_read s run) (take k s.calls) ++ x ∷ []) (c.in_ok-line.ensures run journal end)
          ∙ sym (map-append (line_read s run) (take k s.calls) (call ∷ []))
          ∙ ap (map (line_read s run)) (sym (take_next s.calls k call at.0));
      served = map_set_same (λ (r : ReportPart). r.served) c.loop-call.reports call.from part new at.1 (c.take_call-end.ensures.same.0 ∙ ap (λ (p : ReportPart). p.served) (sym c.index-reports-call.is)) ∙ c.loop-call.invariant.served;
      long = long ∙ c.loop-call.invariant.long;
    }

pub returns-clause-lines : goal.returns-clause-lines
returns-clause-lines c = λ run has.
    let items : c.deref-call-items.result.now ≡ c.args.scenario.now.calls = c.deref-call-items.ensures.value ∙ ap (λ p. p.calls) c.scenario.view_is in
    let over : length c.args.scenario.now.calls ≤ c.loop-call.call-index = (let e = ap length items in omega (arith, c.loop-call-test.false, e)) in
    c.loop-call.invariant.lines run has ∙ ap (map (line_read c.args.scenario.now run)) (take_all c.loop-call.call-index c.args.scenario.now.calls over)
