use Rattle.std.proofs.Common.{◌≡◌, ◌∙◌, Result, Ok, Err, IfOk, map, subst}
use Rattle.std.specs.Prelude.{IsPermutation}
use Rattle.std.proofs.lemmas.List.Sorted.{IsPermutation-map}
use Rattle.run_laws.specs.HostileSessions.{hostile_sessions}
use Rattle.scenario_run.specs.Sessions.{seen}
use Rattle.scenario_run.proofs.SessionLaws.{all_sessions, lines_seen, pairs_seen}
use Rattle.scenario_run.proofs.sessions.served_lines.Goals as goal

if_ok : {T E : Type 0} (r : Result T E) (P Q : T → Type 0) → ((x : T) → P x → Q x) → IfOk r P → IfOk r Q
if_ok (Ok x) P Q f p = f x p
if_ok (Err e) P Q f p = tt

pub returns : goal.returns
returns c = λ run have.
    let s = c.args.scenario.now in
    let all = c.in_ok-sessions.sessions.items in
    let sorted = c.sort.new.sessions.items in
    let same : map seen all ≡ hostile_sessions s run = c.in_ok-sessions.ensures ∙ all_sessions s run c.args.reports.items c.requires have in
    if_ok c.lines_of.result _ _ (λ lines is. (
      map seen sorted,
      subst (λ l. IsPermutation l (map seen sorted)) same (IsPermutation-map seen all sorted c.in_ok-sort.ensures.same),
      pairs_seen sorted c.in_ok-sort.ensures.sorted,
      is ∙ lines_seen s sorted,
    )) c.lines_of.ensures
