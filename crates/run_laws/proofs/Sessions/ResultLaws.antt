-- Result-equal and outcome-done of a run.
use Rattle.std.proofs.Common.{◌≡◌, ℕ, List, [], ◌∷◌}
use Rattle.std.specs.Prelude.{ℤ}
use Rattle.std.specs.List.{AllZip as EachPair}
use Rattle.scenario_file.specs.Scenario.{Plan as Scenario}
use Rattle.scenario_file.specs.declared.scenario.CallPlan.{CallPlan}
use Rattle.task_duties.specs.declared.place.PagePlace.TheVariants.{Payload}
use Rattle.qrexec_data.specs.declared.outcome.Outcome.TheVariants.{Done}
use Rattle.task_duties.specs.declared.done.CallDone.{CallDone}
use Rattle.task_duties.specs.declared.done.CallEnd.{CallEnd}
use Rattle.task_duties.specs.declared.done.CallEnd.TheVariants.{Session, Refused as WasRefused, Unanswered}
use Rattle.run_laws.specs.Laid.{calls_from}
use Rattle.run_laws.specs.Run.{Run}
use Rattle.run_laws.specs.Laws.{ResultEqual, OutcomeDone, IsEqual, OfSession}
use Rattle.run_laws.proofs.Sessions.CallLaw.{result_equal_lem}
use Rattle.run_laws.proofs.Sessions.ServedAllLaw.{served_all}
use Rattle.run_laws.proofs.Sessions.Services.{small_codes_lem}

pub result_equal : ResultEqual
result_equal = result_equal_lem served_all small_codes_lem

one_done : (s : Scenario) (run : Run) (f : ℕ) (call : CallPlan) (e : CallEnd) → OfSession (λ port to done. IsEqual call done (run.page (Payload f to port))) s e
    → OfSession (λ port to done. (code : ℤ) × (done.outcome ≡ Done code)) s e
one_done s run f call (Session port to outcome stdout stderr got) h = λ other. let q = h other in ((q.owed call.stdin).code, q.outcome)
one_done s run f call WasRefused h = tt
one_done s run f call Unanswered h = tt

all_done : (s : Scenario) (run : Run) (f : ℕ) (calls : List CallPlan) (done : List CallDone)
    → EachPair (λ call c. OfSession (λ port to d. IsEqual call d (run.page (Payload f to port))) s c.end) calls done
    → EachPair (λ call c. OfSession (λ port to d. (code : ℤ) × (d.outcome ≡ Done code)) s c.end) calls done
all_done s run f [] [] h = tt
all_done s run f [] (c ∷ done) h = absurd h
all_done s run f (call ∷ calls) [] h = absurd h
all_done s run f (call ∷ calls) (c ∷ done) h = (one_done s run f call c.end h.0, all_done s run f calls done h.1)

pub outcome_done : OutcomeDone
outcome_done s run h f honest = all_done s run f (calls_from s f) (run.calls f) (result_equal s run h f honest)
