-- The sessions in which honest domains served hostile ones, as the tasks report them.
-- Source: this project's own.
use Rattle.std.specs.Prelude.{◌≡◌, ℕ, ◌+◌, List, [], ◌∷◌, ◌++◌, filter, map, slice_get, Some, if◌then◌else◌}
use Rattle.scenario_file.specs.Scenario.{Plan as Scenario, hostile_at}
use Rattle.task_duties.specs.declared.done.ServedDone.{ServedDone}
use Rattle.run_laws.specs.Run.{Run}
use Rattle.run_laws.specs.HostileSessions.{HostileSession, session_of}
use Rattle.scenario_run.specs.declared.sessions.Session.{Session}
use Rattle.scenario_run.specs.Parts.{ReportPart}

-- a session in the form that the laws of a run have
abbrev pub seen : Session → HostileSession
seen x = session_of x.to x.done

-- of some sessions of a domain, those whose caller is hostile
abbrev pub sessions_with : Scenario → ℕ → List ServedDone → List HostileSession
sessions_with s d served = map (session_of d) (filter (λ done. hostile_at s done.from) served)

-- a domain that is hostile itself has none
abbrev pub sessions_of : Scenario → ℕ → List ServedDone → List HostileSession
sessions_of s d served = if hostile_at s d then [] else sessions_with s d served

-- the sessions of the domains from this number on, which served these
abbrev pub sessions_from : Scenario → ℕ → List (List ServedDone) → List HostileSession
sessions_from s d [] = []
sessions_from s d (served ∷ more) = sessions_of s d served ++ sessions_from s (d + 1) more

-- the reports have what each domain served in a run; the broker, whose report is the first, serves nothing
pub record HaveServed (run : Run) (reports : List ReportPart) : Type 0 where
  pub each : (d : ℕ) (part : ReportPart) → slice_get reports d ≡ Some part → part.served ≡ run.served d
  pub broker : run.served 0 ≡ []
