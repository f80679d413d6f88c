-- The lines of sessions with hostile callers, read off what the agents report and put in order.
-- Source: this project's own.
use Rattle.std.specs.Prelude.{◌≡◌, ℕ, nat_lt, ◌==◌, ◌&&◌, ◌||◌, Bool, false, List, [], map, filter, IsPermutation, AllPairs, if◌then◌else◌}
use Rattle.std.specs.List.{flat_map}
use Rattle.scenario_file.specs.Scenario.{Plan as Scenario, hostile_at, name_at}
use Rattle.task_duties.specs.declared.done.ServedDone.{ServedDone}
use Rattle.run_laws.specs.declared.report.MixedOutcome.{MixedOutcome}
use Rattle.run_laws.specs.declared.report.ServedLine.{ServedLine}
use Rattle.run_laws.specs.Laid.{all_domains}
use Rattle.run_laws.specs.Lawful.{IsLawful}
use Rattle.run_laws.specs.Run.{Run, IsRun}
use Rattle.run_laws.specs.ReadOff.{mixed_outcome, report_of}

-- a session in which an honest domain served a hostile one, by the numbers of the two
pub record HostileSession : Type 0 where
  pub from : ℕ
  pub to : ℕ
  pub port : ℕ
  pub outcome : MixedOutcome
  pub got : List ℕ

-- a session that the agent of a domain reports
abbrev pub session_of : ℕ → ServedDone → HostileSession
session_of d done = record { from = done.from; to = d; port = done.port; outcome = mixed_outcome done.outcome; got = done.got }

-- its sessions whose caller is hostile
abbrev pub sessions_at : Scenario → Run → ℕ → List HostileSession
sessions_at s run d = if hostile_at s d then [] else map (session_of d) (filter (λ done. hostile_at s done.from) (run.served d))

-- these sessions of all honest domains, domain by domain
abbrev pub hostile_sessions : Scenario → Run → List HostileSession
hostile_sessions s run = flat_map (sessions_at s run) (all_domains s)

-- the order of their lines: by the caller's number, the server's number and the port
abbrev pub stands_before : HostileSession → HostileSession → Bool
stands_before a b = nat_lt a.from b.from || (a.from == b.from && (nat_lt a.to b.to || (a.to == b.to && nat_lt a.port b.port)))

-- the line of a session
abbrev pub session_line : Scenario → HostileSession → ServedLine
session_line s x = record { from = name_at s x.from; to = name_at s x.to; port = x.port; outcome = x.outcome; got = x.got }

-- the report of a run is lawful with the lines of all these sessions, after they are sorted
abbrev pub SortedSessionsAreLawful : Type 0
SortedSessionsAreLawful =
    (s : Scenario) (run : Run) → IsRun s run → (sorted : List HostileSession) → IsPermutation (hostile_sessions s run) sorted → AllPairs (λ a b. stands_before b a ≡ false) sorted
    → IsLawful s (report_of s run (map (session_line s) sorted))
