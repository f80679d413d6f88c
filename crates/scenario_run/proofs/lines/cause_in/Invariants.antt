use Rattle.std.proofs.Common.{◌≡◌, drop}
use Rattle.run_laws.specs.ReadOff.{cause_in}
use Rattle.scenario_run.proofs.lines.cause_in.Given as goal

abbrev pub invariant-loop-entry : goal.invariant-loop-entry
invariant-loop-entry l = cause_in l.journal l.from l.ident ≡ cause_in (drop l.entry-index l.journal) l.from l.ident
