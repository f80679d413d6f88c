-- What a built-in service still owes for the input that may still come.
use Rattle.std.specs.Prelude.{ℕ, ◌+◌, List, take, length, map, not}
use Rattle.std.specs.Char.{to_ascii_uppercase}
use Rattle.service_gate.specs.Triple.{Triple, writes}
use Rattle.service_gate.specs.ServiceResult.{splits, exits, count_line}
use Rattle.service_gate.specs.declared.builtin.Builtin.{Builtin}
use Rattle.service_gate.specs.declared.builtin.State.{State}
use Rattle.service_gate.specs.declared.builtin.State.TheVariants.{Echo, Upper, Count, First, Split, Exit}

-- the triple for the input that may still come
abbrev pub state_owes : State → List ℕ → Triple
state_owes Echo more = writes more
state_owes Upper more = writes (map to_ascii_uppercase more)
state_owes (Count taken) more = writes (count_line (taken + length more))
state_owes (First left) more = writes (take left more)
state_owes (Split to_stderr) more = splits (not to_stderr) more
state_owes (Exit code) more = exits code

abbrev pub builtin_owes : Builtin → List ℕ → Triple
builtin_owes builtin more = state_owes builtin.state more
