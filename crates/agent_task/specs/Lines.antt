-- The service that a line asks for.
use Rattle.std.specs.Prelude.{ℕ, List, Option, Some, None}
use Rattle.service_gate.specs.Owing.{builtin_owes}
use Rattle.service_gate.specs.declared.builtin.Builtin.{Builtin}
use Rattle.task_duties.specs.Agent.Sessions.{IsService}

-- a built-in service is that of a name, or there is neither
abbrev pub IsNamed : Option (List ℕ) → Option Builtin → Type 0
IsNamed None None = Unit {0}
IsNamed (Some name) (Some service) = IsService name (builtin_owes service)
IsNamed _ _ = ⊥
