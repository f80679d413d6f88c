use Rattle.std.proofs.Common.{◌≡◌, map, string_bytes}
use Rattle.toml.specs.View.{table_view}
use Rattle.scenario_file.specs.Checks.{key_list, known_keys}
use Rattle.scenario_file.proofs.keys.check_keys.Given as goal

abbrev pub invariant-loop-key : goal.invariant-loop-key
invariant-loop-key l =
    known_keys l.section l.hostile (key_list (table_view l.table)) ≡ known_keys l.section l.hostile (map string_bytes l.key-iterator)
