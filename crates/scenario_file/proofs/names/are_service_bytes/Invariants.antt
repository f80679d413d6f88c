use Rattle.std.proofs.Common.{◌≡◌, drop}
use Rattle.std.specs.List.{list_all}
use Rattle.scenario_file.proofs.names.are_service_bytes.Given as goal
use Rattle.scenario_file.specs.Names.{is_service_byte}

abbrev pub invariant-loop-byte : goal.invariant-loop-byte
invariant-loop-byte l = list_all is_service_byte l.text ≡ list_all is_service_byte (drop l.byte-index l.text)
