use Rattle.std.proofs.Common.{◌≡◌, drop}
use Rattle.std.specs.List.{list_all}
use Rattle.scenario_file.proofs.names.are_name_bytes.Given as goal
use Rattle.qrexec_frame.specs.Names.{is_name_byte}

abbrev pub invariant-loop-byte : goal.invariant-loop-byte
invariant-loop-byte l = list_all is_name_byte l.text ≡ list_all is_name_byte (drop l.byte-index l.text)
