use Rattle.std.proofs.Common.{◌≡◌, drop}
use Rattle.std.specs.List.{list_all}
use Rattle.scenario_file.proofs.key_text.are_plain_bytes.Given as goal
use Rattle.scenario_file.specs.KeyTexts.{is_plain_byte}

abbrev pub invariant-loop-byte : goal.invariant-loop-byte
invariant-loop-byte l = list_all is_plain_byte l.key ≡ list_all is_plain_byte (drop l.byte-index l.key)
