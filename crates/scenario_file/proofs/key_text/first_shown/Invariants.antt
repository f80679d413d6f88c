use Rattle.std.proofs.Common.{◌≡◌, string_bytes}
use Rattle.std.specs.List.{flat_map}
use Rattle.scenario_file.specs.KeyTexts.{shown_char}
use Rattle.scenario_file.proofs.key_text.first_shown.Given as goal

abbrev pub invariant-loop-character : goal.invariant-loop-character
invariant-loop-character l = string_bytes l.shown ≡ flat_map shown_char l.yielded
