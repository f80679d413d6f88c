use Rattle.std.proofs.Common.{◌≡◌, ◌*◌, drop, is_some}
use Rattle.script_words.specs.ByteStrings.{bytes_of_pairs}
use Rattle.script_words.proofs.byte_string.are_pairs.Given as goal

abbrev pub invariant-pairs : goal.invariant-pairs
invariant-pairs l = is_some (bytes_of_pairs l.digits) ≡ is_some (bytes_of_pairs (drop (2 * l.i) l.digits))
