use Rattle.script_words.proofs.PairLaws.{Reads}
use Rattle.script_words.proofs.byte_string.put_pairs.Given as goal

abbrev pub invariant-pairs : goal.invariant-pairs
invariant-pairs l = Reads l.digits l.out l.i l.greatest
