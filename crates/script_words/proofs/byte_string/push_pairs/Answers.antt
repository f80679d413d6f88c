use Rattle.std.proofs.Common.{ap, arith}
use Rattle.script_words.specs.ByteStrings.{at_most, bytes_of_pairs}
use Rattle.script_words.proofs.PairLaws.{bytes_of_pairs_odd, pairs_len, refused_many, refused_memory}
use Rattle.script_words.proofs.byte_string.push_pairs.Goals as goal

pub returns-then-digits-ne0-clause-bad : goal.returns-then-digits-ne0-clause-bad
returns-then-digits-ne0-clause-bad c = ap (at_most c.args.most) (bytes_of_pairs_odd c.args.digits.now (omega arith))

pub returns-then-count-most-clause-bad : goal.returns-then-count-most-clause-bad
returns-then-count-most-clause-bad c =
    refused_many c.args.most (bytes_of_pairs c.args.digits.now) c.refusal_of.result (λ bytes is. omega (arith, pairs_len c.args.digits.now bytes is)) c.refusal_of.ensures

pub returns-then-is_err-clause-bad : goal.returns-then-is_err-clause-bad
returns-then-is_err-clause-bad c =
    refused_memory c.args.most (bytes_of_pairs c.args.digits.now) c.refusal_of-then-is_err.result (λ bytes is. omega (arith, pairs_len c.args.digits.now bytes is)) c.refusal_of-then-is_err.ensures
