use Rattle.std.proofs.Common.{ℕ, ◌<◌, arith}
use Rattle.std.proofs.lemmas.List.Elements.{All-from_get_or}
use Rattle.step_script.proofs.read.operand.count_bytes.Goals as goal

pub returns-clause-bytes : goal.returns-clause-bytes
returns-clause-bytes c = All-from_get_or (λ (byte : ℕ). byte < 256) c.args.bytes.now 0 (λ i within. let low = c.type_inv.bytes i in omega (arith, low))
