use Rattle.std.proofs.Common.{arith, sym, ap, length}
use Rattle.std.proofs.lemmas.List.Sums.{position_or_len_is}
use Rattle.task_duties.specs.Words.{is_space}
use Rattle.agent_task.proofs.line.name_end.Goals as goal

pub returns-then-byte-eq32-clause-is : goal.returns-then-byte-eq32-clause-is
returns-then-byte-eq32-clause-is c = sym (position_or_len_is is_space c.args.text.now c.loop-at.at 0 (omega arith) c.loop-at.invariant (λ less. ap is_space c.if-byte-eq32.true))

pub returns-clause-is : goal.returns-clause-is
returns-clause-is c = sym (position_or_len_is is_space c.args.text.now (length c.args.text.now) 0 (omega arith) (λ k less. c.loop-at.invariant k (omega arith)) (λ less. absurd (omega arith)))
