use Rattle.std.proofs.Common.{ap, sym, refl}
use Rattle.task_duties.specs.Agent.Answers.{IsRefused}
use Rattle.agent_queue.proofs.KeptLaws.{answered_none}
use Rattle.agent_queue.proofs.queue.CallQueue.refused.Goals as goal

pub returns-in-Some-clause-is : goal.returns-in-Some-clause-is
returns-in-Some-clause-is c = c.refuse_at.ensures.is c.args.ident.now c.in-Some.ensures.some

pub returns-in_default-clause-is : goal.returns-in_default-clause-is
returns-in_default-clause-is c =
    ap (λ l. record { calls = l; next = c.args.self.now.next }) (sym (answered_none c.args.ident.now IsRefused c.args.self.now.calls (c.in_default.ensures.none refl)))
