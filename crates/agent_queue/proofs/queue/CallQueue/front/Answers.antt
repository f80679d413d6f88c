use Rattle.std.proofs.Common.{subst, sym, Some}
use Rattle.agent_queue.specs.Queue.{HasToSay}
use Rattle.agent_queue.proofs.queue.CallQueue.front.Goals as goal

pub returns-clause-says : goal.returns-clause-says
returns-clause-says c = subst (λ m. HasToSay c.args.self.now c.args.version (Some m)) (sym c.in_ok-trigger_of.ensures.is) (c.in-Some.ensures.says c.args.version)
