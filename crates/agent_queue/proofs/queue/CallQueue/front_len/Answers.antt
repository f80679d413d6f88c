use Rattle.agent_queue.specs.Queue.{trigger_of}
use Rattle.agent_queue.proofs.queue.CallQueue.front_len.Goals as goal

pub returns : goal.returns
returns c = (trigger_of c.args.version c.in-Some.plan.now, c.in-Some.ensures.says c.args.version, c.trigger_len.ensures)
