use Rattle.std.proofs.Common.{◌≡◌}
use Rattle.vchan_rule.specs.Seated.{IsOpen}
use Rattle.control_port.specs.declared.talk.Talker.TheVariants.{Broker}
use Rattle.tests_task.proofs.agents.say_all.Given as goal

abbrev pub invariant-loop-command : goal.invariant-loop-command
invariant-loop-command l = IsOpen l.broker.end × (l.broker.talker ≡ Broker)
