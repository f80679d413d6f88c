use Rattle.std.proofs.Common.{◌≡◌}
use Rattle.vchan_rule.specs.Seated.{IsOpen}
use Rattle.control_port.specs.declared.talk.Talker.TheVariants.{Agent}
use Rattle.tests_task.proofs.held_back.ask_all.Given as goal

abbrev pub invariant-calls : goal.invariant-calls
invariant-calls l = IsOpen l.caller.end × (l.caller.talker ≡ Agent)
