use Rattle.std.proofs.Common.{Option, Some, sym, subst}
use Rattle.std.specs.Prelude.{OnOk}
use Rattle.agent_task.specs.declared.agent.Agent.{Agent}
use Rattle.agent_task.specs.Moving.{KeepsChannel}
use Rattle.agent_task.specs.State.{state_in, TurnsEach}
use Rattle.agent_task.proofs.boxed.go_round.Goals as goal

pub returns-clause-turns : goal.returns-clause-turns
returns-clause-turns c = subst (λ (o : Option Agent). OnOk c.go_round.result (TurnsEach (state_in o).sessions c.go_round.new.self.slots.sessions)) (sym c.in-Some.is) c.go_round.ensures.turns

pub returns-clause-kept : goal.returns-clause-kept
returns-clause-kept c =
    let now = c.go_round.new.self in
    subst (λ (o : Option Agent). OnOk c.go_round.result (KeepsChannel (state_in o).over now.over (state_in o).channel (Some now.control))) (sym c.in-Some.is) c.go_round.ensures.channel
