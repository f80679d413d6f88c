use Rattle.std.proofs.Common.{◌≡◌, ◌≢◌, ◌∙◌, [], ap, subst, Option, None}
use Rattle.std.specs.Prelude.{◌⊎◌}
use Rattle.agent_task.specs.declared.agent.Agent.{Agent}
use Rattle.agent_task.specs.Moving.{TurnsChannel, KeepsChannel}
use Rattle.agent_task.specs.State.{AgentState, state_in, TurnsEach}
use Rattle.agent_task.proofs.TellingLaws.{tells_in}
use Rattle.agent_task.proofs.task.AgentTask.turn.Goals as goal

pub returns-in-Some-clause-goes : goal.returns-in-Some-clause-goes
returns-in-Some-clause-goes c = c.finish.ensures.done c.args.self

pub returns-clause-tells : goal.returns-clause-tells
returns-clause-tells c = tells_in c.go_round.new.agent c.in-Ok.ensures.running c.in-Ok.ensures.agree

pub returns-clause-goes : goal.returns-clause-goes
returns-clause-goes c =
    let same : state_in c.deref_mut.result.now ≡ c.args.self = ap state_in c.deref_mut.ensures.value ∙ c.self.view_is in
    let now = state_in c.go_round.new.agent in (
      subst (λ (o : Option Agent). ((state_in o).over ≡ None) ⊎ ((state_in o).opened ≢ [])) c.deref.ensures (c.over_at.ensures.none c.in-None.is),
      subst (λ (old : AgentState). TurnsEach old.sessions now.sessions) same c.in-Ok.ensures.turns,
      subst (λ (old : AgentState). now.over ≡ None → TurnsChannel now.pages old.channel now.channel) same c.in-Ok.ensures.channel,
      subst (λ (old : AgentState). KeepsChannel old.over now.over old.channel now.channel) same c.in-Ok.ensures.kept,
    )
