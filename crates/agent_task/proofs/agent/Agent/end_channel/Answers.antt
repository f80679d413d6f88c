use Rattle.std.proofs.Common.{sym, ◌∙◌, ap}
use Rattle.agent_task.specs.Ending.{over_by}
use Rattle.end_view.specs.EndView.{EndView}
use Rattle.vchan_rule.specs.Seated.{view}
use Rattle.channel_session.proofs.KeepingLaws.{keeps_all, same_bytes}
use Rattle.agent_task.proofs.RoundLaws.{up_running, goes_on, is_over, running_rests}
use Rattle.agent_task.proofs.agent.Agent.end_channel.Goals as goal

pub returns-in-Some-clause-running : goal.returns-in-Some-clause-running
returns-in-Some-clause-running c =
    is_over c.args.self.now c.hang_up.new.self c.args.drained c.in-Some.over (record { end = c.hang_up.ensures.end; view_is = c.hang_up.ensures.view; said = c.hang_up.ensures.said; only = c.hang_up.ensures.same }) c.requires.out c.requires.drained
    (ap (λ f. over_by f c.args.drained) (sym c.fault.ensures) ∙ sym c.over_by.ensures ∙ c.in-Some.is)

pub returns-in-None-clause-running : goal.returns-in-None-clause-running
returns-in-None-clause-running c =
    up_running c.args.self.now (goes_on c.args.self.now c.args.drained c.requires.out c.requires.drained (ap (λ f. over_by f c.args.drained) (sym c.fault.ensures) ∙ sym c.over_by.ensures ∙ c.in-None.is))

pub returns-in-Some-clause-retire : goal.returns-in-Some-clause-retire
returns-in-Some-clause-retire c = running_rests _ (returns-in-Some-clause-running c)

pub returns-in-None-clause-retire : goal.returns-in-None-clause-retire
returns-in-None-clause-retire c = running_rests _ (returns-in-None-clause-running c)

pub returns-in-Some-clause-bytes : goal.returns-in-Some-clause-bytes
returns-in-Some-clause-bytes c =
    same_bytes (view c.args.self.now.control.port.end) (view c.hang_up.new.self.end) (ap (λ (v : EndView). v.got) c.hang_up.ensures.view) (ap (λ (v : EndView). v.sent) c.hang_up.ensures.view)

pub returns-in-None-clause-bytes : goal.returns-in-None-clause-bytes
returns-in-None-clause-bytes c = keeps_all (view c.args.self.now.control.port.end)
