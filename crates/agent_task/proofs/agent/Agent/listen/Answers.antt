use Rattle.std.proofs.Common.{◌∙◌, ap, sym, subst}
use Rattle.vchan_rule.specs.Seated.{SeatedEnd, view, IsOpen}
use Rattle.channel_session.specs.Turning.{KeepsBytes}
use Rattle.vchan_rule.specs.Ends.{IsSameEnd}
use Rattle.vchan_rule.proofs.EndLaws.{same_end_then}
use Rattle.agent_queue.specs.Queue.{QueueState}
use Rattle.agent_control.specs.declared.control.AgentControl.{AgentControl}
use Rattle.agent_task.specs.Ending.{HasEnded, end_by}
use Rattle.agent_task.specs.Moving.{Listens}
use Rattle.agent_task.proofs.MovingLaws.{listens_by, listens_keep}
use Rattle.agent_task.proofs.PortLaws.{same_end_is}
use Rattle.agent_task.proofs.RoundLaws.{still_rests}
use Rattle.agent_task.proofs.agent.Agent.listen.Goals as goal

pub returns-in_err-greet-clause-retire : goal.returns-in_err-greet-clause-retire
returns-in_err-greet-clause-retire c = still_rests c.args.self.now c.greet.new.self c.requires.up.hearing c.greet.ensures.same c.greet.ensures.end c.greet.ensures.open

pub returns-in_err-drained-clause-retire : goal.returns-in_err-drained-clause-retire
returns-in_err-drained-clause-retire c =
    still_rests c.greet.new.self c.drain.new.self c.in_ok-greet.ensures.up.hearing c.drain.ensures.same c.drain.ensures.end c.drain.ensures.open

pub returns-in_err-hear_all-clause-retire : goal.returns-in_err-hear_all-clause-retire
returns-in_err-hear_all-clause-retire c =
    let end = c.hear_all.ensures.end in
    still_rests c.drain.new.self c.hear_all.new.self c.in_ok-drained.ensures.hearing c.hear_all.ensures.same
    (same_end_is c.drain.new.self.control.port.end c.hear_all.new.self.control.port.end end) (subst (λ (e : SeatedEnd). IsOpen e) (sym end) c.drain.ensures.open)

pub returns-clause-listens : goal.returns-clause-listens
returns-clause-listens c = λ up.
    let same = c.end_channel.ensures.up up in
    let port = c.args.self.now.control.port in
    subst (λ (e : SeatedEnd). Listens port e) (sym (ap (λ (k : AgentControl). k.port.end) same.0 ∙ c.hear_all.ensures.end))
    (listens_by port c.greet.new.self.control.port c.drain.new.self.control.port.end c.in_ok-drained.drained c.in_ok-greet.ensures.greets c.in_ok-greet.ensures.got c.in_ok-drained.ensures.drains same.1)

pub returns-clause-next : goal.returns-clause-next
returns-clause-next c =
    ap (λ (q : QueueState). q.next) c.end_channel.ensures.queue ∙ c.hear_all.ensures.next ∙ ap (λ (q : QueueState). q.next) c.drain.ensures.queue ∙ ap (λ (q : QueueState). q.next) c.greet.ensures.queue

pub returns-clause-end : goal.returns-clause-end
returns-clause-end c = λ up.
    let old = c.args.self.now.control.port.end in
    let drained = c.drain.new.self.control.port.end in
    subst (λ (e : SeatedEnd). IsSameEnd old e) (sym (ap (λ (k : AgentControl). k.port.end) (c.end_channel.ensures.up up).0 ∙ c.hear_all.ensures.end))
    (same_end_then old c.greet.new.self.control.port.end drained c.greet.ensures.end c.drain.ensures.end)

pub returns-clause-bytes : goal.returns-clause-bytes
returns-clause-bytes c =
    let settled = c.end_channel.new.self.control.port.end in
    listens_keep c.args.self.now.control.port c.greet.new.self.control.port c.drain.new.self.control.port.end settled c.in_ok-drained.drained c.in_ok-greet.ensures.greets c.in_ok-greet.ensures.got c.in_ok-drained.ensures.drains
    (subst (λ (e : SeatedEnd). KeepsBytes (view e) (view settled)) c.hear_all.ensures.end c.end_channel.ensures.bytes)

pub end_channel-requires-clause-drained : goal.end_channel-requires-clause-drained
end_channel-requires-clause-drained c = subst (λ (e : SeatedEnd). HasEnded (end_by c.in_ok-drained.drained) (view e)) (sym c.hear_all.ensures.end) c.in_ok-drained.ensures.drained

pub returns-clause-given : goal.returns-clause-given
returns-clause-given c = c.end_channel.ensures.given ∙ (c.hear_all.ensures.same.0 ∙ (c.drain.ensures.same.0 ∙ c.greet.ensures.same.0))
