use Rattle.std.proofs.Common.{refl, ap, subst}
use Rattle.end_view.specs.EndView.{EndView}
use Rattle.task_duties.specs.TaskOwes.{EndAt}
use Rattle.task_duties.specs.GivenEnds.{all_retired}
use Rattle.agent_slots.specs.Done.{AreBack}
use Rattle.agent_task.proofs.RoundLaws.{over_rests}
use Rattle.agent_task.proofs.DoneLaws.{done_owes, done_tells, calls_long, given_back}
use Rattle.agent_task.proofs.agent.Agent.finish.Goals as goal

pub returns-in-Err-clause-err : goal.returns-in-Err-clause-err
returns-in-Err-clause-err c =
    given_back c.args.self c.rest.result (all_retired c.in-Err.ends.items) (over_rests c.args.over c.args.self c.requires.over)
    (ap (λ (v : EndView). v.page) c.rest.ensures.end) (ap (λ (v : EndView). v.role) c.rest.ensures.end) c.rest.ensures.honest
    (subst (λ (e : EndAt). AreBack e c.args.self.slots.held (all_retired c.in-Err.ends.items)) c.control_end-first.ensures c.in-Err.ensures.err)

pub call_dones-requires : goal.call_dones-requires
call_dones-requires c = calls_long c.args.over c.args.self (all_retired c.in-Ok.came.ends.items) c.in-Ok.came.calls.items c.requires.over c.in-Ok.ensures.calls

pub returns-in_default-clause-err : goal.returns-in_default-clause-err
returns-in_default-clause-err c =
    given_back c.args.self c.rest.result (all_retired c.in-Ok.came.ends.items) (over_rests c.args.over c.args.self c.requires.over)
    (ap (λ (v : EndView). v.page) c.rest.ensures.end) (ap (λ (v : EndView). v.role) c.rest.ensures.end) c.rest.ensures.honest
    (subst (λ (e : EndAt). AreBack e c.args.self.slots.held (all_retired c.in-Ok.came.ends.items)) c.control_end-first.ensures c.in-Ok.ensures.back)

pub returns-clause-owed : goal.returns-clause-owed
returns-clause-owed c =
    let came = c.in-Ok.came in
    done_owes c.args.over c.args.self c.rest.result came.calls.items
    (record { domain = c.args.self.given.domain; calls = c.in-Ok-call_dones.calls; served = came.served; control = c.args.over; ends = came.ends }) c.requires.over
    (record {
      control = c.rest.ensures.end;
      control_honest = c.rest.ensures.honest;
      back = subst (λ (e : EndAt). AreBack e c.args.self.slots.held (all_retired c.in-Ok.came.ends.items)) c.control_end-first.ensures c.in-Ok.ensures.back;
      calls_are = c.in-Ok.ensures.calls;
      served_are = c.in-Ok.ensures.served;
    }) refl c.in-Ok-call_dones.ensures refl

pub returns-clause-tells : goal.returns-clause-tells
returns-clause-tells c =
    let came = c.in-Ok.came in
    done_tells c.args.over c.args.self c.rest.result
    (record { domain = c.args.self.given.domain; calls = c.in-Ok-call_dones.calls; served = came.served; control = c.args.over; ends = came.ends }) c.requires.over c.rest.ensures.end refl
    (subst (λ (e : EndAt). AreBack e c.args.self.slots.held (all_retired c.in-Ok.came.ends.items)) c.control_end-first.ensures c.in-Ok.ensures.back)
