use Rattle.std.proofs.Common.{◌≡◌, ◌∙◌, map}
use Rattle.std.specs.Prelude.{Some}
use Rattle.agent_slots.specs.Finished.{served_at}
use Rattle.agent_slots.proofs.FinishLaws.{served_same}
use Rattle.agent_slots.proofs.finish.session_ends.Goals as goal

pub returns-clause-served : goal.returns-clause-served
returns-clause-served c =
    let done : map Some c.in_ok-served.served.items ≡ map (served_at c.call_ends.new.reports) c.args.served.now = c.in_ok-served.ensures in
    done ∙ served_same c.args.reports.now c.call_ends.new.reports c.args.served.now c.in_ok-calls.ensures.others c.requires.served
