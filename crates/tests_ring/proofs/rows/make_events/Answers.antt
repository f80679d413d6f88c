use Rattle.std.proofs.Common.{rules, ◌≡◌, ◌∙◌}
use Rattle.tests_ring.proofs.SentLaws.{sent_stays}
use Rattle.tests_ring.proofs.rows.make_events.Goals as goal

pub returns-in-Some-clause-sent : goal.returns-in-Some-clause-sent
returns-in-Some-clause-sent c =
    let i = c.events.invariant in
    let e = c.step.ensures.event in
    sent_stays c.events.end.begun c.events.end.side c.step.new.self.side e.0 i.3.3 e.1 ∙ i.1

pub events-preserved : goal.events-preserved
events-preserved c =
    let i = c.events.invariant in
    let e = c.step.ensures.event in
    let sent : c.step.new.self.side.sent ≡ c.args.end.now.side.sent = sent_stays c.events.end.begun c.events.end.side c.step.new.self.side e.0 i.3.3 e.1 ∙ i.1 in
    (search rules, sent, search rules, search rules)
