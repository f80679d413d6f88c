use Rattle.std.proofs.Common.{ap, ◌∙◌}
use Rattle.vchan_rule.specs.Seated.{view}
use Rattle.channel_session.proofs.TurningLaws.{finds_not_yet}
use Rattle.channel_session.proofs.session.Session.read_on.Goals as goal

pub returns-in-NotYet-clause-came : goal.returns-in-NotYet-clause-came
returns-in-NotYet-clause-came g c = (
  ap (λ s. s.half) c.self.view_is,
  ap (λ v. v.got) c.in-NotYet.ensures.view ∙ ap (λ s. (view s.end).got) c.self.view_is,
  finds_not_yet c.args.self.now.end c.self.inside.end c.drain.new.end c.args.buf.now c.in-NotYet.prod c.in-NotYet.cons (ap (λ s. s.end) c.self.view_is) c.requires.some c.in-NotYet.ensures.trail c.in-NotYet.ensures.cause,
)
