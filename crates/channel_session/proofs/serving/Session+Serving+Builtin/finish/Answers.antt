use Rattle.std.proofs.Common.{rules}
use Rattle.channel_session.proofs.AnsweringLaws.{owes}
use Rattle.channel_session.proofs.serving.Session+Serving+Builtin.finish.Goals as goal

pub returns-clause-owed : goal.returns-clause-owed
returns-clause-owed c = λ name owed named on. owes name owed c.args.self.half c.args.self.end _ c.args.outcome _ named on c.requires.work c.requires.outcome (search rules) (search rules)
