use Rattle.std.proofs.Common.{rules}
use Rattle.channel_session.proofs.CallingLaws.{owes}
use Rattle.channel_session.proofs.caller.Session+Caller.finish.Goals as goal

pub returns-clause-owed : goal.returns-clause-owed
returns-clause-owed c = λ on. owes c.args.self.half c.args.self.end _ c.args.outcome _ c.requires.work on c.requires.outcome (search rules) (search rules)
