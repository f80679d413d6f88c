use Rattle.std.proofs.Common.{sym, ◌∙◌}
use Rattle.std.proofs.lemmas.Bool.{false≢true}
use Rattle.broker_task.proofs.DoneLaws.{lines_list, done_pays, done_stands}
use Rattle.broker_task.proofs.StandingLaws.{goes_on}
use Rattle.broker_task.proofs.task.after_round.Goals as goal

pub finish-requires-clause-lines : goal.finish-requires-clause-lines
finish-requires-clause-lines c = lines_list c.args.switchboard.daemons.items c.requires.ready.posting.lines

pub returns-then-is_settled-clause-pays : goal.returns-then-is_settled-clause-pays
returns-then-is_settled-clause-pays c = done_pays c.args.switchboard c.finish.result c.requires.ready (c.is_settled.ensures.0 c.if-is_settled.true) c.finish.ensures

pub returns-then-is_settled-clause-stands : goal.returns-then-is_settled-clause-stands
returns-then-is_settled-clause-stands c = done_stands c.args.switchboard c.finish.result c.requires.ready c.finish.ensures

pub returns-clause-stands : goal.returns-clause-stands
returns-clause-stands c = goes_on c.args.switchboard c.requires.ready (λ settled. false≢true (sym c.if-is_settled.false ∙ c.is_settled.ensures.1 settled))
