use Rattle.stream_text.proofs.InputLaws.{refused_piece}
use Rattle.stream_text.proofs.piece.push_piece.Goals as goal

pub returns-in-Err-clause-bad : goal.returns-in-Err-clause-bad
returns-in-Err-clause-bad c = rw c.at.ensures (refused_piece _ c.args.number c.args.before c.args.line.now c.in-Err.ensures.bad)
