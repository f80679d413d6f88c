use Rattle.session_drive.proofs.SidesLaws.{caller_turned, one_ok}
use Rattle.session_drive.proofs.sides.Sides.turn_caller.Goals as goal

pub returns-clause-turns : goal.returns-clause-turns
returns-clause-turns c = λ input owed core h none.
    let reads = c.in_ok-read_replies.ensures.reads input owed core h none in
    one_ok c.send_requests.result (c.send_requests.ensures.sends input owed reads.after reads.stands) (λ sends. caller_turned input owed core _ _ _ reads sends)
