use Rattle.session_drive.proofs.SidesLaws.{one_ok, serving_turned}
use Rattle.session_drive.proofs.sides.Sides.turn_serving.Goals as goal

pub returns-clause-turns : goal.returns-clause-turns
returns-clause-turns c = λ input owed core h.
    let reads = c.in_ok-read_requests.ensures.reads input owed core h in
    one_ok c.send_replies.result (c.send_replies.ensures.sends input owed reads.after reads.stands) (λ sends. serving_turned input owed core _ _ _ reads sends)
