use Rattle.std.proofs.Common.{refl}
use Rattle.service_gate.specs.Owing.{builtin_owes}
use Rattle.qrexec_data.specs.ServingSide.{LendsAnswers, serving_half}
use Rattle.session_drive.proofs.SidesLaws.{serving_sent, lent_few, told}
use Rattle.session_drive.proofs.sides.Sides.send_replies.Goals.{After-advance-arg-1}
use Rattle.session_drive.proofs.sides.Sides.send_replies.Goals as goal

lent : (c : After-advance-arg-1) → LendsAnswers builtin_owes c.args.self.now.serving c.front.follows.lender-at-none c.in_ok-piece.piece.now
lent c = told (λ p. LendsAnswers builtin_owes c.args.self.now.serving c.front.follows.lender-at-none p.now) c.front.result c.in_ok-piece.piece c.in_ok-piece.was c.front.follows.holds-at-none

pub advance-requires : goal.advance-requires
advance-requires c = lent_few (serving_half builtin_owes) c.args.self.now.serving c.front.follows.lender-at-none c.in_ok-piece.piece.now c.write-count.result (lent c) c.write-count.ensures.few

pub returns-clause-sends : goal.returns-clause-sends
returns-clause-sends c = λ input owed core h.
    serving_sent input owed core _ _ h refl c.front.follows.lender-at-none c.in_ok-piece.piece.now c.write-count.result (lent (goal.at.returns-clause-sends c).After-advance-arg-1) (c.in_ok-piece.ensures.nothing owed core.client.sent h.serves)
    (c.write-count.ensures.writes core h.rested) c.advance.ensures.keeps c.advance.ensures.bytes (c.advance.ensures.stands owed)
