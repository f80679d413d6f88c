use Rattle.std.proofs.Common.{refl}
use Rattle.qrexec_data.specs.CallerSide.{LendsRequests, caller_half}
use Rattle.session_drive.proofs.SidesLaws.{caller_sent, lent_few, told}
use Rattle.session_drive.proofs.sides.Sides.send_requests.Goals.{After-advance-arg-1}
use Rattle.session_drive.proofs.sides.Sides.send_requests.Goals as goal

lent : (c : After-advance-arg-1) → LendsRequests c.args.self.now.caller c.front.follows.lender-at-none c.in_ok-piece.piece.now
lent c = told (λ p. LendsRequests c.args.self.now.caller c.front.follows.lender-at-none p.now) c.front.result c.in_ok-piece.piece c.in_ok-piece.was c.front.follows.holds-at-none

pub advance-requires : goal.advance-requires
advance-requires c = lent_few caller_half c.args.self.now.caller c.front.follows.lender-at-none c.in_ok-piece.piece.now c.write-count.result (lent c) c.write-count.ensures.few

pub returns-clause-sends : goal.returns-clause-sends
returns-clause-sends c = λ input owed core h.
    caller_sent input owed core _ _ h refl c.front.follows.lender-at-none c.in_ok-piece.piece.now c.write-count.result (lent (goal.at.returns-clause-sends c).After-advance-arg-1) c.in_ok-piece.ensures.nothing (c.write-count.ensures.writes core h.rested)
    c.advance.ensures.gone c.advance.ensures.keeps (c.advance.ensures.stands tt)
