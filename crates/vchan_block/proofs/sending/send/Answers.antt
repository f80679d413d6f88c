-- Each round is one more, and the last one answers.
use Rattle.std.proofs.Common.{◌∙◌, arith}
use Rattle.std.proofs.lemmas.Grind.{common_steps}
use Rattle.vchan_protocol.specs.History.Core.{standing_of}
use Rattle.vchan_packet.specs.declared.SendAnswer.TheVariants as send
use Rattle.vchan_block.specs.Rounds.{SendEnds, FindsNoRoom}
use Rattle.vchan_block.proofs.sending.send.Goals as goal

pub returns-in-Sent-clause-rounds : goal.returns-in-Sent-clause-rounds
returns-in-Sent-clause-rounds g c =
    c.rounds.invariant.goes_on c.send.new.end send.Sent (SendEnds (record { view_is = c.in-Sent.ensures.view; once = c.in-Sent.ensures.once; trail = c.in-Sent.ensures.trail }))

pub returns-in-Sent-clause-trail : goal.returns-in-Sent-clause-trail
returns-in-Sent-clause-trail g c = (standing_of c.rounds.end.side, c.in-Sent.ensures.trail)

pub returns-in-PeerClosed-clause-rounds : goal.returns-in-PeerClosed-clause-rounds
returns-in-PeerClosed-clause-rounds g c =
    c.rounds.invariant.goes_on c.send.new.end send.PeerClosed (SendEnds (record { view_is = c.in-PeerClosed.ensures.view; once = c.in-PeerClosed.ensures.once; trail = c.in-PeerClosed.ensures.trail }))

pub returns-in-PeerClosed-clause-trail : goal.returns-in-PeerClosed-clause-trail
returns-in-PeerClosed-clause-trail g c = (standing_of c.rounds.end.side, c.in-PeerClosed.ensures.trail)

pub rounds-preserved : goal.rounds-preserved
rounds-preserved g c = record {
  same = grind (arith, common_steps);
  open_is = c.wait.ensures.open;
  view_is = c.wait.ensures.view ∙ c.in-NoRoom.ensures.view ∙ c.rounds.invariant.view_is;
  goes_on = λ new answer rest. c.rounds.invariant.goes_on new answer
      (FindsNoRoom c.in-NoRoom.prod c.in-NoRoom.cons c.send.new.end c.wait.new.end
      (record { view_is = c.in-NoRoom.ensures.view; once = c.in-NoRoom.ensures.once; trail = c.in-NoRoom.ensures.trail })
      c.wait.ensures.waits rest);
}
