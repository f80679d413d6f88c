-- Each round is one more, and the last one answers.
use Rattle.std.proofs.Common.{ℕ, min, refl, subst, sym, ◌∙◌, arith}
use Rattle.std.proofs.lemmas.Grind.{common_steps}
use Rattle.vchan_protocol.specs.declared.call.Call.TheVariants.{Recv}
use Rattle.vchan_protocol.specs.Table.Calls.{Trace}
use Rattle.vchan_protocol.specs.History.Core.{standing_of}
use Rattle.vchan_packet.specs.Packet.{recv_told}
use Rattle.vchan_packet.specs.declared.RecvAnswer.TheVariants as recv
use Rattle.vchan_block.specs.Rounds.{IsRecvRound, RecvEnds, FindsFew}
use Rattle.vchan_block.proofs.receiving.recv.Goals as goal

pub returns-in-Got-clause-rounds : goal.returns-in-Got-clause-rounds
returns-in-Got-clause-rounds g c =
    c.rounds.invariant.goes_on c.recv.new.buf c.recv.new.end recv.Got
    (RecvEnds (subst (λ (n : ℕ). IsRecvRound (min n 4294967295) recv.Got c.recv.new.buf c.rounds.end c.recv.new.end) c.rounds.invariant.long
    (record { view_is = c.in-Got.ensures.view; once = c.in-Got.ensures.once; trail = c.in-Got.ensures.trail })))

pub returns-in-Got-clause-trail : goal.returns-in-Got-clause-trail
returns-in-Got-clause-trail g c = (
  standing_of c.rounds.end.side,
  subst (λ (n : ℕ). Trace (standing_of c.rounds.end.side) (Recv (min n 4294967295)) c.recv.new.end.side.trail (recv_told (min n 4294967295) recv.Got)) (sym c.recv.ensures.long) c.in-Got.ensures.trail,
)

pub returns-in-PeerClosed-clause-rounds : goal.returns-in-PeerClosed-clause-rounds
returns-in-PeerClosed-clause-rounds g c =
    c.rounds.invariant.goes_on c.recv.new.buf c.recv.new.end recv.PeerClosed
    (RecvEnds (subst (λ (n : ℕ). IsRecvRound (min n 4294967295) recv.PeerClosed c.recv.new.buf c.rounds.end c.recv.new.end) c.rounds.invariant.long
    (record { view_is = c.in-PeerClosed.ensures.view; once = c.in-PeerClosed.ensures.once; trail = c.in-PeerClosed.ensures.trail })))

pub returns-in-PeerClosed-clause-trail : goal.returns-in-PeerClosed-clause-trail
returns-in-PeerClosed-clause-trail g c = (
  standing_of c.rounds.end.side,
  subst (λ (n : ℕ). Trace (standing_of c.rounds.end.side) (Recv (min n 4294967295)) c.recv.new.end.side.trail (recv_told (min n 4294967295) recv.PeerClosed)) (sym c.recv.ensures.long) c.in-PeerClosed.ensures.trail,
)

pub returns-in-Got-clause-kept : goal.returns-in-Got-clause-kept
returns-in-Got-clause-kept g c = λ other. absurd (other refl)

pub returns-in-PeerClosed-clause-kept : goal.returns-in-PeerClosed-clause-kept
returns-in-PeerClosed-clause-kept g c = λ other. c.in-PeerClosed.ensures.kept refl ∙ c.rounds.invariant.kept

pub rounds-preserved : goal.rounds-preserved
rounds-preserved g c = record {
  same = grind (arith, common_steps);
  open_is = c.wait.ensures.open;
  view_is = c.wait.ensures.view ∙ c.in-Short.ensures.view ∙ c.rounds.invariant.view_is;
  kept = c.in-Short.ensures.kept refl ∙ c.rounds.invariant.kept;
  long = c.recv.ensures.long ∙ c.rounds.invariant.long;
  goes_on = λ buffer new answer rest. c.rounds.invariant.goes_on buffer new answer
      (FindsFew c.in-Short.prod c.in-Short.cons c.recv.new.buf c.recv.new.end c.wait.new.end
      (subst (λ (n : ℕ). IsRecvRound (min n 4294967295) (recv.Short c.in-Short.prod c.in-Short.cons) c.recv.new.buf c.rounds.end c.recv.new.end) c.rounds.invariant.long
      (record { view_is = c.in-Short.ensures.view; once = c.in-Short.ensures.once; trail = c.in-Short.ensures.trail }))
      c.wait.ensures.waits rest);
}
