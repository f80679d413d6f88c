-- Each round is one more, and the last one answers.
use Rattle.std.proofs.Common.{ℕ, min, List, refl, subst, ap, ◌∙◌, arith}
use Rattle.std.proofs.lemmas.Grind.{common_steps}
use Rattle.vchan_protocol.specs.declared.call.Call.TheVariants.{Read}
use Rattle.vchan_protocol.specs.Table.Apply.{filled}
use Rattle.vchan_protocol.specs.Table.Calls.{Trace}
use Rattle.vchan_protocol.specs.History.Core.{standing_of, bytes_loaded}
use Rattle.vchan_stream.specs.Stream.{read_told}
use Rattle.vchan_stream.specs.declared.ReadAnswer.TheVariants as read
use Rattle.vchan_block.specs.declared.reading.BlockRead.TheVariants as got
use Rattle.vchan_block.specs.Rounds.{IsReadRound, Ends, FindsNone}
use Rattle.vchan_block.proofs.reading.read.Goals as goal

pub returns-in-Got-clause-rounds : goal.returns-in-Got-clause-rounds
returns-in-Got-clause-rounds g c =
    c.rounds.invariant.goes_on c.read.new.buf c.read.new.end (got.Got c.in-Got.count)
    (Ends (subst (λ (n : ℕ). IsReadRound (min n 4294967295) (read.Got c.in-Got.count) c.read.new.buf c.rounds.end c.read.new.end) c.rounds.invariant.long
    (record { view_is = c.in-Got.ensures.view; once = c.in-Got.ensures.once; trail = c.in-Got.ensures.trail })))

pub returns-in-PeerClosed-clause-rounds : goal.returns-in-PeerClosed-clause-rounds
returns-in-PeerClosed-clause-rounds g c =
    c.rounds.invariant.goes_on c.read.new.buf c.read.new.end got.PeerClosed
    (Ends (subst (λ (n : ℕ). IsReadRound (min n 4294967295) read.PeerClosed c.read.new.buf c.rounds.end c.read.new.end) c.rounds.invariant.long
    (record { view_is = c.in-PeerClosed.ensures.view; once = c.in-PeerClosed.ensures.once; trail = c.in-PeerClosed.ensures.trail })))

pub returns-in-Got-clause-trail : goal.returns-in-Got-clause-trail
returns-in-Got-clause-trail g c = (
  standing_of c.rounds.end.side,
  subst (λ (n : ℕ). Trace (standing_of c.rounds.end.side) (Read (min n 4294967295)) c.read.new.end.side.trail (read_told (read.Got c.in-Got.count))) c.rounds.invariant.long c.in-Got.ensures.trail,
)

pub returns-in-PeerClosed-clause-trail : goal.returns-in-PeerClosed-clause-trail
returns-in-PeerClosed-clause-trail g c = (
  standing_of c.rounds.end.side,
  subst (λ (n : ℕ). Trace (standing_of c.rounds.end.side) (Read (min n 4294967295)) c.read.new.end.side.trail (read_told read.PeerClosed)) c.rounds.invariant.long c.in-PeerClosed.ensures.trail,
)

pub returns-in-Got-clause-fills : goal.returns-in-Got-clause-fills
returns-in-Got-clause-fills g c = c.in-Got.ensures.fills ∙ ap (λ (xs : List ℕ). filled xs (bytes_loaded c.read.new.end.side.trail)) c.rounds.invariant.kept

pub returns-in-PeerClosed-clause-fills : goal.returns-in-PeerClosed-clause-fills
returns-in-PeerClosed-clause-fills g c = c.in-PeerClosed.ensures.fills ∙ ap (λ (xs : List ℕ). filled xs (bytes_loaded c.read.new.end.side.trail)) c.rounds.invariant.kept

pub returns-in-Got-clause-kept : goal.returns-in-Got-clause-kept
returns-in-Got-clause-kept g c = λ none. c.in-Got.ensures.kept none ∙ c.rounds.invariant.kept

pub returns-in-PeerClosed-clause-kept : goal.returns-in-PeerClosed-clause-kept
returns-in-PeerClosed-clause-kept g c = λ none. c.in-PeerClosed.ensures.kept none ∙ c.rounds.invariant.kept

pub rounds-preserved : goal.rounds-preserved
rounds-preserved g c = record {
  same = grind (arith, common_steps);
  open_is = c.wait.ensures.open;
  view_is = c.wait.ensures.view ∙ c.in-Empty.ensures.view ∙ c.rounds.invariant.view_is;
  kept = c.in-Empty.ensures.kept refl ∙ c.rounds.invariant.kept;
  long = c.read.ensures.long ∙ c.rounds.invariant.long;
  goes_on = λ buffer new answer rest. c.rounds.invariant.goes_on buffer new answer
      (FindsNone c.in-Empty.prod c.in-Empty.cons c.read.new.buf c.read.new.end c.wait.new.end
      (subst (λ (n : ℕ). IsReadRound (min n 4294967295) (read.Empty c.in-Empty.prod c.in-Empty.cons) c.read.new.buf c.rounds.end c.read.new.end) c.rounds.invariant.long
      (record { view_is = c.in-Empty.ensures.view; once = c.in-Empty.ensures.once; trail = c.in-Empty.ensures.trail }))
      c.wait.ensures.waits rest);
}
