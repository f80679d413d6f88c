use Rattle.std.proofs.Common.{◌≡◌, refl, arith, None, subst, sym, ℕ, Option}
use Rattle.vchan_protocol.specs.History.Core.{opened}
use Rattle.vchan_protocol.specs.declared.call.EndState.TheVariants.{Open}
use Rattle.qrexec_data.specs.declared.outcome.Outcome.{Outcome}
use Rattle.qrexec_data.specs.Reading.{IsByBytes}
use Rattle.qrexec_data.specs.Laws.{IsVersion}
use Rattle.session_drive.specs.Driving.{IsSpeech}
use Rattle.session_drive.specs.declared.driving.Speech.{Speech}
use Rattle.session_drive.proofs.EndLaws.{named_codes}
use Rattle.session_drive.proofs.driving.drive.Goals.{After-as_mut_slice}
use Rattle.session_drive.proofs.driving.drive.Goals as goal

speaks : (own : ℕ) (s : Speech) → IsSpeech s → own ≡ s.version → IsVersion own
speaks own s is same = record { least = omega (arith, is.least, same); small = omega (arith, is.most, same) }

undecided : (o : Option Outcome) → o ≡ None → IsByBytes o
undecided o is = subst IsByBytes (sym is) tt

pub rounds-requires-clause-begins : goal.rounds-requires-clause-begins
rounds-requires-clause-begins c = record {
  input = c.args.stdin.items;
  service = c.args.service;
  core = opened c.args.page.orders c.args.page.start (c.number.result, c.number-2.result) Open;
  codes = named_codes c.args.service c.requires.named;
  stands = record {
    rested = record { between = record { stands = c.in_ok-open.ensures.stands; kept = c.in_ok-open.ensures.invariant; honest = (refl, refl); idle = (refl, refl) }; opened = (refl, refl) };
    calls = c.in_ok-new.ensures.new.2;
    serves = c.in_ok-new-2.ensures.new.2;
    caller_got = c.in_ok-new.ensures.new.0;
    serving_got = c.in_ok-new-2.ensures.new.0;
    asks = c.in_ok-new.ensures.asked.0;
    caller_speaks = speaks _ c.args.caller c.requires.caller c.in_ok-new.ensures.asked.2;
    serving_speaks = speaks _ c.args.serving c.requires.serving c.in_ok-new-2.ensures.asked.1;
    caller_read = undecided _ c.in_ok-new.ensures.new.1;
    serving_read = undecided _ c.in_ok-new-2.ensures.new.1;
  };
  undecided = c.in_ok-new.ensures.new.1;
  enough = omega (arith, c.len.ensures);
}

pub call_end-requires : goal.call_end-requires
call_end-requires c =
    let b = rounds-requires-clause-begins (goal.at.call_end-requires c).After-as_mut_slice in
    (_, (c.in_ok-turns.ensures b.input b.service b.core b.codes b.stands).ends)

pub returns : goal.returns
unfolding rounds-requires-clause-begins
returns c =
    let b = rounds-requires-clause-begins (goal.at.returns c).After-as_mut_slice in
    let came = c.in_ok-turns.ensures b.input b.service b.core b.codes b.stands in
    let ends = c.call_end.ensures.ends _ (b.codes b.input) came.ends in
    record { code = ends.0; stdout = ends.1; stderr = ends.2; few = omega (arith, came.few, c.call_end.ensures.turns, c.len.ensures) }
