use Rattle.std.proofs.Common.{◌∙◌, sym, arith}
use Rattle.qrexec_frame.specs.declared.kind.Channel.TheVariants.{Data}
use Rattle.qrexec_c.specs.Sessions.{AreNumbers}
use Rattle.qrexec_c.proofs.HearsLaws.{Found_next, takes_next, holds_fault, holds_frame, waits, on_data, sound_if, sound_none, unchanged}
use Rattle.qrexec_c.proofs.SentLaws.{next_kept, next_keeps}
use Rattle.qrexec_c.proofs.session.qrexec_session_next.Goals as goal

pub returns-then-answer-ne1-clause-same : goal.returns-then-answer-ne1-clause-same
returns-then-answer-ne1-clause-same c =
    let numbers : AreNumbers c.args.session.now = c.are_numbers.ensures.0 c.if-not-are_numbers.false in
    let next = c.qrexec_next-answer in
    unchanged c.args.session.now next.new.reader c.args.bytes.now c.args.found.now next.new.found next.result numbers (λ zero. next.ensures.less zero Data (on_data c.args.session.now numbers)) next.ensures.none.0 next.ensures.numbers

pub returns-then-answer-ne1-clause-less : goal.returns-then-answer-ne1-clause-less
returns-then-answer-ne1-clause-less c = λ zero stream given h.
    let numbers : AreNumbers c.args.session.now = c.are_numbers.ensures.0 c.if-not-are_numbers.false in
    let next = c.qrexec_next-answer in
    let sound = sound_if c.args.session.now next.result (omega (arith, zero)) (λ some. (next.ensures.faulted some).2) in
    waits c.args.session.now next.new.reader c.args.bytes.now stream given sound (next.ensures.less zero Data (on_data c.args.session.now numbers)).0 h

pub returns-then-answer-ne1-clause-fault : goal.returns-then-answer-ne1-clause-fault
returns-then-answer-ne1-clause-fault c = λ two held stream given h.
    let numbers : AreNumbers c.args.session.now = c.are_numbers.ensures.0 c.if-not-are_numbers.false in
    let next = c.qrexec_next-answer in
    let sound = sound_none c.args.session.now numbers held in
    holds_frame c.args.session.now next.new.reader c.args.bytes.now stream given sound c.if-session-ne0.false (next.ensures.fault two sound Data (on_data c.args.session.now numbers)).0 h

then_found : (c : goal.Then-session-eq0) → Found_next c.args.session.now c.qrexec_next-answer.new.reader c.args.bytes.now c.qrexec_next-answer.new.found
then_found c =
    let numbers : AreNumbers c.args.session.now = c.are_numbers.ensures.0 c.if-not-are_numbers.false in
    let next = c.qrexec_next-answer in
    let one = c.if-answer-ne1.false in
    record {
      sound = sound_if c.args.session.now next.result (omega (arith, one)) (λ some. (next.ensures.faulted some).2);
      none = c.if-session-ne0.false;
      on = sym c.is_over.ensures ∙ c.if-is_over.false;
      next = next.ensures.next one Data (on_data c.args.session.now numbers);
    }

else_found : (c : goal.Else-session-eq0) → Found_next c.args.session.now c.qrexec_next-answer.new.reader c.args.bytes.now c.qrexec_next-answer.new.found
else_found c =
    let numbers : AreNumbers c.args.session.now = c.are_numbers.ensures.0 c.if-not-are_numbers.false in
    let next = c.qrexec_next-answer in
    let one = c.if-answer-ne1.false in
    record {
      sound = sound_if c.args.session.now next.result (omega (arith, one)) (λ some. (next.ensures.faulted some).2);
      none = c.if-session-ne0.false;
      on = sym c.is_over.ensures ∙ c.if-is_over.false;
      next = next.ensures.next one Data (on_data c.args.session.now numbers);
    }

pub returns-then-session-eq0-clause-next : goal.returns-then-session-eq0-clause-next
returns-then-session-eq0-clause-next c = λ _ stream given h.
    takes_next c.args.session.now c.hear.new.session c.qrexec_next-answer.new.reader c.args.bytes.now stream c.qrexec_next-answer.new.found given c.hear.ensures (then_found c) c.if-session-eq0.true h

pub returns-then-session-eq0-clause-sent : goal.returns-then-session-eq0-clause-sent
returns-then-session-eq0-clause-sent c = λ sent. next_kept c.qrexec_next-answer.new.found.kind c.qrexec_next-answer.new.found.len c.qrexec_next-answer.new.found.first c.args.session.now.reader.at c.args.session.now c.hear.new.session c.qrexec_next-answer.new.reader sent c.hear.ensures

pub returns-else-session-eq0-clause-fault : goal.returns-else-session-eq0-clause-fault
returns-else-session-eq0-clause-fault c = λ _ held stream given h.
    holds_fault c.args.session.now c.hear.new.session c.qrexec_next-answer.new.reader c.args.bytes.now stream c.qrexec_next-answer.new.found given c.hear.ensures (else_found c) c.if-session-eq0.false h

pub returns-else-session-eq0-clause-sent : goal.returns-else-session-eq0-clause-sent
returns-else-session-eq0-clause-sent c = λ sent. next_kept c.qrexec_next-answer.new.found.kind c.qrexec_next-answer.new.found.len c.qrexec_next-answer.new.found.first c.args.session.now.reader.at c.args.session.now c.hear.new.session c.qrexec_next-answer.new.reader sent c.hear.ensures

pub returns-then-session-eq0-clause-kept : goal.returns-then-session-eq0-clause-kept
returns-then-session-eq0-clause-kept c =
    let found = c.qrexec_next-answer.new.found in
    next_keeps found.kind found.len found.first c.args.session.now.reader.at c.args.session.now c.hear.new.session c.qrexec_next-answer.new.reader c.hear.ensures

pub returns-else-session-eq0-clause-kept : goal.returns-else-session-eq0-clause-kept
returns-else-session-eq0-clause-kept c =
    let found = c.qrexec_next-answer.new.found in
    next_keeps found.kind found.len found.first c.args.session.now.reader.at c.args.session.now c.hear.new.session c.qrexec_next-answer.new.reader c.hear.ensures
