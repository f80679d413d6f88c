use Rattle.vchan_c.proofs.StretchLaws.{stretched, told_some, store_answers, signal_answers, left_rest}
use Rattle.std.proofs.Common.{rules}
use Rattle.vchan_c.proofs.stretch.after_bytes.Goals as goal

pub returns-in-Some-clause-stretch : goal.returns-in-Some-clause-stretch
returns-in-Some-clause-stretch g c = λ before passed. store_answers before c.args.machine.now _ _ _ c.pass_store-store.result.1 c.in-Some.answer passed.leads passed.stands
    c.pass_store-store.ensures.events c.pass_store-store.ensures.standing c.in-Some.is (search rules)

pub returns-in-Some-answer-clause-stretch : goal.returns-in-Some-answer-clause-stretch
returns-in-Some-answer-clause-stretch g c = λ before passed. signal_answers before c.args.machine.now c.pass_store-store.new.machine c.pass_signal-signals.new.machine
    c.args.moves c.pass_store-store.result.0 c.pass_signal-signals.result.0 c.pass_signal-signals.result.1 c.in-Some-answer.answer
    passed.leads passed.stands
    (left_rest _ _ _ _ c.in_default.is c.pass_store-store.ensures.events) c.pass_store-store.ensures.standing
    c.pass_signal-signals.ensures.events c.pass_signal-signals.ensures.standing c.in-Some-answer.is (search rules)

pub returns-in-None-clause-stretch : goal.returns-in-None-clause-stretch
returns-in-None-clause-stretch g c = λ before passed.
    let store_leads = left_rest _ _ _ _ c.in_default.is c.pass_store-store.ensures.events in
    let signal_leads = left_rest _ _ _ _ c.in-None.is c.pass_signal-signals.ensures.events in
    stretched before c.args.machine.now c.pass_store-store.new.machine c.pass_signal-signals.new.machine c.pass_last-last.new.machine
    c.args.moves c.pass_store-store.result.0 c.pass_signal-signals.result.0 c.pass_last-last.result
    passed.leads passed.stands
    store_leads c.pass_store-store.ensures.standing
    signal_leads c.pass_signal-signals.ensures.standing c.pass_last-last.ensures.events c.pass_last-last.ensures.standing c.pass_last-last.ensures.last
    (λ is. told_some before c.args.machine.now c.pass_store-store.new.machine c.pass_signal-signals.new.machine
    c.args.moves c.pass_store-store.result.0 c.pass_signal-signals.result.0 c.pass_last-last.result _ _
    passed.leads passed.within passed.none
    store_leads passed.stands c.pass_store-store.ensures.none
    signal_leads c.pass_store-store.ensures.standing c.pass_signal-signals.ensures.none (c.pass_last-last.ensures.further is))
