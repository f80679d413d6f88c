use Rattle.std.proofs.Common.{refl}
use Rattle.std.proofs.lemmas.Result.{err_from_is_err_and}
use Rattle.scenario_file.specs.ActWords.{name_word, service_word}
use Rattle.scenario_file.proofs.ActLaws.{refused_part}
use Rattle.scenario_file.proofs.act_words.trigger_from.Goals as goal

pub returns-in_err-name_word-clause-act : goal.returns-in_err-name_word-clause-act
returns-in_err-name_word-clause-act c =
    let p = err_from_is_err_and c.from_residual.result c.from_residual.ensures.1 in
    rw (p.1, p.2) (refused_part c.in_err-name_word.field-0.0 (name_word c.args.to.now) _ (λ none. rw none refl) c.in_err-name_word.ensures.name)

pub returns-in_err-service_word-clause-act : goal.returns-in_err-service_word-clause-act
returns-in_err-service_word-clause-act c =
    let p = err_from_is_err_and c.from_residual-in_err-service_word.result c.from_residual-in_err-service_word.ensures.1 in
    rw (p.1, p.2) (refused_part c.in_err-service_word.field-0.0 (service_word c.args.service.now) _ (λ none. rw (c.in_ok-name_word.ensures.name, none) refl) c.in_err-service_word.ensures.service)

pub returns-clause-act : goal.returns-clause-act
returns-clause-act c = rw (c.in_ok-name_word.ensures.name, c.in_ok-service_word.ensures.service, ← c.in-Some.ensures.number) refl
