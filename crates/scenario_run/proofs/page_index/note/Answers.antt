use Rattle.std.proofs.Common.{◌≡◌, ◌++◌, ◌∷◌, [], sym, subst, None, rules}
use Rattle.task_duties.specs.declared.place.PagePlace.{PagePlace}
use Rattle.agent_slots.specs.Index.{end_at}
use Rattle.scenario_run.specs.Index.{AreNumbers}
use Rattle.scenario_run.proofs.IndexLaws.{known_more, new_more, other_more}
use Rattle.scenario_run.proofs.page_index.note.Goals as goal

pub returns-in_default : goal.returns-in_default
returns-in_default c = λ places long was. other_more c.args.place c.args.numbers.now c.in_default.not-Payload places was

pub returns-in_ok-insert : goal.returns-in_ok-insert
returns-in_ok-insert c = λ places long was.
    let f = c.in-Payload.from in
    let t = c.in-Payload.to in
    let p = c.in-Payload.port in
    let free : end_at c.args.numbers.now f t p ≡ None = search rules in
    subst (λ (place : PagePlace). AreNumbers (places ++ place ∷ []) c.insert.new.self) (sym c.in-Payload.is) (new_more places f t p c.args.number c.args.numbers.now c.insert.new.self long free c.in_ok-insert.ensures.updates.0 was)

pub returns-else-is_none : goal.returns-else-is_none
returns-else-is_none c = λ places long was.
    let f = c.in-Payload.from in
    let t = c.in-Payload.to in
    let p = c.in-Payload.port in
    subst (λ (place : PagePlace). AreNumbers (places ++ place ∷ []) c.args.numbers.now) (sym c.in-Payload.is) (known_more places f t p c.args.numbers.now (λ none. search rules) was)
