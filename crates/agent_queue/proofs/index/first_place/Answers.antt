use Rattle.std.proofs.Common.{◌≡◌, ◌∙◌, ap, sym, Some, None}
use Rattle.std.specs.Prelude.{if◌then◌else◌, bytes_eq}
use Rattle.agent_queue.specs.Index.{target_in}
use Rattle.agent_queue.proofs.IndexLaws.{target_known, target_new, target_noted}
use Rattle.agent_queue.proofs.index.first_place.Goals as goal

pub returns-in-Some : goal.returns-in-Some
returns-in-Some c = λ names long is. target_known names c.args.targets.now c.args.name.now c.in-Some.first (sym c.get.ensures.value ∙ (sym c.copied.ensures ∙ c.in-Some.is)) is

pub returns : goal.returns
returns c = λ names long is.
    let old = c.args.targets.now in
    let name = c.args.name.now in
    let none : target_in old name ≡ None = sym c.get.ensures.value ∙ (sym c.copied.ensures ∙ c.in_default.is) in
    let put = target_new names old c.insert.new.self name none
    (λ other. target_noted old c.insert.new.self c.args.name c.args.place c.in_ok-insert.ensures.updates.0 other ∙ ap (λ n. if bytes_eq other name then Some n else target_in old other) (sym long)) is in
    (put.0, put.1 ∙ ap Some long)
