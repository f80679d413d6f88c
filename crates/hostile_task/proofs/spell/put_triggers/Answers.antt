-- Each trigger stands after the others.
use Rattle.std.proofs.Common.{◌+◌, ◌++◌, ℕ, List, ap, sym, ◌∙◌, add-one}
use Rattle.std.proofs.lemmas.List.{append-nil}
use Rattle.std.specs.List.{flat_map}
use Rattle.task_duties.specs.Places.{numbers}
use Rattle.task_duties.specs.Hostile.Trail.{numbered_trigger}
use Rattle.hostile_task.proofs.SpellLaws.{flat_map_numbers}
use Rattle.hostile_task.proofs.spell.put_triggers.Goals as goal

pub loop-said-init : goal.loop-said-init
loop-said-init c = sym (append-nil c.args.out.now.items)

pub loop-said-preserved : goal.loop-said-preserved
loop-said-preserved c =
    let trigger = numbered_trigger c.args.to.now c.args.service.now in
    c.in_ok-put_trigger.ensures ∙ ap (λ (bytes : List ℕ). bytes ++ trigger (c.loop-said.said + 1)) c.loop-said.invariant
    ∙ flat_map_numbers trigger c.args.out.now.items c.loop-said.said ∙ ap (λ (n : ℕ). c.args.out.now.items ++ flat_map trigger (numbers 1 1 n)) (sym (add-one c.loop-said.said))
