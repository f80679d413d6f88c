use Rattle.std.proofs.Common.{ap, sym, ◌∙◌}
use Rattle.vchan_rule.specs.Seated.{view}
use Rattle.agent_slots.specs.Slots.{held_of}
use Rattle.agent_slots.specs.Sides.{seen_under, is_late_side}
use Rattle.agent_slots.specs.Stages.{ForCall, framed, place_of}
use Rattle.ring_words.specs.declared.page.Role.TheVariants.{Server}
use Rattle.agent_slots.proofs.BeginLaws.{unused_end}
use Rattle.agent_slots.proofs.SideLaws.{put_to_use}
use Rattle.agent_slots.proofs.slot.Slot.call.Goals as goal

pub returns-clause-frame : goal.returns-clause-frame
returns-clause-frame c =
    let place = place_of c.args.self.now in
    let side = c.open_server-end.result.1 in
    let used = ForCall c.args.number c.args.input.value.items in
    ap (framed place) c.replace-2.ensures.after
    ∙ (ap (λ e. record { held = held_of place (seen_under side (view e)); used = used; late = is_late_side side }) c.new.ensures.1
    ∙ put_to_use place c.args.self.now.stage c.in-Unused.end side (view c.open_server-end.result.0) used (sym c.replace.ensures.value ∙ c.in-Unused.is) c.open_server-end.ensures.seen c.open_server-end.ensures.late)

pub unreachable-requires : goal.unreachable-requires
unreachable-requires c = let h = unused_end Server _ c.requires.unused in c.in_default.not-Unused h.0 (c.replace.ensures.value ∙ h.1)
