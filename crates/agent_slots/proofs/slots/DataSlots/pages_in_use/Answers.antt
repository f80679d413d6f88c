use Rattle.std.proofs.Common.{◌≤◌, ap, ◌∙◌, arith, length}
use Rattle.std.specs.Prelude.{count_by}
use Rattle.agent_slots.specs.Whole.{frames, is_late_at}
use Rattle.agent_slots.specs.Slots.{late_count}
use Rattle.agent_slots.proofs.BeginLaws.{whole_of, state_is}
use Rattle.agent_slots.proofs.OpenedLaws.{late_counted, late_read, late_step, take_past}
use Rattle.agent_slots.proofs.slots.DataSlots.pages_in_use.Goals as goal
use Rattle.agent_slots.proofs.slots.DataSlots.pages_in_use.Goals.{then-is_late, else-is_late}

pub index-requires : goal.index-requires
index-requires c =
    let e = c.self.inside.ends in
    let whole = whole_of e _ _ c.self.view_is c.requires.whole c.self.invariant.3 in
    let less = late_read e.slots.items e.busy.items c.deref-at-items.result.now c.loop-at.at-index whole.are_open c.deref-at-items.ensures.value c.loop-at-test.true in
    omega (arith, less, e.slots.ok.0)

pub loop-at-preserved : goal.loop-at-preserved
loop-at-preserved c =
    let e = c.self.inside.ends in
    let whole = whole_of e _ _ c.self.view_is c.requires.whole c.self.invariant.3 in
    let step = late_step e.slots.items e.busy.items c.deref-at-items.result.now c.loop-at.at-index c.index.result.now c.loop-at.count c.is_late.result whole.are_open c.deref-at-items.ensures.value c.loop-at-test.true c.index.ensures c.is_late.ensures c.loop-at.invariant in
    elim c.if-is_late.branch [ then-is_late w ↦ w.count-is ∙ step.0 w.if-is_late.true | else-is_late w ↦ w.count-is ∙ step.1 w.if-is_late.false ]

pub returns : goal.returns
returns c =
    let e = c.self.inside.ends in
    let whole = whole_of e _ _ c.self.view_is c.requires.whole c.self.invariant.3 in
    let all : length e.busy.items ≤ c.loop-at.at-index = omega (arith, c.loop-at-test.false, ap length c.deref-at-items.ensures.value) in
    c.loop-at.invariant ∙ (ap (λ l. count_by (is_late_at (frames e.slots.items)) l) (take_past e.busy.items c.loop-at.at-index all) ∙ (late_counted e whole ∙ ap late_count (state_is e _ _ c.self.view_is c.requires.whole)))
