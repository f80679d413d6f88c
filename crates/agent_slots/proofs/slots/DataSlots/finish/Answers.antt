use Rattle.std.proofs.Common.{ap, sym, ◌∙◌, subst, List, map}
use Rattle.std.specs.Prelude.{Option}
use Rattle.task_duties.specs.GivenEnds.{retired_at}
use Rattle.agent_slots.specs.declared.note.CallNote.{CallNote}
use Rattle.agent_slots.specs.declared.note.ServedNote.{ServedNote}
use Rattle.agent_slots.specs.declared.done.SessionDone.{SessionDone}
use Rattle.agent_slots.specs.Slots.{SlotsState}
use Rattle.agent_slots.specs.Whole.{frames}
use Rattle.agent_slots.specs.Finished.{AreCalls, AreServings, call_at, served_at}
use Rattle.agent_slots.proofs.BeginLaws.{whole_of}
use Rattle.agent_slots.proofs.OpenLaws.{none_busy, all_shut}
use Rattle.agent_slots.proofs.FinishLaws.{are_calls, are_servings, all_called, all_served}
use Rattle.agent_slots.proofs.slots.DataSlots.finish.Goals as goal

pub finish_all-ends-requires-clause-closed : goal.finish_all-ends-requires-clause-closed
finish_all-ends-requires-clause-closed c =
    let e = c.self.inside.ends in
    let whole = whole_of e _ _ c.self.view_is c.requires.whole c.self.invariant.3 in
    all_shut e.slots.items e.busy.items whole.are_open (none_busy (frames e.slots.items) e.busy.items (ap (λ (s : SlotsState). s.opened) c.self.view_is ∙ c.requires.idle))

pub session_ends-requires-clause-calls : goal.session_ends-requires-clause-calls
session_ends-requires-clause-calls c =
    let e = c.self.inside.ends in
    let whole = whole_of e _ _ c.self.view_is c.requires.whole c.self.invariant.3 in
    let done = c.finish_all-ends.ensures in
    let are = are_calls e.version e.domain (frames e.slots.items) done.back.rest c.finish_all-ends.new.reports.items e.calls.items e.served.items (done.reported e.version whole.stages) whole.have_ends in
    subst (λ (rs : List SessionDone). AreCalls rs c.deref.result.now) (sym c.deref_mut.ensures.value) (subst (λ (ns : List (Option CallNote)). AreCalls c.finish_all-ends.new.reports.items ns) (sym c.deref.ensures.value) are)

pub session_ends-requires-clause-served : goal.session_ends-requires-clause-served
session_ends-requires-clause-served c =
    let e = c.self.inside.ends in
    let whole = whole_of e _ _ c.self.view_is c.requires.whole c.self.invariant.3 in
    let done = c.finish_all-ends.ensures in
    let are = are_servings e.version e.domain (frames e.slots.items) done.back.rest c.finish_all-ends.new.reports.items e.calls.items e.served.items (done.reported e.version whole.stages) whole.have_ends in
    subst (λ (rs : List SessionDone). AreServings rs c.deref-2.result.now) (sym c.deref_mut.ensures.value) (subst (λ (ns : List ServedNote). AreServings c.finish_all-ends.new.reports.items ns) (sym c.deref-2.ensures.value) are)

pub returns-clause-calls : goal.returns-clause-calls
returns-clause-calls c =
    let e = c.self.inside.ends in
    let whole = whole_of e _ _ c.self.view_is c.requires.whole c.self.invariant.3 in
    let reports = c.finish_all-ends.new.reports.items in
    all_called e _ _ (retired_at c.args.first) _ reports c.in-Ok.calls.items c.self.view_is whole c.finish_all-ends.ensures
    (c.in-Ok.ensures.calls ∙ (ap (λ (rs : List SessionDone). map (call_at rs) c.deref.result.now) c.deref_mut.ensures.value ∙ ap (λ ns. map (call_at reports) ns) c.deref.ensures.value))

pub returns-clause-served : goal.returns-clause-served
returns-clause-served c =
    let e = c.self.inside.ends in
    let whole = whole_of e _ _ c.self.view_is c.requires.whole c.self.invariant.3 in
    let reports = c.finish_all-ends.new.reports.items in
    all_served e _ _ (retired_at c.args.first) _ reports c.in-Ok.served.items c.self.view_is whole c.finish_all-ends.ensures
    (c.in-Ok.ensures.served ∙ (ap (λ (rs : List SessionDone). map (served_at rs) c.deref-2.result.now) c.deref_mut.ensures.value ∙ ap (λ ns. map (served_at reports) ns) c.deref-2.ensures.value))
