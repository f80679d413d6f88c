use Rattle.std.proofs.Common.{ap, sym, ◌∙◌, subst, ◌∷◌, ◌++◌, [], set, arith}
use Rattle.std.specs.Prelude.{None, Some, slice_get, is_some}
use Rattle.std.proofs.lemmas.Bool.{false≢true}
use Rattle.std.proofs.lemmas.Option.{slice_get_within}
use Rattle.std.proofs.Math.ListN.{length-set}
use Rattle.list_laws.proofs.Each.{each_set}
use Rattle.list_laws.proofs.Places.{same_read}
use Rattle.task_duties.specs.declared.place.PagePlace.TheVariants.{Payload}
use Rattle.task_duties.specs.declared.done.SessionEnd.{SessionEnd}
use Rattle.task_duties.specs.Places.{has_place}
use Rattle.agent_slots.specs.declared.slot.Slot.{Slot}
use Rattle.agent_slots.specs.Slots.{SlotsState}
use Rattle.agent_slots.specs.Sessions.{KeepsSessions, sessions_in}
use Rattle.agent_slots.specs.Stages.{ForCall, CanRetire, HasPage, IsStage, frame_of}
use Rattle.agent_slots.specs.Whole.{IsWhole, state_of}
use Rattle.agent_slots.proofs.BeginLaws.{IsFree, is_free, free_server, used_within, whole_of}
use Rattle.agent_slots.proofs.StateLaws.{HasBegun, in_use, none_called, call_begun}
use Rattle.agent_slots.proofs.slots.DataSlots.call.Goals.{After-index_mut, After-call}
use Rattle.agent_slots.proofs.slots.DataSlots.call.Goals as goal

-- the slot that was found, and what is kept of all ends once its end is put to use
whole : (c : After-index_mut) → IsWhole c.self.inside.ends
whole c = whole_of c.self.inside.ends _ _ c.self.view_is c.requires.whole c.self.invariant.3

free : (c : After-index_mut) → IsFree c.self.inside.ends.slots.items c.in-Some.at (Payload c.self.inside.ends.domain c.args.to c.args.port) c.index_mut.result.now
free c = is_free c.self.inside.ends.slots.items c.in-Some.at _ c.index_mut.result.now c.in-Some.ensures.found c.index_mut.ensures.value

begun : (c : After-call) → IsWhole c.self.inside.ends → IsFree c.self.inside.ends.slots.items c.in-Some.at (Payload c.self.inside.ends.domain c.args.to c.args.port) c.index_mut.result.now
    → HasBegun c.self.inside.ends c.self.inside.spent.value (set c.self.inside.ends.slots.items c.in-Some.at c.call.new.self) c.push_reserved.new.self.items
    (set c.self.inside.ends.calls.items c.args.number (Some (record { at = c.in-Some.at; to = c.args.to; port = c.args.port; input = c.of.result }))) c.self.inside.ends.served.items
    (Payload c.self.inside.ends.domain c.args.to c.args.port) (record { domain = c.args.to; port = c.args.port; call = Some c.args.number })
    (set (state_of c.self.inside.ends c.self.inside.spent.value).called c.args.number (Some (record { to = c.args.to; port = c.args.port; input = c.args.input.items }))) (state_of c.self.inside.ends c.self.inside.spent.value).served
begun c all free =
    let e = c.self.inside.ends in
    let none = none_called e.calls.items c.args.number (ap (λ (s : SlotsState). slice_get s.called c.args.number) c.self.view_is ∙ c.requires.number) in
    call_begun e _ _ c.args.number _ c.index_mut.result.now c.call.new.self c.args.input.items all free none (ap (λ v. v.items) c.of.ensures) (record {
      frame = c.call.ensures.frame ∙ ap (λ v. record (frame_of c.index_mut.result.now) { used = ForCall c.args.number v.items }) c.of-seen.ensures;
      stage = subst (λ v. IsStage v c.call.new.self.stage) c.in_ok-caller.ensures.asked.2 c.call.ensures.stage;
      session = c.call.ensures.session;
    }) (c.push_reserved.ensures.items ∙ ap (λ b. b ++ c.in-Some.at ∷ []) c.in_ok-reserve.ensures.items)

pub find_unused-requires-clause-whole : goal.find_unused-requires-clause-whole
find_unused-requires-clause-whole c = whole_of c.self.inside.ends _ _ c.self.view_is c.requires.whole c.self.invariant.3

pub unreachable-requires : goal.unreachable-requires
unreachable-requires c =
    let there = c.find_unused.ensures.there ∙ (ap (λ (s : SlotsState). has_place (Payload s.domain c.args.to c.args.port) s.unused) c.self.view_is ∙ c.requires.unused) in
    false≢true (sym (ap is_some c.in_default.is) ∙ there)

pub new-requires-clause-own : goal.new-requires-clause-own
new-requires-clause-own c = (whole_of c.self.inside.ends _ _ c.self.view_is c.requires.whole c.self.invariant.3).version_is

pub index-requires : goal.index-requires
index-requires c = let e = c.self.inside.ends in let less = used_within e.slots.items c.in-Some.at _ _ c.in-Some.ensures.found in omega (arith, less, e.slots.ok.0)

pub index_mut-requires : goal.index_mut-requires
index_mut-requires c = let e = c.self.inside.ends in let less = used_within e.slots.items c.in-Some.at _ _ c.in-Some.ensures.found in omega (arith, less, e.slots.ok.0)

pub call-requires-clause-unused : goal.call-requires-clause-unused
call-requires-clause-unused c =
    let w = (goal.at.call-requires-clause-unused c).After-index_mut in
    let e = c.self.inside.ends in
    free_server e.domain e.version c.args.to c.args.port e.slots.items c.in-Some.at c.index_mut.result.now (whole w).stages (whole w).of_domain (free w)

pub call-requires-clause-laid : goal.call-requires-clause-laid
call-requires-clause-laid c =
    let slots = c.self.inside.ends.slots.items in
    let here = (free (goal.at.call-requires-clause-laid c).After-index_mut).here in
    subst (λ (s : Slot). HasPage s.stage c.in_ok-laid.laid) (same_read slots c.in-Some.at c.index.result.now c.index_mut.result.now (slice_get_within slots c.in-Some.at c.index_mut.result.now here) c.index.ensures c.index_mut.ensures.value)
    c.in_ok-laid.ensures

pub index_mut-requires-2 : goal.index_mut-requires-2
index_mut-requires-2 c =
    let calls = c.self.inside.ends.calls in
    let less = slice_get_within calls.items c.args.number None (none_called calls.items c.args.number (ap (λ (s : SlotsState). slice_get s.called c.args.number) c.self.view_is ∙ c.requires.number)) in
    omega (arith, less, calls.ok.0)

pub invariant_of-self-2 : goal.invariant_of-self-2
invariant_of-self-2 c =
    let w = goal.at.invariant_of-self-2 c in
    let slots = c.self.inside.ends.slots.items in (
      each_set (λ s. CanRetire s.stage) slots c.in-Some.at c.call.new.self c.self.invariant.0 c.call.ensures.retire,
      c.self.invariant.1,
      omega (arith, length-set slots c.in-Some.at c.call.new.self, c.self.invariant.2),
      λ fine. (begun w.After-call (whole w.After-index_mut) (free w.After-index_mut)).whole,
    )

pub returns-clause-ok : goal.returns-clause-ok
returns-clause-ok c =
    let w = goal.at.returns-clause-ok c in
    let told : SessionEnd = record { domain = c.args.to; port = c.args.port; call = Some c.args.number } in
    (begun w.After-call (whole w.After-index_mut) (free w.After-index_mut)).state
    ∙ ap (λ (s : SlotsState). in_use s (Payload s.domain c.args.to c.args.port) told (set s.called c.args.number (Some (record { to = c.args.to; port = c.args.port; input = c.args.input.items }))) s.served (set c.self.inside.ends.slots.items c.in-Some.at c.call.new.self)) c.self.view_is

pub returns-clause-kept : goal.returns-clause-kept
returns-clause-kept c =
    let w = goal.at.returns-clause-kept c in
    subst (λ (s : SlotsState). KeepsSessions s.sessions (sessions_in (set c.self.inside.ends.slots.items c.in-Some.at c.call.new.self))) c.self.view_is (begun w.After-call (whole w.After-index_mut) (free w.After-index_mut)).kept
