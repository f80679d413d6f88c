use Rattle.std.proofs.Common.{◌≡◌, ap, sym, ◌∙◌, subst, ◌∷◌, ◌++◌, [], length, set, arith}
use Rattle.std.specs.Prelude.{None, is_some}
use Rattle.std.proofs.lemmas.Bool.{false≢true}
use Rattle.std.proofs.Math.ListN.{length-set}
use Rattle.list_laws.proofs.Each.{each_set}
use Rattle.task_duties.specs.declared.place.PagePlace.TheVariants.{Payload}
use Rattle.task_duties.specs.declared.done.SessionEnd.{SessionEnd}
use Rattle.task_duties.specs.Places.{has_place}
use Rattle.agent_slots.specs.Slots.{SlotsState}
use Rattle.agent_slots.specs.Sessions.{KeepsSessions, sessions_in}
use Rattle.agent_slots.specs.Stages.{ForServing, CanRetire, IsStage, frame_of}
use Rattle.agent_slots.specs.Whole.{IsWhole, state_of}
use Rattle.agent_slots.proofs.BeginLaws.{IsFree, is_free, free_client, used_within, whole_of}
use Rattle.agent_slots.proofs.StateLaws.{HasBegun, in_use, serving_begun}
use Rattle.agent_slots.proofs.slots.DataSlots.serve.Goals.{After-index_mut, After-serve}
use Rattle.agent_slots.proofs.slots.DataSlots.serve.Goals as goal

-- the slot that was found, and what is kept of all ends once its end is put to use
whole : (c : After-index_mut) → IsWhole c.self.inside.ends
whole c = whole_of c.self.inside.ends _ _ c.self.view_is c.requires.whole c.self.invariant.3

free : (c : After-index_mut) → IsFree c.self.inside.ends.slots.items c.in-Some.at (Payload c.args.from c.self.inside.ends.domain c.args.port) c.index_mut.result.now
free c = is_free c.self.inside.ends.slots.items c.in-Some.at _ c.index_mut.result.now c.in-Some.ensures.found c.index_mut.ensures.value

begun : (c : After-serve) → IsWhole c.self.inside.ends → IsFree c.self.inside.ends.slots.items c.in-Some.at (Payload c.args.from c.self.inside.ends.domain c.args.port) c.index_mut.result.now
    → HasBegun c.self.inside.ends c.self.inside.spent.value (set c.self.inside.ends.slots.items c.in-Some.at c.serve.new.self) c.push_reserved.new.self.items c.self.inside.ends.calls.items c.push_reserved-2.new.self.items
    (Payload c.args.from c.self.inside.ends.domain c.args.port) (record { domain = c.args.from; port = c.args.port; call = None }) (state_of c.self.inside.ends c.self.inside.spent.value).called
    ((state_of c.self.inside.ends c.self.inside.spent.value).served ++ record { from = c.args.from; port = c.args.port; service = c.args.service } ∷ [])
begun c all free =
    let e = c.self.inside.ends in
    let counts : c.len-number.result ≡ length e.served.items = omega (arith, c.len-number.ensures, e.served.ok.0) in
    serving_begun e _ _ _ (record { at = c.in-Some.at; from = c.args.from; port = c.args.port; service = c.of.result }) c.index_mut.result.now c.serve.new.self c.args.service c.len-number.result all free c.of.ensures counts (record {
      frame = c.serve.ensures.frame ∙ ap (λ v. record (frame_of c.index_mut.result.now) { used = ForServing c.len-number.result v }) c.of-seen.ensures;
      stage = subst (λ v. IsStage v c.serve.new.self.stage) c.in_ok-serving.ensures.asked.1 c.serve.ensures.stage;
      session = c.serve.ensures.session;
    }) (c.push_reserved.ensures.items ∙ ap (λ b. b ++ c.in-Some.at ∷ []) c.in_ok-reserve.ensures.items)
    (c.push_reserved-2.ensures.items ∙ ap (λ ns. ns ++ record { at = c.in-Some.at; from = c.args.from; port = c.args.port; service = c.of.result } ∷ []) c.in_ok-reserve-2.ensures.items)

pub find_unused-requires-clause-whole : goal.find_unused-requires-clause-whole
find_unused-requires-clause-whole c = whole_of c.self.inside.ends _ _ c.self.view_is c.requires.whole c.self.invariant.3

pub unreachable-requires : goal.unreachable-requires
unreachable-requires c =
    let there = c.find_unused.ensures.there ∙ (ap (λ (s : SlotsState). has_place (Payload c.args.from s.domain c.args.port) s.unused) c.self.view_is ∙ c.requires.unused) in
    false≢true (sym (ap is_some c.in_default.is) ∙ there)

pub new-requires-clause-own : goal.new-requires-clause-own
new-requires-clause-own c = (whole_of c.self.inside.ends _ _ c.self.view_is c.requires.whole c.self.invariant.3).version_is

pub index_mut-requires : goal.index_mut-requires
index_mut-requires c = let e = c.self.inside.ends in let less = used_within e.slots.items c.in-Some.at _ _ c.in-Some.ensures.found in omega (arith, less, e.slots.ok.0)

pub serve-requires-clause-unused : goal.serve-requires-clause-unused
serve-requires-clause-unused c =
    let w = (goal.at.serve-requires-clause-unused c).After-index_mut in
    let e = c.self.inside.ends in
    free_client e.domain e.version c.args.from c.args.port e.slots.items c.in-Some.at c.index_mut.result.now (whole w).stages (whole w).of_domain (free w)

pub invariant_of-self-2 : goal.invariant_of-self-2
invariant_of-self-2 c =
    let w = goal.at.invariant_of-self-2 c in
    let slots = c.self.inside.ends.slots.items in (
      each_set (λ s. CanRetire s.stage) slots c.in-Some.at c.serve.new.self c.self.invariant.0 c.serve.ensures.retire,
      c.self.invariant.1,
      omega (arith, length-set slots c.in-Some.at c.serve.new.self, c.self.invariant.2),
      λ fine. (begun w.After-serve (whole w.After-index_mut) (free w.After-index_mut)).whole,
    )

pub returns-clause-ok : goal.returns-clause-ok
returns-clause-ok c =
    let w = goal.at.returns-clause-ok c in
    let told : SessionEnd = record { domain = c.args.from; port = c.args.port; call = None } in
    (begun w.After-serve (whole w.After-index_mut) (free w.After-index_mut)).state
    ∙ ap (λ (s : SlotsState). in_use s (Payload c.args.from s.domain c.args.port) told s.called (s.served ++ record { from = c.args.from; port = c.args.port; service = c.args.service } ∷ []) (set c.self.inside.ends.slots.items c.in-Some.at c.serve.new.self)) c.self.view_is

pub returns-clause-kept : goal.returns-clause-kept
returns-clause-kept c =
    let w = goal.at.returns-clause-kept c in
    subst (λ (s : SlotsState). KeepsSessions s.sessions (sessions_in (set c.self.inside.ends.slots.items c.in-Some.at c.serve.new.self))) c.self.view_is (begun w.After-serve (whole w.After-index_mut) (free w.After-index_mut)).kept
