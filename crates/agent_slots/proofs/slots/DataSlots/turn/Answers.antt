use Rattle.std.proofs.Common.{ap, ◌∙◌, subst, arith}
use Rattle.list_laws.proofs.Results.{on_ok}
use Rattle.agent_slots.specs.Slots.{SlotsState}
use Rattle.agent_slots.specs.Sessions.{sessions_in, AllTakeTurns}
use Rattle.agent_slots.proofs.BeginLaws.{whole_of}
use Rattle.agent_slots.proofs.TurnLaws.{turned_after, same_many, whole_unspent, seen_turned}
use Rattle.agent_slots.proofs.slots.DataSlots.turn.Goals as goal

pub give_back-requires-clause-whole : goal.give_back-requires-clause-whole
give_back-requires-clause-whole c = whole_of c.self.inside.ends _ _ c.self.view_is c.requires.whole c.self.invariant.3

pub turn_open-turned-requires-clause-whole : goal.turn_open-turned-requires-clause-whole
turn_open-turned-requires-clause-whole c = (c.give_back.ensures.turned c.args.over.now.items).whole

pub invariant_of-self : goal.invariant_of-self
invariant_of-self c =
    let many = same_many c.self.inside.ends.slots.items c.turn_open-turned.new.self.slots.items (c.turn_open-turned.ensures.same.0 ∙ c.give_back.ensures.same.0) in (
      c.turn_open-turned.ensures.retire,
      c.self.invariant.1,
      omega (arith, many, c.self.invariant.2),
      whole_unspent _ _ _ _ c.turn_open-turned.result c.of.result.value (c.of.ensures ∙ c.is_err.ensures.value) c.turn_open-turned.ensures.turned,
    )

pub returns-clause-ok : goal.returns-clause-ok
returns-clause-ok c =
    let before = c.args.over.now.items in
    let turned = on_ok c.turn_open-turned.result _ _ (turned_after c.self.inside.ends c.give_back.new.self c.turn_open-turned.new.self before before c.turn_open-turned.new.over.items (c.give_back.ensures.turned before)) c.turn_open-turned.ensures.turned in
    on_ok c.turn_open-turned.result _ _ (λ seen. seen.0)
    (seen_turned c.self.inside.ends c.turn_open-turned.new.self before c.turn_open-turned.new.over.items c.turn_open-turned.result _ c.of.result.value c.args.self.now (c.of.ensures ∙ c.is_err.ensures.value) c.self.view_is c.requires.whole turned)

pub returns-clause-told : goal.returns-clause-told
returns-clause-told c =
    let before = c.args.over.now.items in
    let turned = on_ok c.turn_open-turned.result _ _ (turned_after c.self.inside.ends c.give_back.new.self c.turn_open-turned.new.self before before c.turn_open-turned.new.over.items (c.give_back.ensures.turned before)) c.turn_open-turned.ensures.turned in
    on_ok c.turn_open-turned.result _ _ (λ seen. seen.1)
    (seen_turned c.self.inside.ends c.turn_open-turned.new.self before c.turn_open-turned.new.over.items c.turn_open-turned.result _ c.of.result.value c.args.self.now (c.of.ensures ∙ c.is_err.ensures.value) c.self.view_is c.requires.whole turned)

pub returns-clause-turns : goal.returns-clause-turns
returns-clause-turns c =
    on_ok c.turn_open-turned.result _ _ (λ turns. subst (λ l. AllTakeTurns l (sessions_in c.turn_open-turned.new.self.slots.items)) (c.give_back.ensures.sessions ∙ ap (λ (s : SlotsState). s.sessions) c.self.view_is) turns)
    c.turn_open-turned.ensures.turns

pub returns-clause-held : goal.returns-clause-held
returns-clause-held c =
    let old = c.self.view_is in
    let mid = c.give_back.ensures.same in
    let new = c.turn_open-turned.ensures.same in
    (new.0 ∙ (mid.0 ∙ ap (λ (s : SlotsState). s.held) old), new.1 ∙ (mid.1 ∙ ap (λ (s : SlotsState). s.domain) old), new.2 ∙ (mid.2 ∙ ap (λ (s : SlotsState). s.version) old))
