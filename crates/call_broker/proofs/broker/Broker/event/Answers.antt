use Rattle.std.proofs.Common.{◌≡◌, ◌∙◌, ◌++◌, ◌∷◌, [], refl, sym, ap, subst}
use Rattle.call_broker.specs.Brokered.{Brokered}
use Rattle.call_broker.specs.Inside.{hub_of}
use Rattle.call_broker.specs.Pair.{decision}
use Rattle.call_broker.specs.Journal.{events, IsNumbered}
use Rattle.call_broker.proofs.BrokerLaws.{has_room, pages_within, kept_more}
use Rattle.call_broker.proofs.broker.Broker.event.Goals as goal

pub enter-requires : goal.enter-requires
enter-requires c =
    let inside = c.self.inside in
    let decided : c.in_ok-decision.decision ≡ decision c.args.self.now.hub (events c.args.self.now.journal) c.args.event = c.in_ok-decision.ensures in
    let here : c.in_ok-decision.decision ≡ decision (hub_of inside) (events inside.journal.items) c.args.event =
    decided ∙ ap (λ (b : Brokered). decision b.hub (events b.journal) c.args.event) (sym c.self.view_is) in
    has_room (hub_of inside) (events inside.journal.items) c.args.event c.in_ok-decision.decision inside.calls inside.dropped (pages_within inside c.self.invariant) here c.self.invariant.tabled

pub invariant_of-self-2 : goal.invariant_of-self-2
invariant_of-self-2 c =
    let inside = c.self.inside in
    let decided : c.in_ok-decision.decision ≡ decision c.args.self.now.hub (events c.args.self.now.journal) c.args.event = c.in_ok-decision.ensures in
    let here : c.in_ok-decision.decision ≡ decision (hub_of inside) (events inside.journal.items) c.args.event =
    decided ∙ ap (λ (b : Brokered). decision b.hub (events b.journal) c.args.event) (sym c.self.view_is) in
    let numbered : IsNumbered (hub_of inside) c.args.event = subst (λ (b : Brokered). IsNumbered b.hub c.args.event) (sym c.self.view_is) c.requires in
    let pushed : c.append.new.journal.items ≡ c.reserve.new.self.items ++ record { event = c.args.event; decision = c.in_ok-decision.decision } ∷ [] = c.append.ensures in
    let reserved : c.reserve.new.self.items ≡ inside.journal.items = c.in_ok-reserve.ensures.items in
    let journal : c.append.new.journal.items ≡ inside.journal.items ++ record { event = c.args.event; decision = c.in_ok-decision.decision } ∷ [] =
    pushed ∙ ap (λ entries. entries ++ record { event = c.args.event; decision = c.in_ok-decision.decision } ∷ []) reserved in
    kept_more inside _ c.args.event c.in_ok-decision.decision c.self.invariant refl refl journal numbered here c.in_ok-enter.ensures.ok
