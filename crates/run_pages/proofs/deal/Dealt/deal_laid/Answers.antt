use Rattle.std.proofs.Common.{◌∙◌, ◌++◌, ◌∷◌, [], ap, length, subst, sym}
use Rattle.run_laws.specs.Laid.{orders_of}
use Rattle.run_pages.specs.Dealt.{AreDealt, Follows}
use Rattle.run_pages.proofs.DealLaws.{control_dealt}
use Rattle.run_pages.proofs.deal.Dealt.deal_laid.Goals as goal

pub returns-in_ok-deal_control-in-Control-clause-dealt : goal.returns-in_ok-deal_control-in-Control-clause-dealt
returns-in_ok-deal_control-in-Control-clause-dealt c = λ pages p ends dealt.
    let follows = subst (λ place. Follows (length c.args.self.now.hands.items) (place ∷ [])) c.in-Control.is c.requires in
    subst (λ controls. AreDealt (pages ++ p ∷ []) controls c.deal_control.new.self.hands.items) (sym c.in_ok-deal_control-in-Control.ensures.controls)
    (control_dealt pages c.args.self.now.controls.items c.args.self.now.hands.items c.deal_control.new.self.hands.items p c.in-Control.domain c.args.server c.args.client
    dealt (ends.at ∙ c.in-Control.is) follows.0 ends.server_is ends.client_is c.in_ok-deal_control-in-Control.ensures.hands)

pub returns-in_ok-deal_data-in-Payload-clause-orders : goal.returns-in_ok-deal_data-in-Payload-clause-orders
returns-in_ok-deal_data-in-Payload-clause-orders c = λ s server client ordered.
    c.in_ok-deal_data-in-Payload.ensures.orders s (server ∙ ap (orders_of s) c.in-Payload.is) (client ∙ ap (orders_of s) c.in-Payload.is) ordered
