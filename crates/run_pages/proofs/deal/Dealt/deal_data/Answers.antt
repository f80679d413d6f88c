use Rattle.std.proofs.Common.{◌∙◌, ◌++◌, ◌∷◌, [], subst, sym}
use Rattle.ring_words.specs.declared.page.Role.TheVariants.{Server, Client}
use Rattle.run_pages.specs.Pages.{new_end}
use Rattle.run_pages.specs.Dealt.{AreDealt, Gives}
use Rattle.run_pages.proofs.DealLaws.{end_at, payload_dealt}
use Rattle.run_pages.proofs.deal.Dealt.deal_data.Goals as goal

pub returns-clause-dealt : goal.returns-clause-dealt
returns-clause-dealt c = λ pages p ends dealt.
    let hands = c.args.self.now.hands.items in
    let r = c.requires in
    let first : Gives c.args.from (new_end p Server) hands c.give.new.self.hands.items =
    subst (λ e. Gives c.args.from e hands c.give.new.self.hands.items) (end_at p c.args.from c.args.to c.args.port _ Server ends.at ends.server_is) c.in_ok-give.ensures.gives in
    let second : Gives c.args.to (new_end p Client) c.give.new.self.hands.items c.give-2.new.self.hands.items =
    subst (λ e. Gives c.args.to e c.give.new.self.hands.items c.give-2.new.self.hands.items) (end_at p c.args.from c.args.to c.args.port _ Client ends.at ends.client_is) c.in_ok-give-2.ensures.gives in
    subst (λ controls. AreDealt (pages ++ p ∷ []) controls.items c.give-2.new.self.hands.items) (sym (c.in_ok-give-2.ensures.same ∙ c.in_ok-give.ensures.same))
    (payload_dealt pages c.args.self.now.controls.items hands c.give.new.self.hands.items c.give-2.new.self.hands.items p c.args.from c.args.to c.args.port
    dealt ends.at r.0 r.1 r.2 r.3 r.4 first second)

pub returns-clause-orders : goal.returns-clause-orders
returns-clause-orders c = λ s server client ordered. c.in_ok-give-2.ensures.orders s client (c.in_ok-give.ensures.orders s server ordered)
