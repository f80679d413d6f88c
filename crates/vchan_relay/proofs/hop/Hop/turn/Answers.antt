use Rattle.std.proofs.Common.{sym, subst, ◌∙◌}
use Rattle.vchan_relay.specs.Relay.{RelayState}
use Rattle.vchan_relay.specs.Turns.{Advances}
use Rattle.vchan_relay.proofs.hop.Hop.turn.Goals as goal

pub returns-then-ended-clause-turns : goal.returns-then-ended-clause-turns
returns-then-ended-clause-turns c =
    let left = c.advance-moved.new.relay in
    (left, subst (λ (r : RelayState). Advances r left) c.self.view_is c.advance-moved.ensures.advances, sym c.ended.ensures ∙ c.if-ended.true, c.retire-near.ensures.near, c.retire-near.ensures.far)

pub returns-clause-turns : goal.returns-clause-turns
returns-clause-turns c = (subst (λ (r : RelayState). Advances r c.advance-moved.new.relay) c.self.view_is c.advance-moved.ensures.advances, sym c.ended.ensures ∙ c.if-ended.false)
