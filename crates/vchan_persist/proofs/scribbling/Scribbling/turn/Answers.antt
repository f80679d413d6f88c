-- The end has made its stores and retired.
use Rattle.std.proofs.Common.{[], Bool, ap, subst, ◌∙◌}
use Rattle.std.specs.Prelude.{if◌then◌else◌}
use Rattle.vchan_protocol.specs.declared.side.Side.{Side}
use Rattle.hostile_seat.specs.Hostile.{strays_along}
use Rattle.vchan_persist.specs.Epochs.{scribbled}
use Rattle.vchan_persist.specs.States.{ScribblingState}
use Rattle.vchan_persist.specs.Owes.{HasScribbled}
use Rattle.vchan_persist.proofs.ScribbleLaws.{scribbled_side}
use Rattle.vchan_persist.proofs.scribbling.Scribbling.turn.Goals as goal

pub returns-clause-pays : goal.returns-clause-pays
returns-clause-pays c =
    let inside = c.self.inside in
    let stores = scribbled inside.seed inside.stores in
    let given = c.turn-end.ensures.side in
    let over = c.scribble.ensures.side ∙ ap (λ (s : Side). strays_along s stores) given.1 in
    let last = c.retire.result.side in
    let side = scribbled_side inside.seed inside.stores given.0 inside.end.side c.scribble.new.end.side last c.self.invariant.0 c.self.invariant.2 c.self.invariant.3 over c.retire.ensures.side in
    subst (λ (g : ScribblingState). HasScribbled g.page g.seed g.stores c.retire.result) c.self.view_is (record {
      is_end = record { page_is = c.retire.ensures.page ∙ c.scribble.ensures.page ∙ c.turn-end.ensures.page; role_is = side.role_is };
      turned = side.turned;
      sent = side.sent;
      got = side.got;
      trail = ap (λ (b : Bool). if b then last.trail else []) side.turned ∙ side.trail;
    })
