use Rattle.std.proofs.Common.{ap, sym, ◌∙◌, refl, subst}
use Rattle.end_view.specs.EndView.{EndView}
use Rattle.vchan_rule.specs.Seated.{view}
use Rattle.page_offer.specs.Views.{named}
use Rattle.task_duties.specs.declared.ends.UnusedEnd.TheVariants as unused
use Rattle.agent_slots.specs.Sides.{HasLaid}
use Rattle.agent_slots.proofs.side.open_laid.Goals as goal

pub unreachable-requires : goal.unreachable-requires
unreachable-requires c = subst (λ laid. HasLaid (unused.Server c.args.side) laid) c.in_default.is c.requires

pub open-end-requires : goal.open-end-requires
open-end-requires c = subst (λ laid. HasLaid (unused.Server c.args.side) laid) c.in-Some.is c.requires

pub returns-clause-unused : goal.returns-clause-unused
returns-clause-unused c = (c.open-end.ensures.end.0, ap (λ (v : EndView). v.role) c.open-end.ensures.end.1)

pub returns-clause-seen : goal.returns-clause-seen
returns-clause-seen c = ap (λ name. named name (view c.open-end.result.0)) c.open-end.ensures.side.0 ∙ c.open-end.ensures.end.1

pub returns-clause-side : goal.returns-clause-side
returns-clause-side c = (sym c.open-end.ensures.side.1, ap (λ (v : EndView). v.role) c.open-end.ensures.end.1)

pub returns-clause-late : goal.returns-clause-late
returns-clause-late c = refl
