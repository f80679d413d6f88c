use Rattle.std.proofs.Common.{◌≡◌, true, ap, sym, ◌∙◌, subst}
use Rattle.end_view.specs.EndView.{EndView}
use Rattle.vchan_lifecycle.specs.Lifecycle.{retired_view}
use Rattle.task_duties.specs.declared.ends.UnusedEnd.{UnusedEnd}
use Rattle.task_duties.specs.GivenEnds.{fresh_view}
use Rattle.agent_slots.proofs.side.retire_unused.Goals as goal

pub retire-requires : goal.retire-requires
retire-requires c = record { idle = subst (λ (e : UnusedEnd). (fresh_view e).idle ≡ true) c.in-Laid.is c.requires }

pub returns-in-Laid-clause-view : goal.returns-in-Laid-clause-view
returns-in-Laid-clause-view c = c.retire.ensures.view ∙ ap (λ (e : UnusedEnd). retired_view (fresh_view e)) (sym c.in-Laid.is)

pub returns-in-Laid-clause-honest : goal.returns-in-Laid-clause-honest
returns-in-Laid-clause-honest c = c.retire.ensures.honest

pub returns-in-Server-clause-view : goal.returns-in-Server-clause-view
returns-in-Server-clause-view c = c.finish.ensures.0 ∙ ap (λ (e : UnusedEnd). retired_view (fresh_view e)) (sym c.in-Server.is)

pub returns-in-Server-clause-honest : goal.returns-in-Server-clause-honest
returns-in-Server-clause-honest c = ap (λ (v : EndView). v.turned) c.finish.ensures.0

pub returns-in-Client-clause-view : goal.returns-in-Client-clause-view
returns-in-Client-clause-view c = c.finish-in-Client.ensures ∙ ap (λ (e : UnusedEnd). retired_view (fresh_view e)) (sym c.in-Client.is)

pub returns-in-Client-clause-honest : goal.returns-in-Client-clause-honest
returns-in-Client-clause-honest c = ap (λ (v : EndView). v.turned) c.finish-in-Client.ensures
