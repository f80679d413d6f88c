-- A page whose end is inside a call that the page itself doesn't know of.
use Rattle.ring_words.specs.declared.page.Role.{Role}
use Rattle.ring_words.specs.declared.page.Role.TheVariants.{Server, Client}
use Rattle.vchan_core.specs.declared.ends.End.{End}
use Rattle.vchan_core.specs.declared.plain.Plain.{Plain}
use Rattle.vchan_core.specs.declared.phase.Phase.{Phase}
use Rattle.vchan_core.specs.declared.phase.Next.{Next}
use Rattle.vchan_core.specs.declared.phase.Next.TheVariants.{To, Done}
use Rattle.vchan_core.specs.OneMachine.Phases.{at_phase}
use Rattle.vchan_core.specs.Page.Ends.{with_end}

-- the end as it would be if its machine had this phase
abbrev pub end_at : End → Phase → End
end_at e phase = record e { machine = at_phase e.machine phase }

-- the page as it would be if the machine of this end had this phase
abbrev pub page_at : Plain → Role → Phase → Plain
page_at page Server phase = record page { ends = with_end page.ends Server (end_at page.ends.server phase); server_orders = page.server_orders; client_orders = page.client_orders; server_role = page.server_role; client_role = page.client_role }
page_at page Client phase = record page { ends = with_end page.ends Client (end_at page.ends.client phase); server_orders = page.server_orders; client_orders = page.client_orders; server_role = page.server_role; client_role = page.client_role }

-- the page as it would be after a move: at a phase, or between two calls
abbrev pub page_to : Plain → Role → Next → Plain
page_to page who (To phase) = page_at page who phase
page_to page who (Done answer) = page
