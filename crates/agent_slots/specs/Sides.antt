-- An end of a page that is laid at its first use is seen under the page's name.
-- The forms are this project's own.
use Rattle.std.specs.Prelude.{◌≡◌, Bool, true, false, List, filter_map, Option, Some, None, if◌then◌else◌}
use Rattle.ring_words.specs.declared.page.Role.TheVariants.{Server, Client}
use Rattle.end_view.specs.EndView.{EndView}
use Rattle.page_offer.specs.declared.server.LaidPage.{LaidPage}
use Rattle.page_offer.specs.Views.{named}
use Rattle.task_duties.specs.declared.place.PagePlace.{PagePlace}
use Rattle.task_duties.specs.declared.place.PagePlace.TheVariants.{Payload}
use Rattle.task_duties.specs.declared.ends.DataEnd.{DataEnd}
use Rattle.task_duties.specs.declared.ends.UnusedEnd.{UnusedEnd}
use Rattle.task_duties.specs.declared.ends.UnusedEnd.TheVariants as unused
use Rattle.task_duties.specs.declared.ends.DoneEnd.{DoneEnd}
use Rattle.task_duties.specs.declared.ends.DoneEnd.TheVariants as done
use Rattle.agent_slots.specs.declared.side.PageSide.{PageSide}
use Rattle.agent_slots.specs.declared.side.PageSide.TheVariants as side

-- the view of an end in use
abbrev pub seen_under : PageSide → EndView → EndView
seen_under side.Laid end = end
seen_under (side.Server s) end = named s.name end
seen_under (side.Client c) end = named c.name end

-- what keeps the end's place belongs to this end
abbrev pub IsSideOf : PageSide → EndView → Type 0
IsSideOf side.Laid end = Unit {0}
IsSideOf (side.Server s) end = (end.page ≡ s.table) × (end.role ≡ Server)
IsSideOf (side.Client c) end = (end.page ≡ c.table) × (end.role ≡ Client)

-- the page of an unused end is laid, if the server must lay it
abbrev pub HasLaid : UnusedEnd → Option LaidPage → Type 0
HasLaid (unused.Server s) (Some laid) = (laid.page.orders ≡ s.orders) × (laid.page.start ≡ s.start)
HasLaid (unused.Server s) None = ⊥
HasLaid end laid = Unit {0}

-- ---- which pages are laid when they are first used

-- whether the page of an end is laid when it is first used: of one that is unused, in use, and done with
abbrev pub is_late_unused : UnusedEnd → Bool
is_late_unused (unused.Laid end) = false
is_late_unused (unused.Server s) = true
is_late_unused (unused.Client c) = true

abbrev pub is_late_side : PageSide → Bool
is_late_side side.Laid = false
is_late_side (side.Server s) = true
is_late_side (side.Client c) = true

abbrev pub is_late_done : DoneEnd → Bool
is_late_done (done.Laid end) = false
is_late_done (done.Server s) = true
is_late_done (done.Client c) = true

-- where such pages lie, for ends that were given
abbrev pub late_places : List DataEnd → List PagePlace
late_places ends = filter_map (λ d. if is_late_unused d.end then Some (Payload d.from d.to d.port) else None) ends
