-- The ends that a task is given and gives back, as contracts see them.
-- Source: this project's own.
use Rattle.std.specs.Prelude.{List, map}
use Rattle.ring_words.specs.declared.page.Role.TheVariants.{Server, Client}
use Rattle.end_view.specs.EndView.{EndView}
use Rattle.vchan_rule.specs.Seated.{view, last_view}
use Rattle.page_offer.specs.Views.{unused_view}
use Rattle.task_duties.specs.declared.place.PagePlace.TheVariants.{Payload}
use Rattle.task_duties.specs.declared.ends.UnusedEnd.{UnusedEnd}
use Rattle.task_duties.specs.declared.ends.UnusedEnd.TheVariants as unused
use Rattle.task_duties.specs.declared.ends.DataEnd.{DataEnd}
use Rattle.task_duties.specs.declared.ends.DoneEnd.{DoneEnd}
use Rattle.task_duties.specs.declared.ends.DoneEnd.TheVariants as done
use Rattle.task_duties.specs.declared.ends.RetiredEnd.{RetiredEnd}
use Rattle.task_duties.specs.TaskOwes.{EndAt}

-- an end that was given; on a page that isn't laid yet, it is on the page's name
abbrev pub fresh_view : UnusedEnd → EndView
fresh_view (unused.Laid end) = view end
fresh_view (unused.Server side) = unused_view side.table Server
fresh_view (unused.Client name) = unused_view name Client

-- an end that is given back
abbrev pub done_view : DoneEnd → EndView
done_view (done.Laid end) = last_view end
done_view (done.Server side) = side.end
done_view (done.Client side) = side.end

-- a data end that was given
abbrev pub given_at : DataEnd → EndAt
given_at d = record { place = Payload d.from d.to d.port; view = fresh_view d.end }

-- an end that is given back
abbrev pub retired_at : RetiredEnd → EndAt
retired_at r = record { place = r.place; view = done_view r.retired }

-- all of them
abbrev pub all_given : List DataEnd → List EndAt
all_given ends = map given_at ends

abbrev pub all_retired : List RetiredEnd → List EndAt
all_retired ends = map retired_at ends
