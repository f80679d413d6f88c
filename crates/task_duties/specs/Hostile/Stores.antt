-- The stores of a hostile domain's acts on one of its pages.
-- Source: the acts are this project's own, over the words of Xen's public/io/libxenvchan.h.
use Rattle.std.specs.Prelude.{ℕ, ◌%◌, ◌==◌, ◌&&◌, nat_lt, Bool, true, false, List, [], ◌∷◌, length, slice_get, unwrap_or, bytes_eq, if◌then◌else◌}
use Rattle.std.specs.List.{flat_map}
use Rattle.std.specs.Option.{option_map_or}
use Rattle.ring_words.specs.Rings.{size}
use Rattle.ring_words.specs.Page.{order_of}
use Rattle.ring_words.specs.declared.order.Orders.{Orders}
use Rattle.ring_words.specs.declared.page.Role.{Role}
use Rattle.ring_words.specs.declared.page.Role.TheVariants.{Server, Client}
use Rattle.ring_words.specs.declared.page.WordName.{WordName}
use Rattle.ring_words.specs.declared.page.WordName.TheVariants.{LeftCons, LeftProd, RightCons, RightProd, LeftOrder, RightOrder, CliLive, SrvLive, CliNotify, SrvNotify, SrvPending, CliPending, SrvGone, CliGone, RingByte}
use Rattle.vchan_protocol.specs.declared.op.Op.TheVariants.{Load, Store}
use Rattle.vchan_protocol.specs.declared.op.PastEvent.{PastEvent}
use Rattle.vchan_protocol.specs.Table.Plan.{past}
use Rattle.vchan_protocol.specs.Table.Ends.{peer_pending}
use Rattle.scenario_file.specs.declared.acts.Act.{Act}
use Rattle.scenario_file.specs.declared.acts.Act.TheVariants.{Poke, Scribble, Signal}
use Rattle.scenario_file.specs.declared.acts.ActPage.{ActPage}
use Rattle.scenario_file.specs.declared.acts.ActPage.TheVariants as page
use Rattle.scenario_file.specs.Generator.{Drawn, drawn}
use Rattle.task_duties.specs.declared.place.PagePlace.{PagePlace}
use Rattle.task_duties.specs.declared.place.PagePlace.TheVariants.{Control, Payload}
use Rattle.task_duties.specs.Places.{is_place}
use Rattle.task_duties.specs.Hostile.Given.{HostilePlan}

-- ---- its pages

-- the orders of a page
abbrev pub orders_at : HostilePlan → PagePlace → Orders
orders_at plan (Control d) = plan.control
orders_at plan (Payload from to port) = plan.payload

-- a domain is the server of its control page and of the pages on which it calls, and the client of the others
abbrev pub role_at : ℕ → PagePlace → Role
role_at domain (Control d) = Server
role_at domain (Payload from to port) = if from == domain then Server else Client

-- the domain at the other end of a data page
abbrev pub peer_on : ℕ → ℕ → ℕ → ℕ
peer_on domain from to = if from == domain then to else from

-- the name of a domain; the first domain's name stands first
abbrev pub name_of : HostilePlan → ℕ → List ℕ
name_of plan d = unwrap_or (slice_get ([] ∷ plan.names) d) []

-- ---- events

-- a store of a value
abbrev pub stored : WordName → ℕ → PastEvent
stored word value = past (Store word value) 0

-- a load that took a value
abbrev pub loaded : WordName → ℕ → PastEvent
loaded word value = past (Load word) value

-- ---- pokes

-- a hostile user reaches the fields of the header and the bytes of the rings
abbrev pub reaches : Orders → WordName → Bool
reaches orders (RingByte ring at) = nat_lt at (size (order_of orders ring))
reaches orders SrvPending = false
reaches orders CliPending = false
reaches orders SrvGone = false
reaches orders CliGone = false
reaches orders word = true

-- whether a poke names this page: the control page, or the data page of a peer and a port, whichever of the two calls
abbrev pub is_named : HostilePlan → ActPage → PagePlace → Bool
is_named plan page.Control (Control d) = true
is_named plan (page.Payload peer port) (Payload from to p) = p == port && bytes_eq peer (name_of plan (peer_on plan.domain from to))
is_named plan _ _ = false

-- the stores of a poke: one on the page that it names, if it reaches the word
abbrev pub poked : HostilePlan → PagePlace → ActPage → WordName → ℕ → List PastEvent
poked plan place page word value = if is_named plan page place && reaches (orders_at plan place) word then stored word value ∷ [] else []

-- ---- scribbling

-- the ten fields of the header, in order
abbrev pub header_words : List WordName
header_words = LeftCons ∷ LeftProd ∷ RightCons ∷ RightProd ∷ LeftOrder ∷ RightOrder ∷ CliLive ∷ SrvLive ∷ CliNotify ∷ SrvNotify ∷ []

-- the field that a drawn number names
abbrev pub field_of : ℕ → WordName
field_of number = unwrap_or (slice_get header_words (number % 10)) SrvNotify

-- the store that three drawn numbers make, if the page that the first one names is this one
abbrev pub drawn_on : HostilePlan → PagePlace → Drawn → List PastEvent
drawn_on plan place d =
    if option_map_or (is_place place) (slice_get plan.places (d.page % length plan.places)) false then stored (field_of d.word) d.value ∷ [] else []

-- those of this many stores that fall on this page
abbrev pub scribbled : HostilePlan → PagePlace → ℕ → ℕ → List PastEvent
scribbled plan place seed count = flat_map (drawn_on plan place) (drawn seed count)

-- ---- an act that sends nothing

-- its stores on a page
abbrev pub stores_of : HostilePlan → PagePlace → Act → List PastEvent
stores_of plan place (Poke page word value) = poked plan place page word value
stores_of plan place (Scribble seed count) = scribbled plan place seed count
stores_of plan place Signal = stored (peer_pending (role_at plan.domain place)) 1 ∷ []
stores_of plan place act = []
