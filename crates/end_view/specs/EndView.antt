-- What the layers above a page see of one of its ends: its lists and what it has noted, and no word of the page.
-- The view is this project's own.
use Rattle.std.specs.Prelude.{◌≡◌, ℕ, List, [], Bool, true, false, Option, None, if◌then◌else◌}
use Rattle.atomic_table.specs.Seated.{TableId}
use Rattle.ring_words.specs.declared.page.Role.{Role}
use Rattle.ring_words.specs.declared.page.Role.TheVariants.{Server, Client}
use Rattle.vchan_protocol.specs.declared.call.EndState.{EndState}
use Rattle.vchan_protocol.specs.declared.call.EndState.TheVariants.{Fresh, Open, Shut}
use Rattle.vchan_protocol.specs.declared.op.PastEvent.{PastEvent}
use Rattle.vchan_protocol.specs.declared.side.EndedBy.{EndedBy}
use Rattle.vchan_protocol.specs.declared.side.Side.{Side}

pub record EndView : Type 0 where
  -- the page that it is an end of, and which of its two ends
  pub page : TableId
  pub role : Role
  pub state : EndState
  -- it is between two calls
  pub idle : Bool
  -- all bytes that it has shown to its peer, and all that it has taken and whose places it has released
  pub sent : List ℕ
  pub got : List ℕ
  -- it found its peer shut or gone while it wasn't shut itself
  pub saw : Bool
  -- how a drain of it first ended its stream, and that nothing is left to drain
  pub ended : Option EndedBy
  pub drained : Bool
  -- a connect of it was refused
  pub misled : Bool
  -- it has set its gone word
  pub retired : Bool
  -- it was turned over to a hostile user; for a writer, how much its reader had got then
  pub turned : Bool
  pub consumed : ℕ
  -- what that user did since; for an honest end nothing
  pub trail : List PastEvent

-- the events of a hostile user; those of an honest end's call are no part of its view
abbrev pub hostile_trail : Bool → List PastEvent → List PastEvent
hostile_trail turned trail = if turned then trail else []

-- the view of this side of this page, between two calls or not
abbrev pub view_of : TableId → Bool → Side → EndView
view_of page idle s = record {
  page = page;
  role = s.role;
  state = s.state;
  idle = idle;
  sent = s.sent;
  got = s.got;
  saw = s.saw;
  ended = s.ended;
  drained = s.drained;
  misled = s.misled;
  retired = s.retired;
  turned = s.turned;
  consumed = s.consumed;
  trail = hostile_trail s.turned s.trail;
}

-- the state of an end when it is made: a server is open, a client is fresh
abbrev pub state_at_first : Role → EndState
state_at_first Server = Open
state_at_first Client = Fresh

-- the view of an end of this page in this state that has done nothing
abbrev pub untouched_view : TableId → Role → EndState → EndView
untouched_view page role state = record {
  page = page;
  role = role;
  state = state;
  idle = true;
  sent = [];
  got = [];
  saw = false;
  ended = None;
  drained = false;
  misled = false;
  retired = false;
  turned = false;
  consumed = 0;
  trail = [];
}

-- what stands for no end: one of no page, and gone
unfoldable pub no_end : EndView
no_end = record (untouched_view (record { words = 0; slots = 0; views_name = 0; atom = 0; block = 0; offset = 0; slot_names = [] }) Server Shut) { retired = true }

-- it has done nothing yet
pub record IsUnused (e : EndView) : Type 0 where
  pub idle : e.idle ≡ true
  pub state : e.state ≡ state_at_first e.role
  pub sent : e.sent ≡ []
  pub got : e.got ≡ []
  pub saw : e.saw ≡ false
  pub ended : e.ended ≡ None
  pub drained : e.drained ≡ false
  pub misled : e.misled ≡ false
  pub retired : e.retired ≡ false
  pub turned : e.turned ≡ false
