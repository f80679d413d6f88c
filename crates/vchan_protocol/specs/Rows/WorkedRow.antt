-- A worked row, by which the laws' definitions can be checked: a client writes three bytes across the end of the indices and of the ring, and the server reads them.
use Rattle.std.specs.Prelude.{◌≡◌, ℕ, suc, zero, Some, None, [], ◌∷◌}
use Rattle.ring_words.specs.Rings.{number_of}
use Rattle.ring_words.specs.declared.order.Orders.{Orders}
use Rattle.ring_words.specs.declared.page.Role.{Role}
use Rattle.ring_words.specs.declared.page.Role.TheVariants.{Server, Client}
use Rattle.ring_words.specs.declared.page.Ring.TheVariants.{Left}
use Rattle.vchan_protocol.specs.declared.call.Call.TheVariants.{Write, Read}
use Rattle.vchan_protocol.specs.declared.call.EndState.TheVariants.{Open}
use Rattle.vchan_protocol.specs.History.Core.{Core, opened, begun, event}
use Rattle.vchan_protocol.specs.History.TrailSummary.{summary, empty_summary}
use Rattle.vchan_protocol.specs.Honest.RingLaw.{channel_of, IsPutting, IsTaking}

-- this many events of an end
abbrev pub events_of : Role → ℕ → Core → Core
events_of who zero core = core
events_of who (suc count) core = event (events_of who count core) who

-- an open page whose indices begin at 2 ^ 32 - 1, and on it a write of three bytes of which this many events are made
abbrev pub writing_three : Orders → ℕ → Core
writing_three orders count = events_of Client count (begun (opened orders 4294967295 (10, 11) Open) Client (Write 3) (104 ∷ 101 ∷ 108 ∷ []))

-- the whole write, and then a read of at most five bytes of which this many events are made
abbrev pub reading_five : Orders → ℕ → Core
reading_five orders count = events_of Server count (begun (writing_three orders 8) Server (Read 5) [])

-- After the loads of the live byte and of the consumer index, and the stores of two bytes: the end is inside a PUT of three, and has sent nothing yet.
pub record IsHalfWritten (core : Core) : Type 0 where
  pub did : summary Client core.client.trail ≡ record empty_summary { cons_seen = Some 4294967295; stored = 2 }
  pub puts : IsPutting core.client 3
  pub stored : (channel_of core Left).stored ≡ 2
  pub last_place : (channel_of core Left).bytes 1023 ≡ 104
  pub first_place : (channel_of core Left).bytes 0 ≡ 101
  pub index : (channel_of core Left).prod ≡ 4294967295
  pub sent : core.client.sent ≡ []

-- After the whole call, with its last byte, its index, the test of the notify bit and the signal: all is sent.
pub record IsWritten (core : Core) : Type 0 where
  pub idle : core.client.call ≡ None
  pub index : (channel_of core Left).prod ≡ 2
  pub own : core.client.prod ≡ 2
  pub sent : core.client.sent ≡ 104 ∷ 101 ∷ 108 ∷ []
  pub unshown : (channel_of core Left).stored ≡ 0

-- After two looks, a request for a signal between them, and the loads of two bytes: the end is inside a TAKE of three, and has got nothing yet.
pub record IsHalfRead (core : Core) : Type 0 where
  pub did : summary Server core.server.trail ≡ record empty_summary { prods_seen = 2 ∷ 2 ∷ []; loaded = 104 ∷ 101 ∷ [] }
  pub takes : IsTaking core.server 3
  pub got : core.server.got ≡ []

-- After the whole call: all is got, and nothing waits.
pub record IsRead (core : Core) : Type 0 where
  pub idle : core.server.call ≡ None
  pub index : (channel_of core Left).cons ≡ 2
  pub got : core.server.got ≡ 104 ∷ 101 ∷ 108 ∷ []
  pub released : (channel_of core Left).loaded ≡ []
  pub before : (channel_of core Left).got_before ≡ 0

-- the row, on a page with rings of 1,024 and of 2,048 bytes
pub record IsWorkedRow (orders : Orders) : Type 0 where
  pub left : number_of orders.left ≡ 10
  pub right : number_of orders.right ≡ 11
  pub half_written : IsHalfWritten (writing_three orders 4)
  pub written : IsWritten (writing_three orders 8)
  pub half_read : IsHalfRead (reading_five orders 5)
  pub read : IsRead (reading_five orders 8)

abbrev pub RowIsAsWorked : Type 0
RowIsAsWorked = (orders : Orders) × IsWorkedRow orders
