-- A lawful core state: what holds of a page and of its two ends while both are honest.
use Rattle.std.specs.Prelude.{◌≡◌, ◌^◌, ◌<◌, false, length}
use Rattle.ring_words.specs.Page.{word_count}
use Rattle.ring_words.specs.declared.order.Orders.{Orders}
use Rattle.ring_words.specs.declared.page.Role.{Role}
use Rattle.ring_words.specs.declared.page.Role.TheVariants.{Server, Client}
use Rattle.ring_words.specs.declared.page.Ring.TheVariants.{Left, Right}
use Rattle.vchan_protocol.specs.declared.side.Side.{Side}
use Rattle.vchan_protocol.specs.History.Core.{Core}
use Rattle.vchan_protocol.specs.Honest.RingLaw.{RingLawful, CallLawful}
use Rattle.vchan_protocol.specs.Honest.LifeLaw.{LifeLawful}

-- neither end was turned over to a hostile user
abbrev pub Honest : Core → Type 0
Honest core = (core.server.turned ≡ false) × (core.client.turned ≡ false)

-- an end of a page has its role, and its page's orders
pub record IsEnd (role : Role) (orders : Orders) (s : Side) : Type 0 where
  pub role_is : s.role ≡ role
  pub orders_are : s.orders ≡ orders

-- the page has as many words as its orders give, each ring is lawful, each end is between two calls or in a lawful one, and the words agree with the ends' lives
pub record Lawful (core : Core) : Type 0 where
  pub sized : length core.words ≡ word_count core.orders
  pub said_fits : (core.said.0 < 2 ^ 16) × (core.said.1 < 2 ^ 16)
  pub server_end : IsEnd Server core.orders core.server
  pub client_end : IsEnd Client core.orders core.client
  pub left : RingLawful core Left
  pub right : RingLawful core Right
  pub server_call : CallLawful core.server
  pub client_call : CallLawful core.client
  pub lives : LifeLawful core
