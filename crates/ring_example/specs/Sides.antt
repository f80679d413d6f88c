-- An end at its begin, and what came of the bytes that were passed.
use Rattle.std.specs.Prelude.{◌≡◌, ℕ, List, [], true, false}
use Rattle.list_laws.specs.Lists.{IsPrefixOf}
use Rattle.ring_words.specs.declared.page.Role.{Role}
use Rattle.ring_words.specs.declared.page.Role.TheVariants.{Server}
use Rattle.end_view.specs.EndView.{state_at_first}
use Rattle.end_view.specs.Settled.{Settled, IsSettled}
use Rattle.vchan_rule.specs.Seated.{PageView, SeatedEnd, view, last_view}
use Rattle.ring_example.specs.declared.sides.Received.{Received}
use Rattle.vchan_lifecycle.specs.Ended.{IsEndOf}

-- an end of this role that has done nothing yet
pub record IsNewEnd (role : Role) (e : SeatedEnd) : Type 0 where
  pub role_is : (view e).role ≡ role
  pub idle : (view e).idle ≡ true
  pub state : (view e).state ≡ state_at_first role
  pub none : (view e).got ≡ []
  pub honest : (view e).turned ≡ false

-- the server of this page got just these bytes
pub record HasReceived (page : PageView) (received : Received) : Type 0 where
  pub end : IsEndOf page.table Server received.end
  pub got : (last_view received.end).got ≡ received.bytes.items

-- the server got just these bytes, and they begin what the client sent
pub record HasPassed (bytes : List ℕ) (page : Settled) : Type 0 where
  pub settled : IsSettled page
  pub got : page.server.got ≡ bytes
  pub begins : IsPrefixOf bytes page.client.sent
