-- What holds of a page through whose left ring some bytes were piped.
-- The statements are this project's own.
use Rattle.std.specs.Prelude.{◌≡◌, ℕ, List, true, false}
use Rattle.end_view.specs.Settled.{Settled, IsSettled}
use Rattle.vchan_rule.specs.Seated.{PageStart, began_with}

-- all bytes went from the client to the server of a page that began with these words, and the ring is drained; both ends are honest
pub record HasPiped (words : PageStart) (bytes : List ℕ) (page : Settled) : Type 0 where
  pub settled : IsSettled page
  pub words_are : began_with page ≡ words
  pub client_honest : page.client.turned ≡ false
  pub server_honest : page.server.turned ≡ false
  pub sent : page.client.sent ≡ bytes
  pub got : page.server.got ≡ bytes
  pub drained : page.server.drained ≡ true
