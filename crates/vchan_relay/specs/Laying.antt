-- The pages of a run of relays, and their seats.
-- Source: this project's own.
use Rattle.std.specs.Prelude.{◌≡◌, List, [], ◌∷◌}
use Rattle.ring_words.specs.declared.page.Role.TheVariants.{Server, Client}
use Rattle.vchan_rule.specs.Seated.{PageStart, PageView, words_of}
use Rattle.vchan_relay.specs.declared.lay.PageSeats.{PageSeats}

-- the seats of a page, which begins with these words
pub record IsLaid (words : PageStart) (page : PageView) (seats : PageSeats) : Type 0 where
  pub words_are : words_of page ≡ words
  pub server : seats.server ≡ record { page = page; role = Server }
  pub client : seats.client ≡ record { page = page; role = Client }

-- pages with their seats
abbrev pub AreLaid : PageStart → List PageView → List PageSeats → Type 0
AreLaid words [] [] = Unit {0}
AreLaid words [] (seat ∷ seats) = ⊥
AreLaid words (page ∷ pages) [] = ⊥
AreLaid words (page ∷ pages) (seat ∷ seats) = IsLaid words page seat × AreLaid words pages seats
