-- Where the pages of a task lie.
-- Source: this project's own.
use Rattle.std.specs.Prelude.{ℕ, ◌+◌, ◌==◌, ◌&&◌, not, zero, suc, Bool, false, List, [], ◌∷◌, filter}
use Rattle.std.specs.List.{list_any}
use Rattle.task_duties.specs.declared.place.PagePlace.{PagePlace}
use Rattle.task_duties.specs.declared.place.PagePlace.TheVariants.{Control, Payload}

-- this many numbers from one on, by steps
abbrev pub numbers : ℕ → ℕ → ℕ → List ℕ
numbers from by zero = []
numbers from by (suc count) = from ∷ numbers (from + by) by count

-- whether two places are the same
abbrev pub is_place : PagePlace → PagePlace → Bool
is_place (Control d) (Control domain) = d == domain
is_place (Payload f t p) (Payload from to port) = f == from && t == to && p == port
is_place _ _ = false

-- whether a place is one of these
abbrev pub has_place : PagePlace → List PagePlace → Bool
has_place place places = list_any (is_place place) places

-- the places but for this one
abbrev pub without : PagePlace → List PagePlace → List PagePlace
without place places = filter (λ p. not (is_place place p)) places
