-- The ends of an agent by their places.
use Rattle.std.specs.Prelude.{◌≡◌, ℕ, Bool, ◌==◌, ◌&&◌, List, slice_get, Option, Some}
use Rattle.std.specs.HashMap.{HashMap, get}
use Rattle.std.specs.declared.hash.FoldHasher.{FoldHasher}
use Rattle.std.specs.declared.hash.BuildHasherDefault.{BuildHasherDefault}
use Rattle.task_duties.specs.declared.place.PagePlace.{PagePlace}
use Rattle.task_duties.specs.declared.place.PagePlace.TheVariants.{Payload}

-- which end lies at a place: by the domain that calls, the domain that is called, and the port
abbrev pub PlaceIndex : Type 0
PlaceIndex = HashMap (ℕ × ℕ × ℕ) ℕ (BuildHasherDefault FoldHasher)

abbrev pub same_key : ℕ × ℕ × ℕ → ℕ × ℕ × ℕ → Bool
same_key a b = a.0 == b.0 && a.1 == b.1 && a.2 == b.2

-- the end that the index has at a place
abbrev pub end_at : PlaceIndex → ℕ → ℕ → ℕ → Option ℕ
end_at index from to port = get same_key index (from, to, port)

-- it has each end at its place, and nothing else
pub record IsIndexOf (places : List PagePlace) (index : PlaceIndex) : Type 0 where
  pub has : (i from to port : ℕ) → slice_get places i ≡ Some (Payload from to port) → end_at index from to port ≡ Some i
  pub has_only : (i from to port : ℕ) → end_at index from to port ≡ Some i → slice_get places i ≡ Some (Payload from to port)
