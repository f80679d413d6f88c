-- What an agent concludes from its data ends after they are given back.
use Rattle.std.proofs.Common.{◌≡◌, List, [], ◌∷◌, map, ap, ◌∙◌, subst, inl, inr}
use Rattle.std.specs.List.{AllZip as EachPair}
use Rattle.end_view.specs.EndView.{EndView}
use Rattle.task_duties.specs.declared.place.PagePlace.{PagePlace}
use Rattle.task_duties.specs.TaskOwes.{EndAt, IsSameEnd, AreEnds}
use Rattle.agent_slots.specs.Slots.{Held, held_at}
use Rattle.agent_slots.specs.Done.{HasEnd}

-- the ends that were held are the same ends
pub same_ends : (given ends : List EndAt) → map held_at ends ≡ map held_at given → EachPair IsSameEnd given ends
same_ends [] [] h = tt
same_ends [] (e ∷ ends) h = cc
same_ends (g ∷ given) [] h = cc
same_ends (g ∷ given) (e ∷ ends) h =
    let first : held_at e ≡ held_at g = cc in
    let more : map held_at ends ≡ map held_at given = cc in
    (record { place = ap (λ (k : Held). k.place) first; page = ap (λ (k : Held). k.page) first; role = ap (λ (k : Held). k.role) first }, same_ends given ends more)

-- what holds of some end at a place holds of the end at that place
pub end_there : (ends : List EndAt) (end : PagePlace → EndView) (place : PagePlace) (P : EndView → Type 0) → AreEnds end ends → HasEnd ends place P → P (end place)
end_there [] end place P are h = absurd h
end_there (e ∷ ends) end place P are (inl h) = subst P (are.0 ∙ ap end h.0) h.1
end_there (e ∷ ends) end place P are (inr h) = end_there ends end place P are.1 h
