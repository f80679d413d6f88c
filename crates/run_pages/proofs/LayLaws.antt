-- Laying one page more.
use Rattle.std.proofs.Common.{List, [], ◌∷◌, ◌++◌, ap, ◌∙◌}
use Rattle.scenario_file.specs.Scenario.{Plan as Scenario}
use Rattle.task_duties.specs.declared.place.PagePlace.{PagePlace}
use Rattle.run_pages.specs.declared.lay.PageSeats.{PageSeats}
use Rattle.run_pages.specs.Pages.{PageAt, IsLaidFor, AreSeatsOf, IsLaying}
use Rattle.std.proofs.lemmas.List.{map-append}
use Rattle.list_laws.proofs.Each.{each_push}
use Rattle.list_laws.proofs.Pairs.{pairs_push}

pub lay_more : (s : Scenario) (places : List PagePlace) (pages : List PageAt) (seats : List PageSeats) (p : PageAt) (x : PageSeats)
    → IsLaidFor s p → AreSeatsOf p x → IsLaying s places pages seats → IsLaying s (places ++ p.place ∷ []) (pages ++ p ∷ []) (seats ++ x ∷ [])
lay_more s places pages seats p x laid sits before = record {
  at = map-append (λ q. q.place) pages (p ∷ []) ∙ ap (λ l. l ++ p.place ∷ []) before.at;
  each = each_push (IsLaidFor s) pages p before.each laid;
  seated = pairs_push AreSeatsOf pages seats p x before.seated sits;
}
