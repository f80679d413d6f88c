use Rattle.std.proofs.Common.{◌≡◌, ◌<◌, ◌+◌, ◌++◌, ◌∷◌, [], ◌∙◌, arith, subst, sym, ap, map, take, get_or, length}
use Rattle.std.proofs.lemmas.List.{take_all, take_more, map-append}
use Rattle.std.proofs.lemmas.Grind.{common_steps}
use Rattle.run_pages.specs.Pages.{IsLaying, page_at}
use Rattle.run_pages.proofs.LayLaws.{lay_more}
use Rattle.run_pages.proofs.starts.RunStarts.pages.Goals as goal

pub loop-place-preserved : goal.loop-place-preserved
loop-place-preserved c = record {
  pages = omega arith;
  seats = omega arith;
  pages_room = omega arith;
  seats_room = omega arith;
  made = λ starts.
      let s = c.args.scenario.now in
      let items = c.args.places.now in
      let k = c.loop-place.place-index in
      let page = page_at c.in_ok-page.page in
      let made = c.in_ok-page.ensures starts in
      let within : k < length items = omega (arith, c.loop-place-test.true) in
      let here : get_or items k page.place ≡ page.place = grind (arith, common_steps, made.at, within) in
      let taken : take (k + 1) items ≡ take k items ++ page.place ∷ [] = take_more items k page.place within ∙ ap (λ p. take k items ++ p ∷ []) here in
      let pages : map page_at c.push_reserved.new.self.items ≡ map page_at c.loop-place.pages.items ++ page ∷ [] =
      ap (map page_at) c.push_reserved.ensures.items ∙ map-append page_at c.loop-place.pages.items (c.in_ok-page.page ∷ []) in
      subst (λ places. IsLaying s places (map page_at c.push_reserved.new.self.items) c.push_reserved-in-loop-place.new.self.items) (sym taken)
      (subst (λ pages. IsLaying s (take k items ++ page.place ∷ []) pages c.push_reserved-in-loop-place.new.self.items) (sym pages)
      (subst (λ seats. IsLaying s (take k items ++ page.place ∷ []) (map page_at c.loop-place.pages.items ++ page ∷ []) seats) (sym c.push_reserved-in-loop-place.ensures.items)
      (lay_more s (take k items) (map page_at c.loop-place.pages.items) c.loop-place.seats.items page c.in_ok-page.seats_of_page made.laid made.seated (c.loop-place.invariant.made starts))));
}

pub returns : goal.returns
returns c = λ starts.
    let all : take c.loop-place.place-index c.args.places.now ≡ c.args.places.now = take_all c.loop-place.place-index c.args.places.now (omega (arith, c.loop-place-test.false)) in
    subst (λ places. IsLaying c.args.scenario.now places (map page_at c.loop-place.pages.items) c.loop-place.seats.items) all (c.loop-place.invariant.made starts)
