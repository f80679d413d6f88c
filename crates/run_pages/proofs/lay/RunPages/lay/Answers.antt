use Rattle.std.proofs.Common.{map, subst, ◌∙◌}
use Rattle.run_pages.specs.Pages.{IsLaying, page_at}
use Rattle.run_pages.proofs.lay.RunPages.lay.Goals as goal

pub returns-clause-laid : goal.returns-clause-laid
returns-clause-laid c =
    let is = c.in_ok-pages.ensures c.requires.starts in
    let laid = subst (λ places. IsLaying c.args.scenario.now places (map page_at c.in_ok-pages.pages.items) c.in_ok-pages.seats.items) c.as_slice.ensures.value is in
    record { places = laid.at ∙ c.in_ok-places.ensures; each = laid.each }

pub returns-clause-seats : goal.returns-clause-seats
returns-clause-seats c = (c.in_ok-pages.ensures c.requires.starts).seated
