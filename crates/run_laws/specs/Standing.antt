-- What is known of a page of a run, whether it was laid at first or at its first use.
-- Source: this project's own.
use Rattle.end_view.specs.Settled.{Settled}
use Rattle.run_laws.specs.declared.standing.Laid.{Laid}
use Rattle.run_laws.specs.declared.standing.Laid.TheVariants.{AtFirst, InUse}

abbrev pub stands_of : Laid → Settled
stands_of (AtFirst page) = page
stands_of (InUse page) = page
