-- What an end's events on ring bytes leave alone.
use Rattle.std.specs.Prelude.{◌≡◌}
use Rattle.ring_words.specs.declared.page.Role.{Role}
use Rattle.vchan_core.specs.declared.plain.Plain.{Plain}
use Rattle.vchan_core.specs.OneMachine.Phases.{standing}
use Rattle.vchan_core.specs.Page.Ends.{other_end}
use Rattle.vchan_core.specs.Page.StandsFor.{machine_of, moved_of, orders_of, turned_of}

-- all of the page is the same, except its list of words and where this end is inside its call
pub record IsBeside (who : Role) (page page' : Plain) : Type 0 where
  pub same : standing (machine_of page' who) ≡ standing (machine_of page who)
  pub orders : orders_of page' ≡ orders_of page
  pub moved : moved_of page' who ≡ moved_of page who
  pub turned : turned_of page' who ≡ turned_of page who
  pub other : other_end page'.ends who ≡ other_end page.ends who
