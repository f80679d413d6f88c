-- The two ends of a page, each by its role.
use Rattle.std.specs.Borrow.{Lends, MutBor, Fml}
use Rattle.ring_words.specs.declared.page.Role.{Role}
use Rattle.ring_words.specs.declared.page.Role.TheVariants.{Server, Client}
use Rattle.vchan_core.specs.declared.ends.End.{End}
use Rattle.vchan_core.specs.declared.ends.Ends.{Ends}
use Rattle.vchan_core.specs.contracts.ends.End.{the_row as end_row}
use Rattle.vchan_core.specs.contracts.ends.Ends.{the_row as ends_row}

abbrev pub end_of : Ends → Role → End
end_of ends Server = ends.server
end_of ends Client = ends.client

abbrev pub other_end : Ends → Role → End
other_end ends Server = ends.client
other_end ends Client = ends.server

-- the ends, one of them in place of the one that was
abbrev pub with_end : Ends → Role → End → Ends
with_end ends Server e = record ends { server = e }
with_end ends Client e = record ends { client = e }

-- the ends end up with the last value of the one that is lent
abbrev pub LendsEnd : MutBor Ends → Role → MutBor End → Fml
LendsEnd s who r = Lends ends_row end_row s r (with_end s.now who)
