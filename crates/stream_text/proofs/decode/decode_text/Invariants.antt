use Rattle.std.proofs.Common.{◌≤◌, ℕ, List}
use Rattle.script_words.specs.LinesLeft.{lines_left}
use Rattle.script_words.proofs.LineLaws.{count_left}
use Rattle.stream_text.specs.Listings.{Gathers}
use Rattle.stream_text.proofs.InputLaws.{IsBegun, IsReadTo}
use Rattle.stream_text.proofs.decode.decode_text.Given as goal

abbrev pub invariant-loop-listing : goal.invariant-loop-listing
invariant-loop-listing l = record {
  bytes : List ℕ;
  gathers : Gathers l.fn.channel bytes l.listing.decoder l.listing.gathered.items l.listing.text.items;
  read : IsReadTo l.fn.bytes (lines_left l.reader) l.total bytes;
  begun : IsBegun l.fn.bytes (lines_left l.reader) l.total;
  total : l.total ≤ 8388608;
}

abbrev pub decreases-loop-listing : goal.decreases-loop-listing
decreases-loop-listing l = count_left (lines_left l.reader)
