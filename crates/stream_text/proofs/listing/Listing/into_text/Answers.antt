use Rattle.stream_text.proofs.ListingLaws.{gathers_fed}
use Rattle.stream_text.proofs.listing.Listing.into_text.Goals as goal

pub returns : goal.returns
returns c = λ channel bytes gathers.
    c.end.ensures channel bytes
    (gathers_fed channel bytes c.args.self.decoder c.feed.new.self c.args.self.gathered.items c.as_slice.result.now c.args.self.text.items c.as_slice.ensures.value c.in_ok-feed.ensures.ok c.in_ok-feed.ensures.stream gathers)
