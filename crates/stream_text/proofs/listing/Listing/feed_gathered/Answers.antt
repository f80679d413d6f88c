use Rattle.std.proofs.Common.{◌++◌, ap, ◌∙◌}
use Rattle.std.proofs.lemmas.List.{append-nil}
use Rattle.stream_text.proofs.ListingLaws.{gathers_fed}
use Rattle.stream_text.proofs.listing.Listing.feed_gathered.Goals as goal

pub returns : goal.returns
returns c = λ channel bytes gathers.
    let listed = c.in_ok-print_messages.ensures.listed channel bytes
    (gathers_fed channel bytes c.args.self.now.decoder c.feed.new.self c.args.self.now.gathered.items c.as_slice.result.now c.args.self.now.text.items c.as_slice.ensures.value c.in_ok-feed.ensures.ok c.in_ok-feed.ensures.stream gathers) in
    record {
      fed = bytes;
      lists = listed.lists;
      whole = ap (λ behind. bytes ++ behind) (c.in_ok-print_messages.ensures.gathered ∙ c.clear.ensures.items) ∙ append-nil bytes;
    }
