use Rattle.std.proofs.Common.{◌≡◌, ℕ, List, length}
use Rattle.qrexec_frame.specs.declared.kind.Channel.{Channel}
use Rattle.stream_text.specs.Listings.{Lists}
use Rattle.stream_text.proofs.listing.Listing.print_messages.Given as goal

abbrev pub invariant-messages : goal.invariant-messages
invariant-messages l = record {
  lists : (channel : Channel) (fed : List ℕ) → Lists channel fed l.initial.self.decoder l.initial.self.text.items → Lists channel fed l.self.decoder l.self.text.items;
  gathered : l.self.gathered.items ≡ l.initial.self.gathered.items;
}

abbrev pub decreases-messages : goal.decreases-messages
decreases-messages l = length l.self.decoder.left
