use Rattle.stream_text.proofs.ListingLaws.{lists_more, lists_rest, lists_fault}
use Rattle.stream_text.proofs.listing.Listing.print_messages.Goals as goal

pub messages-preserved : goal.messages-preserved
messages-preserved c = record {
  lists = λ channel fed lists.
      lists_more channel fed c.messages.self.decoder c.next_line.new.self c.messages.self.text.items c.next_line.new.out.items c.push.new.self.items c.next_line.result (cc) c.next_line.ensures.stream c.next_line.ensures.channel c.in_ok-push-in-Ok-true.ensures.items (c.messages.invariant.lists channel fed lists);
  gathered = c.messages.invariant.gathered;
}

pub returns-in-Ok-false-clause-listed : goal.returns-in-Ok-false-clause-listed
returns-in-Ok-false-clause-listed c = λ channel fed lists.
    lists_rest channel fed c.messages.self.decoder c.next_line.new.self c.messages.self.text.items c.next_line.new.out.items c.next_line.result (cc) c.next_line.ensures.stream (c.next_line.ensures.stays (cc)) (c.messages.invariant.lists channel fed lists)

pub returns-in-Err-Fault-clause-listed : goal.returns-in-Err-Fault-clause-listed
returns-in-Err-Fault-clause-listed c = λ channel fed lists.
    lists_fault channel fed c.messages.self.decoder c.next_line.new.self c.messages.self.text.items c.next_line.new.out.items c.next_line.result c.in-Err-Fault.fault (cc) c.next_line.ensures.stream c.next_line.ensures.channel (c.messages.invariant.lists channel fed lists)
