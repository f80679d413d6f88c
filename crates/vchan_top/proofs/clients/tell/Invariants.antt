use Rattle.std.proofs.Common.{◌≡◌, ◌++◌, map}
use Rattle.vchan_top.specs.Clients.{client_lines}
use Rattle.vchan_top.proofs.clients.tell.Given as goal

-- the text so far and the text of what is left make the text of all epochs
abbrev pub invariant-loop-done : goal.invariant-loop-done
invariant-loop-done l = record {
  can_next : (goal.iterator-loop-done).can_next l.done-iterator;
  is_finite : (goal.iterator-loop-done).is_finite l.done-iterator;
  text : l.text.items ++ client_lines l.done-iterator.rest.items ≡ client_lines l.fn.dones.items;
  pages : l.pages.items ++ map (λ e. e.settled) l.done-iterator.rest.items ≡ map (λ e. e.settled) l.fn.dones.items;
}
