use Rattle.std.proofs.Common.{◌≡◌, ◌+◌, length}
use Rattle.script_words.specs.Words.{lines_of}
use Rattle.vchan_persist.specs.Clients.{BeginsWell, clients_from, clients_of}
use Rattle.vchan_persist.specs.Reading.{IsList}
use Rattle.vchan_persist.proofs.client.parse_clients.Given as goal

-- the lines that are left complete the list
abbrev pub invariant-loop-text : goal.invariant-loop-text
invariant-loop-text l = record {
  list : IsList l.list;
  read : clients_of l.fn.bytes ≡ clients_from (l.list.lines + 1) l.list.clients.items (lines_of l.rest);
  begun : BeginsWell (lines_of l.rest) → BeginsWell (lines_of l.fn.bytes);
}

abbrev pub decreases-loop-text : goal.decreases-loop-text
decreases-loop-text l = length l.rest
