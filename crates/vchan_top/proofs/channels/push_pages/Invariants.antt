use Rattle.std.proofs.Common.{◌≡◌, ◌++◌}
use Rattle.vchan_top.specs.Relays.{even_lines}
use Rattle.vchan_top.proofs.channels.push_pages.Given as goal

abbrev pub invariant-loop-before : goal.invariant-loop-before
invariant-loop-before l = l.out.items ≡ l.initial.out.items ++ even_lines l.count l.before
