use Rattle.std.proofs.Common.{◌≡◌, ◌≤◌, ◌-◌}
use Rattle.vchan_persist.proofs.ScribbleLaws.{LeadsOn}
use Rattle.vchan_persist.proofs.scribbling.scribble.Given as goal

-- the stores that are left lead to where all of them lead
abbrev pub invariant-loop : goal.invariant-loop
invariant-loop l = record {
  small : l.x ≤ 65536;
  page : l.end.page ≡ l.initial.end.page;
  leads : LeadsOn l.seed l.stores l.initial.end.side l.x (l.stores - l.counter) l.end.side;
}
