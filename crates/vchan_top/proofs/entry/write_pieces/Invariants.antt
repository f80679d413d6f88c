use Rattle.std.proofs.Common.{drop, flat_map}
use Rattle.vchan_top.proofs.Pieces.{Goes}
use Rattle.vchan_top.proofs.entry.write_pieces.Given as goal

-- once the pieces that are left are written, all are
abbrev pub invariant-loop-piece : goal.invariant-loop-piece
invariant-loop-piece g l =
    Goes (flat_map (λ p. p.now) l.pieces) (flat_map (λ p. p.now) (drop l.piece-index l.pieces)) (g.E.Sink.held l.initial.err) (g.E.Sink.held l.err) (g.E.Sink.faults l.initial.err) (g.E.Sink.faults l.err)
