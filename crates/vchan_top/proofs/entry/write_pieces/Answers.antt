use Rattle.std.proofs.Common.{◌+◌, drop, flat_map, subst, ap, arith, Ok}
use Rattle.std.proofs.lemmas.List.{drop_all}
use Rattle.vchan_top.proofs.Pieces.{Goes, goes_on, next_piece, no_pieces}
use Rattle.vchan_top.proofs.entry.write_pieces.Goals as goal

pub loop-piece-preserved : goal.loop-piece-preserved
loop-piece-preserved g c =
    let held = g.E.Sink.held in
    let faults = g.E.Sink.faults in
    let pieces = c.args.pieces.now in
    let all = flat_map (λ p. p.now) pieces in
    let rest = flat_map (λ p. p.now) (drop (c.loop-piece.piece-index + 1) pieces) in
    goes_on all _ rest (held c.args.err.now) (held c.loop-piece.err) (held c.write_all.new.sink) (faults c.args.err.now) (faults c.loop-piece.err) (faults c.write_all.new.sink)
    (subst (λ xs. Goes all xs (held c.args.err.now) (held c.loop-piece.err) (faults c.args.err.now) (faults c.loop-piece.err)) (next_piece pieces c.loop-piece.piece-index _ c.loop-piece-test.true) c.loop-piece.invariant) c.in_ok-write_all.ensures.ok c.in_ok-write_all.ensures.unfaulted

pub returns : goal.returns
returns g c =
    let held = g.E.Sink.held c.loop-piece.err in
    let count = g.E.Sink.faults c.loop-piece.err in
    let pieces = c.args.pieces.now in
    let none = drop_all c.loop-piece.piece-index pieces (omega (arith, c.loop-piece-test.false)) in
    c.loop-piece.invariant.on held count (Ok tt) (no_pieces held count (flat_map (λ p. p.now) (drop c.loop-piece.piece-index pieces)) (ap (λ ps. flat_map (λ p. p.now) ps) none))
