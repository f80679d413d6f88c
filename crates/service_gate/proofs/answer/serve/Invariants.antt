use Rattle.std.proofs.Common.{◌≡◌, drop, flat_map}
use Rattle.service_gate.specs.Triple.{after_outputs}
use Rattle.service_gate.proofs.answer.serve.Given as goal

-- what was owed for all pieces is what was appended, and then what is owed for those that are left
abbrev pub invariant-loop-piece : goal.invariant-loop-piece
invariant-loop-piece g l =
    g.S.Service.owes l.fn.service (flat_map (λ p. p.now) l.pieces)
    ≡ after_outputs l.stdout.items l.stderr.items (g.S.Service.owes l.service (flat_map (λ p. p.now) (drop l.piece-index l.pieces)))
