use Rattle.std.proofs.Common.{ℕ, List, [], ◌++◌, ◌∙◌, ap, subst, codes}
use Rattle.vchan_top.specs.Status.{Writes}
use Rattle.vchan_top.proofs.Pieces.{five}
use Rattle.vchan_top.proofs.entry.report_line.Goals as goal

pub returns : goal.returns
returns g c =
    let held = g.E.Sink.held in
    let faults = g.E.Sink.faults in
    let number = c.as_bytes-number.ensures.value ∙ c.format.ensures.text in
    let line = ap (λ (n : List ℕ). codes "vchan: line " ++ (n ++ (codes ": " ++ (c.args.kind.now ++ (codes "\n" ++ []))))) number ∙ five (codes "vchan: line ") _ (codes ": ") c.args.kind.now (codes "\n") in
    subst (λ (x : List ℕ). Writes x (held c.args.err.now) (held c.write_pieces.new.err) (faults c.args.err.now) (faults c.write_pieces.new.err) c.write_pieces.result) line c.write_pieces.ensures
