use Rattle.std.proofs.Common.{◌≡◌, Ok, ap, sym, subst, ◌∙◌, arith}
use Rattle.std.proofs.lemmas.Result.{err_from_is_err_and}
use Rattle.script_words.specs.LinesLeft.{lines_left}
use Rattle.step_script.specs.declared.script.ScriptLine.{ScriptLine}
use Rattle.step_script.specs.Language.Script.{LineFits, StepLine}
use Rattle.step_script.specs.Parts.ScriptLines.{line_seen, line_with, payload_len}
use Rattle.script_words.proofs.LineLaws.{next_line, next_end}
use Rattle.step_script.proofs.Language.ScriptLaws.{read_on, refused_at, refused_line, refused_next, all_read, sum_more, fit_more}
use Rattle.step_script.proofs.read.read_lines.Goals as goal

pub returns-in_err-number-clause-lines : goal.returns-in_err-number-clause-lines
returns-in_err-number-clause-lines c =
    let p = err_from_is_err_and c.from_residual.result c.from_residual.ensures.1 in
    rw p.1 (refused_next _ _ _ _ _ (lines_left c.next.new.self) _ _ c.loop-payload.invariant.read c.in_err-number.ensures p.2)

pub returns-in_err-line-clause-lines : goal.returns-in_err-line-clause-lines
returns-in_err-line-clause-lines c =
    let p = err_from_is_err_and c.from_residual-in_err-line.result c.from_residual-in_err-line.ensures.1 in
    let next = next_line _ _ _ _ _ c.in_ok-number.ensures c.in-Line.is in
    rw (p.1, p.2) (refused_line _ _ _ _ _ _ _ _ _ c.loop-payload.invariant.read next (refused_at _ _ c.in_err-line.ensures.line))

pub loop-payload-preserved : goal.loop-payload-preserved
loop-payload-preserved c =
    let orders = c.args.orders in
    let before = c.loop-payload.lines.items in
    let next : ScriptLine = record { line = c.in_ok-line.line; payload = c.in_ok-payload.payload } in
    let cut = next_line _ _ _ _ _ c.in_ok-number.ensures c.in-Line.is in
    let same : line_seen next ≡ line_with c.in_ok-line.line c.read_line_at.new.payload.items = ap (line_with c.in_ok-line.line) (c.in_ok-payload.ensures.ok ∙ c.as_slice.ensures.value) in
    let measured : payload_len (line_seen next) ≡ c.len-room.result = omega (arith, ap payload_len same, c.in_ok-line.ensures.len, c.len-room.ensures) in
    record {
      read = rw (c.in_ok-push.ensures.items, sym measured) (read_on orders before next _ _ _ _ _ _ c.loop-payload.invariant.read cut (c.in_ok-line.ensures.line ∙ ap (λ (l : StepLine). Ok l) (sym same)));
      fit = rw c.in_ok-push.ensures.items (fit_more orders before next c.loop-payload.invariant.fit (subst (LineFits orders) (sym same) c.in_ok-line.ensures.fits.0));
      short = rw c.in_ok-push.ensures.items (omega (arith, sum_more before next, measured, ap payload_len same, c.in_ok-line.ensures.fits.1));
    }

pub returns-clause-lines : goal.returns-clause-lines
returns-clause-lines c = all_read _ _ _ _ _ _ c.loop-payload.invariant.read (next_end _ _ _ _ c.in_ok-number.ensures c.in_default.is)
