use Rattle.std.proofs.Common.{◌≡◌, ℕ, List, ap, sym, subst, arith}
use Rattle.std.proofs.lemmas.Result.{err_from_is_err_and}
use Rattle.step_script.specs.Language.Grammar.{script_of_lines}
use Rattle.script_words.specs.LinesLeft.{lines_left}
use Rattle.vchan_core.specs.Page.StandsFor.{orders_of}
use Rattle.step_script.specs.Meaning.Played.{line_done}
use Rattle.step_script.specs.Parts.Players.{Plays}
use Rattle.step_script.specs.Language.Script.{LineFits}
use Rattle.step_script.specs.Parts.ScriptLines.{line_with, payload_len}
use Rattle.step_script.proofs.Parts.RunningLaws.{running_first, running_fits, running_next, running_refused, running_last}
use Rattle.script_words.proofs.LineLaws.{next_line, next_end}
use Rattle.step_script.proofs.Language.ScriptLaws.{refused_at, refused_line, refused_next}
use Rattle.step_script.proofs.running.script_text.Goals as goal

pub loop-payload-init : goal.loop-payload-init
loop-payload-init c = record {
  summary = running_first c.args.bytes.now c.in_ok-opening.opening c.in_ok-player.player (lines_left c.of-reader.result) _ (ap script_of_lines (sym c.of-reader.ensures)) c.in_ok-opening.ensures.opening c.in_ok-player.ensures.at c.in_ok-player.ensures.text;
  room = omega arith;
}

pub returns-in_err-number-clause-bad : goal.returns-in_err-number-clause-bad
returns-in_err-number-clause-bad c =
    let p = err_from_is_err_and c.from_residual-in_err-number.result c.from_residual-in_err-number.ensures.1 in
    let summary = c.loop-payload.invariant.summary in
    rw p.1 (running_refused _ _ _ _ _ _ summary (refused_next _ _ summary.front _ _ (lines_left c.next.new.self) _ summary.due summary.read c.in_err-number.ensures p.2))

pub returns-in_err-line-clause-bad : goal.returns-in_err-line-clause-bad
returns-in_err-line-clause-bad c =
    let p = err_from_is_err_and c.from_residual-in_err-line.result c.from_residual-in_err-line.ensures.1 in
    let summary = c.loop-payload.invariant.summary in
    let next = next_line _ _ _ _ _ c.in_ok-number.ensures c.in-Line.is in
    rw (p.1, p.2) (running_refused _ _ _ _ _ _ summary (refused_line _ summary.front _ _ _ _ _ _ summary.due summary.read next (refused_at _ _ c.in_err-line.ensures.line)))

pub play_line-requires-clause-known : goal.play_line-requires-clause-known
play_line-requires-clause-known c = (c.loop-payload.invariant.summary.core, c.loop-payload.invariant.summary.to)

pub play_line-requires-clause-fits : goal.play_line-requires-clause-fits
play_line-requires-clause-fits c =
    subst (λ (l : List ℕ). LineFits (orders_of c.loop-payload.player.page) (line_with c.in_ok-line.line l)) (sym c.as_slice.ensures.value)
    (running_fits _ _ _ _ _ _ c.loop-payload.invariant.summary c.in_ok-line.ensures.fits.0)

pub loop-payload-preserved : goal.loop-payload-preserved
loop-payload-preserved c =
    let plays : Plays (line_done (line_with c.in_ok-line.line c.read_line_at.new.payload.items)) c.loop-payload.player c.play_line.new.self =
    subst (λ (l : List ℕ). Plays (line_done (line_with c.in_ok-line.line l)) c.loop-payload.player c.play_line.new.self) c.as_slice.ensures.value c.in_ok-play_line.ensures.plays in
    let measured : payload_len (line_with c.in_ok-line.line c.read_line_at.new.payload.items) ≡ c.len-room.result = omega (arith, c.in_ok-line.ensures.len, c.len-room.ensures) in
    running_next _ _ _ _ _ _ _ _ _ _ _ _ c.loop-payload.invariant c.in_ok-number.ensures c.in-Line.is c.in_ok-line.ensures.line c.in_ok-line.ensures.fits.0 measured plays

pub returns-clause-text : goal.returns-clause-text
returns-clause-text c =
    running_last _ _ _ _ _ _ _ c.loop-payload.invariant.summary (next_end _ _ _ _ c.in_ok-number.ensures c.in_default.is) c.in_ok-player.ensures.opens c.in_ok-text.ensures
