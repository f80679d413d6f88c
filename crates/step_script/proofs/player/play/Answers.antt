use Rattle.std.proofs.Common.{◌≡◌, ℕ, ◌+◌, ◌<◌, suc, List, [], ◌∷◌, drop, length, sym, ◌∙◌, ap, subst, add-one, drop-cons, slice_index_or}
use Rattle.std.proofs.Math.ListN.{drop_of_length-le}
use Rattle.step_script.specs.declared.script.ScriptLine.{ScriptLine}
use Rattle.vchan_core.specs.Page.StandsFor.{orders_of}
use Rattle.step_script.specs.Meaning.Played.{line_done}
use Rattle.step_script.specs.Parts.Players.{Plays}
use Rattle.step_script.specs.Language.Script.{LineFits}
use Rattle.step_script.specs.Parts.ScriptLines.{line_seen, line_with, lines_seen}
use Rattle.step_script.proofs.Parts.PlayerLaws.{IsPlaying, playing_first, playing_fits, playing_on}
use Rattle.step_script.proofs.Meaning.ListScriptLaws.{script_text}
use Rattle.step_script.proofs.player.play.Goals as goal

pub loop-line-init : goal.loop-line-init
loop-line-init c =
    rw c.deref-line-items.ensures.value
    (playing_first c.args.script.now c.script.inside.opening c.in_ok-player.player (lines_seen c.script.inside.lines.items) (sym c.script.view_is) c.script.invariant.fit c.in_ok-player.ensures.at c.in_ok-player.ensures.text)

-- the lines that are left begin with this one
next_line : (items : List ScriptLine) (i : ℕ) (line : ScriptLine) → i < length items → line ≡ slice_index_or items i line → lines_seen (drop i items) ≡ line_seen line ∷ lines_seen (drop (i + 1) items)
next_line items i line within is =
    let next : drop i items ≡ line ∷ drop (i + 1) items = rw add-one (drop-cons items i line within ∙ ap (λ (l : ScriptLine). l ∷ drop (suc i) items) (sym is)) in ap lines_seen next

pub play_line-requires-clause-known : goal.play_line-requires-clause-known
play_line-requires-clause-known c = (c.loop-line.invariant.core, c.loop-line.invariant.to)

pub play_line-requires-clause-fits : goal.play_line-requires-clause-fits
play_line-requires-clause-fits c =
    let line : ScriptLine = c.line-item.result in
    let items = c.deref-line-items.result.now in
    let index : ℕ = c.loop-line.line-index in
    subst (λ (l : List ℕ). LineFits (orders_of c.loop-line.player.page) (line_with line.line l)) (sym c.as_slice.ensures)
    (playing_fits c.args.script.now c.loop-line.player (line_seen line) (lines_seen (drop index items)) (lines_seen (drop (index + 1) items)) c.loop-line.invariant (next_line items index line c.loop-line-test.true c.line-item.is))

pub loop-line-preserved : goal.loop-line-preserved
loop-line-preserved c =
    let line : ScriptLine = c.line-item.result in
    let items = c.deref-line-items.result.now in
    let index : ℕ = c.loop-line.line-index in
    let plays : Plays (line_done (line_seen line)) c.loop-line.player c.play_line.new.self =
    subst (λ (l : List ℕ). Plays (line_done (line_with line.line l)) c.loop-line.player c.play_line.new.self) c.as_slice.ensures c.in_ok-play_line.ensures.plays in
    playing_on c.args.script.now c.loop-line.player c.play_line.new.self (line_seen line) (lines_seen (drop index items)) (lines_seen (drop (index + 1) items)) c.loop-line.invariant (next_line items index line c.loop-line-test.true c.line-item.is) plays

pub returns-clause-text : goal.returns-clause-text
returns-clause-text c =
    let none : drop c.loop-line.line-index c.deref-line-items.result.now ≡ [] = drop_of_length-le c.deref-line-items.result.now c.loop-line-test.false in
    let done : IsPlaying c.args.script.now c.loop-line.player [] = subst (λ (l : List ScriptLine). IsPlaying c.args.script.now c.loop-line.player (lines_seen l)) none c.loop-line.invariant in
    c.of.ensures ∙ c.in_ok-text.ensures done.core done.to ∙ done.played

pub returns-clause-lists : goal.returns-clause-lists
returns-clause-lists c =
    script_text c.args.script.now c.script.inside.opening (lines_seen c.script.inside.lines.items) c.of.result c.script.view_is
    c.«open».ensures.opens c.script.invariant.fit (returns-clause-text c)
