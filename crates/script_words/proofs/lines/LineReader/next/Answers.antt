use Rattle.std.proofs.Common.{sym, ◌∙◌, arith}
use Rattle.script_words.proofs.LineLaws.{kept_none, kept_refused, kept_passed, kept_line}
use Rattle.script_words.proofs.lines.LineReader.next.Goals as goal

pub returns-then-self-eq-MOST_LINES : goal.returns-then-self-eq-MOST_LINES
returns-then-self-eq-MOST_LINES c = sym c.loop-text.invariant ∙ kept_refused _ _ _ _ c.in-Some.ensures.lines (omega arith)

pub returns-then-not-is_passed_over : goal.returns-then-not-is_passed_over
returns-then-not-is_passed_over c =
    sym c.loop-text.invariant ∙ kept_line _ _ _ _ c.in-Some.ensures.lines (omega arith) (sym c.is_passed_over.ensures ∙ c.if-not-is_passed_over.true)

pub loop-text-preserved : goal.loop-text-preserved
loop-text-preserved c =
    sym (kept_passed _ _ _ _ c.in-Some.ensures.lines (omega arith) (sym c.is_passed_over.ensures ∙ c.if-not-is_passed_over.false)) ∙ c.loop-text.invariant

pub returns : goal.returns
returns c = sym c.loop-text.invariant ∙ kept_none _ _ c.in_default.ensures.lines
