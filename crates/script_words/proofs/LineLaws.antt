-- The lines of a text one after another.
use Rattle.std.proofs.Common.{◌≡◌, ℕ, ◌+◌, ◌<◌, ◌≤◌, true, false, ltb, List, [], ◌∷◌, Ok, refl, ap, subst, ◌∙◌, arith}
use Rattle.std.proofs.lemmas.Bool.Decides.{nat_tests}
use denote.Ref.{Bor}
use Rattle.script_words.specs.KeptLines.{Lines, stops, refused, line, is_passed_over, kept_lines}
use Rattle.script_words.specs.LinesLeft.{IsNext}
use Rattle.script_words.specs.declared.lines.NextLine.{NextLine}
use Rattle.script_words.specs.declared.lines.NextLine.TheVariants as nexts

-- no line is left
pub kept_none : (number : ℕ) (texts : List (List ℕ)) → texts ≡ [] → kept_lines number texts ≡ stops number
unfolding kept_lines
kept_none number texts none = ap (kept_lines number) none

-- a line past the greatest number
pub kept_refused : (number : ℕ) (texts : List (List ℕ)) (text : List ℕ) (more : List (List ℕ)) → texts ≡ text ∷ more → 65536 < number → kept_lines number texts ≡ refused number
unfolding kept_lines
kept_refused number texts text more cut past =
    let over : ltb 65536 number ≡ true = grind (arith, nat_tests) in ap (kept_lines number) cut ∙ rw over refl

-- a line that is skipped
pub kept_passed : (number : ℕ) (texts : List (List ℕ)) (text : List ℕ) (more : List (List ℕ)) → texts ≡ text ∷ more → number ≤ 65536 → is_passed_over text ≡ true → kept_lines number texts ≡ kept_lines (number + 1) more
unfolding kept_lines
kept_passed number texts text more cut few passed =
    let under : ltb 65536 number ≡ false = grind (arith, nat_tests) in ap (kept_lines number) cut ∙ rw (under, passed) refl

-- any other line
pub kept_line : (number : ℕ) (texts : List (List ℕ)) (text : List ℕ) (more : List (List ℕ)) → texts ≡ text ∷ more → number ≤ 65536 → is_passed_over text ≡ false → kept_lines number texts ≡ line number text (kept_lines (number + 1) more)
unfolding kept_lines
kept_line number texts text more cut few kept =
    let under : ltb 65536 number ≡ false = grind (arith, nat_tests) in ap (kept_lines number) cut ∙ rw (under, kept) refl

-- a line that is next is the first of those left
pub next_line : (found : NextLine) (number : ℕ) (text : Bor (List ℕ)) (left after : Lines) → IsNext (Ok found) left after → found ≡ nexts.Line number text → left ≡ line number text.now after
next_line found number text left after is same =
    let family : NextLine → Type 0 = λ n. IsNext (Ok n) left after in subst family same is

-- if the end is next, no line is left
pub next_end : (found : NextLine) (number : ℕ) (left after : Lines) → IsNext (Ok found) left after → found ≡ nexts.End number → left ≡ stops number
next_end found number left after is same =
    let family : NextLine → Type 0 = λ n. IsNext (Ok n) left after in subst family same is

-- how many lines are left
abbrev pub count_left : Lines → ℕ
count_left (stops number) = 0
count_left (refused number) = 0
count_left (line number text more) = 1 + count_left more
