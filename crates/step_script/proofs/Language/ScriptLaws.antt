-- The lines of a script, read one after another.
use Rattle.std.proofs.Common.{◌≡◌, ℕ, ◌+◌, ◌-◌, List, [], ◌∷◌, ◌++◌, Result, Ok, Err, refl, ap, sym, ◌∙◌, arith, append_assoc, append-nil, subst, rules}
use Rattle.std.specs.List.{sum_by, All}
use Rattle.std.proofs.lemmas.List.{map-append}
use Rattle.std.proofs.lemmas.List.Elements.{All-append}
use Rattle.std.proofs.lemmas.List.Sums.{sum_by-append}
use Rattle.list_laws.specs.Results.{◌>>=◌}
use Rattle.ring_words.specs.declared.order.Orders.{Orders}
use Rattle.step_script.specs.declared.error.ScriptKind.{ScriptKind}
use Rattle.step_script.specs.declared.error.ScriptKind.TheVariants as kind
use Rattle.step_script.specs.declared.error.ScriptError.{ScriptError}
use Rattle.step_script.specs.declared.error.ScriptError.TheVariants as script
use Rattle.script_words.specs.declared.lines.TooManyLines.{TooManyLines}
use Rattle.script_words.specs.Words.{words_of}
use Rattle.step_script.specs.declared.script.ScriptLine.{ScriptLine}
use Rattle.step_script.specs.Language.Grammar.{at_number, line_of, lines_from}
use Rattle.script_words.specs.KeptLines.{Lines, stops, refused, line}
use Rattle.script_words.specs.LinesLeft.{IsNext}
use Rattle.step_script.specs.Parts.Readings.{IsNumberedRefusal, IsScriptRefusal, bad_line_of, bad_script}
use Rattle.step_script.specs.Language.Script.{StepLine, LineFits}
use Rattle.step_script.specs.Parts.ScriptLines.{line_seen, lines_seen, payload_len}

-- the lines read so far in front of those that follow
abbrev pub behind : List StepLine → Result (List StepLine) (ℕ × ScriptKind) → Result (List StepLine) (ℕ × ScriptKind)
behind front more = more >>= (λ lines. Ok (front ++ lines))

behind_first : (front : List StepLine) (next : StepLine) (more : Result (List StepLine) (ℕ × ScriptKind)) → behind front (more >>= (λ lines. Ok (next ∷ lines))) ≡ behind (front ++ next ∷ []) more
behind_first front next (Ok lines) = ap (λ (l : List StepLine). Ok l) (sym (append_assoc front (next ∷ []) lines))
behind_first front next (Err bad) = refl

-- what follows once it is known how a line is read
goes_on : Orders → ℕ → Lines → Result StepLine (ℕ × ScriptKind) → Result (List StepLine) (ℕ × ScriptKind)
goes_on orders room more found = found >>= (λ next. lines_from orders (room - payload_len next) more >>= (λ rest. Ok (next ∷ rest)))

lines_from_line : (orders : Orders) (room number : ℕ) (text : List ℕ) (more : Lines) → lines_from orders room (line number text more) ≡ goes_on orders room more (at_number number (line_of orders room (words_of text)))
unfolding lines_from goes_on
lines_from_line orders room number text more = refl

lines_from_stops : (orders : Orders) (room number : ℕ) → lines_from orders room (stops number) ≡ Ok []
unfolding lines_from
lines_from_stops orders room number = refl

lines_from_refused : (orders : Orders) (room number : ℕ) → lines_from orders room (refused number) ≡ Err (number, kind.TooManyLines)
unfolding lines_from
lines_from_refused orders room number = refl

goes_on_Ok : (front : List StepLine) (orders : Orders) (room : ℕ) (more : Lines) (next : StepLine) → behind front (goes_on orders room more (Ok next)) ≡ behind (front ++ next ∷ []) (lines_from orders (room - payload_len next) more)
unfolding goes_on
goes_on_Ok front orders room more next = behind_first front next (lines_from orders (room - payload_len next) more)

goes_on_Err : (orders : Orders) (room : ℕ) (more : Lines) (bad : ℕ × ScriptKind) → goes_on orders room more (Err bad) ≡ Err bad
unfolding goes_on
goes_on_Err orders room more bad = refl

-- a read line joins those read so far
pub read_further : (orders : Orders) (front : List StepLine) (next : StepLine) (left more : Lines) (room number : ℕ) (text : List ℕ) (due : Result (List StepLine) (ℕ × ScriptKind))
    → behind front (lines_from orders room left) ≡ due → left ≡ line number text more → at_number number (line_of orders room (words_of text)) ≡ Ok next
    → behind (front ++ next ∷ []) (lines_from orders (room - payload_len next) more) ≡ due
read_further orders front next left more room number text due summary cut good =
    sym (goes_on_Ok front orders room more next)
    ∙ ap (λ (r : Result StepLine (ℕ × ScriptKind)). behind front (goes_on orders room more r)) (sym good)
    ∙ ap (behind front) (sym (lines_from_line orders room number text more))
    ∙ ap (λ (l : Lines). behind front (lines_from orders room l)) (sym cut) ∙ summary

pub read_on : (orders : Orders) (lines : List ScriptLine) (next : ScriptLine) (left more : Lines) (room number : ℕ) (text : List ℕ) (due : Result (List StepLine) (ℕ × ScriptKind))
    → behind (lines_seen lines) (lines_from orders room left) ≡ due → left ≡ line number text more → at_number number (line_of orders room (words_of text)) ≡ Ok (line_seen next)
    → behind (lines_seen (lines ++ next ∷ [])) (lines_from orders (room - payload_len (line_seen next)) more) ≡ due
read_on orders lines next left more room number text due summary cut good =
    ap (λ (front : List StepLine). behind front (lines_from orders (room - payload_len (line_seen next)) more)) (map-append line_seen lines (next ∷ []))
    ∙ read_further orders (lines_seen lines) (line_seen next) left more room number text due summary cut good

bad_line : (e : ScriptError) (front : List StepLine) (orders : Orders) (room number : ℕ) (text : List ℕ) (more : Lines) → IsScriptRefusal e (at_number number (line_of orders room (words_of text)))
    → IsScriptRefusal e (behind front (lines_from orders room (line number text more)))
bad_line (script.Bad bad kind) front orders room number text more is =
    ap (behind front) (lines_from_line orders room number text more ∙ ap (goes_on orders room more) is ∙ goes_on_Err orders room more (bad, kind))
bad_line script.Memory front orders room number text more is = tt

-- a refused line is what the whole reading is refused for
pub refused_line : (e : ScriptError) (front : List StepLine) (orders : Orders) (left more : Lines) (room number : ℕ) (text : List ℕ) (due : Result (List StepLine) (ℕ × ScriptKind))
    → behind front (lines_from orders room left) ≡ due → left ≡ line number text more → IsScriptRefusal e (at_number number (line_of orders room (words_of text))) → IsScriptRefusal e due
refused_line e front orders left more room number text due summary cut bad =
    let family : Result (List StepLine) (ℕ × ScriptKind) → Type 0 = λ r. IsScriptRefusal e r in
    subst family (ap (λ (l : Lines). behind front (lines_from orders room l)) (sym cut) ∙ summary) (bad_line e front orders room number text more bad)

-- the refusal of a line is one of a script
pub refused_at : {Y : Type 0} (e : ScriptError) (due : Result Y (ℕ × ScriptKind)) → IsNumberedRefusal e due → IsScriptRefusal e due
refused_at (script.Bad number bad) due is = is
refused_at script.Memory due is = tt

-- so is a line too many
pub refused_next : (many : TooManyLines) (e : ScriptError) (front : List StepLine) (orders : Orders) (left after : Lines) (room : ℕ) (due : Result (List StepLine) (ℕ × ScriptKind))
    → behind front (lines_from orders room left) ≡ due → IsNext (Err many) left after → e ≡ bad_script (bad_line_of many) → IsScriptRefusal e due
refused_next many e front orders left after room due summary is same =
    let family : ScriptError → Type 0 = λ e. IsScriptRefusal e due in
    subst family (sym same) (sym summary ∙ ap (λ (l : Lines). behind front (lines_from orders room l)) is ∙ ap (behind front) (lines_from_refused orders room many.line))

-- if no line is left, all is read
pub all_read : (front : List StepLine) (orders : Orders) (left : Lines) (room number : ℕ) (due : Result (List StepLine) (ℕ × ScriptKind))
    → behind front (lines_from orders room left) ≡ due → left ≡ stops number → due ≡ Ok front
all_read front orders left room number due summary none =
    sym summary ∙ ap (λ (l : Lines). behind front (lines_from orders room l)) none ∙ ap (behind front) (lines_from_stops orders room number) ∙ ap (λ (l : List StepLine). Ok l) (append-nil front)

-- the bytes of one more line
pub sum_more : (lines : List ScriptLine) (next : ScriptLine) → sum_by payload_len (lines_seen (lines ++ next ∷ [])) ≡ sum_by payload_len (lines_seen lines) + payload_len (line_seen next)
sum_more lines next = grind (arith, map-append, sum_by-append)

pub alone_fits : (orders : Orders) (next : StepLine) → LineFits orders next → All (LineFits orders) (next ∷ [])
alone_fits orders next one = search rules

-- all lines fit with one more that does
pub fit_more : (orders : Orders) (lines : List ScriptLine) (next : ScriptLine) → All (LineFits orders) (lines_seen lines) → LineFits orders (line_seen next) → All (LineFits orders) (lines_seen (lines ++ next ∷ []))
fit_more orders lines next fit one =
    subst (All (LineFits orders)) (sym (map-append line_seen lines (next ∷ []))) (All-append (LineFits orders) (lines_seen lines) (line_seen next ∷ []) fit (alone_fits orders (line_seen next) one))
