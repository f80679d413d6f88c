-- A script that is played while it is read.
use Rattle.std.proofs.Common.{◌≡◌, ℕ, ◌-◌, ◌≤◌, List, [], ◌∷◌, ◌++◌, Result, Ok, Err, refl, ap, sym, subst, ◌∙◌, arith, append_assoc, append-nil}
use denote.Ref.{Bor}
use Rattle.std.specs.List.{All}
use Rattle.std.proofs.lemmas.List.Elements.{All-append}
use Rattle.list_laws.specs.Results.{◌>>=◌}
use Rattle.ring_words.specs.declared.order.Orders.{Orders}
use Rattle.vchan_protocol.specs.History.Core.{Core, opened}
use Rattle.vchan_core.specs.Page.StandsFor.{orders_of}
use Rattle.script_words.specs.Words.{words_of}
use Rattle.step_script.specs.declared.error.ScriptKind.{ScriptKind}
use Rattle.step_script.specs.declared.error.ScriptError.{ScriptError}
use Rattle.step_script.specs.declared.error.ScriptError.TheVariants as script
use Rattle.script_words.specs.declared.lines.NextLine.{NextLine}
use Rattle.script_words.specs.declared.lines.NextLine.TheVariants as nexts
use Rattle.step_script.specs.declared.player.Player.{Player}
use Rattle.step_script.specs.declared.script.Opening.{Opening}
use Rattle.step_script.specs.Language.Grammar.{at_number, line_of, lines_from, script_of, script_of_lines, front_from}
use Rattle.script_words.specs.KeptLines.{Lines, line, stops}
use Rattle.script_words.specs.LinesLeft.{IsNext}
use Rattle.step_script.specs.Meaning.ListScript.{CanOpen}
use Rattle.step_script.specs.Meaning.Output.{text_of}
use Rattle.step_script.specs.Meaning.Played.{line_done, plays, step_text}
use Rattle.step_script.specs.Parts.Players.{IsPlayedTo, Plays}
use Rattle.step_script.specs.Parts.Readings.{IsScriptRefusal}
use Rattle.step_script.specs.Language.Script.{StepLine, LineFits, opens}
use Rattle.step_script.specs.Parts.ScriptLines.{payload_len}
use Rattle.step_script.specs.Meaning.ScriptText.{IsTextOf}
use Rattle.step_script.proofs.Meaning.ListScriptLaws.{script_text}
use Rattle.step_script.proofs.Parts.PlayerLaws.{orders_kept, played_on}
use Rattle.script_words.proofs.LineLaws.{next_line}
use Rattle.step_script.proofs.Language.ScriptLaws.{all_read, alone_fits, behind, read_further}

-- the whole script, if these lines stand after its opening
abbrev opened_by : Opening → Result (List StepLine) (ℕ × ScriptKind) → Result (List StepLine) (ℕ × ScriptKind)
opened_by o lines = lines >>= (λ rest. Ok (opens o ∷ rest))

-- how far a script is read and played: what the lines that are left are read as joins those that were played, and from the core state of the player they print the rest
pub record IsRunning (bytes : List ℕ) (o : Opening) (player : Player) (room : ℕ) (left : Lines) : Type 0 where
  pub due : Result (List StepLine) (ℕ × ScriptKind)
  pub front : List StepLine
  pub read : behind front (lines_from o.orders room left) ≡ due
  pub whole : opened_by o due ≡ script_of bytes
  pub fit : All (LineFits o.orders) front
  pub core : Core
  pub to : IsPlayedTo core player
  pub orders : core.orders ≡ o.orders
  pub played : (rest : List StepLine) → player.text.items ++ text_of (plays rest core) ≡ step_text (opens o ∷ front ++ rest)

behind_nil : (lines : Result (List StepLine) (ℕ × ScriptKind)) → behind [] lines ≡ lines
behind_nil (Ok lines) = refl
behind_nil (Err bad) = refl

none_fit : (orders : Orders) → All (LineFits orders) []
none_fit orders = λ i x within. absurd (omega (arith, within))

-- nothing is played yet
pub running_first : (bytes : List ℕ) (o : Opening) (player : Player) (lines left : Lines) → script_of bytes ≡ script_of_lines lines → front_from lines ≡ Ok (o, left) → IsPlayedTo (opened o.orders o.start o.said o.state) player → player.text.items ≡ [] →
    IsRunning bytes o player 8388608 left
running_first bytes o player lines left is head at none = record {
  due = lines_from o.orders 8388608 left;
  front = [];
  read = behind_nil (lines_from o.orders 8388608 left);
  whole = sym (is ∙ ap (λ (r : Result (Opening × Lines) (ℕ × ScriptKind)). r >>= (λ h. lines_from h.0.orders 8388608 h.1 >>= (λ rest. Ok (opens h.0 ∷ rest)))) head);
  fit = none_fit o.orders;
  core = opened o.orders o.start o.said o.state;
  to = at;
  orders = refl;
  played = λ rest. ap (λ (l : List ℕ). l ++ text_of (plays rest (opened o.orders o.start o.said o.state))) none;
}

-- a line of the page of the player
pub running_fits : (bytes : List ℕ) (o : Opening) (player : Player) (room : ℕ) (left : Lines) (next : StepLine) → IsRunning bytes o player room left → LineFits o.orders next → LineFits (orders_of player.page) next
running_fits bytes o player room left next summary fits =
    subst (λ (orders : Orders). LineFits orders next) (sym (summary.to.stands.orders ∙ summary.orders)) fits

-- one more line is read and played
pub running_on : (bytes : List ℕ) (o : Opening) (player player' : Player) (room number : ℕ) (text : List ℕ) (left more : Lines) (next : StepLine) → IsRunning bytes o player room left → left ≡ line number text more →
    at_number number (line_of o.orders room (words_of text)) ≡ Ok next → LineFits o.orders next → Plays (line_done next) player player' → IsRunning bytes o player' (room - payload_len next) more
running_on bytes o player player' room number text left more next summary cut good fits p =
    let front : List StepLine = summary.front ++ next ∷ [] in
    let fit : All (LineFits o.orders) front = All-append (LineFits o.orders) summary.front (next ∷ []) summary.fit (alone_fits o.orders next fits) in
    record {
      due = summary.due;
      front = front;
      read = read_further o.orders summary.front next left more room number text summary.due summary.read cut good;
      whole = summary.whole;
      fit = fit;
      core = (line_done next summary.core).core;
      to = p.to summary.core summary.to;
      orders = orders_kept next summary.core ∙ summary.orders;
      played = λ rest. played_on player player' next rest summary.core summary.to p ∙ summary.played (next ∷ rest)
          ∙ ap (λ (l : List StepLine). step_text (opens o ∷ l)) (sym (append_assoc summary.front (next ∷ []) rest));
    }

-- what the loop over the lines keeps
abbrev pub Running : List ℕ → Opening → Player → ℕ → Lines → Type 0
Running bytes o player room left = record { summary : IsRunning bytes o player room left; room : room ≤ 8388608 }

-- the line that is next is read and played
pub running_next : (bytes : List ℕ) (o : Opening) (player player' : Player) (room number len : ℕ) (found : NextLine) (text : Bor (List ℕ)) (left more : Lines) (next : StepLine) → Running bytes o player room left → IsNext (Ok found) left more →
    found ≡ nexts.Line number text → at_number number (line_of o.orders room (words_of text.now)) ≡ Ok next → LineFits o.orders next → payload_len next ≡ len → Plays (line_done next) player player' → Running bytes o player' (room - len) more
running_next bytes o player player' room number len found text left more next summary cut is good fits measured p =
    let on : IsRunning bytes o player' (room - payload_len next) more =
    running_on bytes o player player' room number text.now left more next summary.summary (next_line found number text left more cut is) good fits p in
    record {
      summary = subst (λ (n : ℕ). IsRunning bytes o player' (room - n) more) measured on;
      room = omega (arith, summary.room);
    }

-- what is wrong with the lines is wrong with the script
pub running_refused : (e : ScriptError) (bytes : List ℕ) (o : Opening) (player : Player) (room : ℕ) (left : Lines) (summary : IsRunning bytes o player room left) → IsScriptRefusal e summary.due → IsScriptRefusal e (script_of bytes)
running_refused (script.Bad number kind) bytes o player room left summary is = sym summary.whole ∙ ap (opened_by o) is
running_refused script.Memory bytes o player room left summary is = tt

-- all is read and played
pub running_last : (bytes : List ℕ) (o : Opening) (player : Player) (room number : ℕ) (left : Lines) (text : List ℕ) → IsRunning bytes o player room left → left ≡ stops number → CanOpen o →
    ((core : Core) → IsPlayedTo core player → text ≡ player.text.items ++ text_of (plays [] core)) → IsTextOf bytes text
running_last bytes o player room number left text summary none can ends =
    let whole : List StepLine = opens o ∷ summary.front in
    let prints : text ≡ step_text whole =
    ends summary.core summary.to ∙ summary.played [] ∙ ap (λ (l : List StepLine). step_text (opens o ∷ l)) (append-nil summary.front) in
    record {
      script = whole;
      reads = sym summary.whole ∙ ap (opened_by o) (all_read summary.front o.orders left room number summary.due summary.read none);
      prints = prints;
      told = script_text whole o summary.front text refl can summary.fit prints;
    }
