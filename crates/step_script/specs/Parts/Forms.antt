-- The calls that the words of a script stand for.
use Rattle.std.specs.Prelude.{ℕ, ◌≤◌, List, [], length, Option, None, Some}
use Rattle.script_words.specs.declared.words.WordsOfLine.{WordsOfLine}
use Rattle.script_words.specs.WordsLeft.{words_left}
use Rattle.ring_words.specs.declared.order.Orders.{Orders}
use Rattle.ring_words.specs.declared.page.Role.{Role}
use Rattle.vchan_protocol.specs.declared.call.Call.{Call}
use Rattle.step_script.specs.declared.read.forms.Verb.{Verb}
use Rattle.step_script.specs.declared.read.forms.Verb.TheVariants.{Makes, Does}
use Rattle.step_script.specs.declared.read.forms.CallForm.{CallForm}
use Rattle.step_script.specs.declared.read.forms.CallForm.TheVariants.{Bare}
use Rattle.step_script.specs.Language.Script.{StepCall, StepLine, CallFits, LineFits}
use Rattle.step_script.specs.Parts.ScriptLines.{payload_len}

-- what was found, and the words after it, as contracts see them
abbrev pub found_in : {A : Type 0} → Option (A × WordsOfLine) → Option (A × List (List ℕ))
found_in None = None
found_in (Some found) = Some (found.0, words_left found.1)

-- a call with no payload
abbrev pub without_payload : Call → StepCall
without_payload c = record { call = c; payload = [] }

-- a script can name this form for the end, if the call has no word after it
abbrev pub FormFits : Role → CallForm → Type 0
FormFits who (Bare c) = CallFits who (without_payload c)
FormFits who form = Unit {0}

-- likewise for a verb that is such a call
abbrev pub VerbFits : Role → Verb → Type 0
VerbFits who (Makes form) = FormFits who form
VerbFits who (Does act) = Unit {0}

-- a call that a script can name for its end, within this many bytes
abbrev pub CallKeeps : ℕ → Role → StepCall → Type 0
CallKeeps room who c = CallFits who c × (length c.payload ≤ room)

-- a line that fits the page, within this many bytes
abbrev pub LineKeeps : Orders → ℕ → StepLine → Type 0
LineKeeps orders room line = LineFits orders line × (payload_len line ≤ room)
