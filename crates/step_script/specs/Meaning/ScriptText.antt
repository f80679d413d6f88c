-- The text that bytes print as a script.
use Rattle.std.specs.Prelude.{◌≡◌, ℕ, List, Ok}
use Rattle.step_script.specs.Language.Grammar.{script_of}
use Rattle.step_script.specs.Meaning.ListScript.{ToldByLists}
use Rattle.step_script.specs.Meaning.Played.{step_text}
use Rattle.step_script.specs.Language.Script.{StepLine}

-- the bytes are a script that prints this text; if its lines are whole calls, the lists of what was sent and got tell their part of it
pub record IsTextOf (bytes text : List ℕ) : Type 0 where
  pub script : List StepLine
  pub reads : script_of bytes ≡ Ok script
  pub prints : text ≡ step_text script
  pub told : ToldByLists script text
