-- Acts, word by word.
use Rattle.std.proofs.Common.{◌≡◌, Option, None}
use Rattle.scenario_file.specs.declared.act_words.ActError.{ActError}
use Rattle.scenario_file.specs.declared.act_words.ActError.TheVariants as error
use Rattle.scenario_file.specs.ActReadings.{IsActRefusal}

-- a part that isn't due leaves the whole not due
pub refused_part : {A B : Type 0} (e : ActError) (due : Option A) (whole : Option B) → (due ≡ None → whole ≡ None) → IsActRefusal e due → IsActRefusal e whole
refused_part error.Bad due whole goes h = goes h
refused_part error.Memory due whole goes h = tt
