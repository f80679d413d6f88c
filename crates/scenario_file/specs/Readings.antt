-- The answers of a reader of a part of a scenario file, against what is due.
use Rattle.std.specs.Prelude.{◌≡◌, ℕ, List, Option, Some, None, Result, Ok, Err, codes}
use Rattle.scenario_file.specs.declared.error.ScenarioError.{ScenarioError}
use Rattle.scenario_file.specs.declared.error.ScenarioError.TheVariants as whole
use Rattle.scenario_file.specs.declared.error.ScenarioKind.TheVariants.{Toml}
use Rattle.scenario_file.specs.declared.place.KeyPlace.{KeyPlace}
use Rattle.scenario_file.specs.declared.place.CheckError.{CheckError}
use Rattle.scenario_file.specs.declared.place.CheckError.TheVariants as part
use Rattle.scenario_file.specs.declared.place.Section.{Section}
use Rattle.scenario_file.specs.Checks.{Fault, path_of, item_path}

-- the path of a key, or of an item of the list that is its value
abbrev pub path_at : Section → List ℕ → Option ℕ → List ℕ
path_at section key None = path_of section key
path_at section key (Some number) = item_path section key number

abbrev pub place_path : KeyPlace → List ℕ
place_path place = path_at place.section place.key.now place.item

-- a refusal is the one that is due; memory may always run out
abbrev pub IsRefusal : {Y : Type 0} → CheckError → Result Y Fault → Type 0
IsRefusal (part.Bad kind place) due = due ≡ Err (kind, place_path place)
IsRefusal part.Memory due = Unit {0}

-- a reader answers what is due, as contracts see it; memory may always run out
abbrev pub Gives : {X Y : Type 0} → (X → Y) → Result X CheckError → Result Y Fault → Type 0
Gives seen (Ok x) due = due ≡ Ok (seen x)
Gives seen (Err e) due = IsRefusal e due

-- the error of the whole file is the one that is due
abbrev pub IsFault : {Y : Type 0} → ScenarioError → Result Y Fault → Type 0
IsFault (whole.Bad kind path) due = due ≡ Err (kind, path)
IsFault whole.Memory due = Unit {0}

-- a refusal of this kind and path, or memory ran out
abbrev pub Tells : ScenarioError → CheckError → Type 0
Tells (whole.Bad kind path) (part.Bad because place) = (kind ≡ because) × (path ≡ place_path place)
Tells (whole.Bad kind path) part.Memory = ⊥
Tells whole.Memory refusal = Unit {0}

-- the bytes aren't TOML, or memory ran out
abbrev pub IsNoDocument : ScenarioError → Type 0
IsNoDocument (whole.Bad kind path) = (kind ≡ Toml) × (path ≡ codes "file")
IsNoDocument whole.Memory = Unit {0}
