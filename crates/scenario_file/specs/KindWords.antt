-- The words for what is wrong with a scenario file.
-- Source: this project's own.
use Rattle.std.specs.Prelude.{ℕ, List, ◌++◌, codes}
use Rattle.scenario_file.specs.declared.error.ScenarioKind.{ScenarioKind}
use Rattle.scenario_file.specs.declared.error.ScenarioKind.TheVariants as kind

-- the word for a kind
abbrev pub kind_word : ScenarioKind → List ℕ
kind_word kind.Toml = codes "toml"
kind_word kind.UnknownKey = codes "unknown-key"
kind_word kind.MissingKey = codes "missing-key"
kind_word kind.WrongType = codes "wrong-type"
kind_word kind.BadOrders = codes "bad-orders"
kind_word kind.BadNumber = codes "bad-number"
kind_word kind.BadText = codes "bad-text"
kind_word kind.BadAct = codes "bad-act"
kind_word kind.SameName = codes "same-name"
kind_word kind.BadCaller = codes "bad-caller"
kind_word kind.TwoStdin = codes "two-stdin"
kind_word kind.TooMany = codes "too-many"

-- the line that tells of a fault: its path, and the word for its kind
abbrev pub fault_line : ScenarioKind → List ℕ → List ℕ
fault_line kind path = path ++ codes ": " ++ kind_word kind
