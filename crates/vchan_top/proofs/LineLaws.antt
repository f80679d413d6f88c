-- What is written to the sink for errors is one line of printable ASCII.
use Rattle.std.proofs.Common.{◌≡◌, ℕ, true, List, ◌++◌, refl, codes, decimal, inr}
use Rattle.std.specs.List.{list_all}
use Rattle.scenario_file.specs.declared.error.ScenarioKind.{ScenarioKind}
use Rattle.scenario_file.specs.KeyTexts.{IsPrintable}
use Rattle.scenario_file.specs.KindWords.{fault_line}
use Rattle.scenario_file.proofs.KeyLaws.{joined, passes, printable_decimal, printable_fault, tested}
use Rattle.step_script.specs.declared.error.ScriptKind.{ScriptKind}
use Rattle.step_script.specs.declared.error.ScriptKind.TheVariants as script
use Rattle.stream_text.specs.declared.error.DecodeKind.{DecodeKind}
use Rattle.stream_text.specs.declared.error.DecodeKind.TheVariants as decode
use Rattle.vchan_persist.specs.declared.error.ClientsKind.{ClientsKind}
use Rattle.vchan_persist.specs.declared.error.ClientsKind.TheVariants as clients
use Rattle.vchan_top.specs.Status.{IsAtMostALine, bad_line, bad_place, script_word, decode_word, clients_word}

told : (line : List ℕ) → IsPrintable line → IsAtMostALine (line ++ codes "\n")
told line h = inr (line, h, refl)

-- a line that is written out
pub written_out : (line : List ℕ) → list_all passes line ≡ true → IsAtMostALine (line ++ codes "\n")
written_out line h = told line (tested line h)

at_line : (line : ℕ) (word : List ℕ) → IsPrintable word → IsAtMostALine (bad_line line word)
at_line line word h =
    told (codes "vchan: line " ++ decimal line ++ codes ": " ++ word)
    (joined (codes "vchan: line " ++ decimal line ++ codes ": ") word
    (joined (codes "vchan: line " ++ decimal line) (codes ": ") (joined (codes "vchan: line ") (decimal line) (tested (codes "vchan: line ") refl) (printable_decimal line)) (tested (codes ": ") refl))
    h)

pub script_told : (line : ℕ) (k : ScriptKind) → IsAtMostALine (bad_line line (script_word k))
script_told line script.BadHeader = at_line line (codes "bad-header") (tested (codes "bad-header") refl)
script_told line script.BadLine = at_line line (codes "bad-line") (tested (codes "bad-line") refl)
script_told line script.BadNumber = at_line line (codes "bad-number") (tested (codes "bad-number") refl)
script_told line script.BadHex = at_line line (codes "bad-hex") (tested (codes "bad-hex") refl)
script_told line script.BadOrders = at_line line (codes "bad-orders") (tested (codes "bad-orders") refl)
script_told line script.TooManyLines = at_line line (codes "too-many-lines") (tested (codes "too-many-lines") refl)
script_told line script.TooManyBytes = at_line line (codes "too-many-bytes") (tested (codes "too-many-bytes") refl)

pub decode_told : (line : ℕ) (k : DecodeKind) → IsAtMostALine (bad_line line (decode_word k))
decode_told line decode.BadHex = at_line line (codes "bad-hex") (tested (codes "bad-hex") refl)
decode_told line decode.TooManyLines = at_line line (codes "too-many-lines") (tested (codes "too-many-lines") refl)
decode_told line decode.TooManyBytes = at_line line (codes "too-many-bytes") (tested (codes "too-many-bytes") refl)

pub clients_told : (line : ℕ) (k : ClientsKind) → IsAtMostALine (bad_line line (clients_word k))
clients_told line clients.BadLine = at_line line (codes "bad-line") (tested (codes "bad-line") refl)
clients_told line clients.BadNumber = at_line line (codes "bad-number") (tested (codes "bad-number") refl)
clients_told line clients.BadHex = at_line line (codes "bad-hex") (tested (codes "bad-hex") refl)
clients_told line clients.TooMany = at_line line (codes "too-many") (tested (codes "too-many") refl)

pub place_told : (k : ScenarioKind) (path : List ℕ) → IsPrintable path → IsAtMostALine (bad_place k path)
place_told k path h = told (codes "vchan: " ++ fault_line k path) (joined (codes "vchan: ") (fault_line k path) (tested (codes "vchan: ") refl) (printable_fault k path h))
