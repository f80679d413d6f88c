-- The text of a server for one client after another.
use Rattle.std.specs.Prelude.{ℕ, List, [], ◌∷◌, ◌++◌, length, codes, decimal}
use Rattle.std.specs.Fmt.{signed_decimal}
use Rattle.std.specs.List.{flat_map}
use Rattle.qrexec_frame.specs.Lines.{shown_bytes}
use Rattle.run_report.specs.Lines.{spaced}
use Rattle.vchan_persist.specs.declared.epoch.EpochDone.{EpochDone}
use Rattle.vchan_persist.specs.declared.epoch.EpochResult.{EpochResult}
use Rattle.vchan_persist.specs.declared.epoch.EpochResult.TheVariants.{Answered, Hostile}

-- what came of a client
abbrev pub client_words : EpochResult → List (List ℕ)
client_words (Answered code stdout stderr) = codes "done" ∷ signed_decimal code ∷ shown_bytes stdout ∷ shown_bytes stderr ∷ []
client_words Hostile = codes "hostile" ∷ []

-- the line of a client by its number
abbrev pub client_line : ℕ → EpochResult → List ℕ
client_line number answer = codes "client" ++ (spaced (decimal number ∷ client_words answer) ++ 10 ∷ [])

-- the lines of all clients
abbrev pub client_lines : List EpochDone → List ℕ
client_lines dones = flat_map (λ e. client_line e.number e.result) dones

-- the lines of all clients, and the line of their number
abbrev pub clients_text : List EpochDone → List ℕ
clients_text dones = client_lines dones ++ (codes "clients" ++ (spaced (decimal (length dones) ∷ []) ++ 10 ∷ []))
