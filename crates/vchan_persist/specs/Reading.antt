-- The answers of a reader of a list of clients, against what the bytes are.
-- Source: this project's own.
use Rattle.std.specs.Prelude.{◌≡◌, ℕ, ◌≤◌, Option, List, Bool, true, false, IsSome, Result, Ok, Err, IsOk}
use Rattle.script_words.specs.KeptLines.{is_passed_over}
use Rattle.script_words.specs.Words.{words_of}
use Rattle.vchan_persist.specs.declared.client.Client.{Client}
use Rattle.vchan_persist.specs.declared.error.ClientsKind.{ClientsKind}
use Rattle.vchan_persist.specs.declared.error.ClientsKind.TheVariants.{TooMany}
use Rattle.vchan_persist.specs.declared.error.ClientsError.{ClientsError}
use Rattle.vchan_persist.specs.declared.error.ClientsError.TheVariants as list
use Rattle.vchan_persist.specs.declared.error.LineError.{LineError}
use Rattle.vchan_persist.specs.declared.error.LineError.TheVariants as line
use Rattle.vchan_persist.specs.declared.lines.ClientList.{ClientList}
use Rattle.vchan_persist.specs.Clients.{AreServable, client_of, entry_of, stdin_total}

-- a reader of a part of a line that takes no memory
abbrev pub Finds : {X Y : Type 0} → (X → Y) → Result X ClientsKind → Result Y ClientsKind → Type 0
Finds seen (Ok x) due = due ≡ Ok (seen x)
Finds seen (Err kind) due = due ≡ Err kind

-- a reader that takes memory: memory runs out only if the line is good
abbrev pub Gives : {X : Type 0} → Result X LineError → Result X ClientsKind → Type 0
Gives (Ok x) due = due ≡ Ok x
Gives (Err (line.Bad kind)) due = due ≡ Err kind
Gives (Err line.Memory) due = IsOk due

-- a line with a client
abbrev pub HasClient : List ℕ → Type 0
HasClient text = (is_passed_over text ≡ false) × IsOk (client_of (words_of text))

-- a reader of a whole line
abbrev pub GivesEntry : Result (Option Client) LineError → List ℕ → Type 0
GivesEntry (Ok entry) text = entry_of text ≡ Ok entry
GivesEntry (Err (line.Bad kind)) text = entry_of text ≡ Err kind
GivesEntry (Err line.Memory) text = HasClient text

-- the error of a list whose line of this number has this error
abbrev pub error_at : LineError → ℕ → ClientsError
error_at (line.Bad kind) number = list.Bad number kind
error_at line.Memory number = list.Memory

-- the refusal of the line of this number, which is this text, if this is due; memory runs out only if it has a client
abbrev pub IsLineRefusal : ℕ → ClientsError → List ℕ → Result (List Client) ClientsKind → Type 0
IsLineRefusal number (list.Bad at kind) text due = (at ≡ number) × (due ≡ Err kind)
IsLineRefusal number list.Memory text due = HasClient text

-- the refusal of what stands on the line of this number, whether or not it is one too many; memory runs out only if it is a client
abbrev pub IsAddRefusal : ℕ → Option Client → ClientsError → Bool → Type 0
IsAddRefusal number entry (list.Bad at kind) full = (at ≡ number) × (kind ≡ TooMany) × (full ≡ true)
IsAddRefusal number entry list.Memory full = IsSome entry

-- the refusal of a text; memory may run out at a line before the first bad one
abbrev pub IsRefusal : ClientsError → Result (List Client) (ℕ × ClientsKind) → Type 0
IsRefusal (list.Bad number kind) due = due ≡ Err (number, kind)
IsRefusal list.Memory due = Unit {0}

-- a list is within its limits, and knows how many bytes its inputs have
pub record IsList (l : ClientList) : Type 0 where
  pub lines : l.lines ≤ 65536
  pub clients : AreServable l.clients.items
  pub bytes : l.bytes ≡ stdin_total l.clients.items
  pub few : l.bytes ≤ 8388608
