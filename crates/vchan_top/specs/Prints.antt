-- What each command prints, and what is wrong with an input for which it prints nothing.
use Rattle.std.specs.Prelude.{◌≡◌, ℕ, List, [], ◌∷◌, Option, Some, None, Ok, Err, map}
use Rattle.ring_words.specs.Rings.{number_of}
use Rattle.ring_words.specs.declared.order.Orders.{Orders}
use Rattle.step_script.specs.Language.Grammar.{script_of}
use Rattle.step_script.specs.Meaning.ScriptText.{IsTextOf}
use Rattle.step_script.specs.Parts.Readings.{CanBeOpened}
use Rattle.stream_text.specs.Input.{BeginsWell}
use Rattle.stream_text.specs.Texts.{decoded}
use Rattle.scenario_file.specs.Generator.{generated}
use Rattle.scenario_file.specs.Scenario.{Plan as Scenario, written}
use Rattle.scenario_file.specs.Tables.{scenario_of}
use Rattle.run_laws.specs.Lawful.{IsLawful}
use Rattle.run_laws.specs.Report.{Report}
use Rattle.end_view.specs.Settled.{Settled}
use Rattle.run_report.specs.Lines.{text_of}
use Rattle.run_report.specs.Summary.{summary_of}
use Rattle.vchan_block.specs.Pipe.{HasPiped}
use Rattle.vchan_relay.specs.Joints.{JoinedEnds}
use Rattle.vchan_relay.specs.Runs.{HasRelayed}
use Rattle.script_words.specs.Words.{lines_of}
use Rattle.vchan_persist.specs.declared.client.Client.{Client}
use Rattle.vchan_persist.specs.declared.epoch.EpochDone.{EpochDone}
use Rattle.vchan_persist.specs.Clients.{clients_of, BeginsWell as ClientsBeginWell}
use Rattle.vchan_persist.specs.Epochs.{AreEpochs}
use Rattle.vchan_top.specs.Clients.{clients_text}
use Rattle.vchan_top.specs.declared.command.Command.{Command}
use Rattle.vchan_top.specs.declared.command.Command.TheVariants.{Step, Decode, Run, Load, Pipe, Persist, Relay}
use Rattle.vchan_top.specs.declared.status.Status.{Status}
use Rattle.vchan_top.specs.declared.status.Status.TheVariants.{BadInput, OutOfMemory}
use Rattle.vchan_top.specs.declared.status.Bad.{Bad}
use Rattle.vchan_top.specs.declared.status.Bad.TheVariants as bad
use Rattle.vchan_top.specs.Relays.{relays_text}
use Rattle.vchan_top.specs.Sums.{sums_of}

-- `run` prints a report that is lawful for the scenario in the input
pub record PrintsReport (input text : List ℕ) (report : Report) : Type 0 where
  pub scenario : Scenario
  pub reads : scenario_of input ≡ Ok (written scenario)
  pub lawful : IsLawful scenario report
  pub prints : text ≡ text_of report

-- `load` prints the sums of a report that is lawful for the generated scenario; the services and the names alone give these sums
pub record PrintsSums (number calls : ℕ) (text : List ℕ) (report : Report) : Type 0 where
  pub scenario : Scenario
  pub made : written scenario ≡ generated number calls
  pub lawful : IsLawful scenario report
  pub prints : text ≡ summary_of scenario.calls report
  pub alone : text ≡ sums_of (generated number calls)

-- `pipe` prints the input, all of which went through the left ring of the page, whose indices began at 0
pub record PrintsPiped (orders : Orders) (input text : List ℕ) (page : Settled) : Type 0 where
  pub piped : HasPiped (record { orders = orders; start = 0 }) input page
  pub prints : text ≡ input

-- `relay` prints how many bytes went through the left ring of each page, of the orders 10 and 11, whose indices began at 0, and the input,
-- which is what came out of the last
pub record PrintsRelayed (hops : ℕ) (input text : List ℕ) (pages : List Settled) : Type 0 where
  pub orders : Orders
  pub orders_are : (number_of orders.left ≡ 10) × (number_of orders.right ≡ 11)
  pub joints : List JoinedEnds
  pub relayed : HasRelayed hops (record { orders = orders; start = 0 }) input (record { got = input; pages = pages; joints = joints })
  pub prints : text ≡ relays_text pages input

-- `persist` prints what came of the clients that the input lists, each served by the service of this name on a page of its own, of the orders 10 and 11, whose indices began at 0
pub record PrintsServed (name input text : List ℕ) (pages : List Settled) : Type 0 where
  pub orders : Orders
  pub orders_are : (number_of orders.left ≡ 10) × (number_of orders.right ≡ 11)
  pub clients : List Client
  pub reads : clients_of input ≡ Ok clients
  pub dones : List EpochDone
  pub epochs : AreEpochs name (record { orders = orders; start = 0 }) 1 clients dones
  pub pages_are : pages ≡ map (λ e. e.settled) dones
  pub prints : text ≡ clients_text dones

-- what a command prints for an input, and the report and the pages that go with it. `step` prints the text of the script in the input; if
-- the script's lines are whole calls, the lists of what was sent and got are a part of it. `decode` prints the text of the stream that the
-- input spells. Only `run` and `load` have a report, and only `pipe`, `persist` and `relay` have pages apart from a report
abbrev pub Prints : Command → List ℕ → List ℕ → Option Report → List Settled → Type 0
Prints Step input text None [] = IsTextOf input text
Prints (Decode channel) input text None [] = decoded channel input ≡ Ok text
Prints (Run workers) input text (Some report) [] = PrintsReport input text report
Prints (Load number calls) input text (Some report) [] = PrintsSums number calls text report
Prints (Pipe orders) input text None (page ∷ []) = PrintsPiped orders input text page
Prints (Persist name) input text None pages = PrintsServed name input text pages
Prints (Relay hops workers) input text None pages = PrintsRelayed hops input text pages
Prints command input text report pages = ⊥

-- the input doesn't have the command's form, and this is the first thing that is wrong with it
abbrev pub IsBadFor : Command → List ℕ → Bad → Type 0
IsBadFor Step input (bad.Script line kind) = script_of input ≡ Err (line, kind)
IsBadFor (Decode channel) input (bad.Decode line kind) = decoded channel input ≡ Err (line, kind)
IsBadFor (Persist name) input (bad.Clients line kind) = clients_of input ≡ Err (line, kind)
IsBadFor (Run workers) input (bad.Scenario kind path) = scenario_of input ≡ Err (kind, path)
IsBadFor command input wrong = ⊥

-- memory is taken before a bad input is found to be bad: the first line of a script, of byte strings or of clients is good
abbrev pub TakesMemory : Command → List ℕ → Type 0
TakesMemory Step input = CanBeOpened input
TakesMemory (Decode channel) input = BeginsWell input
TakesMemory (Persist name) input = ClientsBeginWell (lines_of input)
TakesMemory command input = Unit {0}

-- a status with which the program may end instead of a text for this input
abbrev pub IsDue : Command → List ℕ → Status → Type 0
IsDue command input (BadInput wrong) = IsBadFor command input wrong
IsDue command input OutOfMemory = TakesMemory command input
IsDue command input status = ⊥
