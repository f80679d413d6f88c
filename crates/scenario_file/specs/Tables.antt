-- What a scenario file means: the scenario, or the first check that fails, its kind and its path.
-- Source: this project's own; the values of a file are those of TOML.
use Rattle.std.specs.Prelude.{ℕ, ◌+◌, ◌^◌, ◌==◌, ◌&&◌, ◌||◌, not, nat_le, nat_lt, Bool, true, false, List, [], length, slice_get, is_some, if◌then◌else◌, ok_or, unwrap_or, Option, None, Some, Result, Ok, Err, codes}
use Rattle.std.specs.Option.{option_map_or, option_and_then}
use Rattle.std.specs.Str.{is_utf8}
use Rattle.list_laws.specs.Results.{◌>>=◌}
use Rattle.toml.specs.Data.{Data, Items, no_items, item, Members, get_member}
use Rattle.toml.specs.Parse.{parse_document}
use Rattle.script_words.specs.ByteStrings.{byte_string}
use Rattle.scenario_file.specs.declared.acts.Act.{Act}
use Rattle.scenario_file.specs.declared.error.ScenarioKind.TheVariants.{Toml, MissingKey, BadOrders, BadNumber, BadText, BadAct, SameName, BadCaller, TwoStdin, TooMany}
use Rattle.scenario_file.specs.declared.place.Section.TheVariants as section
use Rattle.scenario_file.specs.declared.scenario.Domain.{Domain}
use Rattle.scenario_file.specs.declared.scenario.CallPlan.{CallPlan}
use Rattle.scenario_file.specs.Names.{is_name, is_service}
use Rattle.scenario_file.specs.Scenario.{Written, is_hostile, place_named, words_laid, stdin_total}
use Rattle.scenario_file.specs.Generator.{fill}
use Rattle.scenario_file.specs.ActWords.{act_of}
use Rattle.scenario_file.specs.Checks.{Fault, path_of, item_path, key_list, known_keys, needed_text, optional, text_in, integer_in, list_in, table_in, list_at, natural, number_at, all_from}

-- ---- rings

-- the two items of a list of two
abbrev pub two_of : Items → Option (Data × Data)
two_of no_items = None
two_of (item left no_items) = None
two_of (item left (item right no_items)) = Some (left, right)
two_of (item left (item right (item third more))) = None

-- two numbers that a page may have as orders: 10 to 20 each, and not the same one if it is below 12
abbrev pub are_orders : ℕ → ℕ → Bool
are_orders left right = (nat_le 10 left && nat_le left 20) && (nat_le 10 right && nat_le right 20) && (not (left == right) || nat_le 12 left)

-- two integers as orders
abbrev pub orders_from : Option ℕ → Option ℕ → Option (ℕ × ℕ)
orders_from (Some left) (Some right) = if are_orders left right then Some (left, right) else None
orders_from (Some left) None = None
orders_from None right = None

-- a list of two orders, the left ring's first
abbrev pub orders_in : List ℕ → Data → Result (ℕ × ℕ) Fault
orders_in key value = do
  items ← list_in (path_of section.Rings key) value
  pair ← ok_or (two_of items) (BadOrders, path_of section.Rings key)
  left ← integer_in (item_path section.Rings key 1) pair.0
  right ← integer_in (item_path section.Rings key 2) pair.1
  ok_or (orders_from (natural left) (natural right)) (BadOrders, path_of section.Rings key)

-- such a list, or the orders 10 and 11
abbrev pub orders_at : List ℕ → Members → Result (ℕ × ℕ) Fault
orders_at key ms = optional (10, 11) (orders_in key) (get_member key ms)

-- the rings of a scenario
pub record RingsRead : Type 0 where
  pub control : ℕ × ℕ
  pub payload : ℕ × ℕ
  pub first_index : ℕ

abbrev pub default_rings : RingsRead
default_rings = record { control = (10, 11); payload = (10, 11); first_index = 0 }

-- the table `rings`
abbrev pub rings_in : Data → Result RingsRead Fault
rings_in value = do
  ms ← table_in (path_of section.Top (codes "rings")) value
  known ← known_keys section.Rings false (key_list ms)
  control ← orders_at (codes "control") ms
  payload ← orders_at (codes "data") ms
  first_index ← number_at 0 4294967295 0 section.Rings (codes "start") ms
  Ok (record { control = control; payload = payload; first_index = first_index })

abbrev pub rings_of : Members → Result RingsRead Fault
rings_of top = optional default_rings rings_in (get_member (codes "rings") top)

-- ---- domains

-- a name that no domain before has
abbrev pub new_name : ℕ → List Domain → List ℕ → Result (List ℕ) Fault
new_name number before name =
    if not (is_name name) then Err (BadText, path_of (section.Domain number) (codes "name"))
    else if is_some (place_named before name) then Err (SameName, path_of (section.Domain number) (codes "name"))
    else Ok name

-- an act, as an item of a list of acts
abbrev pub act_in : List ℕ → Data → Result Act Fault
act_in path value = do
  text ← text_in path value
  ok_or (act_of text) (BadAct, path)

-- the act after those before it
abbrev pub next_act : ℕ → List Act → Data → Result Act Fault
next_act number before value = act_in (item_path (section.Domain number) (codes "hostile") (length before + 1)) value

-- how many items a list has
abbrev pub item_count : Items → ℕ
item_count no_items = 0
item_count (item value more) = item_count more + 1

-- a list of at most this many items
abbrev pub at_most : ℕ → List ℕ → Items → Result Items Fault
at_most most path items = if nat_lt most (item_count items) then Err (TooMany, path) else Ok items

-- a list of acts, at most 256
abbrev pub hostile_in : ℕ → Data → Result (Option (List Act)) Fault
hostile_in number value = do
  items ← list_in (path_of (section.Domain number) (codes "hostile")) value
  few ← at_most 256 (path_of (section.Domain number) (codes "hostile")) items
  acts ← all_from (next_act number) [] few
  Ok (Some acts)

-- the ports of a hostile domain and the version of an honest one: neither has the other's key
abbrev pub numbers_of : ℕ → Bool → Members → Result (ℕ × ℕ) Fault
numbers_of number true ms = do
  ports ← number_at 0 32 4 (section.Domain number) (codes "ports") ms
  Ok (ports, 3)
numbers_of number false ms = do
  version ← number_at 2 3 3 (section.Domain number) (codes "version") ms
  Ok (4, version)

-- a table as the domain after those before it
abbrev pub domain_in : List Domain → ℕ → Members → Result Domain Fault
domain_in before number ms = do
  known ← known_keys (section.Domain number) (is_some (get_member (codes "hostile") ms)) (key_list ms)
  said ← needed_text (section.Domain number) (codes "name") ms
  name ← new_name number before said
  hostile ← optional None (hostile_in number) (get_member (codes "hostile") ms)
  numbers ← numbers_of number (is_some hostile) ms
  Ok (record { name = name; hostile = hostile; ports = numbers.0; version = numbers.1 })

-- the domain after those before it
abbrev pub next_domain : List Domain → Data → Result Domain Fault
next_domain before value = do
  ms ← table_in (item_path section.Top (codes "domain") (length before + 1)) value
  domain_in before (length before + 1) ms

-- a list with an item
abbrev pub some_items : Items → Result Items Fault
some_items no_items = Err (MissingKey, path_of section.Top (codes "domain"))
some_items (item value more) = Ok (item value more)

-- the list `domain`, of 1 to 32 tables
abbrev pub domains_of : Members → Result (List Domain) Fault
domains_of top = do
  items ← list_at section.Top (codes "domain") top
  some ← some_items items
  few ← at_most 32 (path_of section.Top (codes "domain")) some
  all_from next_domain [] few

-- ---- calls

-- the number of the honest domain at a place
abbrev pub honest_number : List Domain → ℕ → Option ℕ
honest_number domains place = if option_map_or is_hostile (slice_get domains place) true then None else Some (place + 1)

-- the number of the honest domain of a name
abbrev pub caller_named : List Domain → List ℕ → Option ℕ
caller_named domains name = option_and_then (honest_number domains) (place_named domains name)

abbrev pub caller_of : ℕ → List Domain → Members → Result ℕ Fault
caller_of number domains ms = do
  name ← needed_text (section.Call number) (codes "from") ms
  ok_or (caller_named domains name) (BadCaller, path_of (section.Call number) (codes "from"))

-- the target and the service of a call
abbrev pub target_of : ℕ → Members → Result (List ℕ) Fault
target_of number ms = do
  text ← needed_text (section.Call number) (codes "to") ms
  if is_name text then Ok text else Err (BadText, path_of (section.Call number) (codes "to"))

abbrev pub service_of : ℕ → Members → Result (List ℕ) Fault
service_of number ms = do
  text ← needed_text (section.Call number) (codes "service") ms
  if is_service text then Ok text else Err (BadText, path_of (section.Call number) (codes "service"))

-- an input within the limit
abbrev pub within_limit : ℕ → List ℕ → Result (Option (List ℕ)) Fault
within_limit number bytes =
    if nat_lt 1048576 (length bytes) then Err (TooMany, path_of (section.Call number) (codes "stdin")) else Ok (Some bytes)

-- a fill within the limit
abbrev pub fill_within : ℕ → ℕ → Result (Option (List ℕ)) Fault
fill_within number count =
    if nat_lt 1048576 count then Err (TooMany, path_of (section.Call number) (codes "stdin")) else Ok (Some (fill count))

-- no input stands before the key of this path
abbrev pub first_input : List ℕ → Bool → Result (Unit {0}) Fault
first_input path false = Ok tt
first_input path true = Err (TwoStdin, path)

-- the input by `stdin`, a text
abbrev pub input_in : ℕ → Data → Result (Option (List ℕ)) Fault
input_in number value = do
  text ← text_in (path_of (section.Call number) (codes "stdin")) value
  within_limit number text

-- the input by `stdin_hex`, a byte string
abbrev pub hex_input_in : ℕ → Option (List ℕ) → Data → Result (Option (List ℕ)) Fault
hex_input_in number before value = do
  text ← text_in (path_of (section.Call number) (codes "stdin_hex")) value
  first ← first_input (path_of (section.Call number) (codes "stdin_hex")) (is_some before)
  bytes ← ok_or (byte_string text) (BadText, path_of (section.Call number) (codes "stdin_hex"))
  within_limit number bytes

-- the input by `stdin_fill`, the length of a fill
abbrev pub fill_input_in : ℕ → Option (List ℕ) → Data → Result (Option (List ℕ)) Fault
fill_input_in number before value = do
  z ← integer_in (path_of (section.Call number) (codes "stdin_fill")) value
  first ← first_input (path_of (section.Call number) (codes "stdin_fill")) (is_some before)
  count ← ok_or (natural z) (BadNumber, path_of (section.Call number) (codes "stdin_fill"))
  fill_within number count

-- the input of a call, by one of three keys; no bytes if it has none of them
abbrev pub stdin_of : ℕ → Members → Result (List ℕ) Fault
stdin_of number ms = do
  text ← optional None (input_in number) (get_member (codes "stdin") ms)
  hex ← optional text (hex_input_in number text) (get_member (codes "stdin_hex") ms)
  filled ← optional hex (fill_input_in number hex) (get_member (codes "stdin_fill") ms)
  Ok (unwrap_or filled [])

-- a table as the call of a number
abbrev pub call_in : List Domain → ℕ → Members → Result CallPlan Fault
call_in domains number ms = do
  known ← known_keys (section.Call number) false (key_list ms)
  from ← caller_of number domains ms
  to ← target_of number ms
  service ← service_of number ms
  stdin ← stdin_of number ms
  Ok (record { number = number; from = from; to = to; service = service; stdin = stdin })

-- the call after those before it
abbrev pub next_call : List Domain → List CallPlan → Data → Result CallPlan Fault
next_call domains before value = do
  ms ← table_in (item_path section.Top (codes "call") (length before + 1)) value
  call_in domains (length before + 1) ms

-- the list `call`, of at most 4,096 tables
abbrev pub calls_of : List Domain → Members → Result (List CallPlan) Fault
calls_of domains top = do
  items ← list_at section.Top (codes "call") top
  few ← at_most 4096 (path_of section.Top (codes "call")) items
  all_from (next_call domains) [] few

-- ---- the file

-- the words of a page with these orders
abbrev pub words_with : ℕ × ℕ → ℕ
words_with orders = 14 + 2 ^ orders.0 + 2 ^ orders.1

-- rings, domains and calls as a scenario
abbrev pub written_with : RingsRead → List Domain → List CallPlan → Written
written_with rings domains calls = record {
  control_orders = rings.control;
  payload_orders = rings.payload;
  first_index = rings.first_index;
  domain_list = domains;
  call_list = calls;
}

-- the inputs have at most 8,388,608 bytes in all, and the pages at most 16,777,216 words
abbrev pub within_totals : Written → Result Written Fault
within_totals s =
    if nat_lt 8388608 (stdin_total s.call_list) then Err (TooMany, codes "stdin")
    else if nat_lt 16777216 (words_laid (words_with s.control_orders) (words_with s.payload_orders) s.domain_list s.call_list) then Err (TooMany, codes "words")
    else Ok s

-- the scenario of a table
abbrev pub scenario_in : Members → Result Written Fault
scenario_in top = do
  known ← known_keys section.Top false (key_list top)
  rings ← rings_of top
  domains ← domains_of top
  calls ← calls_of domains top
  within_totals (written_with rings domains calls)

-- the table that some bytes are: UTF-8 that is TOML
abbrev pub document_of : List ℕ → Result Members Fault
document_of bytes =
    if is_utf8 bytes then ok_or (parse_document bytes) (Toml, codes "file") else Err (Toml, codes "file")

-- the scenario of some bytes
unfoldable pub scenario_of : List ℕ → Result Written Fault
scenario_of bytes = do
  top ← document_of bytes
  scenario_in top
