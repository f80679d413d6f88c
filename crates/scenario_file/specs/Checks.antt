-- The checks of a scenario file, one after another; the first that fails is the answer.
-- Source: this project's own; the values of a file are those of TOML.
use Rattle.std.specs.Prelude.{ℕ, ℤ, pos, ◌&&◌, nat_le, Bool, List, [], ◌∷◌, ◌++◌, if◌then◌else◌, ok_or, Option, None, Some, Result, Ok, Err, codes, decimal, bytes_eq}
use Rattle.std.specs.List.{list_any}
use Rattle.list_laws.specs.Results.{◌>>=◌}
use Rattle.toml.specs.Data.{Data, Items, no_items, item, Members, no_members, member, as_str, as_integer, as_array, as_table, get_member}
use Rattle.scenario_file.specs.declared.error.ScenarioKind.{ScenarioKind}
use Rattle.scenario_file.specs.declared.error.ScenarioKind.TheVariants.{UnknownKey, MissingKey, WrongType, BadNumber}
use Rattle.scenario_file.specs.declared.place.Section.{Section}
use Rattle.scenario_file.specs.declared.place.Section.TheVariants.{Top, Rings, Domain, Call}
use Rattle.scenario_file.specs.KeyTexts.{shown_key}

-- a failed check: its kind, and the path of what it looked at
abbrev pub Fault : Type 0
Fault = ScenarioKind × List ℕ

-- ---- paths

-- a list and the number of an item of it, from 1 on
abbrev pub item_of : List ℕ → ℕ → List ℕ
item_of list number = list ++ codes "[" ++ decimal number ++ codes "]"

-- what stands before a key of a table
abbrev pub section_path : Section → List ℕ
section_path Top = []
section_path Rings = codes "rings."
section_path (Domain number) = codes "domain[" ++ decimal number ++ codes "]."
section_path (Call number) = codes "call[" ++ decimal number ++ codes "]."

-- the path of a key
abbrev pub path_of : Section → List ℕ → List ℕ
path_of section key = section_path section ++ shown_key key

-- the path of an item of a list
abbrev pub item_path : Section → List ℕ → ℕ → List ℕ
item_path section key number = item_of (path_of section key) number

-- ---- keys

-- the keys that a call may have
abbrev pub call_keys : List (List ℕ)
call_keys = codes "from" ∷ codes "to" ∷ codes "service" ∷ codes "stdin" ∷ codes "stdin_hex" ∷ codes "stdin_fill" ∷ []

-- the keys that a table may have; for a domain they depend on whether it is hostile
abbrev pub keys_of : Section → Bool → List (List ℕ)
keys_of Top hostile = codes "rings" ∷ codes "domain" ∷ codes "call" ∷ []
keys_of Rings hostile = codes "control" ∷ codes "data" ∷ codes "start" ∷ []
keys_of (Domain number) hostile = codes "name" ∷ codes "hostile" ∷ (if hostile then codes "ports" else codes "version") ∷ []
keys_of (Call number) hostile = call_keys

-- the keys that a table has, in byte order
abbrev pub key_list : Members → List (List ℕ)
key_list no_members = []
key_list (member key value more) = key ∷ key_list more

-- no key is unknown, or the first unknown one
abbrev pub known_keys : Section → Bool → List (List ℕ) → Result (Unit {0}) Fault
known_keys section hostile [] = Ok tt
known_keys section hostile (key ∷ keys) =
    if list_any (bytes_eq key) (keys_of section hostile) then known_keys section hostile keys else Err (UnknownKey, path_of section key)

-- the value of a key that is needed
abbrev pub needed : Section → List ℕ → Members → Result Data Fault
needed section key ms = ok_or (get_member key ms) (MissingKey, path_of section key)

-- what a key gives, by its value if it has one
abbrev pub optional : {A : Type 0} → A → (Data → Result A Fault) → Option Data → Result A Fault
optional default read None = Ok default
optional default read (Some value) = read value

-- ---- values of a type

abbrev pub text_in : List ℕ → Data → Result (List ℕ) Fault
text_in path value = ok_or (as_str value) (WrongType, path)

abbrev pub integer_in : List ℕ → Data → Result ℤ Fault
integer_in path value = ok_or (as_integer value) (WrongType, path)

abbrev pub list_in : List ℕ → Data → Result Items Fault
list_in path value = ok_or (as_array value) (WrongType, path)

abbrev pub table_in : List ℕ → Data → Result Members Fault
table_in path value = ok_or (as_table value) (WrongType, path)

-- a text that is needed
abbrev pub needed_text : Section → List ℕ → Members → Result (List ℕ) Fault
needed_text section key ms = do
  value ← needed section key ms
  text_in (path_of section key) value

-- a list, empty if the key has no value
abbrev pub list_at : Section → List ℕ → Members → Result Items Fault
list_at section key ms = optional no_items (list_in (path_of section key)) (get_member key ms)

-- an integer that isn't negative
abbrev pub natural : ℤ → Option ℕ
natural (pos n) = Some n
natural z = None

-- an integer from the least to the most
abbrev pub within : ℕ → ℕ → Option ℕ → Option ℕ
within least most None = None
within least most (Some n) = if nat_le least n && nat_le n most then Some n else None

-- a number from the least to the most
abbrev pub number_in : ℕ → ℕ → List ℕ → Data → Result ℕ Fault
number_in least most path value = do
  z ← integer_in path value
  ok_or (within least most (natural z)) (BadNumber, path)

-- such a number, or the default if the key has no value
abbrev pub number_at : ℕ → ℕ → ℕ → Section → List ℕ → Members → Result ℕ Fault
number_at least most default section key ms = optional default (number_in least most (path_of section key)) (get_member key ms)

-- the items of a list one by one, each after those before
unfoldable pub all_from : {A : Type 0} → (List A → Data → Result A Fault) → List A → Items → Result (List A) Fault
all_from next before no_items = Ok before
all_from next before (item value more) = do
  x ← next before value
  all_from next (before ++ x ∷ []) more
