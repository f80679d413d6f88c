-- Which texts are acts of a hostile domain.
-- Source: this project's own; the fields of a page are those of struct vchan_interface in
-- public/io/libxenvchan.h.
use Rattle.std.specs.Prelude.{ℕ, ◌+◌, ◌==◌, nat_le, List, [], ◌∷◌, take, drop, position, if◌then◌else◌, Option, None, Some, option_map, codes, bytes_eq}
use Rattle.std.specs.Map.{lookup}
use Rattle.ring_words.specs.declared.page.Ring.{Ring}
use Rattle.ring_words.specs.declared.page.Ring.TheVariants.{Left, Right}
use Rattle.ring_words.specs.declared.page.WordName.{WordName}
use Rattle.ring_words.specs.declared.page.WordName.TheVariants.{RingByte}
use Rattle.ring_words.specs.Page.{fields}
use Rattle.script_words.specs.Words.{words_of, only}
use Rattle.script_words.specs.Numbers.{number_of}
use Rattle.script_words.specs.ByteStrings.{byte_string, ◌>>=◌}
use Rattle.script_words.specs.Places.{place_in}
use Rattle.scenario_file.specs.Names.{is_name, is_service}
use Rattle.scenario_file.specs.declared.acts.ActPage.{ActPage}
use Rattle.scenario_file.specs.declared.acts.ActPage.TheVariants as page
use Rattle.scenario_file.specs.declared.acts.Act.{Act}
use Rattle.scenario_file.specs.declared.acts.Act.TheVariants.{Hello, Say, Trigger, Terminate, Poke, Scribble, Signal, Rest}

-- this, if no word is left
abbrev pub alone : Act → List (List ℕ) → Option Act
alone act [] = Some act
alone act (word ∷ more) = None

-- a number from the least to the most
abbrev pub number_from : ℕ → ℕ → List ℕ → Option ℕ
number_from least most word = do
  number ← number_of most word
  if nat_le least number then Some number else None

-- a number of 32 bits
abbrev pub any_number : List ℕ → Option ℕ
any_number word = number_of 4294967295 word

-- a word that is a domain's name, or a service's
abbrev pub name_word : List ℕ → Option (List ℕ)
name_word word = if is_name word then Some word else None

abbrev pub service_word : List ℕ → Option (List ℕ)
service_word word = if is_service word then Some word else None

-- `say BYTES`
abbrev pub say_of : List (List ℕ) → Option Act
say_of words = do
  word ← only words
  bytes ← byte_string word
  Some (Say bytes)

-- `trigger TO SERVICE K`, K from 1 to 64
abbrev pub trigger_from : List ℕ → List ℕ → List ℕ → Option Act
trigger_from to service count = do
  name ← name_word to
  asked ← service_word service
  times ← number_from 1 64 count
  Some (Trigger name asked times)

abbrev pub trigger_of : List (List ℕ) → Option Act
trigger_of (to ∷ service ∷ count ∷ []) = trigger_from to service count
trigger_of _ = None

-- `terminate DOMAIN PORT`
abbrev pub terminate_of : List (List ℕ) → Option Act
terminate_of (domain ∷ port ∷ []) = do
  named ← any_number domain
  at ← any_number port
  Some (Terminate named at)
terminate_of _ = None

-- `scribble SEED K`, the seed at most 65,535 and K from 1 to 65,536
abbrev pub scribble_of : List (List ℕ) → Option Act
scribble_of (seed ∷ count ∷ []) = do
  from ← number_from 0 65535 seed
  times ← number_from 1 65536 count
  Some (Scribble from times)
scribble_of _ = None

-- `rest K`, K from 1 to 65,536
abbrev pub rest_of : List (List ℕ) → Option Act
rest_of words = do
  word ← only words
  turns ← number_from 1 65536 word
  Some (Rest turns)

-- what stands before the first colon (58) and after it
abbrev pub colon_parts : List ℕ → Option (List ℕ × List ℕ)
colon_parts word = option_map (λ at. (take at word, drop (at + 1) word)) (position (λ byte. byte == 58) word)

-- `control`, or `NAME:PORT`
abbrev pub data_page : List ℕ → Option ActPage
data_page word = do
  parts ← colon_parts word
  peer ← name_word parts.0
  port ← any_number parts.1
  Some (page.Payload peer port)

abbrev pub page_of : List ℕ → Option ActPage
page_of word = if bytes_eq word (codes "control") then Some page.Control else data_page word

-- a byte of a ring; K is a number of 32 bits
abbrev pub byte_at : Ring → List ℕ → Option WordName
byte_at ring place = option_map (RingByte ring) (any_number place)

abbrev pub byte_named : Option (List ℕ) → Option (List ℕ) → Option WordName
byte_named (Some left) right = byte_at Left left
byte_named None (Some right) = byte_at Right right
byte_named None None = None

abbrev pub field_or_byte : Option WordName → List ℕ → Option WordName
field_or_byte (Some field) word = Some field
field_or_byte None word = byte_named (place_in (codes "left[") word) (place_in (codes "right[") word)

-- a header field of a page, or a byte of a ring
abbrev pub word_named : List ℕ → Option WordName
word_named word = field_or_byte (lookup (bytes_eq word) fields) word

-- `poke PAGE WORD VALUE`, the value of 64 bits
abbrev pub poke_from : List ℕ → List ℕ → List ℕ → Option Act
poke_from where_to word value = do
  on ← page_of where_to
  name ← word_named word
  number ← number_of 18446744073709551615 value
  Some (Poke on name number)

abbrev pub poke_of : List (List ℕ) → Option Act
poke_of (where_to ∷ word ∷ value ∷ []) = poke_from where_to word value
poke_of _ = None

-- an act by its first word
abbrev pub act_of_words : List (List ℕ) → Option Act
act_of_words [] = None
act_of_words (verb ∷ words) =
    if bytes_eq verb (codes "hello") then alone Hello words
    else if bytes_eq verb (codes "say") then say_of words
    else if bytes_eq verb (codes "trigger") then trigger_of words
    else if bytes_eq verb (codes "terminate") then terminate_of words
    else if bytes_eq verb (codes "poke") then poke_of words
    else if bytes_eq verb (codes "scribble") then scribble_of words
    else if bytes_eq verb (codes "signal") then alone Signal words
    else if bytes_eq verb (codes "rest") then rest_of words
    else None

-- an act: its words, with one space between each two
abbrev pub act_of : List ℕ → Option Act
act_of text = act_of_words (words_of text)
