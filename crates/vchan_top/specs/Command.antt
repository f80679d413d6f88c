-- The words that the program takes.
use Rattle.std.specs.Prelude.{ℕ, ◌≤◌, ◌&&◌, nat_le, is_some, length, Bool, true, false, List, [], ◌∷◌, Option, Some, None, codes, bytes_eq, if◌then◌else◌}
use Rattle.std.specs.Option.{option_map, option_and_then}
use Rattle.script_words.specs.Numbers.{number_of}
use Rattle.step_script.specs.Language.Opening.{orders_of}
use Rattle.service_gate.specs.ServiceResult.{service}
use Rattle.qrexec_frame.specs.declared.kind.Channel.{Channel}
use Rattle.qrexec_frame.specs.declared.kind.Channel.TheVariants.{Control, Data}
use Rattle.vchan_top.specs.declared.command.Command.{Command}
use Rattle.vchan_top.specs.declared.command.Command.TheVariants.{Step, Decode, Run, Load, Pipe, Persist, Relay}

-- the kind of channel that a word names
abbrev pub channel_of : List ℕ → Option Channel
channel_of word =
    if bytes_eq word (codes "control") then Some Control
    else if bytes_eq word (codes "data") then Some Data
    else None

-- the number in a word, from the least to the most that is allowed
abbrev pub number_within : ℕ → ℕ → List ℕ → Option ℕ
number_within least most word = option_and_then (λ number. if nat_le least number then Some number else None) (number_of most word)

-- a run with 1 to 16 workers
abbrev pub run_of : List ℕ → Option Command
run_of workers = option_map Run (number_within 1 16 workers)

-- a load from a number of 16 bits, of 1 to 2,000 calls
abbrev pub load_of : List ℕ → List ℕ → Option Command
load_of number calls =
    option_and_then (λ seed. option_map (Load seed) (number_within 1 2000 calls)) (number_within 0 65535 number)

-- a pipe through a page with these orders, if a page may have them
abbrev pub pipe_of : List ℕ → List ℕ → Option Command
pipe_of left right =
    option_and_then (λ l. option_and_then (λ r. option_map Pipe (orders_of l r)) (number_within 0 65535 right)) (number_within 0 65535 left)

-- a word of at most 63 bytes that names a built-in service; no service has a longer name
abbrev pub service_name_of : List ℕ → Option (List ℕ)
service_name_of word = if nat_le (length word) 63 && is_some (service word []) then Some word else None

-- a server of the service that a word names
abbrev pub persist_of : List ℕ → Option Command
persist_of name = option_map Persist (service_name_of name)

-- 1 to 16 relays, with 1 to 16 workers
abbrev pub relay_of : List ℕ → List ℕ → Option Command
relay_of hops workers =
    option_and_then (λ hops'. option_map (Relay hops') (number_within 1 16 workers)) (number_within 1 16 hops)

-- the command of these words: `step`, alone; `decode control`; `decode data`; `run W`; `load N C`; `pipe L R`; `persist NAME`; `relay K W`
abbrev pub command_of : List (List ℕ) → Option Command
command_of (word ∷ []) = if bytes_eq word (codes "step") then Some Step else None
command_of (word ∷ argument ∷ []) =
    if bytes_eq word (codes "decode") then option_map Decode (channel_of argument)
    else if bytes_eq word (codes "run") then run_of argument
    else if bytes_eq word (codes "persist") then persist_of argument
    else None
command_of (word ∷ first ∷ second ∷ []) =
    if bytes_eq word (codes "load") then load_of first second
    else if bytes_eq word (codes "pipe") then pipe_of first second
    else if bytes_eq word (codes "relay") then relay_of first second
    else None
command_of _ = None

-- the numbers of a command keep the limits
abbrev pub KeepsLimits : Command → Type 0
KeepsLimits (Run workers) = (1 ≤ workers) × (workers ≤ 16)
KeepsLimits (Load number calls) = (number ≤ 65535) × (1 ≤ calls) × (calls ≤ 2000)
KeepsLimits (Relay hops workers) = ((1 ≤ hops) × (hops ≤ 16)) × ((1 ≤ workers) × (workers ≤ 16))
KeepsLimits command = Unit {0}

-- every command but `load` reads its input
abbrev pub reads_input : Command → Bool
reads_input (Load number calls) = false
reads_input command = true

-- whether with these words the program reads its input
abbrev pub words_read : Option Command → Bool
words_read None = false
words_read (Some command) = reads_input command
