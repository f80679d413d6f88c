-- The words of a script, and what each stands for.
-- Source: this project's own; the calls are those of libxenvchan.h with three more.
use Rattle.std.specs.Prelude.{Some, None, ℕ, List, [], ◌∷◌, Option, None, codes, bytes_eq}
use Rattle.std.specs.Map.{lookup}
use Rattle.std.specs.Option.{option_map}
use Rattle.ring_words.specs.declared.page.Role.{Role}
use Rattle.ring_words.specs.declared.page.Role.TheVariants.{Server, Client}
use Rattle.vchan_protocol.specs.declared.call.Call.TheVariants.{DataReady, BufferSpace, Connect, Close, TakeEvent, PeerGone, Retire}
use Rattle.step_script.specs.declared.read.forms.Verb.{Verb}
use Rattle.step_script.specs.declared.read.forms.Verb.TheVariants.{Makes, Does}
use Rattle.step_script.specs.declared.read.forms.CallForm.{CallForm}
use Rattle.step_script.specs.declared.read.forms.CallForm.TheVariants.{Write, Send, Read, Recv, Drain, Bare}
use Rattle.step_script.specs.Language.Script.{StepLine, head, image}
use Rattle.step_script.specs.declared.read.forms.Act.{Act}
use Rattle.step_script.specs.declared.read.forms.Act.TheVariants.{Begin, Step, Finish, Poke, Signal}

-- what the first of these words stands for in a table, and the words after it
abbrev pub meaning_first : {A : Type 0} → List (List ℕ × A) → List (List ℕ) → Option (A × List (List ℕ))
meaning_first table [] = None
meaning_first table (word ∷ more) = option_map (λ x. (x, more)) (lookup (bytes_eq word) table)

-- the ends
abbrev pub ends : List (List ℕ × Role)
ends = (codes "server", Server) ∷ (codes "client", Client) ∷ []

-- the calls that both ends may make
abbrev pub common_calls : List (List ℕ × CallForm)
common_calls =
    (codes "write", Write) ∷
    (codes "read", Read) ∷
    (codes "send", Send) ∷
    (codes "recv", Recv) ∷
    (codes "drain", Drain) ∷
    (codes "ready", Bare DataReady) ∷
    (codes "space", Bare BufferSpace) ∷
    (codes "close", Bare Close) ∷
    (codes "event", Bare TakeEvent) ∷
    (codes "gone", Bare PeerGone) ∷
    (codes "retire", Bare Retire) ∷
    []

-- the calls of an end: only a client connects
abbrev pub calls_of : Role → List (List ℕ × CallForm)
calls_of Server = common_calls
calls_of Client = (codes "connect", Bare Connect) ∷ common_calls

-- what an end does that isn't a whole call
abbrev pub acts : List (List ℕ × Act)
acts =
    (codes "begin", Begin) ∷
    (codes "step", Step) ∷
    (codes "finish", Finish) ∷
    (codes "poke", Poke) ∷
    (codes "signal", Signal) ∷
    []

-- what the first of these words tells an end to do, and the words after it: a whole call if it names one, else an act
abbrev pub verb_of : Option (CallForm × List (List ℕ)) → Option (Act × List (List ℕ)) → Option (Verb × List (List ℕ))
verb_of (Some call) act = Some (Makes call.0, call.1)
verb_of None (Some act) = Some (Does act.0, act.1)
verb_of None None = None

abbrev pub verb_first : Role → List (List ℕ) → Option (Verb × List (List ℕ))
verb_first who words = verb_of (meaning_first (calls_of who) words) (meaning_first acts words)

-- the lines that print bytes of the page
abbrev pub page_lines : List (List ℕ × StepLine)
page_lines = (codes "head", head) ∷ (codes "image", image) ∷ []
