-- What a script prints: its lines carried out from the opening of the page on.
-- Source: libxenvchan's io.c for the calls, as vchan_core has them; what is printed is this project's own.
use Rattle.std.specs.Prelude.{ℕ, ◌==◌, Bool, false, not, Option, Some, None, List, [], ◌∷◌, ◌++◌, length, take, slice_index, if◌then◌else◌}
use Rattle.ring_words.specs.Image.{image_of}
use Rattle.ring_words.specs.Page.{index_of}
use Rattle.ring_words.specs.declared.page.Ring.{Ring}
use Rattle.ring_words.specs.declared.page.Ring.TheVariants.{Left, Right}
use Rattle.ring_words.specs.declared.page.Role.{Role}
use Rattle.vchan_protocol.specs.declared.call.Answer.{Answer}
use Rattle.vchan_protocol.specs.declared.call.Answer.TheVariants.{Got}
use Rattle.vchan_protocol.specs.declared.call.Call.{Call}
use Rattle.vchan_protocol.specs.declared.call.Call.TheVariants.{Connect, Close, Retire}
use Rattle.vchan_protocol.specs.declared.call.EndState.{EndState}
use Rattle.vchan_protocol.specs.declared.call.EndState.TheVariants.{Fresh, Open, Shut}
use Rattle.vchan_protocol.specs.declared.op.PastEvent.{PastEvent}
use Rattle.vchan_protocol.specs.declared.side.Begun.{Begun}
use Rattle.vchan_protocol.specs.declared.side.Side.{Side}
use Rattle.vchan_protocol.specs.History.WholeCall.{alone, whole_call}
use Rattle.vchan_protocol.specs.History.Core.{Core, opened, side_of, writer_of, reader_of, bytes_loaded, begun, plan_left}
use Rattle.vchan_core.specs.Page.Counts.{capped}
use Rattle.vchan_core.specs.WholeCall.Stepped.{stepped}
use Rattle.vchan_protocol.specs.Table.Ends.{own_gone}
use Rattle.vchan_protocol.specs.Hostile.Turned.{poked, signalled}
use Rattle.step_script.specs.declared.player.refusal.LineRefusal.{LineRefusal}
use Rattle.step_script.specs.declared.player.refusal.LineRefusal.TheVariants.{Turned, Idle, Shut as IsShut, Unconnected}
use Rattle.step_script.specs.Meaning.Output.{TextLine, answered, refused, heads, images, lengths, text_of}
use Rattle.step_script.specs.Language.Script.{StepCall, StepLine, opens, calls, begins, steps, finishes, pokes, signals, head, image}

-- what a line of a script does: the core state after it, and the output lines that it prints
pub record Outcome : Type 0 where
  pub core : Core
  pub lines : List TextLine

-- nothing is printed
abbrev pub quiet : Core → Outcome
quiet core = record { core = core; lines = [] }

-- one output line is printed
abbrev pub prints : Core → TextLine → Outcome
prints core line = record { core = core; lines = line ∷ [] }

-- one thing after another
abbrev pub followed_by : Outcome → (Core → Outcome) → Outcome
followed_by first next =
    record { core = (next first.core).core; lines = first.lines ++ (next first.core).lines }

-- the bytes that a call with this trail took, if it got some
abbrev pub bytes_got : Answer → List PastEvent → List ℕ
bytes_got (Got count) trail = bytes_loaded trail
bytes_got _ trail = []

-- ---- when a line can't be carried out

-- an end has retired once its gone word is set
abbrev pub has_retired : Core → Role → Bool
has_retired core who = not (slice_index core.words (index_of core.orders (own_gone who)) == 0)

-- why an end in this state, retired or not, can't make a call
abbrev pub state_refusal : EndState → Bool → Call → Option LineRefusal
state_refusal Shut false Retire = None
state_refusal Shut retired call = Some IsShut
state_refusal Fresh retired Connect = None
state_refusal Fresh retired Close = None
state_refusal Fresh retired Retire = None
state_refusal Fresh retired call = Some Unconnected
state_refusal Open retired Connect = Some Idle
state_refusal Open retired call = None

-- why an end can't make a call: the first reason that applies
abbrev pub call_refusal : Core → Role → Call → Option LineRefusal
call_refusal core who call =
    if (side_of core who).turned then Some Turned
    else state_refusal (side_of core who).state (has_retired core who) call

-- an end between two calls has no call to go on with
abbrev pub idle_refusal : Option Begun → Option LineRefusal
idle_refusal None = Some Idle
idle_refusal (Some b) = None

-- why an end can't go on with its call: the first reason that applies
abbrev pub step_refusal : Side → Option LineRefusal
step_refusal s = if s.turned then Some Turned else idle_refusal s.call

-- what is done, if nothing refuses it
abbrev pub unless_refused : Option LineRefusal → Role → Core → (Core → Outcome) → Outcome
unless_refused None who core act = act core
unless_refused (Some why) who core act = prints core (refused who why)

-- ---- a call of an end, whole or in parts

-- a call comes to its answer, which is printed
abbrev pub ends_with : Role → Call → Core × Answer → Outcome
ends_with who call end =
    prints end.0 (answered who call end.1 (bytes_got end.1 (side_of end.0 who).trail))

-- a whole call
abbrev pub makes_call : Role → StepCall → Core → Outcome
makes_call who c core = ends_with who c.call (whole_call core who c.call c.payload)

-- the begin of a call
abbrev pub begins_call : Role → StepCall → Core → Outcome
begins_call who c core = quiet (begun core who c.call c.payload)

-- all events of the call under way, up to its answer; nothing between two calls
abbrev pub finishes_call : Role → Option Begun → Core → Outcome
finishes_call who None core = quiet core
finishes_call who (Some b) core = ends_with who b.call (alone core who (plan_left (side_of core who)))

abbrev pub finished : Role → Core → Outcome
finished who core = finishes_call who (side_of core who).call core

-- the answer is printed, if it came
abbrev pub stops_with : Role → Call → Core → Option Answer → Outcome
stops_with who call core None = quiet core
stops_with who call core (Some answer) = ends_with who call (core, answer)

-- at most this many events of the call under way; nothing between two calls
abbrev pub steps_call : Role → ℕ → Option Begun → Core → Outcome
steps_call who most None core = quiet core
steps_call who most (Some b) core = stops_with who b.call (stepped most core who).0 (stepped most core who).1

abbrev pub steps_on : Role → ℕ → Core → Outcome
steps_on who most core = steps_call who most (side_of core who).call core

-- ---- lines

-- the bytes of the page
abbrev pub page_bytes : Core → List ℕ
page_bytes core = image_of (record { orders = core.orders; list = core.words })

-- what a line does; a call first finishes the call that its end is inside, and is then checked
abbrev pub line_done : StepLine → Core → Outcome
line_done (opens opening) core = quiet core
line_done (calls who c) core =
    followed_by (finished who core) (λ behind. unless_refused (call_refusal behind who c.call) who behind (makes_call who c))
line_done (begins who c) core =
    followed_by (finished who core) (λ behind. unless_refused (call_refusal behind who c.call) who behind (begins_call who c))
line_done (steps who most) core = unless_refused (step_refusal (side_of core who)) who core (steps_on who most)
line_done (finishes who) core = unless_refused (step_refusal (side_of core who)) who core (finished who)
line_done (pokes who word value) core = quiet (poked core who word value)
line_done (signals who) core = quiet (signalled core who)
line_done head core = prints core (heads (take 24 (page_bytes core)))
line_done image core = prints core (images (page_bytes core))

-- how many bytes a ring's writer has sent and its reader has got
abbrev pub ring_line : Core → Ring → TextLine
ring_line core ring =
    lengths ring (capped (length (writer_of core ring).sent)) (capped (length (reader_of core ring).got))

-- what lines print from a core state on; the rings' lines are the last two
unfoldable pub plays : List StepLine → Core → List TextLine
plays [] core = ring_line core Left ∷ ring_line core Right ∷ []
plays (line ∷ more) core = (line_done line core).lines ++ plays more (line_done line core).core

-- the lines that a script prints; its first line opens the page
abbrev pub step_lines : List StepLine → List TextLine
step_lines (opens o ∷ more) = plays more (opened o.orders o.start o.said o.state)
step_lines _ = []

-- the text that a script prints
abbrev pub step_text : List StepLine → List ℕ
step_text script = text_of (step_lines script)
