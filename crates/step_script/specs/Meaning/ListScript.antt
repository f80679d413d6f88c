-- A script of whole calls as calls on lists: what it prints, told without a page, its words, or events.
-- Source: libxenvchan's io.c for what a call moves and answers, as vchan_core's calls on lists have it; the lines are this project's own.
use Rattle.std.specs.Prelude.{◌≡◌, ◌≢◌, ℕ, ◌<◌, ◌^◌, Bool, true, false, Option, Some, None, List, [], ◌∷◌, ◌++◌, length, take}
use Rattle.std.specs.List.{filter, All}
use Rattle.ring_words.specs.declared.page.Ring.{Ring}
use Rattle.ring_words.specs.declared.page.Ring.TheVariants.{Left, Right}
use Rattle.ring_words.specs.declared.page.Role.{Role}
use Rattle.vchan_protocol.specs.declared.call.Answer.{Answer}
use Rattle.vchan_protocol.specs.declared.call.Answer.TheVariants.{Got}
use Rattle.vchan_protocol.specs.declared.call.Call.{Call}
use Rattle.vchan_protocol.specs.declared.call.Call.TheVariants.{TakeEvent}
use Rattle.vchan_protocol.specs.declared.call.EndState.{EndState}
use Rattle.vchan_protocol.specs.declared.call.EndState.TheVariants.{Open, Shut}
use Rattle.vchan_core.specs.Page.Counts.{capped}
use Rattle.vchan_protocol.specs.Lists.ListCall.{ListEnd, ChannelLists, end_of, waiting, list_call}
use Rattle.step_script.specs.declared.player.refusal.LineRefusal.{LineRefusal}
use Rattle.step_script.specs.declared.script.Opening.{Opening}
use Rattle.step_script.specs.Meaning.Output.{TextLine, answered, lengths, text_of}
use Rattle.step_script.specs.Meaning.Played.{state_refusal, step_lines}
use Rattle.step_script.specs.Language.Script.{StepCall, StepLine, opens, calls, head, image, LineFits}

-- ---- which scripts, and which output lines

-- a line that is a whole call, `head` or `image`
abbrev pub IsWhole : StepLine → Type 0
IsWhole (calls who c) = Unit {0}
IsWhole head = Unit {0}
IsWhole image = Unit {0}
IsWhole line = ⊥

-- each line after the opening is such a line
abbrev pub AreWhole : List StepLine → Type 0
AreWhole (opens o ∷ more) = All IsWhole more
AreWhole lines = ⊥

-- the lists tell the answer of a call: of each but `event`
abbrev pub is_told_call : Call → Bool
is_told_call TakeEvent = false
is_told_call call = true

-- the lists tell an output line: an answer of such a call, or how many bytes a ring moved
abbrev pub is_told : TextLine → Bool
is_told (answered who call answer payload) = is_told_call call
is_told (lengths ring sent got) = true
is_told line = false

-- ---- what the lists tell

-- an end that has done nothing yet
abbrev pub new_end : EndState → ListEnd
new_end state = record { state = state; retired = false; sent = []; got = [] }

-- the lists of a page with this opening
abbrev pub opened_lists : Opening → ChannelLists
opened_lists o = record { start = o.start; said = o.said; orders = o.orders; server = new_end Open; client = new_end o.state }

-- why an end can't make a call
abbrev pub list_refusal : ListEnd → Call → Option LineRefusal
list_refusal it call = state_refusal it.state it.retired call

-- the bytes that a call took: the first ones that waited
abbrev pub bytes_told : Answer → List ℕ → List ℕ
bytes_told (Got count) waits = take count waits
bytes_told _ waits = []

-- the output line of a call, if the lists tell its answer
abbrev pub told_lines : Role → Call → List ℕ → Option Answer → List TextLine
told_lines who call waits None = []
told_lines who call waits (Some answer) = answered who call answer (bytes_told answer waits) ∷ []

-- the lists after a line, and the output lines that they tell of it
abbrev pub Told : Type 0
Told = ChannelLists × List TextLine

abbrev pub told_call : ChannelLists → Role → StepCall → Told
told_call channel who c =
    let outcome = list_call channel who c.call c.payload in (outcome.0, told_lines who c.call (waiting channel who) outcome.1)

-- a call that an end can't make does nothing, and tells nothing
abbrev pub unless_untold : Option LineRefusal → ChannelLists → Told → Told
unless_untold None channel told = told
unless_untold (Some why) channel told = (channel, [])

abbrev pub told_line : StepLine → ChannelLists → Told
told_line (calls who c) channel = unless_untold (list_refusal (end_of channel who) c.call) channel (told_call channel who c)
told_line line channel = (channel, [])

-- how many bytes a ring's writer has sent and its reader has got
abbrev pub told_ring : ChannelLists → Ring → TextLine
told_ring channel Left = lengths Left (capped (length channel.client.sent)) (capped (length channel.server.got))
told_ring channel Right = lengths Right (capped (length channel.server.sent)) (capped (length channel.client.got))

-- what lines tell from these lists on; the rings' lines are the last two
unfoldable pub told_from : List StepLine → ChannelLists → List TextLine
told_from [] channel = told_ring channel Left ∷ told_ring channel Right ∷ []
told_from (line ∷ more) channel = (told_line line channel).1 ++ told_from more (told_line line channel).0

-- the output lines of a script that the lists tell
abbrev pub list_lines : List StepLine → List TextLine
list_lines (opens o ∷ more) = told_from more (opened_lists o)
list_lines lines = []

-- ---- the law

-- a page that a script may open: its client is fresh or open, an index has 32 bits and an order word 16
pub record CanOpen (o : Opening) : Type 0 where
  pub state : o.state ≢ Shut
  pub start : o.start < 2 ^ 32
  pub said : (o.said.0 < 2 ^ 16) × (o.said.1 < 2 ^ 16)

-- a script that can be read: an opening, and lines that fit its page
abbrev pub CanBe : List StepLine → Type 0
CanBe (opens o ∷ more) = CanOpen o × All (LineFits o.orders) more
CanBe lines = ⊥

-- the output lines of a script of whole calls that the lists can tell are those that they do tell
abbrev pub WholeScriptsFollowLists : Type 0
WholeScriptsFollowLists = (script : List StepLine) → CanBe script → AreWhole script → filter is_told (step_lines script) ≡ list_lines script

-- the text is that of the lines that the script prints; if the script's lines are whole, the lists tell their part of these
abbrev pub ToldByLists : List StepLine → List ℕ → Type 0
ToldByLists script text = AreWhole script → (text ≡ text_of (step_lines script)) × (filter is_told (step_lines script) ≡ list_lines script)
