-- What a script prints: its output lines, and their text.
-- Source: this project's own; the answers are those of libxenvchan's io.c.
use Rattle.std.specs.Prelude.{ℕ, Bool, true, false, List, [], ◌∷◌, ◌++◌, flat_map, codes, decimal}
use Rattle.std.specs.List.{join_with_byte}
use Rattle.script_words.specs.Text.{shown_bytes}
use Rattle.ring_words.specs.declared.page.Ring.{Ring}
use Rattle.ring_words.specs.declared.page.Ring.TheVariants.{Left, Right}
use Rattle.ring_words.specs.declared.page.Role.{Role}
use Rattle.ring_words.specs.declared.page.Role.TheVariants.{Server, Client}
use Rattle.vchan_protocol.specs.declared.call.Call.{Call}
use Rattle.vchan_protocol.specs.declared.call.Call.TheVariants as call
use Rattle.vchan_protocol.specs.declared.call.Answer.{Answer}
use Rattle.vchan_protocol.specs.declared.call.Answer.TheVariants.{Wrote, Full, Sent, NoRoom, Got, Empty, Short, PeerClosed, Ready, Space, Connected, BadOrders, Done, Event, NotYet, AllRead, PeerGone, Gone}
use Rattle.step_script.specs.declared.player.refusal.LineRefusal.{LineRefusal}
use Rattle.step_script.specs.declared.player.refusal.LineRefusal.TheVariants.{Turned, Idle, Shut, Unconnected}

-- an output line
pub data TextLine : Type 0 where
  -- an end's answer to a call, and the bytes that the call took
  answered : Role → Call → Answer → List ℕ → TextLine
  -- why an end couldn't do what a line says
  refused : Role → LineRefusal → TextLine
  -- the first bytes of the page, and all of them
  heads : List ℕ → TextLine
  images : List ℕ → TextLine
  -- how many bytes a ring's writer sent, and its reader got
  lengths : Ring → ℕ → ℕ → TextLine

-- the word of an end
abbrev pub role_word : Role → List ℕ
role_word Server = codes "server"
role_word Client = codes "client"

-- the word of a ring
abbrev pub ring_word : Ring → List ℕ
ring_word Left = codes "left"
ring_word Right = codes "right"

-- the word for why an end couldn't do what a line says
abbrev pub refusal_word : LineRefusal → List ℕ
refusal_word Turned = codes "turned"
refusal_word Idle = codes "idle"
refusal_word Shut = codes "shut"
refusal_word Unconnected = codes "unconnected"

-- the word for bytes that a call took
abbrev pub taken_word : Call → List ℕ
taken_word (call.Recv len) = codes "recv"
taken_word (call.Drain most) = codes "more"
taken_word _ = codes "read"

-- 1 for true, 0 for false
abbrev pub flag_word : Bool → List ℕ
flag_word true = codes "1"
flag_word false = codes "0"

-- the words of an answer, after the end's
abbrev pub answer_words : Call → Answer → List ℕ → List (List ℕ)
answer_words call (Wrote count) payload = codes "wrote" ∷ decimal count ∷ []
answer_words call (Full prod cons) payload = codes "full" ∷ decimal prod ∷ decimal cons ∷ []
answer_words call (Sent count) payload = codes "sent" ∷ decimal count ∷ []
answer_words call (NoRoom prod cons) payload = codes "noroom" ∷ decimal prod ∷ decimal cons ∷ []
answer_words call (Got count) payload = taken_word call ∷ shown_bytes payload ∷ []
answer_words call (Empty prod cons) payload = codes "empty" ∷ decimal prod ∷ decimal cons ∷ []
answer_words call (Short prod cons) payload = codes "short" ∷ decimal prod ∷ decimal cons ∷ []
answer_words call PeerClosed payload = codes "peer-closed" ∷ []
answer_words call (Ready count) payload = codes "ready" ∷ decimal count ∷ []
answer_words call (Space count) payload = codes "space" ∷ decimal count ∷ []
answer_words call Connected payload = codes "connected" ∷ []
answer_words call (BadOrders left right) payload =
    codes "badorders" ∷ decimal left ∷ decimal right ∷ []
answer_words call Done payload = codes "done" ∷ []
answer_words call (Event was) payload = codes "event" ∷ flag_word was ∷ []
answer_words call (NotYet prod cons) payload = codes "notyet" ∷ decimal prod ∷ decimal cons ∷ []
answer_words call AllRead payload = codes "allread" ∷ []
answer_words call (PeerGone prod cons) payload = codes "peergone" ∷ decimal prod ∷ decimal cons ∷ []
answer_words call (Gone is) payload = codes "gone" ∷ flag_word is ∷ []

-- the words of an output line
abbrev pub line_words : TextLine → List (List ℕ)
line_words (answered who call answer payload) = role_word who ∷ answer_words call answer payload
line_words (refused who why) = role_word who ∷ refusal_word why ∷ []
line_words (heads bytes) = codes "head" ∷ shown_bytes bytes ∷ []
line_words (images bytes) = codes "image" ∷ shown_bytes bytes ∷ []
line_words (lengths ring sent got) =
    ring_word ring ∷ codes "sent" ∷ decimal sent ∷ codes "got" ∷ decimal got ∷ []

-- one space (32) between each two words, and a line feed (10) after them
unfoldable pub line_text : TextLine → List ℕ
line_text line = join_with_byte 32 (line_words line) ++ 10 ∷ []

-- the text of all lines
abbrev pub text_of : List TextLine → List ℕ
text_of lines = flat_map line_text lines
