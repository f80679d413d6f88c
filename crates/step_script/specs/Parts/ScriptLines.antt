-- A script of the program as the lines that contracts see.
use Rattle.std.specs.Prelude.{◌≢◌, ◌≤◌, ℕ, List, sum_by, map, length}
use Rattle.std.specs.List.{All}
use Rattle.vchan_protocol.specs.declared.call.Call.{Call}
use Rattle.vchan_protocol.specs.declared.call.EndState.TheVariants.{Shut}
use Rattle.step_script.specs.declared.script.Opening.{Opening}
use Rattle.step_script.specs.declared.script.Line.{Line}
use Rattle.step_script.specs.declared.script.Line.TheVariants as line
use Rattle.step_script.specs.declared.script.ScriptLine.{ScriptLine}
use Rattle.step_script.specs.Language.Script.{StepCall, StepLine, calls, begins, steps, finishes, pokes, signals, head, image, LineFits}

-- a call with these bytes to write or send
abbrev pub call_with : Call → List ℕ → StepCall
call_with call payload = record { call = call; payload = payload }

-- a line with these bytes to write or send
abbrev pub line_with : Line → List ℕ → StepLine
line_with (line.Call who call) payload = calls who (call_with call payload)
line_with (line.Begin who call) payload = begins who (call_with call payload)
line_with (line.Step who most) payload = steps who most
line_with (line.Finish who) payload = finishes who
line_with (line.Poke who word value) payload = pokes who word value
line_with (line.Signal who) payload = signals who
line_with line.Head payload = head
line_with line.Image payload = image

-- a line with its bytes
abbrev pub line_seen : ScriptLine → StepLine
line_seen l = line_with l.line l.payload.items

-- the lines after the first
abbrev pub lines_seen : List ScriptLine → List StepLine
lines_seen lines = map line_seen lines

-- how many bytes a line writes or sends
abbrev pub payload_len : StepLine → ℕ
payload_len (calls who c) = length c.payload
payload_len (begins who c) = length c.payload
payload_len line = 0

-- what holds of each script: the client is fresh or open at first, each line fits the page, and all lines together write and send at most this many bytes
pub record IsScript (opening : Opening) (lines : List ScriptLine) : Type 0 where
  pub state : opening.state ≢ Shut
  pub fit : All (LineFits opening.orders) (lines_seen lines)
  pub short : sum_by payload_len (lines_seen lines) ≤ 8388608
