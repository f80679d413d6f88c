-- The text of a stream of messages.
-- Source: this project's own; a message's line is that of qrexec_frame.
use Rattle.std.specs.Prelude.{ℕ, List, ◌++◌, codes, decimal, Result, Ok}
use Rattle.std.specs.List.{flat_map}
use Rattle.list_laws.specs.Results.{◌>>=◌}
use Rattle.qrexec_frame.specs.declared.kind.Channel.{Channel}
use Rattle.qrexec_frame.specs.declared.fault.FrameFault.{FrameFault}
use Rattle.qrexec_frame.specs.declared.fault.FrameFault.TheVariants.{UnknownType, TooLong, BadLength, NoNul}
use Rattle.qrexec_frame.specs.declared.message.Message.{Message}
use Rattle.qrexec_frame.specs.Grammar.{Fault}
use Rattle.qrexec_frame.specs.Fronts.{reading, fault_at}
use Rattle.qrexec_frame.specs.Lines.{line_of}
use Rattle.qrexec_frame.specs.Streams.{Ending, Rest, FaultAt, Placed, Reading}
use Rattle.stream_text.specs.declared.error.DecodeKind.{DecodeKind}
use Rattle.stream_text.specs.Input.{stream_of}

-- the line of a message, with its line feed
abbrev pub printed : Placed Message → List ℕ
printed p = line_of p.message ++ codes "\n"

-- the lines of messages
abbrev pub all_printed : List (Placed Message) → List ℕ
all_printed placed = flat_map printed placed

-- the line of a fault: where its message begins, the number of its type, and the length that was told
abbrev pub fault_line : FrameFault → List ℕ
fault_line (UnknownType at kind) = codes "fault unknown-type " ++ (decimal at ++ (codes " " ++ decimal kind))
fault_line (TooLong at kind len) = codes "fault too-long " ++ (decimal at ++ (codes " " ++ (decimal kind ++ (codes " " ++ decimal len))))
fault_line (BadLength at kind len) = codes "fault bad-length " ++ (decimal at ++ (codes " " ++ (decimal kind ++ (codes " " ++ decimal len))))
fault_line (NoNul at kind) = codes "fault no-nul " ++ (decimal at ++ (codes " " ++ decimal kind))

-- the last line: how many bytes aren't a whole message, or the fault
abbrev pub last_line : Ending Fault → List ℕ
last_line (Rest left) = codes "rest " ++ decimal left
last_line (FaultAt at fault) = fault_line (fault_at at fault)

-- a line for each message, and the last line
abbrev pub text_of : Reading Message Fault → List ℕ
text_of r = all_printed r.placed ++ (last_line r.ending ++ codes "\n")

-- the text of the stream of an input; or the number of its first bad line, and what is wrong with it
abbrev pub decoded : Channel → List ℕ → Result (List ℕ) (ℕ × DecodeKind)
decoded channel input = do
  stream ← stream_of input
  Ok (text_of (reading channel stream))
