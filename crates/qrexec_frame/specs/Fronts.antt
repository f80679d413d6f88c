-- What stands at the front of some bytes of a channel, and what a whole stream holds.
use Rattle.std.specs.Prelude.{ℕ, ◌+◌, ◌%◌, ◌^◌, ◌==◌, ◌&&◌, not, nat_lt, if◌then◌else◌, List, length, take, drop, Option, Some, None}
use Rattle.std.specs.Int.{w32, cast_signed}
use Rattle.qrexec_frame.specs.declared.kind.Channel.{Channel}
use Rattle.qrexec_frame.specs.declared.fault.FrameFault.{FrameFault}
use Rattle.qrexec_frame.specs.declared.fault.FrameFault.TheVariants as frame
use Rattle.qrexec_frame.specs.declared.message.Message.{Message}
use Rattle.qrexec_frame.specs.declared.message.Message.TheVariants as message
use Rattle.qrexec_frame.specs.declared.kind.Kind.{Kind}
use Rattle.qrexec_frame.specs.declared.kind.Kind.TheVariants.{Hello, Stdin, Stdout, Stderr, ExitCode, Exec, JustExec, Connect, Refused, Terminated, Trigger3, Trigger}
use Rattle.qrexec_frame.specs.Kinds.{kind_on, least_len, most_len, has_line}
use Rattle.qrexec_frame.specs.Grammar.{number_at, last_byte, Fault, UnknownType, TooLong, BadLength, NoNul}
use Rattle.qrexec_frame.specs.Texts.{field_text, line_text}
use Rattle.qrexec_frame.specs.Streams.{Front, Whole, Bad, Short, Reading, reading_by}

-- the message of a type with this body
abbrev pub made : Kind → List ℕ → Message
made Hello body = message.Hello (number_at 0 body)
made Stdin body = message.Stdin body
made Stdout body = message.Stdout body
made Stderr body = message.Stderr body
made ExitCode body = message.ExitCode (cast_signed w32 (number_at 0 body))
made Exec body = message.Exec (number_at 0 body) (number_at 4 body) (line_text 8 body)
made JustExec body = message.JustExec (number_at 0 body) (number_at 4 body) (line_text 8 body)
made Connect body = message.Connect (number_at 0 body) (number_at 4 body) (field_text 8 32 body)
made Refused body = message.Refused (field_text 0 32 body)
made Terminated body = message.Terminated (number_at 0 body) (number_at 4 body)
made Trigger3 body = message.Trigger3 (field_text 0 64 body) (field_text 64 32 body) (line_text 96 body)
made Trigger body = message.Trigger (field_text 64 32 body) (field_text 96 32 body) (field_text 0 64 body)

-- a whole body, which ends with NUL if it has a line
abbrev pub with_body : Kind → ℕ → List ℕ → Front Message Fault
with_body kind number body =
    if has_line kind && not (last_byte body == 0) then Bad (NoNul number)
    else Whole (made kind body) (8 + length body)

-- a whole header
abbrev pub with_header : Option Kind → ℕ → ℕ → List ℕ → Front Message Fault
with_header None number len bytes = Bad (UnknownType number)
with_header (Some kind) number len bytes =
    if nat_lt 65536 len then Bad (TooLong number len)
    else if nat_lt len (least_len kind) then Bad (BadLength number len)
    else if nat_lt (most_len kind) len then Bad (BadLength number len)
    else if nat_lt (length bytes) (8 + len) then Short
    else with_body kind number (take len (drop 8 bytes))

-- what stands at the front: the first fault that shows, a message, or less than one
unfoldable pub front : Channel → List ℕ → Front Message Fault
front channel bytes =
    if nat_lt (length bytes) 8 then Short
    else with_header (kind_on channel (number_at 0 bytes)) (number_at 0 bytes) (number_at 4 bytes) bytes

-- the messages of a stream and how it ends
abbrev pub reading : Channel → List ℕ → Reading Message Fault
reading channel stream = reading_by (front channel) stream

-- a fault with the offset of its message's first byte, counted modulo 2 ^ 64
abbrev pub fault_at : ℕ → Fault → FrameFault
fault_at at (UnknownType number) = frame.UnknownType (at % 2 ^ 64) number
fault_at at (TooLong number len) = frame.TooLong (at % 2 ^ 64) number len
fault_at at (BadLength number len) = frame.BadLength (at % 2 ^ 64) number len
fault_at at (NoNul number) = frame.NoNul (at % 2 ^ 64) number
