-- The table of message types of the qrexec protocol.
use Rattle.std.specs.Prelude.{ℕ, ◌==◌, Bool, true, false, List, [], ◌∷◌, Option, find}
use Rattle.qrexec_frame.specs.declared.kind.Channel.{Channel}
use Rattle.qrexec_frame.specs.declared.kind.Channel.TheVariants.{Control, Data}
use Rattle.qrexec_frame.specs.declared.kind.Kind.{Kind}
use Rattle.qrexec_frame.specs.declared.kind.Kind.TheVariants.{Hello, Stdin, Stdout, Stderr, ExitCode, Exec, JustExec, Connect, Refused, Terminated, Trigger3, Trigger}

-- the number of a type in a header
abbrev pub number_of : Kind → ℕ
number_of Stdin = 0x190
number_of Stdout = 0x191
number_of Stderr = 0x192
number_of ExitCode = 0x193
number_of Exec = 0x200
number_of JustExec = 0x201
number_of Connect = 0x202
number_of Refused = 0x203
number_of Trigger = 0x210
number_of Terminated = 0x211
number_of Trigger3 = 0x212
number_of Hello = 0x300

-- the types of a channel
abbrev pub kinds_of : Channel → List Kind
kinds_of Data = Stdin ∷ Stdout ∷ Stderr ∷ ExitCode ∷ Hello ∷ []
kinds_of Control = Exec ∷ JustExec ∷ Connect ∷ Refused ∷ Trigger ∷ Terminated ∷ Trigger3 ∷ Hello ∷ []

-- the type of a number on a channel
abbrev pub kind_on : Channel → ℕ → Option Kind
kind_on channel number = find (λ k. number == number_of k) (kinds_of channel)

-- the least length of a body
abbrev pub least_len : Kind → ℕ
least_len Stdin = 0
least_len Stdout = 0
least_len Stderr = 0
least_len ExitCode = 4
least_len Exec = 9
least_len JustExec = 9
least_len Connect = 40
least_len Refused = 32
least_len Trigger = 128
least_len Terminated = 8
least_len Trigger3 = 97
least_len Hello = 4

-- the greatest length of a body
abbrev pub most_len : Kind → ℕ
most_len Stdin = 65536
most_len Stdout = 65536
most_len Stderr = 65536
most_len ExitCode = 4
most_len Exec = 65536
most_len JustExec = 65536
most_len Connect = 40
most_len Refused = 32
most_len Trigger = 128
most_len Terminated = 8
most_len Trigger3 = 65536
most_len Hello = 4

-- whether the body ends with a line or a service, whose last byte is NUL
abbrev pub has_line : Kind → Bool
has_line Exec = true
has_line JustExec = true
has_line Trigger3 = true
has_line Stdin = false
has_line Stdout = false
has_line Stderr = false
has_line ExitCode = false
has_line Connect = false
has_line Refused = false
has_line Trigger = false
has_line Terminated = false
has_line Hello = false

-- the types whose body is bytes of a stream of the call
abbrev pub IsData : Kind → Type 0
IsData Stdin = Unit {0}
IsData Stdout = Unit {0}
IsData Stderr = Unit {0}
IsData kind = ⊥
