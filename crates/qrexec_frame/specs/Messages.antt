-- The written spelling of a message, and which messages have one.
use Rattle.std.specs.Prelude.{◌≡◌, ℕ, ◌<◌, ◌≤◌, ◌^◌, List, ◌++◌, length, Some}
use Rattle.std.specs.Int.{w32, to_le_bytes, cast_unsigned}
use Rattle.std.specs.Int.RustNames.{FitsSigned}
use Rattle.qrexec_frame.specs.declared.message.Message.{Message}
use Rattle.qrexec_frame.specs.declared.message.Message.TheVariants.{Hello, Stdin, Stdout, Stderr, ExitCode, Exec, JustExec, Connect, Refused, Terminated, Trigger3, Trigger}
use Rattle.qrexec_frame.specs.declared.kind.Kind.{Kind}
use Rattle.qrexec_frame.specs.declared.kind.Kind.TheVariants as kind
use Rattle.qrexec_frame.specs.declared.kind.Channel.{Channel}
use Rattle.qrexec_frame.specs.Kinds.{kind_on, number_of}
use Rattle.qrexec_frame.specs.Texts.{padded, ended, FitsText}

-- the type of a message
abbrev pub kind_of : Message → Kind
kind_of (Hello version) = kind.Hello
kind_of (Stdin bytes) = kind.Stdin
kind_of (Stdout bytes) = kind.Stdout
kind_of (Stderr bytes) = kind.Stderr
kind_of (ExitCode code) = kind.ExitCode
kind_of (Exec domain port line) = kind.Exec
kind_of (JustExec domain port line) = kind.JustExec
kind_of (Connect domain port ident) = kind.Connect
kind_of (Refused ident) = kind.Refused
kind_of (Terminated domain port) = kind.Terminated
kind_of (Trigger3 target ident service) = kind.Trigger3
kind_of (Trigger target ident service) = kind.Trigger

-- four little-endian bytes
abbrev pub four : ℕ → List ℕ
four n = to_le_bytes w32 n

-- the body of a message as it is written
abbrev pub body_of : Message → List ℕ
body_of (Hello version) = four version
body_of (Stdin bytes) = bytes
body_of (Stdout bytes) = bytes
body_of (Stderr bytes) = bytes
body_of (ExitCode code) = four (cast_unsigned w32 code)
body_of (Exec domain port line) = four domain ++ (four port ++ ended line)
body_of (JustExec domain port line) = four domain ++ (four port ++ ended line)
body_of (Connect domain port ident) = four domain ++ (four port ++ padded 32 ident)
body_of (Refused ident) = padded 32 ident
body_of (Terminated domain port) = four domain ++ four port
body_of (Trigger3 target ident service) = padded 64 target ++ (padded 32 ident ++ ended service)
body_of (Trigger target ident service) = padded 64 service ++ (padded 32 target ++ padded 32 ident)

-- a header of type and length, and a body
abbrev pub framed : ℕ → List ℕ → List ℕ
framed number body = four number ++ (four (length body) ++ body)

-- the written spelling of a message
abbrev pub written : Message → List ℕ
written message = framed (number_of (kind_of message)) (body_of message)

-- the messages whose bytes and texts have room in their fields, with a NUL at the end of each text
abbrev pub Fits : Message → Type 0
Fits (Hello version) = Unit {0}
Fits (Stdin bytes) = length bytes ≤ 65536
Fits (Stdout bytes) = length bytes ≤ 65536
Fits (Stderr bytes) = length bytes ≤ 65536
Fits (ExitCode code) = Unit {0}
Fits (Exec domain port line) = FitsText 65527 line
Fits (JustExec domain port line) = FitsText 65527 line
Fits (Connect domain port ident) = FitsText 31 ident
Fits (Refused ident) = FitsText 31 ident
Fits (Terminated domain port) = Unit {0}
Fits (Trigger3 target ident service) = FitsText 63 target × FitsText 31 ident × FitsText 65439 service
Fits (Trigger target ident service) = FitsText 31 target × FitsText 31 ident × FitsText 63 service

-- the messages whose numbers have 32 bits, as each number of a message of the program has
abbrev pub HasNumbers : Message → Type 0
HasNumbers (Hello version) = version < 2 ^ 32
HasNumbers (Stdin bytes) = Unit {0}
HasNumbers (Stdout bytes) = Unit {0}
HasNumbers (Stderr bytes) = Unit {0}
HasNumbers (ExitCode code) = FitsSigned w32 code
HasNumbers (Exec domain port line) = (domain < 2 ^ 32) × (port < 2 ^ 32)
HasNumbers (JustExec domain port line) = (domain < 2 ^ 32) × (port < 2 ^ 32)
HasNumbers (Connect domain port ident) = (domain < 2 ^ 32) × (port < 2 ^ 32)
HasNumbers (Refused ident) = Unit {0}
HasNumbers (Terminated domain port) = (domain < 2 ^ 32) × (port < 2 ^ 32)
HasNumbers (Trigger3 target ident service) = Unit {0}
HasNumbers (Trigger target ident service) = Unit {0}

-- the messages that have a spelling
abbrev pub IsSpellable : Message → Type 0
IsSpellable message = Fits message × HasNumbers message

-- the message's type is one of the channel
abbrev pub GoesOn : Channel → Message → Type 0
GoesOn channel message = kind_on channel (number_of (kind_of message)) ≡ Some (kind_of message)
