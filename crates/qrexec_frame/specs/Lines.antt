-- The line that a message is printed as.
use Rattle.std.specs.Prelude.{ℕ, ◌&&◌, nat_le, if◌then◌else◌, List, [], ◌∷◌, ◌++◌, length, map, codes}
use Rattle.std.specs.Fmt.{decimal, signed_decimal}
pub use Rattle.script_words.specs.Text.{shown_bytes}
use Rattle.qrexec_frame.specs.declared.message.Message.{Message}
use Rattle.qrexec_frame.specs.declared.message.Message.TheVariants.{Hello, Stdin, Stdout, Stderr, ExitCode, Exec, JustExec, Connect, Refused, Terminated, Trigger3, Trigger}

-- a byte of a text, or `_` if it isn't printable
abbrev pub shown_byte : ℕ → ℕ
shown_byte b = if nat_le 32 b && nat_le b 126 then b else 95

-- a text, or `-` if it is empty
abbrev pub shown_text : List ℕ → List ℕ
shown_text [] = codes "-"
shown_text (b ∷ text) = map shown_byte (b ∷ text)

-- the words and the numbers that a line begins with
abbrev pub head_of : Message → List ℕ
head_of (Hello version) = codes "hello " ++ decimal version
head_of (Stdin bytes) = codes "stdin " ++ (decimal (length bytes) ++ codes " ")
head_of (Stdout bytes) = codes "stdout " ++ (decimal (length bytes) ++ codes " ")
head_of (Stderr bytes) = codes "stderr " ++ (decimal (length bytes) ++ codes " ")
head_of (ExitCode code) = codes "exit " ++ signed_decimal code
head_of (Exec domain port line) = codes "exec " ++ (decimal domain ++ (codes " " ++ (decimal port ++ codes " ")))
head_of (JustExec domain port line) = codes "just-exec " ++ (decimal domain ++ (codes " " ++ (decimal port ++ codes " ")))
head_of (Connect domain port ident) = codes "connect " ++ (decimal domain ++ (codes " " ++ (decimal port ++ codes " ")))
head_of (Refused ident) = codes "refused "
head_of (Terminated domain port) = codes "terminated " ++ (decimal domain ++ (codes " " ++ decimal port))
head_of (Trigger3 target ident service) = codes "trigger3 "
head_of (Trigger target ident service) = codes "trigger "

-- three texts with a space between each two
abbrev pub three_texts : List ℕ → List ℕ → List ℕ → List ℕ
three_texts a b c = shown_text a ++ (codes " " ++ (shown_text b ++ (codes " " ++ shown_text c)))

-- the bytes or the texts that a line ends with
abbrev pub tail_of : Message → List ℕ
tail_of (Hello version) = []
tail_of (Stdin bytes) = shown_bytes bytes
tail_of (Stdout bytes) = shown_bytes bytes
tail_of (Stderr bytes) = shown_bytes bytes
tail_of (ExitCode code) = []
tail_of (Exec domain port line) = shown_text line
tail_of (JustExec domain port line) = shown_text line
tail_of (Connect domain port ident) = shown_text ident
tail_of (Refused ident) = shown_text ident
tail_of (Terminated domain port) = []
tail_of (Trigger3 target ident service) = three_texts target ident service
tail_of (Trigger target ident service) = three_texts target ident service

-- the line of a message, without a line feed
abbrev pub line_of : Message → List ℕ
line_of message = head_of message ++ tail_of message
