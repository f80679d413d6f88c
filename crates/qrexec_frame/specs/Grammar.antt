-- The grammar of qrexec messages as a relation on whole byte lists, and the conditions of the faults.
use Rattle.std.specs.Prelude.{◌≡◌, ◌≢◌, ℕ, ◌+◌, ◌-◌, ◌<◌, ◌≤◌, ◌⊎◌, List, ◌++◌, length, take, drop, slice_index, Some, None, true}
use Rattle.std.specs.Int.{w32, from_le_bytes, cast_signed}
use Rattle.qrexec_frame.specs.declared.kind.Channel.{Channel}
use Rattle.qrexec_frame.specs.declared.message.Message.{Message}
use Rattle.qrexec_frame.specs.declared.message.Message.TheVariants.{Hello, Stdin, Stdout, Stderr, ExitCode, Exec, JustExec, Connect, Refused, Terminated, Trigger3, Trigger}
use Rattle.qrexec_frame.specs.declared.kind.Kind.{Kind}
use Rattle.qrexec_frame.specs.Kinds.{kind_on, least_len, most_len, has_line}
use Rattle.qrexec_frame.specs.Messages.{kind_of}
use Rattle.qrexec_frame.specs.Texts.{field_text, line_text}

-- the number that four bytes are from a place on, the lowest first
abbrev pub number_at : ℕ → List ℕ → ℕ
number_at start bytes = from_le_bytes w32 (drop start bytes)

-- the last byte of a body
abbrev pub last_byte : List ℕ → ℕ
last_byte body = slice_index body (length body - 1)

-- a line or a service goes from a place to the end of the body, whose last byte is NUL
abbrev pub IsLine : ℕ → List ℕ → List ℕ → Type 0
IsLine start body text = (last_byte body ≡ 0) × (text ≡ line_text start body)

-- what a body means, one case per type of message
abbrev pub Says : List ℕ → Message → Type 0
Says body (Hello version) = version ≡ number_at 0 body
Says body (Stdin bytes) = bytes ≡ body
Says body (Stdout bytes) = bytes ≡ body
Says body (Stderr bytes) = bytes ≡ body
Says body (ExitCode code) = code ≡ cast_signed w32 (number_at 0 body)
Says body (Exec domain port line) = (domain ≡ number_at 0 body) × (port ≡ number_at 4 body) × IsLine 8 body line
Says body (JustExec domain port line) = (domain ≡ number_at 0 body) × (port ≡ number_at 4 body) × IsLine 8 body line
Says body (Connect domain port ident) = (domain ≡ number_at 0 body) × (port ≡ number_at 4 body) × (ident ≡ field_text 8 32 body)
Says body (Refused ident) = ident ≡ field_text 0 32 body
Says body (Terminated domain port) = (domain ≡ number_at 0 body) × (port ≡ number_at 4 body)
Says body (Trigger3 target ident service) = (target ≡ field_text 0 64 body) × (ident ≡ field_text 64 32 body) × IsLine 96 body service
Says body (Trigger target ident service) = (service ≡ field_text 0 64 body) × (target ≡ field_text 64 32 body) × (ident ≡ field_text 96 32 body)

-- the bytes are a message on this channel: a header of type and length, and a body of that length, in
-- the type's range, that means the message
pub record Spelled (channel : Channel) (bytes : List ℕ) (message : Message) : Type 0 where
  pub kind : kind_on channel (number_at 0 bytes) ≡ Some (kind_of message)
  pub len : length bytes ≡ 8 + number_at 4 bytes
  pub least : least_len (kind_of message) ≤ number_at 4 bytes
  pub most : number_at 4 bytes ≤ most_len (kind_of message)
  pub says : Says (drop 8 bytes) message

-- what is wrong with a message, without where it stands
pub data Fault : Type 0 where
  UnknownType : ℕ → Fault
  TooLong : ℕ → ℕ → Fault
  BadLength : ℕ → ℕ → Fault
  NoNul : ℕ → Fault

-- the header is there, and its type is one of the channel
pub record HasHeader (channel : Channel) (bytes : List ℕ) (number len : ℕ) (kind : Kind) : Type 0 where
  pub there : 8 ≤ length bytes
  pub number_is : number ≡ number_at 0 bytes
  pub len_is : len ≡ number_at 4 bytes
  pub kind_is : kind_on channel number ≡ Some kind

-- the length is in the type's range
pub record IsInRange (kind : Kind) (len : ℕ) : Type 0 where
  pub short : len ≤ 65536
  pub least : least_len kind ≤ len
  pub most : len ≤ most_len kind

-- the fault shows at the front of the bytes, and no fault comes before it
abbrev pub Shows : Channel → List ℕ → Fault → Type 0
Shows channel bytes (UnknownType number) = (8 ≤ length bytes) × (number ≡ number_at 0 bytes) × (kind_on channel number ≡ None)
Shows channel bytes (TooLong number len) = (kind : Kind) × HasHeader channel bytes number len kind × (65536 < len)
Shows channel bytes (BadLength number len) = (kind : Kind) × HasHeader channel bytes number len kind × (len ≤ 65536) × ((len < least_len kind) ⊎ (most_len kind < len))
Shows channel bytes (NoNul number) = (kind : Kind) × (len : ℕ) × HasHeader channel bytes number len kind × IsInRange kind len × (8 + len ≤ length bytes)
    × (has_line kind ≡ true) × (last_byte (take len (drop 8 bytes)) ≢ 0)

-- the bytes are less than a header, or the beginning of a message
abbrev pub IsBegun : Channel → List ℕ → Type 0
IsBegun channel bytes = (length bytes < 8) ⊎ ((more : List ℕ) × (m : Message) × (0 < length more) × Spelled channel (bytes ++ more) m)
