-- How numbers and places tell a message.
use Rattle.std.specs.Prelude.{◌≡◌, ℕ, ◌+◌, ◌≤◌, List, length, take, drop}
use Rattle.std.specs.Int.{w32, cast_signed}
use Rattle.qrexec_frame.specs.declared.message.Message.{Message}
use Rattle.qrexec_frame.specs.declared.message.Message.TheVariants.{Hello, Stdin, Stdout, Stderr, ExitCode, Exec, JustExec, Connect, Refused, Terminated, Trigger3, Trigger}
use Rattle.qrexec_c.specs.declared.found.Found.{Found}
use Rattle.qrexec_c.specs.declared.found.Span.{Span}

-- the text lies at this place, within the bytes
pub record IsAt (span : Span) (bytes text : List ℕ) : Type 0 where
  pub within : span.at + span.len ≤ length bytes
  pub text_is : take span.len (drop span.at bytes) ≡ text

-- the numbers tell the message, whose bytes begin the list
abbrev pub Tells : Found → List ℕ → Message → Type 0
Tells f bytes (Hello version) = f.first ≡ version
Tells f bytes (Stdin body) = take f.len (drop 8 bytes) ≡ body
Tells f bytes (Stdout body) = take f.len (drop 8 bytes) ≡ body
Tells f bytes (Stderr body) = take f.len (drop 8 bytes) ≡ body
Tells f bytes (ExitCode code) = cast_signed w32 f.first ≡ code
Tells f bytes (Exec domain port line) = (f.first ≡ domain) × (f.second ≡ port) × IsAt f.text bytes line
Tells f bytes (JustExec domain port line) = (f.first ≡ domain) × (f.second ≡ port) × IsAt f.text bytes line
Tells f bytes (Connect domain port ident) = (f.first ≡ domain) × (f.second ≡ port) × IsAt f.ident bytes ident
Tells f bytes (Refused ident) = IsAt f.ident bytes ident
Tells f bytes (Terminated domain port) = (f.first ≡ domain) × (f.second ≡ port)
Tells f bytes (Trigger3 target ident service) = IsAt f.target bytes target × IsAt f.ident bytes ident × IsAt f.text bytes service
Tells f bytes (Trigger target ident service) = IsAt f.target bytes target × IsAt f.ident bytes ident × IsAt f.text bytes service
