-- A decoder that prints its messages.
use Rattle.std.specs.Prelude.{◌≡◌, ℕ, Bool, true, false, List, ◌++◌, Option, Some, None, Result, Ok, Err}
use Rattle.qrexec_frame.specs.declared.fault.NextError.{NextError}
use Rattle.qrexec_frame.specs.declared.message.Message.{Message}
use Rattle.qrexec_frame.specs.Lines.{line_of}

-- what holds of the answer of `next`, if the line of its message was appended to some bytes, and nothing
-- else changes them
abbrev pub Printed : (Result (Option Message) NextError → Type 0) → List ℕ → List ℕ → Result Bool NextError → Type 0
Printed P before after (Ok true) = (m : Message) × P (Ok (Some m)) × (after ≡ before ++ line_of m)
Printed P before after (Ok false) = P (Ok None) × (after ≡ before)
Printed P before after (Err e) = P (Err e) × (after ≡ before)
