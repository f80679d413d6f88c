-- A whole call that is driven to its end.
-- Source: this project's own.
use Rattle.std.specs.Prelude.{◌≡◌, ℕ, ◌≤◌, ◌<◌, ◌+◌, ◌*◌, List, length, None, Some}
use Rattle.std.specs.Int.{w32}
use Rattle.std.specs.Int.RustNames.{FitsSigned}
use Rattle.vchan_protocol.specs.History.Core.{Core}
use Rattle.service_gate.specs.Triple.{Triple}
use Rattle.service_gate.specs.ServiceResult.{service}
use Rattle.service_gate.specs.Owing.{builtin_owes}
use Rattle.service_gate.specs.declared.builtin.Builtin.{Builtin}
use Rattle.qrexec_data.specs.declared.outcome.Outcome.TheVariants.{Done}
use Rattle.qrexec_data.specs.CallerSide.{CallerState}
use Rattle.session_drive.specs.declared.sides.Sides.{Sides}
use Rattle.session_drive.specs.declared.driving.Speech.{Speech}
use Rattle.session_drive.specs.declared.driving.CallEnd.{CallEnd}
use Rattle.session_drive.specs.Sides.{Stands}

-- a side announces version 2 or 3, and puts 1 to 65,536 bytes into a message
pub record IsSpeech (s : Speech) : Type 0 where
  pub least : 2 ≤ s.version
  pub most : s.version ≤ 3
  pub some : 0 < s.chunk
  pub fits : s.chunk ≤ 65536

-- the service that some text names
pub record IsNamed (named : Builtin) : Type 0 where
  pub name : List ℕ
  pub gives : (input : List ℕ) → service name input ≡ Some (builtin_owes named input)

-- the exit codes of a service fit 32 bits
abbrev pub HasCodes : Builtin → Type 0
HasCodes service = (input : List ℕ) → FitsSigned w32 (builtin_owes service input).code

-- the caller has read all that the service gives
pub record IsEnd (t : Triple) (c : CallerState) : Type 0 where
  pub code : c.replies.outcome ≡ Some (Done t.code)
  pub stdout : c.replies.stdout ≡ t.stdout
  pub stderr : c.replies.stderr ≡ t.stderr

-- the call has this triple, and took fewer turns than its input allows
pub record Answers (t : Triple) (asked : ℕ) (end : CallEnd) : Type 0 where
  pub code : end.code ≡ t.code
  pub stdout : end.stdout.items ≡ t.stdout
  pub stderr : end.stderr.items ≡ t.stderr
  pub few : end.turns < 2 * (499 + 36 * asked)

-- a call that nothing has decided, and more rounds than it can take
pub record Begins (s : Sides) (most : ℕ) : Type 0 where
  pub input : List ℕ
  pub service : Builtin
  pub core : Core
  pub codes : HasCodes service
  pub stands : Stands input (builtin_owes service) core s
  pub undecided : s.caller.replies.outcome ≡ None
  pub enough : 498 + 36 * length input < most

-- the call is decided, after fewer turns than two for each round
pub record Comes (input : List ℕ) (service : Builtin) (s : Sides) (turns most : ℕ) : Type 0 where
  pub core : Core
  pub stands : Stands input (builtin_owes service) core s
  pub ends : IsEnd (builtin_owes service input) s.caller
  pub few : turns < 2 * most
