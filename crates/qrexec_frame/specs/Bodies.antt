-- The answers of the search for the type of a header, and for the body at the front of some bytes.
use Rattle.std.specs.Prelude.{◌≡◌, ℕ, ◌+◌, ◌≤◌, List, length, Option, Some, None, Result, Ok, Err}
use Rattle.qrexec_frame.specs.declared.kind.Channel.{Channel}
use Rattle.qrexec_frame.specs.declared.fault.FrameFault.{FrameFault}
use Rattle.qrexec_frame.specs.declared.front.Body.{Body}
use Rattle.qrexec_frame.specs.declared.kind.Kind.{Kind}
use Rattle.qrexec_frame.specs.Kinds.{kind_on, least_len, most_len}
use Rattle.qrexec_frame.specs.Grammar.{number_at, Fault, IsInRange}
use Rattle.qrexec_frame.specs.Fronts.{made, front, fault_at}
use Rattle.qrexec_frame.specs.Streams.{Whole, Bad, Short}

-- the fault shows at the front of all bytes that begin with a header of this number and length
abbrev pub ShowsInHeader : Channel → ℕ → ℕ → Fault → Type 0
ShowsInHeader channel number len fault = (bytes : List ℕ) → 8 ≤ length bytes → number ≡ number_at 0 bytes → len ≡ number_at 4 bytes → front channel bytes ≡ Bad fault

-- the answer is the type of this number, in whose range the length is, or the fault that shows
abbrev pub IsHeaderKind : Channel → ℕ → ℕ → ℕ → Result Kind FrameFault → Type 0
IsHeaderKind channel at number len (Ok kind) = (kind_on channel number ≡ Some kind) × IsInRange kind len
IsHeaderKind channel at number len (Err fault) = (f : Fault) × ShowsInHeader channel number len f × (fault ≡ fault_at at f)

-- a whole message of this type and body stands at the front
pub record IsBodyOf (channel : Channel) (bytes : List ℕ) (body : Body) : Type 0 where
  pub least : least_len body.kind ≤ length body.bytes.now
  pub most : length body.bytes.now ≤ most_len body.kind
  pub within : 8 + length body.bytes.now ≤ length bytes
  pub whole : front channel bytes ≡ Whole (made body.kind body.bytes.now) (8 + length body.bytes.now)

-- the answer is what stands at the front
abbrev pub StandsAtFront : Channel → ℕ → List ℕ → Result (Option Body) FrameFault → Type 0
StandsAtFront channel at bytes (Ok None) = front channel bytes ≡ Short
StandsAtFront channel at bytes (Ok (Some body)) = IsBodyOf channel bytes body
StandsAtFront channel at bytes (Err fault) = (f : Fault) × (front channel bytes ≡ Bad f) × (fault ≡ fault_at at f)
