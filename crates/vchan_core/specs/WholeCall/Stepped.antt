-- Events of its call that an end makes one after another, while the other end makes none.
use Rattle.std.specs.Prelude.{◌≡◌, ℕ, suc, zero, false, Option, Some, None, IfSome, List}
use Rattle.ring_words.specs.declared.page.Role.{Role}
use Rattle.vchan_protocol.specs.declared.call.Answer.{Answer}
use Rattle.vchan_protocol.specs.declared.side.Begun.{Begun}
use Rattle.vchan_protocol.specs.Table.Apply.{filled}
use Rattle.vchan_protocol.specs.Table.Calls.{Trace}
use Rattle.vchan_protocol.specs.History.Core.{Core, side_of, event, plan_next, answer_in, bytes_loaded, begun_standing}
use Rattle.vchan_protocol.specs.Always.Invariant.{Invariant}
use Rattle.vchan_core.specs.declared.plain.Plain.{Plain}
use Rattle.vchan_core.specs.Page.StandsFor.{StandsFor}

-- if the answer came, the call ends in this core state; else it goes on
abbrev pub unless_answered : Option Answer → Core → Core × Option Answer → Core × Option Answer
unless_answered None core later = later
unless_answered (Some answer) core later = (core, Some answer)

-- at most this many events of the call under way, up to its answer
unfoldable pub stepped : ℕ → Core → Role → Core × Option Answer
stepped zero core who = (core, None)
stepped (suc more) core who =
    unless_answered (answer_in (plan_next core who)) (event core who) (stepped more (event core who) who)

-- a page, a buffer and an answer are those that at most this many events came to. The end is still inside its call, or its trail is that whole call
pub record Advances (core : Core) (who : Role) (most : ℕ) (page' : Plain) (buffer buffer' : List ℕ) (result : Option Answer) : Type 0 where
  pub stands : StandsFor (stepped most core who).0 page'
  pub answer : result ≡ (stepped most core who).1
  pub buffers : buffer ≡ filled buffer (bytes_loaded (side_of core who).trail) → buffer' ≡ filled buffer (bytes_loaded (side_of (stepped most core who).0 who).trail)
  pub inside : result ≡ None → (side_of (stepped most core who).0 who).call ≡ (side_of core who).call
  pub payload : (side_of (stepped most core who).0 who).payload ≡ (side_of core who).payload
  pub trace : IfSome result (λ answer. (b : Begun) × ((side_of core who).call ≡ Some b) × Trace (begun_standing (side_of core who) b) b.call (side_of (stepped most core who).0 who).trail answer)
  pub invariant : (side_of core who).turned ≡ false → Invariant core → Invariant (stepped most core who).0
