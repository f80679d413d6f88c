-- A step script as its lines.
-- Source: this project's own.
use Rattle.std.specs.Prelude.{◌≡◌, ℕ, ◌≤◌, List, length}
use Rattle.ring_words.specs.declared.order.Orders.{Orders}
use Rattle.ring_words.specs.declared.page.Role.{Role}
use Rattle.ring_words.specs.declared.page.Role.TheVariants.{Client}
use Rattle.ring_words.specs.declared.page.WordName.{WordName}
use Rattle.vchan_protocol.specs.declared.call.Call.{Call}
use Rattle.vchan_protocol.specs.declared.call.Call.TheVariants.{Drain, Connect}
use Rattle.vchan_protocol.specs.Table.Calls.{payload_of}
use Rattle.vchan_protocol.specs.Honest.RingLaw.{AreBytes}
use Rattle.vchan_protocol.specs.Hostile.Turned.{MayPoke}
use Rattle.step_script.specs.declared.script.Opening.{Opening}

-- a call, with the bytes that it writes or sends
pub record StepCall : Type 0 where
  pub call : Call
  pub payload : List ℕ

-- a line that isn't skipped; a `start` line belongs to the opening
pub data StepLine : Type 0 where
  -- the page is laid
  opens : Opening → StepLine
  -- a whole call of an end
  calls : Role → StepCall → StepLine
  -- a call is begun, and makes no event
  begins : Role → StepCall → StepLine
  -- at most this many events of the call under way
  steps : Role → ℕ → StepLine
  -- the events of the call under way, up to its answer
  finishes : Role → StepLine
  -- a store of a turned end, and a signal of one
  pokes : Role → WordName → ℕ → StepLine
  signals : Role → StepLine
  -- the first bytes of the page's image, and all of it
  head : StepLine
  image : StepLine

-- a drain asks for at least one byte, and only a client connects
abbrev pub CanSay : Role → Call → Type 0
CanSay who (Drain most) = 1 ≤ most
CanSay who Connect = who ≡ Client
CanSay who call = Unit {0}

-- a call that a script can name for an end
pub record CallFits (who : Role) (c : StepCall) : Type 0 where
  pub payload : length c.payload ≡ payload_of c.call
  pub bytes : AreBytes c.payload
  pub said : CanSay who c.call

-- a line that can stand in a script whose page has these orders
abbrev pub LineFits : Orders → StepLine → Type 0
LineFits orders (calls who c) = CallFits who c
LineFits orders (begins who c) = CallFits who c
LineFits orders (pokes who word value) = MayPoke orders word
LineFits orders line = Unit {0}
