-- Events that a machine makes one after another on a list of words, and that give no answer.
use Rattle.std.specs.Prelude.{◌≡◌, ℕ, suc, zero, ◌≤◌, List, length}
use Rattle.ring_words.specs.declared.order.Orders.{Orders}
use Rattle.vchan_core.specs.declared.machine.Machine.{Machine}
use Rattle.vchan_protocol.specs.Table.Plan.{next_op, after}
use Rattle.vchan_protocol.specs.Table.Ends.{standing_after}
use Rattle.vchan_protocol.specs.Table.Apply.{Fits, words_after, value_taken, buffer_after}
use Rattle.vchan_core.specs.OneMachine.Phases.{standing, rest, IsIdle, payload_needed, buffer_needed}

-- one event, which leaves the machine's own counts and its state as they are
pub record MakesEvent (orders : Orders) (source : List ℕ) (m : Machine) (list buffer : List ℕ) (m' : Machine) (list' buffer' : List ℕ) : Type 0 where
  pub busy : ¬ IsIdle m
  pub awake : ¬ IsIdle m'
  pub same : standing m' ≡ standing m
  pub stands : standing m' ≡ standing_after (standing m) (next_op (rest m))
  pub leads : rest m' ≡ after (rest m) (value_taken orders list (next_op (rest m)))
  pub words : list' ≡ words_after orders list source (next_op (rest m))
  pub buffers : buffer' ≡ buffer_after orders list buffer (next_op (rest m))
  pub fits : Fits orders (length source) (length buffer) (next_op (rest m))
  pub payload_left : payload_needed m' ≤ payload_needed m
  pub buffer_left : buffer_needed m' ≤ buffer_needed m

-- this many such events
abbrev pub MakesEvents : ℕ → Orders → List ℕ → Machine → List ℕ → List ℕ → Machine → List ℕ → List ℕ → Type 0
MakesEvents zero orders source m list buffer m' list' buffer' = (m' ≡ m) × (list' ≡ list) × (buffer' ≡ buffer)
MakesEvents (suc count) orders source m list buffer m' list' buffer' =
    (mid : Machine) × (words : List ℕ) × (filled : List ℕ) × MakesEvent orders source m list buffer mid words filled × MakesEvents count orders source mid words filled m' list' buffer'
