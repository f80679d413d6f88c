-- One event of a machine at a phase of its call, on a list of words.
use Rattle.std.specs.Prelude.{◌≡◌, ℕ, ◌+◌, ◌^◌, ◌<◌, ◌≤◌, List, length}
use Rattle.ring_words.specs.Rings.{diff}
use Rattle.ring_words.specs.declared.order.Orders.{Orders}
use Rattle.vchan_protocol.specs.declared.op.Op.{Op}
use Rattle.vchan_protocol.specs.Table.Plan.{next_op, after}
use Rattle.vchan_protocol.specs.Table.Ends.{read_size, standing_after}
use Rattle.vchan_protocol.specs.Table.Apply.{Fits, words_after, value_taken, buffer_after}
use Rattle.vchan_core.specs.declared.machine.Machine.{Machine}
use Rattle.vchan_core.specs.declared.phase.Phase.{Phase}
use Rattle.vchan_core.specs.declared.phase.Next.{Next}
use Rattle.vchan_core.specs.declared.totals.Totals.{Totals}
use Rattle.vchan_core.specs.OneMachine.Phases.{standing, rest_at, plan_at, payload_at, buffer_at, payload_next, buffer_next}
use Rattle.vchan_core.specs.Page.Counts.{capped}

-- the event of a phase
abbrev pub op_of_phase : Machine → Phase → Op
op_of_phase m phase = next_op (rest_at (standing m) phase)

-- the machine makes the event of a phase on these words, with these bytes to send and this buffer, and this comes of it. Its own phase stays: the caller holds the phase
pub record MakesEventAt (orders : Orders) (m : Machine) (phase : Phase) (list source buffer : List ℕ) (m' : Machine) (next : Next) (list' buffer' : List ℕ) : Type 0 where
  pub footprint : Fits orders (length source) (length buffer) (op_of_phase m phase)
  pub words : list' ≡ words_after orders list source (op_of_phase m phase)
  pub buffers : buffer' ≡ buffer_after orders list buffer (op_of_phase m phase)
  pub rest : plan_at (standing m') next ≡ after (rest_at (standing m) phase) (value_taken orders list (op_of_phase m phase))
  pub own_phase : m'.phase ≡ m.phase
  pub stands : standing m' ≡ standing_after (standing m) (op_of_phase m phase)
  pub payload_left : payload_next next ≤ payload_at phase
  pub buffer_left : buffer_next (read_size (standing m')) next ≤ buffer_at (read_size (standing m)) phase
  pub low : ((standing m).prod < 2 ^ 32) × ((standing m).cons < 2 ^ 32)

-- how many bytes an end has sent, after its own count of the ring that it writes has moved on
abbrev pub sent_on : Totals → Machine → Machine → ℕ
sent_on moved m m' = capped (moved.sent + diff (standing m').prod (standing m).prod)

-- and how many it has got
abbrev pub got_on : Totals → Machine → Machine → ℕ
got_on moved m m' = capped (moved.got + diff (standing m').cons (standing m).cons)
