use Rattle.std.proofs.Common.{◌≡◌, ◌≤◌, ◌-◌, []}
use Rattle.vchan_protocol.specs.declared.op.Op.TheVariants.{Nothing}
use Rattle.vchan_core.specs.OneMachine.Ahead.{take_at}
use Rattle.vchan_rule.specs.Ends.{end_in}
use Rattle.vchan_rule.specs.declared.rule.View.TheVariants.{One}
use Rattle.vchan_rule.proofs.ByteLaws.{Moving}
use Rattle.vchan_rule.proofs.steps.take_bytes.Given as goal

abbrev pub ghosts-take_byte : goal.ghosts-take_byte
ghosts-take_byte a = record { before = end_in a.seat.now.me.0; op = Nothing }

abbrev pub invariant-bytes : goal.invariant-bytes
invariant-bytes l =
    (l.at ≤ l.span.count)
    × (l.seat.table_id ≡ l.initial.seat.table_id) × (l.seat.me ≡ (One (end_in l.seat.me.0), []))
    × Moving l.words.key.start (take_at l.machine l.span l.at) l.payload (end_in l.initial.seat.me.0) l.initial.buf (end_in l.seat.me.0) l.buf

abbrev pub decreases-bytes : goal.decreases-bytes
decreases-bytes l = l.span.count - l.at
