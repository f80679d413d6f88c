-- What a drain got comes after the bytes before it.
use Rattle.std.proofs.Common.{◌-◌, ◌≤◌, length, subst, sym, arith}
use borrow.Rule.Slice.PartMut.{post_of}
use Rattle.vchan_rule.specs.Seated.{view}
use Rattle.vchan_relay.proofs.draining.drain_behind.Goals as goal
use Rattle.vchan_lifecycle.proofs.DrainLaws.{got_behind}

pub returns-clause-got : goal.returns-clause-got
returns-clause-got c =
    let buf = c.args.room.now in
    let count = c.args.count in
    let e = c.drain.ensures in
    got_behind (view c.args.end.now) (view c.drain.new.end) c.drain.result c.drain.new.buf (post_of count (length buf - count) buf) buf count c.drain.new.end.side.saw (omega (arith, c.requires.some))
    (λ more is. subst (λ n. more ≤ n) (sym e.long) (e.few more is)) c.requires.got e.view
