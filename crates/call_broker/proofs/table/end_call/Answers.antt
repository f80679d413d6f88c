use Rattle.std.proofs.Common.{◌≡◌, refl, sym, Some, ◌==◌, not, filter, IsSome}
use Rattle.call_broker.specs.Tables.{calls_at, live_of, number_of}
use Rattle.call_broker.proofs.TableLaws.{ends_call}
use Rattle.call_broker.proofs.table.end_call.Goals as goal

pub returns-in-Some : goal.returns-in-Some
returns-in-Some c =
    let written = c.get_mut.follows.holds c.end.new.self in
    let found : calls_at c.args.table.now c.args.from c.args.to ≡ Some c.in-Some.calls.now = sym c.in-Some.ensures.value in
    let there : IsSome (calls_at c.args.table.now c.args.from c.args.to) = rw found refl in
    let live : c.end.new.self.live.items ≡ filter (λ p. not (p == c.args.port)) (live_of (calls_at c.args.table.now c.args.from c.args.to)) = rw found c.end.ensures.live in
    let count : c.end.new.self.count ≡ number_of (calls_at c.args.table.now c.args.from c.args.to) = rw found c.end.ensures.count in
    ends_call c.args.table.now (c.get_mut.follows.lender c.end.new.self) c.args.from c.args.to c.args.port c.end.new.self (written.3 there) live count
