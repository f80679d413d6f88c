use Rattle.std.proofs.Common.{◌≡◌, ◌∙◌, refl, sym, ap, Some, None, ◌+◌, ◌∷◌, IsSome}
use Rattle.call_broker.specs.Tables.{calls_at, live_of, number_of}
use Rattle.call_broker.proofs.TableLaws.{adds_call}
use Rattle.call_broker.proofs.table.add_call.Goals as goal

pub returns-in-Some-clause-ok : goal.returns-in-Some-clause-ok
returns-in-Some-clause-ok c =
    let written = c.get_mut.follows.holds c.add.new.self in
    let found : calls_at c.args.table.now c.args.from c.args.to ≡ Some c.in-Some.calls.now = sym c.in-Some.ensures.value in
    let there : IsSome (calls_at c.args.table.now c.args.from c.args.to) = rw found refl in
    let live : c.add.new.self.live.items ≡ c.args.port ∷ live_of (calls_at c.args.table.now c.args.from c.args.to) = rw found c.add.ensures.live in
    let count : c.add.new.self.count ≡ number_of (calls_at c.args.table.now c.args.from c.args.to) + 1 = rw found c.add.ensures.count in
    adds_call c.args.table.now (c.get_mut.follows.lender c.add.new.self) c.args.from c.args.to c.args.port c.add.new.self (written.3 there) live count

pub returns-clause-ok : goal.returns-clause-ok
returns-clause-ok c =
    let updates = rw c.get_mut.follows.holds-at-none at c.in_ok-insert.ensures.updates in
    let none : calls_at c.args.table.now c.args.from c.args.to ≡ None = sym c.in_default.ensures.value in
    let live : c.add-2.new.self.live.items ≡ c.args.port ∷ live_of (calls_at c.args.table.now c.args.from c.args.to) = rw none (c.add-2.ensures.live ∙ ap (λ r. c.args.port ∷ r) c.none-calls.ensures.live) in
    let count : c.add-2.new.self.count ≡ number_of (calls_at c.args.table.now c.args.from c.args.to) + 1 = rw none (c.add-2.ensures.count ∙ ap (λ r. r + 1) c.none-calls.ensures.count) in
    adds_call c.args.table.now c.insert.new.self c.args.from c.args.to c.args.port c.add-2.new.self updates live count
