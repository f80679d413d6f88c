use Rattle.std.proofs.Common.{sym, ◌∙◌, refl, arith}
use Rattle.list_laws.proofs.Each.{each_get}
use Rattle.agent_slots.specs.Stages.{CanRetire}
use Rattle.agent_slots.proofs.PlaceLaws.{unused_there, none_there, slot_there, slot_here, used_there}
use Rattle.agent_slots.proofs.ends.Ends.find_unused.Goals as goal

pub returns-in_err-at-clause-there : goal.returns-in_err-at-clause-there
returns-in_err-at-clause-there c =
    let e = c.args.self.now in
    let not_there = none_there e.slots.items e.index c.args.from c.args.to c.args.port c.requires.whole.indexed (sym c.in_err-at.ensures) in
    rw (c.from_residual.ensures, not_there) refl

-- the end that was found is one of the list
pub index-requires : goal.index-requires
index-requires c =
    let e = c.args.self.now in
    let less = slot_there e.slots.items e.index c.in_ok-at.at c.args.from c.args.to c.args.port c.requires.whole.indexed (sym c.in_ok-at.ensures) in
    omega (arith, less, e.slots.ok.0)

pub is_unused-requires : goal.is_unused-requires
is_unused-requires c =
    let e = c.args.self.now in
    let here = slot_here e.slots.items e.index c.in_ok-at.at c.args.from c.args.to c.args.port c.index.result.now c.requires.whole.indexed (sym c.in_ok-at.ensures) c.index.ensures in
    record { retire = each_get (λ s. CanRetire s.stage) e.slots.items c.in_ok-at.at c.index.result.now c.requires.retire here }

pub returns-then-is_unused-clause-found : goal.returns-then-is_unused-clause-found
returns-then-is_unused-clause-found c =
    let e = c.args.self.now in
    used_there e.slots.items e.index c.in_ok-at.at c.args.from c.args.to c.args.port c.index.result.now c.requires.whole.indexed (sym c.in_ok-at.ensures) c.index.ensures (sym c.is_unused.ensures ∙ c.if-is_unused.true)

pub returns-then-is_unused-clause-there : goal.returns-then-is_unused-clause-there
returns-then-is_unused-clause-there c =
    let e = c.args.self.now in
    sym c.if-is_unused.true ∙ (c.is_unused.ensures ∙ unused_there e.slots.items e.index c.in_ok-at.at c.args.from c.args.to c.args.port c.index.result.now c.requires.whole.indexed (sym c.in_ok-at.ensures) c.index.ensures)

pub returns-else-is_unused-clause-there : goal.returns-else-is_unused-clause-there
returns-else-is_unused-clause-there c =
    let e = c.args.self.now in
    sym c.if-is_unused.false ∙ (c.is_unused.ensures ∙ unused_there e.slots.items e.index c.in_ok-at.at c.args.from c.args.to c.args.port c.index.result.now c.requires.whole.indexed (sym c.in_ok-at.ensures) c.index.ensures)
