-- Each turn makes one store more.
use Rattle.std.proofs.Common.{◌≡◌, ℕ, ◌+◌, ◌-◌, suc, refl, subst, ◌∙◌, arith}
use Rattle.vchan_persist.proofs.ScribbleLaws.{LeadsOn, leads_more}
use Rattle.vchan_persist.proofs.scribbling.scribble.Goals as goal

pub loop-init : goal.loop-init
loop-init c =
    let all : c.args.stores ≡ c.args.stores - 0 = omega arith in
    record { small = omega arith; page = refl; leads = subst (λ (n : ℕ). LeadsOn c.args.seed c.args.stores c.args.end.now.side c.args.seed n c.args.end.now.side) all refl }

pub store-requires : goal.store-requires
store-requires c = c.field_of-field.ensures.reached c.loop.end.side.orders

pub loop-preserved : goal.loop-preserved
loop-preserved c =
    let left : ℕ = c.args.stores - (c.loop.counter + 1) in
    let one : c.args.stores - c.loop.counter ≡ suc left = omega arith in
    record {
      small = c.next_number-value.ensures.within;
      page = c.store.ensures.page ∙ c.loop.invariant.page;
      leads = leads_more c.args.seed c.args.stores c.args.end.now.side c.loop.end.side c.store.new.self.side c.loop.x left c.next_number-page.result c.next_number-word.result c.next_number-value.result c.field_of-field.result c.from.result
          (subst (λ (n : ℕ). LeadsOn c.args.seed c.args.stores c.args.end.now.side c.loop.x n c.loop.end.side) one c.loop.invariant.leads)
          c.next_number-page.ensures.number c.next_number-word.ensures.number c.next_number-value.ensures.number c.field_of-field.ensures.field c.from.ensures c.store.ensures.side;
    }

pub returns-clause-side : goal.returns-clause-side
returns-clause-side c =
    let none : c.args.stores - c.loop.counter ≡ 0 = omega arith in
    subst (λ (n : ℕ). LeadsOn c.args.seed c.args.stores c.args.end.now.side c.loop.x n c.loop.end.side) none c.loop.invariant.leads
