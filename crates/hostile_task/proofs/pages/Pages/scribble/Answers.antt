-- Each turn makes one draw more.
use Rattle.std.proofs.Common.{◌≡◌, ℕ, ◌+◌, ◌-◌, suc, List, subst, sym, arith}
use Rattle.task_duties.specs.declared.place.PagePlace.{PagePlace}
use Rattle.hostile_task.specs.Plan.{AreApart}
use Rattle.hostile_task.proofs.DrawLaws.{IsDrawnSoFar, none_drawn, drawn_more, all_drawn_on}
use Rattle.hostile_task.proofs.pages.Pages.scribble.Goals as goal

pub loop-init : goal.loop-init
loop-init c =
    let all : c.args.count ≡ c.args.count - 0 = omega arith in
    (omega arith, subst (λ (n : ℕ). IsDrawnSoFar c.args.seed c.args.count c.args.seed n c.args.self.now c.args.self.now) all (none_drawn c.args.seed c.args.count c.args.self.now))

pub store_drawn-requires : goal.store_drawn-requires
store_drawn-requires c = record { apart = subst (λ (ps : List PagePlace). AreApart ps) (sym c.loop.invariant.1.places) c.requires.apart }

pub loop-preserved : goal.loop-preserved
loop-preserved c =
    let one : c.args.count - c.loop.counter ≡ suc (c.args.count - (c.loop.counter + 1)) = omega arith in (
      c.next_number-value.ensures.within,
      drawn_more c.args.seed c.args.count c.loop.x (c.args.count - (c.loop.counter + 1))
          (record { page = c.next_number-page.result; word = c.next_number-word.result; value = c.next_number-value.result })
          c.args.self.now c.loop.self c.store_drawn.new.self
          (subst (λ (n : ℕ). IsDrawnSoFar c.args.seed c.args.count c.loop.x n c.args.self.now c.loop.self) one c.loop.invariant.1)
          c.next_number-page.ensures.number c.next_number-word.ensures.number c.next_number-value.ensures.number c.store_drawn.ensures,
    )

pub returns : goal.returns
returns c plan places =
    let none : c.args.count - c.loop.counter ≡ 0 = omega arith in
    all_drawn_on c.args.seed c.args.count c.loop.x c.args.self.now c.loop.self plan places
    (subst (λ (n : ℕ). IsDrawnSoFar c.args.seed c.args.count c.loop.x n c.args.self.now c.loop.self) none c.loop.invariant.1)
