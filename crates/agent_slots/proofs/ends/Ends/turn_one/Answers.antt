use Rattle.std.proofs.Common.{◌≡◌, ap, sym, ◌∙◌, subst, refl, arith, set, get_or, drop}
use Rattle.std.specs.Prelude.{is_none, Some, IfSome}
use Rattle.std.specs.List.{swap_remove, AllByRecursion as Each}
use Rattle.list_laws.proofs.Each.{each_get, each_set}
use Rattle.list_laws.proofs.Places.{same_read}
use Rattle.agent_slots.specs.Stages.{CanRetire, IsStage, told_of, place_of, use_of}
use Rattle.agent_slots.specs.Whole.{TakesFrom, held_in}
use Rattle.agent_slots.specs.Sessions.{TakesTurn, OneTakesTurn, session_of, sessions_in}
use Rattle.agent_slots.proofs.WholeLaws.{held_set}
use Rattle.agent_slots.proofs.TurnLaws.{IsBusy, busy_within, busy_slot, can_turn}
use Rattle.agent_slots.proofs.StateLaws.{Leaves, one_on, one_over}
use Rattle.agent_slots.proofs.SessionLaws.{one_takes, read_at, takes_next, takes_removed}
use Rattle.agent_slots.proofs.ends.Ends.turn_one.Goals.{After-index_mut, After-turn}
use Rattle.agent_slots.proofs.ends.Ends.turn_one.Goals as goal

-- the slot whose turn it is
busy : (c : After-index_mut) → IsBusy c.args.self.now.slots.items c.index-at.result.now c.index_mut.result.now
busy c = let e = c.args.self.now in busy_slot e.slots.items e.busy.items c.args.next c.index-at.result.now c.index_mut.result.now c.requires.whole.are_open c.requires.next c.index-at.ensures c.index_mut.ensures.value

was : (c : After-index_mut) → IsStage c.args.self.now.version c.index_mut.result.now.stage
was c = let e = c.args.self.now in each_get (λ s. IsStage e.version s.stage) e.slots.items c.index-at.result.now c.index_mut.result.now c.requires.whole.stages (busy c).here

-- it stays the same end
same : (c : After-turn) → IsBusy c.args.self.now.slots.items c.index-at.result.now c.index_mut.result.now → held_in (set c.args.self.now.slots.items c.index-at.result.now c.turn.new.self) ≡ held_in c.args.self.now.slots.items
same c is = held_set c.args.self.now.slots.items c.index-at.result.now c.index_mut.result.now c.turn.new.self is.here (ap (λ f. f.held) c.turn.ensures.frame)

takes : (c : After-turn) → IsBusy c.args.self.now.slots.items c.index-at.result.now c.index_mut.result.now → TakesTurn (session_of c.index_mut.result.now.stage) (session_of c.turn.new.self.stage)
    → OneTakesTurn (get_or c.args.self.now.busy.items c.args.next 0) (sessions_in c.args.self.now.slots.items) (sessions_in (set c.args.self.now.slots.items c.index-at.result.now c.turn.new.self))
takes c is turn =
    let e = c.args.self.now in
    let at = c.index-at.result.now in
    subst (λ n. OneTakesTurn n (sessions_in e.slots.items) (sessions_in (set e.slots.items at c.turn.new.self))) (read_at e.busy.items c.args.next at c.requires.next c.index-at.ensures) (one_takes e.slots.items at c.index_mut.result.now c.turn.new.self is.here turn)

retires : (c : After-turn) → Each (λ s. CanRetire s.stage) (set c.args.self.now.slots.items c.index-at.result.now c.turn.new.self)
retires c = each_set (λ s. CanRetire s.stage) c.args.self.now.slots.items c.index-at.result.now c.turn.new.self c.requires.retire c.turn.ensures.retire

pub index_mut-requires : goal.index_mut-requires
index_mut-requires c =
    let e = c.args.self.now in
    let less = busy_within e.slots.items e.busy.items c.args.next c.index-at.result.now c.requires.whole.are_open c.requires.next c.index-at.ensures in
    omega (arith, less, e.slots.ok.0)

pub turn-requires-clause-open : goal.turn-requires-clause-open
turn-requires-clause-open c = let w = (goal.at.turn-requires-clause-open c).After-index_mut in can_turn c.args.self.now.version c.index_mut.result.now.stage (was w) (busy w).session

pub turn-requires-clause-retire : goal.turn-requires-clause-retire
turn-requires-clause-retire c =
    each_get (λ s. CanRetire s.stage) c.args.self.now.slots.items c.index-at.result.now c.index_mut.result.now c.requires.retire (busy (goal.at.turn-requires-clause-retire c).After-index_mut).here

pub returns-in_err-told-clause-same : goal.returns-in_err-told-clause-same
returns-in_err-told-clause-same c = let w = goal.at.returns-in_err-told-clause-same c in (same w.After-turn (busy w.After-index_mut), refl, refl)

pub returns-in_default-clause-same : goal.returns-in_default-clause-same
returns-in_default-clause-same c = let w = goal.at.returns-in_default-clause-same c in (same w.After-turn (busy w.After-index_mut), refl, refl)

pub returns-in_err-push-clause-same : goal.returns-in_err-push-clause-same
returns-in_err-push-clause-same c = let w = goal.at.returns-in_err-push-clause-same c in (same w.After-turn (busy w.After-index_mut), refl, refl)

pub returns-clause-same : goal.returns-clause-same
returns-clause-same c = let w = goal.at.returns-clause-same c in (same w.After-turn (busy w.After-index_mut), refl, refl)

pub returns-in_err-told-clause-retire : goal.returns-in_err-told-clause-retire
returns-in_err-told-clause-retire c = retires (goal.at.returns-in_err-told-clause-retire c).After-turn

pub returns-in_default-clause-retire : goal.returns-in_default-clause-retire
returns-in_default-clause-retire c = retires (goal.at.returns-in_default-clause-retire c).After-turn

pub returns-in_err-push-clause-retire : goal.returns-in_err-push-clause-retire
returns-in_err-push-clause-retire c = retires (goal.at.returns-in_err-push-clause-retire c).After-turn

pub returns-clause-retire : goal.returns-clause-retire
returns-clause-retire c = retires (goal.at.returns-clause-retire c).After-turn

pub returns-in_default-clause-turned : goal.returns-in_default-clause-turned
returns-in_default-clause-turned c =
    let w = (goal.at.returns-in_default-clause-turned c).After-index_mut in
    let e = c.args.self.now in
    let left = one_on e c.index-at.result.now c.index_mut.result.now c.turn.new.self c.args.over.now.items c.requires.whole (busy w) c.turn.ensures.frame (c.in_ok-told.ensures.stage e.version (was w)) (c.in_ok-told.ensures.session ∙ ap is_none c.in_default.is) in
    record { whole = left.whole; state = left.state; told = left.told }

pub returns-clause-turned : goal.returns-clause-turned
returns-clause-turned c =
    let w = (goal.at.returns-clause-turned c).After-index_mut in
    let e = c.args.self.now in
    let at = c.index-at.result.now in
    let slot = c.index_mut.result.now in
    let removed = c.swap_remove.ensures.items ∙ ap (swap_remove e.busy.items c.args.next) (same_read e.busy.items c.args.next c.swap_remove.result at c.requires.next c.swap_remove.ensures.value c.index-at.ensures) in
    let tells = subst (λ o. IfSome o (λ t. told_of (place_of slot) (use_of slot.stage) ≡ Some t)) c.in-Some.is c.in_ok-told.ensures.told in
    let over = one_over e c.args.next at slot c.turn.new.self c.in-Some.told c.args.over.now.items c.requires.whole (busy w) c.requires.next c.index-at.ensures c.turn.ensures.frame
    (c.in_ok-told.ensures.stage e.version (was w)) (c.in_ok-told.ensures.session ∙ ap is_none c.in-Some.is) tells in
    let left = subst (λ b. Leaves e (set e.slots.items at c.turn.new.self) b c.args.over.now.items c.push.new.self.items) (sym removed)
    (subst (λ os. Leaves e (set e.slots.items at c.turn.new.self) (swap_remove e.busy.items c.args.next at) c.args.over.now.items os) (sym c.in_ok-push.ensures.items) over) in
    record { whole = left.whole; state = left.state; told = left.told }

pub returns-in_default-clause-turns : goal.returns-in_default-clause-turns
returns-in_default-clause-turns c = let w = goal.at.returns-in_default-clause-turns c in takes w.After-turn (busy w.After-index_mut) c.in_ok-told.ensures.turns

pub returns-clause-turns : goal.returns-clause-turns
returns-clause-turns c = let w = goal.at.returns-clause-turns c in takes w.After-turn (busy w.After-index_mut) c.in_ok-told.ensures.turns

pub returns-in_default-clause-ahead : goal.returns-in_default-clause-ahead
returns-in_default-clause-ahead c = takes_next c.args.self.now.busy.items c.args.next c.requires.next

pub returns-clause-ahead : goal.returns-clause-ahead
returns-clause-ahead c =
    let busy = c.args.self.now.busy.items in
    subst (λ b. TakesFrom (get_or busy c.args.next 0) (drop c.args.next busy) (drop c.args.next b)) (sym c.swap_remove.ensures.items) (takes_removed busy c.args.next _ c.requires.next)
