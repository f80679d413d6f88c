-- Each page gets its tasks, from near to far.
use Rattle.std.proofs.Common.{◌≡◌, ◌+◌, ◌++◌, ◌∷◌, [], ℕ, List, Global, length, drop, sym, subst, ap, ◌∙◌, arith}
use Rattle.std.specs.declared.vec.IntoIter.{IntoIter}
use Rattle.std.proofs.lemmas.Grind.{common_steps}
use Rattle.vchan_rule.specs.Seated.{PageView}
use Rattle.vchan_relay.specs.declared.lay.PageSeats.{PageSeats}
use Rattle.vchan_relay.specs.declared.task.HopTask.{HopTask}
use Rattle.vchan_relay.specs.Laying.{AreLaid}
use Rattle.vchan_relay.specs.Owes.{AreTasks, FollowOn}
use Rattle.vchan_relay.specs.States.{ReaderState}
use Rattle.vchan_relay.proofs.RowLaws.{IsNext, is_next, none_left, first_task, next_task, last_task}
use Rattle.vchan_relay.proofs.deal.deal.Goals.{After-index-pages-index}
use Rattle.vchan_relay.proofs.deal.deal.Goals as goal

pub unreachable-requires : goal.unreachable-requires
unreachable-requires c =
    let none : c.args.seats.items ≡ [] = grind (arith, common_steps, c.in_default.not-Some, c.next.ensures.cases, c.next.ensures.variant, c.into_iter-seats.ensures.rest) in
    let pages = ap (λ (ps : List PageView). length ps) (none_left c.requires.laid.0 c.args.pages.now (subst (AreLaid c.requires.laid.0 c.args.pages.now) none c.requires.laid.1)) in
    omega (arith, pages, c.requires.some)

pub writer_task-requires : goal.writer_task-requires
writer_task-requires c =
    (is_next c.requires.laid.0 c.args.pages.now 0 c.index-pages-0.result c.in-Some.first c.next.new.self.rest.items c.args.seats.items c.requires.laid.1 (sym c.into_iter-seats.ensures.rest ∙ c.in-Some.ensures.cases.0) c.index-pages-0.is).laid.client

pub served-near-requires : goal.served-near-requires
served-near-requires c =
    (is_next c.requires.laid.0 c.args.pages.now 0 c.index-pages-0.result c.in-Some.first c.next.new.self.rest.items c.args.seats.items c.requires.laid.1 (sym c.into_iter-seats.ensures.rest ∙ c.in-Some.ensures.cases.0) c.index-pages-0.is).laid.server

pub loop-next-init : goal.loop-next-init
loop-next-init c =
    let words = c.requires.laid.0 in
    let pages = c.args.pages.now in
    let page = c.index-pages-0.result in
    let bytes = c.args.bytes.items in
    let tasks = c.push.new.self.items in
    let n = is_next words pages 0 page c.in-Some.first c.next.new.self.rest.items c.args.seats.items c.requires.laid.1 (sym c.into_iter-seats.ensures.rest ∙ c.in-Some.ensures.cases.0) c.index-pages-0.is in
    let h = c.served-near.ensures in
    let is : tasks ≡ c.writer_task.result ∷ [] = c.in_ok-push.ensures.items ∙ ap (λ (ts : List HopTask). ts ++ c.writer_task.result ∷ []) c.in_ok-tasks.ensures.items in
    let cut : pages ≡ page ∷ drop 1 pages = n.cut in
    record {
      can_next = tt;
      is_finite = tt;
      laid = (words, subst (λ (it : IntoIter PageSeats Global). AreLaid words (drop 1 pages) it.rest.items) (sym c.into_iter-next-iterator.ensures.into_iter_gives) n.rest);
      near = (h.0, h.1, h.3);
      goes_on = λ more follow. subst (λ (ps : List PageView). AreTasks bytes (length bytes + 1) ps (tasks ++ more)) (sym cut)
          (first_task bytes (length bytes + 1) page (drop 1 pages) c.served-near.result.page c.writer_task.result tasks is c.writer_task.ensures h.2 more follow);
    }

-- the page at the index, whose seats come next
next_page : (c : After-index-pages-index) → IsNext c.loop-next.invariant.laid.0 c.args.pages.now c.loop-next.index c.index-pages-index.result c.in-Some-next.next c.next-in-loop-next.new.self.rest.items
next_page c = is_next c.loop-next.invariant.laid.0 c.args.pages.now c.loop-next.index c.index-pages-index.result _ _ c.loop-next.next-iterator.rest.items c.loop-next.invariant.laid.1 c.in-Some-next.ensures.steps.0 c.index-pages-index.is

pub relay_task-requires-clause-near : goal.relay_task-requires-clause-near
relay_task-requires-clause-near c = c.loop-next.invariant.near

pub relay_task-requires-clause-seat : goal.relay_task-requires-clause-seat
relay_task-requires-clause-seat c = (next_page (goal.at.relay_task-requires-clause-seat c).After-index-pages-index).laid.client

pub relay_task-requires-clause-room : goal.relay_task-requires-clause-room
relay_task-requires-clause-room c = c.requires.room

pub served-near-requires-in-loop-next : goal.served-near-requires-in-loop-next
served-near-requires-in-loop-next c = (next_page (goal.at.served-near-requires-in-loop-next c).After-index-pages-index).laid.server

pub overflow_add-index : goal.overflow_add-index
overflow_add-index c = omega (arith, (next_page (goal.at.overflow_add-index c).After-index-pages-index).within)

pub loop-next-preserved : goal.loop-next-preserved
loop-next-preserved c =
    let pages = c.args.pages.now in
    let page = c.index-pages-index.result in
    let bytes = c.args.bytes.items in
    let before = c.loop-next.near.page in
    let n = next_page (goal.at.loop-next-preserved c).After-index-pages-index in
    let h = c.served-near-in-loop-next.ensures in
    record {
      can_next = tt;
      is_finite = tt;
      laid = (c.loop-next.invariant.laid.0, n.rest);
      near = (h.0, h.1, h.3);
      goes_on = next_task bytes (length bytes + 1) pages before c.served-near-in-loop-next.result.page page (drop (c.loop-next.index + 1) pages) c.in_ok-relay_task.field-0 c.loop-next.tasks.items c.push-in-loop-next.new.self.items
          (λ more follow. c.loop-next.invariant.goes_on more (subst (λ (ps : List PageView). FollowOn (length bytes + 1) before ps more) (sym n.cut) follow))
          c.in_ok-push-2.ensures.items c.in_ok-relay_task.ensures h.2;
    }

pub new-requires-clause-open : goal.new-requires-clause-open
new-requires-clause-open c = c.loop-next.invariant.near.0

pub new-requires-clause-server : goal.new-requires-clause-server
new-requires-clause-server c = c.loop-next.invariant.near.1

pub new-requires-clause-none : goal.new-requires-clause-none
new-requires-clause-none c = c.loop-next.invariant.near.2

pub returns : goal.returns
returns c =
    let left = c.loop-next.invariant.laid in
    let pages = c.args.pages.now in
    let bytes = c.args.bytes.items in
    let before = c.loop-next.near.page in
    let none : c.loop-next.next-iterator.rest.items ≡ [] = grind (arith, common_steps, c.in-None.ensures.steps) in
    let over : drop c.loop-next.index pages ≡ [] = none_left left.0 (drop c.loop-next.index pages) (subst (AreLaid left.0 (drop c.loop-next.index pages)) none left.1) in
    let room : length c.in_ok-buffer.buffer.items ≡ length bytes + 1 = omega (arith, c.in_ok-buffer.ensures.len, c.len.ensures, c.args.bytes.ok.0, c.in_ok-buffer.buffer.ok.0) in
    last_task bytes (length bytes + 1) pages before c.new.result c.loop-next.tasks.items c.push-2.new.self.items
    (λ more follow. c.loop-next.invariant.goes_on more (subst (λ (ps : List PageView). FollowOn (length bytes + 1) before ps more) (sym over) follow))
    c.in_ok-push-3.ensures.items (ap (λ (r : ReaderState). r.end.page) c.new.ensures) (ap (λ (r : ReaderState). r.room) c.new.ensures ∙ room)
