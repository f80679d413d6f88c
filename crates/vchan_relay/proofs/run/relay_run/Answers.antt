-- The tasks return the ends of all pages, and so all bytes came through.
use Rattle.std.proofs.Common.{◌≡◌, ◌+◌, ℕ, List, Result, Ok, Err, IfOk, length, sym, subst, ap, arith}
use denote.Param.Send.{sendable}
use Rattle.vchan_rule.specs.Seated.{PageStart, PageView}
use Rattle.vchan_io.specs.declared.faults.Memory.{Memory}
use Rattle.vchan_relay.specs.declared.lay.PageSeats.{PageSeats}
use Rattle.vchan_relay.specs.declared.task.HopDone.{HopDone}
use Rattle.vchan_relay.specs.Laying.{AreLaid}
use Rattle.vchan_relay.specs.Owes.{AreHandedBack, AreTasks}
use Rattle.vchan_relay.specs.Runs.{HasRelayed, RelayedPages}
use Rattle.vchan_relay.specs.Settling.{AreAllSettledBy}
use Rattle.vchan_relay.proofs.RunLaws.{count_tasks, handed_back, relayed}
use Rattle.vchan_relay.proofs.Sent.{done_send, task_send}
use Rattle.vchan_relay.proofs.run.relay_run.Goals as goal

pub deal-requires-clause-laid : goal.deal-requires-clause-laid
deal-requires-clause-laid g c = (record { orders = c.args.orders; start = c.args.start }, subst (λ (ps : List PageView). AreLaid (record { orders = c.args.orders; start = c.args.start }) ps c.in_ok-pages.seats.items) (sym c.as_slice.ensures.value) c.in_ok-pages.ensures.laid)

pub run_pool-requires-send-T : goal.run_pool-requires-send-T
run_pool-requires-send-T g c κs within = search (sendable, task_send)

pub run_pool-requires-send-T-Done : goal.run_pool-requires-send-T-Done
run_pool-requires-send-T-Done g c κs within = search (sendable, done_send)

pub run_pool-requires-clause-few_tasks : goal.run_pool-requires-clause-few_tasks
run_pool-requires-clause-few_tasks g c κs within =
    let bytes = c.args.bytes.items in
    let count = count_tasks bytes (length bytes + 1) c.as_slice.result.now c.in_ok-tasks.tasks.items c.in_ok-tasks.ensures in
    let same = ap (λ (ps : List PageView). length ps) c.as_slice.ensures.value in
    omega (arith, count, same, c.in_ok-pages.ensures.count, c.requires.hops.1, c.in_ok-tasks.tasks.ok.0)

pub settle-requires : goal.settle-requires
settle-requires g c =
    let bytes = c.args.bytes.items in
    let tasks = subst (λ (ps : List PageView). AreTasks bytes (length bytes + 1) ps c.in_ok-tasks.tasks.items) c.as_slice.ensures.value c.in_ok-tasks.ensures in
    (bytes, length bytes + 1, handed_back bytes (length bytes + 1) c.in_ok-pages.pages.items c.in_ok-tasks.tasks.items c.in_ok-dones.dones.items tasks c.in_ok-dones.ensures)

-- whatever the settling returns
by_settled : (hops : ℕ) (words : PageStart) (bytes : List ℕ) (pages : List PageView) (seats : List PageSeats) (dones : List HopDone) (result : Result RelayedPages Memory) → AreLaid words pages seats → length pages ≡ hops + 1 →
    AreHandedBack bytes (length bytes + 1) pages dones → IfOk result (λ r. AreAllSettledBy pages dones r.pages r.joints r.got) → IfOk result (HasRelayed hops words bytes)
by_settled hops words bytes pages seats dones (Ok r) laid count handed settled = relayed hops words bytes pages seats dones r laid count handed settled
by_settled hops words bytes pages seats dones (Err memory) laid count handed settled = tt

pub returns : goal.returns
returns g c =
    let bytes = c.args.bytes.items in
    let tasks = subst (λ (ps : List PageView). AreTasks bytes (length bytes + 1) ps c.in_ok-tasks.tasks.items) c.as_slice.ensures.value c.in_ok-tasks.ensures in
    by_settled c.args.hops (record { orders = c.args.orders; start = c.args.start }) bytes c.in_ok-pages.pages.items c.in_ok-pages.seats.items c.in_ok-dones.dones.items c.settle.result c.in_ok-pages.ensures.laid c.in_ok-pages.ensures.count
    (handed_back bytes (length bytes + 1) c.in_ok-pages.pages.items c.in_ok-tasks.tasks.items c.in_ok-dones.dones.items tasks c.in_ok-dones.ensures) c.settle.ensures
